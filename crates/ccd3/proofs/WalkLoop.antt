-- A loop that follows `walk`, turn by turn, over the law for loops with a cap: what a walk from the present visit tells
-- after the probes made (specs/SafeTime.antt), of any threshold; and what one that stands still tells. Assumes nothing.
use mathlib.Core.Path.{◌≡◌, sym, ap, ◌∙◌}
use mathlib.Core.Bool.{Bool, true, false}
use mathlib.Core.List.{List}
use Prim.Native.Nat.{ℕ, zero, suc, ◌+◌}
use native.Mathlib.Omega.{arith}
use lib.ListN.{length}
use lib.Ieee.{Float, lt}
use Rattle.admission.specs.declared.Limits.{Limits}
use Rattle.ccd3.specs.declared.Ending.{Ending}
use Rattle.ccd3.specs.declared.Counted.{Counted}
use Rattle.ccd3.specs.declared.Visit.{Visit}
use Rattle.ccd3.specs.SafeTime.{next, Walked, visit, above, cleared, spent, met, ends, probing, walk}
use Rattle.ccd3.specs.Inner.{counted_from}
use Rattle.ccd3.proofs.WalkLaws.{walk_clears, walk_spends, walk_meets, walk_steps}

-- a walk that ends has made the probes made; a probe more is one more of them
pub counted_ends : (n : ℕ) (e : Ending) → counted_from n (ends e) ≡ record { ending = e; probes = n }
counted_ends n e =
    let same : n + 0 ≡ n = omega arith in
    λ i. record { ending = e; probes = same i }

counted_probing : (n : ℕ) (t : Float) (w : Walked) → counted_from n (probing t w) ≡ counted_from (n + 1) w
counted_probing n t w =
    let same : n + suc (length w.probed) ≡ n + 1 + length w.probed = omega arith in
    λ i. record { ending = w.ending; probes = same i }

module _ (x₀ dx : List (List Float)) (split : ℕ) (threshold : Float) (l : Limits) where
  -- where a walk stands: how many probes were made, and the visit
  abbrev pub walk_from : ℕ → ℕ × Visit → Counted
  walk_from left s = counted_from s.0 (walk x₀ dx split threshold l left s.1)

  module _ (n : ℕ) (v : Visit) (t : Float) (is : t ≡ next dx split l v) where
    limit : (b : Bool) → lt l.max_t t ≡ b → lt l.max_t (next dx split l v) ≡ b
    limit b p = ap (lt l.max_t) (sym is) ∙ p

    pub clears : (left : ℕ) → lt l.max_t t ≡ true
        → walk_from left (n, v) ≡ record { ending = cleared l v; probes = n }
    clears left p =
        ap (counted_from n) (walk_clears x₀ dx split threshold l left v (limit true p)) ∙ counted_ends n (cleared l v)

    module _ (p : lt l.max_t t ≡ false) where
      pub spends : walk_from 0 (n, v) ≡ record { ending = spent v; probes = n }
      spends = ap (counted_from n) (walk_spends x₀ dx split threshold l v (limit false p)) ∙ counted_ends n (spent v)

      apart : (b : Bool) → above x₀ dx split threshold t ≡ b
          → above x₀ dx split threshold (next dx split l v) ≡ b
      apart b a = ap (above x₀ dx split threshold) (sym is) ∙ a

      pub meets : above x₀ dx split threshold t ≡ false → (left : ℕ)
          → walk_from (suc left) (n, v) ≡ record { ending = met x₀ dx split threshold v.time t; probes = n + 1 }
      meets a left =
          ap (counted_from n) (walk_meets x₀ dx split threshold l left v (limit false p) (apart false a))
          ∙ counted_probing n (next dx split l v) (ends (met x₀ dx split threshold v.time (next dx split l v)))
          ∙ counted_ends (n + 1) (met x₀ dx split threshold v.time (next dx split l v))
          ∙ sym (ap (λ (u : Float). record { ending = met x₀ dx split threshold v.time u; probes = n + 1 }) is)

      pub steps : above x₀ dx split threshold t ≡ true → (left : ℕ)
          → walk_from (suc left) (n, v) ≡ walk_from left (n + 1, visit x₀ dx split t)
      steps a left =
          ap (counted_from n) (walk_steps x₀ dx split threshold l left v (limit false p) (apart true a))
          ∙ counted_probing n (next dx split l v)
          (walk x₀ dx split threshold l left (visit x₀ dx split (next dx split l v)))
          ∙ sym (ap (λ (u : Float). walk_from left (n + 1, visit x₀ dx split u)) is)

  -- a walk that stands still, at a probe above the threshold from which the step leads nowhere, makes every probe that
  -- is left there, and ends there
  pub rests : (left n : ℕ) (v : Visit) → v ≡ visit x₀ dx split v.time → next dx split l v ≡ v.time
      → lt l.max_t v.time ≡ false → above x₀ dx split threshold v.time ≡ true
      → walk_from left (n, v) ≡ record { ending = spent v; probes = n + left }
  rests zero n v own stays p a =
      let same : n ≡ n + 0 = omega arith in
      spends n v v.time (sym stays) p ∙ (λ i. record { ending = spent v; probes = same i })
  rests (suc left) n v own stays p a =
      let same : n + 1 + left ≡ n + suc left = omega arith in
      steps n v v.time (sym stays) p a left
      ∙ ap (λ (u : Visit). walk_from left (n + 1, u)) (sym own)
      ∙ rests left (n + 1) v own stays p a
      ∙ (λ i. record { ending = spent v; probes = same i })
