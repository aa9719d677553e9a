-- More probes allowed: any answer but a budget stays as it is, and the time never falls (specs/Allowance.antt); first
-- of any walk, over any threshold, then of the safe time. Assumes nothing.
use mathlib.Core.Path.{◌≡◌, refl, sym, ap, ◌∙◌, subst}
use mathlib.Core.Bool.{Bool, true, false}
use mathlib.Core.List.{List}
use Prim.Native.Nat.{ℕ, zero, suc, ◌≤◌}
use native.Mathlib.Nat.{le_trans}
use native.Mathlib.Omega.{arith}
use lib.Dec.{T, eqb, eqb→eq}
use lib.Ieee.{Float, lt, le}
use lib.Ieee.Fits.{eq→eqb}
use Rattle.number.specs.Number.{zero32}
use Rattle.number.proofs.Comparing.{le_self}
use Rattle.number.proofs.NoNan.{no_nan_le}
use Rattle.admission.specs.declared.Limits.{Limits}
use Rattle.admission.specs.Admission.{full_allowance, is_allowance, walk_refusal}
use Rattle.admission.proofs.Admitted.{range_allowance, walk_allowed}
use Rattle.ccd3.specs.declared.Visit.{Visit}
use Rattle.ccd3.specs.SafeTime.{numbers_of, next, Walked, visit, above, probing, walk, told_of}
use Rattle.ccd3.specs.SafeTime.{start, threshold, first_squared, touches, safe_walk, safe_time_of}
use Rattle.ccd3.specs.Allowance.{five_of, GrowsFrom}
use Rattle.ccd3.proofs.WalkLaws.{walk_clears, walk_spends, walk_meets, walk_steps}
use Rattle.ccd3.proofs.Bracket.{timely_refl}
use Rattle.ccd3.proofs.Standing.{zero_timely, Ground, Standing, start_stands, stands_on}
use Rattle.ccd3.proofs.Kept.{walk_keeps}
use Rattle.ccd3.proofs.Threshold.{under_start}
use Rattle.ccd3.proofs.StartLaws.{walked, safe_refused, safe_touches, safe_walks}
use Rattle.ccd3.proofs.Admitted.{Fitting, ground}
use Rattle.ccd3.proofs.Promises.{admitted}

-- the kind and the time of a walk's answer
abbrev kind_of : Walked → ℕ
kind_of w = (numbers_of w.ending.answer).1

abbrev time_of : Walked → Float
time_of w = (numbers_of w.ending.answer).2

-- ---- a walk, over any threshold
module _ (x₀ dx : List (List Float)) (split : ℕ) (threshold : Float) (l : Limits) where
  abbrev W : ℕ → Visit → Walked
  W = walk x₀ dx split threshold l

  module _ (v : Visit) where
    abbrev t : Float
    t = next dx split l v

    abbrev onward : Visit
    onward = visit x₀ dx split t

    abbrev Past : Bool → Type 0
    Past b = lt l.max_t t ≡ b

    abbrev Far : Bool → Type 0
    Far b = above x₀ dx split threshold t ≡ b

    -- with no probe left, and a step within the time limit, a walk ends in a budget where it is
    spent_kind : Past false → kind_of (W 0 v) ≡ 3
    unfolding numbers_of
    spent_kind p = ap kind_of (walk_spends x₀ dx split threshold l v p)

    spent_time : Past false → time_of (W 0 v) ≡ v.time
    unfolding numbers_of
    spent_time p = ap time_of (walk_spends x₀ dx split threshold l v p)

    -- walks that end past the time limit are the same, and so are those that meet; one that goes on ends as from there
    clears_alike : (fewer more : ℕ) → Past true → W more v ≡ W fewer v
    clears_alike fewer more p =
        walk_clears x₀ dx split threshold l more v p ∙ sym (walk_clears x₀ dx split threshold l fewer v p)

    meets_alike : (fewer more : ℕ) → Past false → Far false → W (suc more) v ≡ W (suc fewer) v
    meets_alike fewer more p a =
        walk_meets x₀ dx split threshold l more v p a ∙ sym (walk_meets x₀ dx split threshold l fewer v p a)

    steps : (left : ℕ) → Past false → Far true → W (suc left) v ≡ probing t (W left onward)
    steps left p a = walk_steps x₀ dx split threshold l left v p a

  -- any answer but a budget stays
  walk_stays : (fewer more : ℕ) → fewer ≤ more → (v : Visit) → (kind_of (W fewer v) ≡ 3 → ⊥) → W more v ≡ W fewer v
  walk_stays zero more h v other = go (lt l.max_t (t v)) refl
    where
      go : (b : Bool) → Past v b → W more v ≡ W 0 v
      go true p = clears_alike v 0 more p
      go false p = absurd (other (spent_kind v p))
  walk_stays (suc fewer) zero h v other = absurd (omega arith)
  walk_stays (suc fewer) (suc more) h v other =
      go (lt l.max_t (t v)) (above x₀ dx split threshold (t v)) refl refl
      (walk_stays fewer more (omega arith) (onward v))
    where
      go : (b c : Bool) → Past v b → Far v c
          → ((kind_of (W fewer (onward v)) ≡ 3 → ⊥) → W more (onward v) ≡ W fewer (onward v))
          → W (suc more) v ≡ W (suc fewer) v
      go true c p a ih = clears_alike v (suc fewer) (suc more) p
      go false false p a ih = meets_alike v fewer more p a
      go false true p a ih =
          steps v more p a ∙ ap (probing (t v)) (ih (λ e. other (ap kind_of (steps v fewer p a) ∙ e)))
          ∙ sym (steps v fewer p a)

  -- the time never falls
  module _ (g : Ground x₀ dx split l) where
    abbrev Stands : Visit → Type 0
    Stands = Standing x₀ dx split l g threshold

    since : (n : ℕ) (v : Visit) → Stands v → T (le v.time (time_of (W n v)))
    since n v s = (walk_keeps x₀ dx split l g threshold n v s).since

    -- walks that are the same end at the same time
    same_time : (fewer more : ℕ) (v : Visit) → Stands v → W more v ≡ W fewer v
        → T (le (time_of (W fewer v)) (time_of (W more v)))
    same_time fewer more v s e =
        subst (λ (w : Walked). T (le (time_of (W fewer v)) (time_of w))) (sym e)
        (le_self (time_of (W fewer v)) (no_nan_le v.time (time_of (W fewer v)) (since fewer v s)).1)

    walk_grows : (fewer more : ℕ) → fewer ≤ more → (v : Visit) → Stands v
        → T (le (time_of (W fewer v)) (time_of (W more v)))
    walk_grows zero more h v s = go (lt l.max_t (t v)) refl
      where
        go : (b : Bool) → Past v b → T (le (time_of (W 0 v)) (time_of (W more v)))
        go true p = same_time 0 more v s (clears_alike v 0 more p)
        go false p = subst (λ (u : Float). T (le u (time_of (W more v)))) (sym (spent_time v p)) (since more v s)
    walk_grows (suc fewer) zero h v s = absurd (omega arith)
    walk_grows (suc fewer) (suc more) h v s =
        go (lt l.max_t (t v)) (above x₀ dx split threshold (t v)) refl refl
        (walk_grows fewer more (omega arith) (onward v))
      where
        go : (b c : Bool) → Past v b → Far v c
            → (Stands (onward v) → T (le (time_of (W fewer (onward v))) (time_of (W more (onward v)))))
            → T (le (time_of (W (suc fewer) v)) (time_of (W (suc more) v)))
        go true c p a ih = same_time (suc fewer) (suc more) v s (clears_alike v (suc fewer) (suc more) p)
        go false false p a ih = same_time (suc fewer) (suc more) v s (meets_alike v fewer more p a)
        go false true p a ih =
            subst (λ (w : Walked). T (le (time_of w) (time_of (W (suc more) v)))) (sym (steps v fewer p a))
            (subst (λ (w : Walked). T (le (time_of (W fewer (onward v))) (time_of w))) (sym (steps v more p a))
            (ih (stands_on x₀ dx split l g threshold v s p a)))

-- ---- the safe time
zero_self : T (le zero32 zero32)
zero_self = timely_refl zero32 zero_timely

module _ (x₀ dx : List (List Float)) (split : ℕ) (l : Limits) where
  abbrev S : ℕ → Walked
  S = safe_walk x₀ dx split l

  module _ (fewer more : ℕ) (h : fewer ≤ more) (a : T (is_allowance fewer)) (b : T (is_allowance more)) where
    -- allowances in their range are refused alike
    alike : walk_refusal x₀ dx split l more ≡ walk_refusal x₀ dx split l fewer
    alike = walk_allowed x₀ dx split l more b ∙ sym (walk_allowed x₀ dx split l fewer a)

    safe_stays : (kind_of (S fewer) ≡ 3 → ⊥) → S more ≡ S fewer
    safe_stays other = go (walk_refusal x₀ dx split l fewer) (touches x₀ dx split l) refl refl
      where
        go : (n : ℕ) (b : Bool) → walk_refusal x₀ dx split l fewer ≡ n → touches x₀ dx split l ≡ b → S more ≡ S fewer
        go (suc n) b e t =
            safe_refused x₀ dx split l more (suc n) (alike ∙ e) (λ k. omega arith)
            ∙ sym (safe_refused x₀ dx split l fewer (suc n) e (λ k. omega arith))
        go zero true e t =
            safe_touches x₀ dx split l more (alike ∙ e) t ∙ sym (safe_touches x₀ dx split l fewer e t)
        go zero false e t =
            let is = safe_walks x₀ dx split l fewer e t in
            safe_walks x₀ dx split l more (alike ∙ e) t
            ∙ walk_stays x₀ dx split (threshold x₀ dx split l) l fewer more h (start x₀ dx split)
            (λ k. other (ap kind_of is ∙ k))
            ∙ sym is

    -- what is no budget with fewer is none with more
    budget_fewer : kind_of (S more) ≡ 3 → kind_of (S fewer) ≡ 3
    budget_fewer k = go (eqb (kind_of (S fewer)) 3) refl
      where
        go : (b : Bool) → eqb (kind_of (S fewer)) 3 ≡ b → kind_of (S fewer) ≡ 3
        go true e = eqb→eq (kind_of (S fewer)) 3 (subst T (sym e) tt)
        go false e =
            let other : kind_of (S fewer) ≡ 3 → ⊥ = λ m. subst T e (eq→eqb m) in
            absurd (other (sym (ap kind_of (safe_stays other)) ∙ k))

    safe_grows : Fitting x₀ l → T (le (time_of (S fewer)) (time_of (S more)))
    unfolding numbers_of first_squared
    safe_grows f = go (walk_refusal x₀ dx split l fewer) (touches x₀ dx split l) refl refl
      where
        both : (v w : Walked) → S fewer ≡ v → S more ≡ w → T (le (time_of v) (time_of w))
            → T (le (time_of (S fewer)) (time_of (S more)))
        both v w p q h =
            subst (λ (u : Walked). T (le (time_of u) (time_of (S more)))) (sym p)
            (subst (λ (u : Walked). T (le (time_of v) (time_of u))) (sym q) h)

        go : (n : ℕ) (b : Bool) → walk_refusal x₀ dx split l fewer ≡ n → touches x₀ dx split l ≡ b
            → T (le (time_of (S fewer)) (time_of (S more)))
        go (suc n) b e t =
            both _ _ (safe_refused x₀ dx split l fewer (suc n) e (λ k. omega arith))
            (safe_refused x₀ dx split l more (suc n) (alike ∙ e) (λ k. omega arith)) zero_self
        go zero true e t =
            both _ _ (safe_touches x₀ dx split l fewer e t) (safe_touches x₀ dx split l more (alike ∙ e) t) zero_self
        go zero false e t =
            let k = admitted x₀ dx split l fewer e in
            let g = ground x₀ dx split l k.0 f in
            both (walked x₀ dx split l fewer) (walked x₀ dx split l more) (safe_walks x₀ dx split l fewer e t)
            (safe_walks x₀ dx split l more (alike ∙ e) t)
            (walk_grows x₀ dx split (threshold x₀ dx split l) l g fewer more h (start x₀ dx split)
            (start_stands x₀ dx split l g (threshold x₀ dx split l)
            (under_start l g.given (first_squared x₀ dx split l) g.sound_start t)))

  -- the allowance of a budget is in its range
  budget_range : (allowed : ℕ) → kind_of (S allowed) ≡ 3 → allowed ≤ full_allowance
  unfolding numbers_of
  budget_range allowed k = go (walk_refusal x₀ dx split l allowed) refl
    where
      go : (n : ℕ) → walk_refusal x₀ dx split l allowed ≡ n → allowed ≤ full_allowance
      go zero e = (admitted x₀ dx split l allowed e).1.1
      go (suc n) e =
          let z : ◌≡◌ {A = ℕ} 4 3 =
          sym (ap kind_of (safe_refused x₀ dx split l allowed (suc n) e (λ k. omega arith))) ∙ k in
          absurd (omega arith)

  -- of every answer
  pub safe_time_grows : (allowed : ℕ) → Fitting x₀ l
      → GrowsFrom x₀ dx split l allowed (safe_time_of x₀ dx split l allowed)
  unfolding safe_time_of
  safe_time_grows allowed f = record {
    stays = λ other least more h most.
        ap (λ (w : Walked). five_of (told_of w))
        (safe_stays allowed more h (range_allowance allowed least (le_trans h most))
        (range_allowance more (le_trans least h) most) other);
    budget_before = λ k fewer least h.
        let most = budget_range allowed k in
        budget_fewer fewer allowed h (range_allowance fewer least (le_trans h most))
        (range_allowance allowed (le_trans least h) most) k;
    never_falls = λ most fewer least h.
        safe_grows fewer allowed h (range_allowance fewer least (le_trans h most))
        (range_allowance allowed (le_trans least h) most) f;
  }
