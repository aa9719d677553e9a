-- What a walk does from a visit: the four laws by which it is known (specs/SafeTime.antt), of any threshold and any number
-- of probes left. Assumes nothing.
use mathlib.Core.Path.{◌≡◌, ap, ◌∙◌}
use mathlib.Core.Bool.{Bool, true, false}
use mathlib.Core.List.{List}
use Prim.Native.Nat.{ℕ, zero, suc}
use lib.Ieee.{Float, lt}
use Rattle.admission.specs.declared.Limits.{Limits}
use Rattle.ccd3.specs.declared.Visit.{Visit}
use Rattle.ccd3.specs.SafeTime.{next, Walked, visit, above, cleared, spent, met, ends, probing, walk}

module _ (x₀ dx : List (List Float)) (split : ℕ) (threshold : Float) (l : Limits) where
  abbrev past : Visit → Bool
  past v = lt l.max_t (next dx split l v)

  abbrev apart : Visit → Bool
  apart v = above x₀ dx split threshold (next dx split l v)

  -- by the tests at the step's end
  abbrev by_probe : ℕ → Visit → Bool → Walked
  by_probe left v b = elim b as (λ _. Walked) [
    | true ↦ walk x₀ dx split threshold l left (visit x₀ dx split (next dx split l v))
    | false ↦ ends (met x₀ dx split threshold v.time (next dx split l v))
  ]

  abbrev by_limit : Visit → Walked → Bool → Walked
  by_limit v w b = elim b as (λ _. Walked) [ true ↦ ends (cleared l v) | false ↦ w ]

  abbrev probed : ℕ → Visit → Bool → Walked
  probed left v b = probing (next dx split l v) (by_probe left v b)

  -- past the time limit the walk is clear
  pub walk_clears : (left : ℕ) (v : Visit) → past v ≡ true → walk x₀ dx split threshold l left v ≡ ends (cleared l v)
  unfolding walk
  walk_clears zero v e = ap (by_limit v (ends (spent v))) e
  walk_clears (suc left) v e = ap (by_limit v (probed left v (apart v))) e

  -- else, with no probe left, it ends at the last time
  pub walk_spends : (v : Visit) → past v ≡ false → walk x₀ dx split threshold l 0 v ≡ ends (spent v)
  unfolding walk
  walk_spends v e = ap (by_limit v (ends (spent v))) e

  -- else, where the probe is not above the threshold, it closes in
  pub walk_meets : (left : ℕ) (v : Visit) → past v ≡ false → apart v ≡ false
      → walk x₀ dx split threshold l (suc left) v
      ≡ probing (next dx split l v) (ends (met x₀ dx split threshold v.time (next dx split l v)))
  unfolding walk
  walk_meets left v e f = ap (by_limit v (probed left v (apart v))) e ∙ ap (probed left v) f

  -- and otherwise goes on from there
  pub walk_steps : (left : ℕ) (v : Visit) → past v ≡ false → apart v ≡ true
      → walk x₀ dx split threshold l (suc left) v
      ≡ probing (next dx split l v) (walk x₀ dx split threshold l left (visit x₀ dx split (next dx split l v)))
  unfolding walk
  walk_steps left v e f = ap (by_limit v (probed left v (apart v))) e ∙ ap (probed left v) f
