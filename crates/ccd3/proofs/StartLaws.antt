-- How a safe time starts, with any number of probes allowed: what it answers by its refusal's number and by whether it
-- touches (specs/SafeTime.antt). Assumes nothing.
use mathlib.Core.Path.{◌≡◌, refl, ap, ◌∙◌}
use mathlib.Core.Bool.{Bool, true, false}
use mathlib.Core.List.{List}
use Prim.Native.Nat.{ℕ, zero, suc}
use lib.Ieee.{Float}
use Rattle.number.specs.Number.{zero32}
use Rattle.admission.specs.declared.Limits.{Limits}
use Rattle.admission.specs.Admission.{walk_refusal}
use Rattle.ccd3.specs.declared.Answer.TheVariants.{Touching, Refused}
use Rattle.ccd3.specs.SafeTime.{Walked, start, walk, threshold, still, touches, safe_walk}

module _ (x₀ dx : List (List Float)) (split : ℕ) (l : Limits) (allowed : ℕ) where
  abbrev pub walked : Walked
  walked = walk x₀ dx split (threshold x₀ dx split l) l allowed (start x₀ dx split)

  abbrev by_touch : Bool → Walked
  by_touch b = elim b as (λ _. Walked) [ true ↦ still (Touching zero32) | false ↦ walked ]

  abbrev by_number : ℕ → Walked
  by_number n = elim n as (λ _. Walked) [ zero ↦ by_touch (touches x₀ dx split l) | suc k ↦ still (Refused (suc k)) ]

  pub safe_refused : (n : ℕ) → walk_refusal x₀ dx split l allowed ≡ n → (n ≡ 0 → ⊥)
      → safe_walk x₀ dx split l allowed ≡ still (Refused n)
  unfolding safe_walk
  safe_refused zero e h = absurd (h refl)
  safe_refused (suc n) e h = ap by_number e

  pub safe_touches : walk_refusal x₀ dx split l allowed ≡ 0 → touches x₀ dx split l ≡ true
      → safe_walk x₀ dx split l allowed ≡ still (Touching zero32)
  unfolding safe_walk
  safe_touches e t = ap by_number e ∙ ap by_touch t

  pub safe_walks : walk_refusal x₀ dx split l allowed ≡ 0 → touches x₀ dx split l ≡ false
      → safe_walk x₀ dx split l allowed ≡ walked
  unfolding safe_walk
  safe_walks e t = ap by_number e ∙ ap by_touch t
