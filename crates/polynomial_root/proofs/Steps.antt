-- One of Newton's steps, over the values that its calls give: it stops at a small value, refuses by 8 where value and
-- slope are zero, or goes on. So the loop with its cap follows the definition. Assumes nothing.
use Prim.Native.Nat.{ℕ, suc, ◌+◌, ◌<◌}
use mathlib.Core.Path.{◌≡◌}
use mathlib.Core.Bool.{true, false}
use lib.Ieee.{Float, lt}
use Rattle.std.specs.Prelude.{Result, Ok}
use Rattle.number.specs.declared.refusal.Refusal.{Refusal}
use Rattle.number.specs.Number.{◌⊖◌, ◌⊘◌, zero32, size, clamp}
use Rattle.number.proofs.Capped.{Capped, capped_spent, capped_ends, capped_goes_on}
use Rattle.polynomial_root.specs.Roots.{refused, value_at, slope_at, both_zero, descend, newton_steps}
use Rattle.polynomial_root.specs.declared.cubic.Cubic.{Cubic}

-- the loop stands at r after i steps
abbrev pub Stands : Cubic → Float → Float → Result Float Refusal → ℕ → Float → Type 0
Stands p t epsilon end i r = Capped (descend p t epsilon) newton_steps end i r

module _ (p : Cubic) (t epsilon r : Float) (i : ℕ) (end : Result Float Refusal) (c : Stands p t epsilon end i r) where
  pub out_of_steps : (i < newton_steps → ⊥) → Ok r ≡ end
  unfolding descend
  out_of_steps full = capped_spent (descend p t epsilon) newton_steps end i r c full

  -- one step more, over the value f, its size z and the slope d
  module _ (more : i < newton_steps) (f : Float) (ef : f ≡ value_at p r) (z : Float) (ez : z ≡ size f) where
    pub stops : lt z epsilon ≡ true → Ok r ≡ end
    unfolding descend
    stops e = capped_ends (descend p t epsilon) newton_steps end i r c more (Ok r) turn
      where
        turn : (k : ℕ) → descend p t epsilon (suc k) r ≡ Ok r
        turn k = rw (← ef, ← ez, e)

    module _ (large : lt z epsilon ≡ false) (d : Float) (ed : d ≡ slope_at p r) where
      pub refuses : both_zero f d ≡ true → refused 8 ≡ end
      unfolding descend
      refuses e = capped_ends (descend p t epsilon) newton_steps end i r c more (refused 8) turn
        where
          turn : (k : ℕ) → descend p t epsilon (suc k) r ≡ refused 8
          turn k = rw (← ed, ← ef, ← ez, large, e)

      pub goes_on : both_zero f d ≡ false → (q : Float) → q ≡ clamp (r ⊖ f ⊘ d) zero32 t
          → Stands p t epsilon end (i + 1) q
      unfolding descend
      goes_on e q eq = capped_goes_on (descend p t epsilon) newton_steps end i r c more q turn
        where
          turn : (k : ℕ) → descend p t epsilon (suc k) r ≡ descend p t epsilon k q
          turn k = rw (← ed, ← ef, ← ez, large, e, ← eq)
