-- A loop that follows `halve` (number/specs/Number.antt), turn by turn, over the law for loops with a cap.
-- Assumes nothing.
use mathlib.Core.Path.{◌≡◌, refl, sym, ap, ◌∙◌}
use mathlib.Core.Logic.{◌⊎◌, inl, inr}
use mathlib.Core.Bool.{Bool, true, false}
use Prim.Native.Nat.{ℕ, suc, ◌+◌}
use native.Mathlib.Numerals.{add-one}
use lib.Ieee.{Float, eq}
use Rattle.number.specs.Number.{midpoint, window, next_lower, next_upper, repeats, Halved, halve}

module _ (p : Float → Bool) where
  -- where a halving stands: how many halvings were made, and the ends
  abbrev pub halve_from : ℕ → ℕ × Float × Float → Halved
  halve_from k s = halve p k s.0 s.1 s.2

  pub halve_none : (n : ℕ) (lo hi : Float)
      → halve p 0 n lo hi ≡ record { lower = lo; upper = hi; count = n; stopped = false }
  unfolding halve
  halve_none n lo hi = refl

  -- the ends after `if p(m) { lo = m } else { hi = m }`
  abbrev pub Moved : Float → Float → Float → Float → Type 0
  Moved lo hi lo' hi' = (lo' ≡ next_lower p lo hi) × (hi' ≡ next_upper p lo hi)

  pub new_ends : (lo hi lo' hi' : Float)
      → ((p (midpoint lo hi) ≡ true) × (lo' ≡ midpoint lo hi) × (hi' ≡ hi))
      ⊎ ((p (midpoint lo hi) ≡ false) × (lo' ≡ lo) × (hi' ≡ midpoint lo hi))
      → Moved lo hi lo' hi'
  new_ends lo hi lo' hi' (inl (e, a, b)) = (rw (e, a), rw (e, b))
  new_ends lo hi lo' hi' (inr (e, a, b)) = (rw (e, a), rw (e, b))

  module _ (n : ℕ) (lo hi lo' hi' : Float) (m : Moved lo hi lo' hi') (k : ℕ) where
    -- one turn, by whether the window repeats
    abbrev by_window : Bool → Halved
    by_window b = elim b as (λ _. Halved) [
      | true ↦ record { lower = next_lower p lo hi; upper = next_upper p lo hi; count = suc n; stopped = true }
      | false ↦ halve p k (suc n) (next_lower p lo hi) (next_upper p lo hi)
    ]

    turn : (b : Bool) → eq (window lo' hi') (window lo hi) ≡ b → halve p (suc k) n lo hi ≡ by_window b
    unfolding halve
    turn b e =
        let test : eq (window lo' hi') (window lo hi) ≡ repeats p lo hi = rw (m.0, m.1) in
        ap by_window (sym test ∙ e)

    pub halve_arrives : eq (window lo' hi') (window lo hi) ≡ true
        → halve_from (suc k) (n, lo, hi) ≡ record { lower = lo'; upper = hi'; count = n + 1; stopped = true }
    halve_arrives t =
        turn true t
        ∙ sym (λ i. record { lower = m.0 i; upper = m.1 i; count = add-one n i; stopped = true })

    pub halve_goes_on : eq (window lo' hi') (window lo hi) ≡ false
        → halve_from (suc k) (n, lo, hi) ≡ halve_from k (n + 1, lo', hi')
    halve_goes_on t = turn false t ∙ sym (λ i. halve p k (add-one n i) (m.0 i) (m.1 i))
