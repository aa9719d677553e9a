-- The halving as a whole, over a test `p` that is true at the lower end and false at the upper one: it stops after at
-- most 255 halvings, at neighbours. Assumes nothing.
pub mod Turn
pub use Turn.*
pub use Rattle.number.proofs.Plus.{round_plus, add_plus, half_plus, mid_plus}
use mathlib.Core.Path.{◌≡◌, refl, sym, subst}
use mathlib.Core.Bool.{Bool, true, false}
use Prim.Native.Nat.{ℕ, zero, suc, ◌+◌, ◌-◌, ◌*◌, ◌≤◌}
use native.Mathlib.Omega.{arith}
use lib.Dec.{T}
use lib.Ieee.{Float, binary32, lt, le, fits, to_bits}
use Rattle.number.specs.Number.{zero32, one32, next_up, midpoint, next_lower, next_upper, repeats, Halved, halve}
use Rattle.number.proofs.Units.{finite_is, L, plus}
use Rattle.number.proofs.Neighbours.{after}
use Rattle.number.proofs.NextUp.{next_of}
use Rattle.number.proofs.Window.{span_of, neighbours, high_finite}

-- ---- what holds of the end
pub record Ends (p : Float → Bool) (r : Halved) : Type 0 where
  pub stops : r.stopped ≡ true
  pub bounded : r.count ≤ 255
  pub true_below : p r.lower ≡ true
  pub false_above : p r.upper ≡ false
  pub in_order : T (lt r.lower r.upper)
  pub next_pattern : to_bits binary32 r.upper ≡ suc (to_bits binary32 r.lower)
  pub is_next : r.upper ≡ next_up r.lower
  pub none_between : (w : Float) → T (fits binary32 w) → T (lt r.lower w) → T (lt w r.upper) → ⊥

ends_from : (p : Float → Bool) (k n : ℕ) (lo hi : Float) → n + k ≡ 255 → Inv p n lo hi → Ends p (halve p k n lo hi)
unfolding halve
ends_from p zero n lo hi e i = absurd (few p n lo hi i (plain n e))
  where
    plain : (n : ℕ) → n + 0 ≡ 255 → n ≡ 255
    plain n e = omega arith
ends_from p (suc k) n lo hi e i =
    go (repeats p lo hi) refl (ends_from p k (suc n) (next_lower p lo hi) (next_upper p lo hi) (move n k e))
  where
    move : (n k : ℕ) → n + suc k ≡ 255 → suc n + k ≡ 255
    move n k e = omega arith

    within : (n k : ℕ) → n + suc k ≡ 255 → suc n ≤ 255
    within n k e = omega arith

    none : repeats p lo hi ≡ true → (w : Float) → T (fits binary32 w) → T (lt (next_lower p lo hi) w)
        → T (lt w (next_upper p lo hi)) → ⊥
    none t =
        neighbours lo hi (next_lower p lo hi) (next_upper p lo hi) i.u i.v i.span (halved p lo hi)
        (subst T (sym t) tt)

    go : (b : Bool) → repeats p lo hi ≡ b
        → (Inv p (suc n) (next_lower p lo hi) (next_upper p lo hi)
        → Ends p (halve p k (suc n) (next_lower p lo hi) (next_upper p lo hi)))
        → Ends p (elim b as (λ _. Halved) [
          | true ↦ record { lower = next_lower p lo hi; upper = next_upper p lo hi; count = suc n; stopped = true }
          | false ↦ halve p k (suc n) (next_lower p lo hi) (next_upper p lo hi)
        ])
    go true t ih = record {
      stops = refl;
      bounded = within n k e;
      true_below = side_lo p lo (midpoint lo hi) i.at_lo;
      false_above = side_hi p hi (midpoint lo hi) i.at_hi;
      in_order = new_lt p n lo hi i;
      next_pattern = new_bits p n lo hi i (none t);
      is_next =
          next_of (next_lower p lo hi) (next_upper p lo hi)
          (finite_is (next_lower p lo hi) (step p n lo hi i).0 (step p n lo hi i).2.low.is)
          (new_plus_lo p n lo hi i) (new_fit_hi p n lo hi i) (new_bits p n lo hi i (none t));
      none_between = none t;
    }
    go false t ih = ih (next p n lo hi i (λ (y : T (repeats p lo hi)). subst T t y))

-- ---- the start, and the end
pub begin : (p : Float → Bool) (lo hi : Float) → T (fits binary32 lo) → T (fits binary32 hi) → T (plus lo)
    → T (le zero32 lo) → T (lt lo hi) → T (le hi one32) → p lo ≡ true → p hi ≡ false → Inv p 0 lo hi
begin p lo hi f g h z l o a b =
    let s = span_of lo hi f g z l o in
    let k = s.2 in
    record {
      u = s.0;
      v = s.1;
      span = k;
      fit_lo = f;
      fit_hi = g;
      plus_lo = h;
      plus_hi = (after lo hi s.0 k.low.is g (high_finite lo hi s.0 k.low.is l o) l).0;
      at_lo = a;
      at_hi = b;
      width = whole s.0 s.1 L k.top;
    }
  where
    whole : (u v l : ℕ) → v ≤ l → (v - u) * 1 ≤ l * 1
    whole u v l h = omega arith

pub ends : (p : Float → Bool) (lo hi : Float) → Inv p 0 lo hi → Ends p (halve p 255 0 lo hi)
ends p lo hi i = ends_from p 255 0 lo hi refl i
