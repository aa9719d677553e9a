-- What the original asserts and the code need not test, where the numbers are allowed: the slope's roots are numbers,
-- the smaller first (`assert!(e0 <= e1)`), and the middle span's ends are in order (`assert!(a0 <= a1)`).
-- Assumes nothing.
use Prim.Native.Nat.{ℕ, ◌*◌, ◌^◌, ◌<◌}
use native.Mathlib.Omega.{arith}
use mathlib.Core.Path.{◌≡◌, ap, subst}
use mathlib.Core.Bool.{Bool, true, false, cond}
use lib.Dec.{T, lt→ltb, lit≤}
use lib.Ieee.{Float, fin, binary32, up, down, lt, le, eq, fits, of_bits, inf, nan}
use lib.Ieee.Fits.{down_pos, mul-fits}
use Rattle.std.specs.Prelude.{Some}
use Rattle.number.specs.Number.{◌⊗◌, zero32, size, smaller, larger}
use Rattle.number.proofs.Within.{Within, within_more, mul_within}
use Rattle.number.proofs.Comparing.{lt_le}
use Rattle.polynomial_root.specs.Roots.{two32, solved, three32, vanishes}
use Rattle.polynomial_root.specs.declared.cubic.Cubic.{Cubic}
use Rattle.polynomial_root.proofs.Defined.{two_within, three_within}
use Rattle.polynomial_root.proofs.Multiples.{not_so, thrice_some}
use Rattle.polynomial_root.proofs.Zeros.{eq_zero}
use Rattle.polynomial_root.proofs.Spans.{Allowed}
use Rattle.polynomial_root.proofs.Ordered.{InOrder, solved_ordered}

-- what does not count as zero is not zero
kept_some : (c : Float) → Within 20 c → vanishes c ≡ false → eq c zero32 ≡ false
unfolding size lt of_bits
kept_some nan w v = elim w [ ]
kept_some (inf _) w v = elim w [ ]
kept_some (fin s m e) w v =
    not_so (eq (fin s m e) zero32)
    (λ h. subst T v
    (lt→ltb (m * up e * 2 ^ 23) (1 * 1 * down e) (less m (up e) (down e) (down_pos e) (eq_zero s m e h))))
  where
    less : (m u v : ℕ) → 0 < v → m ≡ 0 → m * u * 2 ^ 23 < 1 * 1 * v
    less m u v l z = omega (arith, ap (λ (x : ℕ). x * u) z)

pub slope_ordered : (p : Cubic) (t : Float) → Allowed p t → T (fits binary32 p.c3) → vanishes p.c3 ≡ false
    → InOrder (solved p.c1 (two32 ⊗ p.c2) (three32 ⊗ p.c3))
slope_ordered p t h f v =
    solved_ordered p.c1 (two32 ⊗ p.c2) (three32 ⊗ p.c3) (mul-fits binary32 three32 p.c3)
    (within_more 20 22 p.c1 (lit≤ tt) h.w1)
    (within_more 21 22 (two32 ⊗ p.c2) (lit≤ tt) (mul_within 1 20 two32 p.c2 (lit≤ tt) two_within h.w2))
    (mul_within 2 20 three32 p.c3 (lit≤ tt) three_within h.w3)
    (thrice_some p.c3 f (within_more 20 22 p.c3 (lit≤ tt) h.w3) (kept_some p.c3 h.w3 v))

ends_ordered : (t e0 e1 : Float) → T (lt zero32 t) → T (le e0 e1) → T (le e0 t) → T (le zero32 e1)
    → T (le (larger zero32 e0) (smaller t e1))
unfolding larger smaller
ends_ordered t e0 e1 above order low high = go (lt zero32 e0) (lt e1 t)
  where
    go : (a b : Bool) → T (le (cond a e0 zero32) (cond b e1 t))
    go true true = order
    go true false = low
    go false true = high
    go false false = lt_le zero32 t above

pub middle_ordered : (p : Cubic) (t e0 e1 : Float) → Allowed p t → T (fits binary32 p.c3)
    → vanishes p.c3 ≡ false → solved p.c1 (two32 ⊗ p.c2) (three32 ⊗ p.c3) ≡ Some (e0, e1)
    → T (le e0 t) → T (le zero32 e1) → T (le (larger zero32 e0) (smaller t e1))
middle_ordered p t e0 e1 h f v s low high =
    ends_ordered t e0 e1 h.above (subst InOrder s (slope_ordered p t h f v)).order low high
