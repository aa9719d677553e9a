-- Twice and three times a number that is not zero is not zero: nothing is lost in doubling c2, or in the slope's 3 c3.
-- Assumes nothing.
use Prim.Native.Nat.{ℕ, ◌+◌, ◌*◌, ◌^◌, ◌≤◌, ◌<◌}
use native.Mathlib.Nat.{le_trans, le_of_eq, lt_of_lt_of_le, lt_of_le_of_lt, mul-pos, eq-zero-or-pos}
use native.Mathlib.Omega.{arith}
use mathlib.Core.Path.{◌≡◌, refl, sym, subst}
use mathlib.Core.Logic.{inl, inr}
use mathlib.Core.Bool.{Bool, true, false, ◌||◌, beq}
use lib.IntN.{ℤ}
use lib.Dec.{T, eqb, eqb→eq, lit<}
use lib.Pow.{pow_pos}
use lib.Ieee.{Float, fin, binary32, up, down, round, mul, eq, unlike, fits, of_bits, inf, nan}
use lib.Ieee.Fits.{down_pos, and_l}
use lib.Ieee.Exact.{HasValue}
use Rattle.number.specs.Number.{◌⊗◌, zero32}
use Rattle.number.proofs.Rounding.{rnd, rnd_mono, rnd_fix}
use Rattle.number.proofs.Units.Compared.{L}
use Rattle.number.proofs.Units.{Top, shift}
use Rattle.number.proofs.Sums.Rounded.{round_at, round_units}
use Rattle.number.proofs.Later.{grows}
use Rattle.number.proofs.Within.{Within, within_units}
use Rattle.polynomial_root.specs.Roots.{two32, three32}
use Rattle.polynomial_root.proofs.Zeros.{zero_eq}
use Rattle.polynomial_root.proofs.Differences.{zero_of, pos_of, units_of_lem}

pub not_so : (b : Bool) → (T b → ⊥) → b ≡ false
not_so true h = absurd (h tt)
not_so false h = refl

pub some_eq : (x : Float) (s : Bool) (w : ℕ) → 0 < w → HasValue x s w L → eq x zero32 ≡ false
unfolding eq of_bits
some_eq nan s w l x3 = elim x3 [ ]
some_eq (inf _) s w l x5 = elim x5 [ ]
some_eq (fin t m e) s w l (same, q) = not_so (eq (fin t m e) zero32) none
  where
    none : T (eq (fin t m e) zero32) → ⊥
    none h =
        clash (m * up e) (down e)
        (eqb→eq (m * up e * 1) (0 * down e)
        (and_l (eqb (m * up e * 1) (0 * down e)) (beq t false || eqb (m * up e * 1) 0) h))
        (pos_of (m * up e) L w (down e) l (down_pos e) q)
      where
        clash : (a b : ℕ) → a * 1 ≡ 0 * b → 0 < a → ⊥
        clash a b z l = omega arith

-- what is rounded from a sum of 2 ^ 24 at most does not overflow
no_overflow : (u v : ℕ) → u ≤ 2 ^ 23 * L → v ≤ 2 ^ 23 * L → rnd (u + v) 1 < Top
no_overflow u v h k =
    lt_of_le_of_lt
    (le_trans (rnd_mono (u + v) 1 (2 ^ 24 * L * 1) 1 (pow_pos 0) (pow_pos 0) (enough u v L h k))
    (le_of_eq (rnd_fix (2 ^ 24 * L) 1 (pow_pos 0) (1, 173, lit< tt, refl))))
    (lit< tt)
  where
    enough : (u v l : ℕ) → u ≤ 2 ^ 23 * l → v ≤ 2 ^ 23 * l → (u + v) * 1 ≤ 2 ^ 24 * l * 1 * 1
    enough u v l h k = omega arith

-- a multiple q of a number of u units, where q u is u + v
module _ (s : Bool) (m : ℕ) (e : ℤ) (f : T (fits binary32 (fin s m e))) (w : Within 22 (fin s m e))
    (n : eq (fin s m e) zero32 ≡ false) where
  abbrev u : ℕ
  u = m * 2 ^ shift e

  some : 0 < u
  some = elim (eq-zero-or-pos u) [
    | inl z ↦ absurd (subst T n (zero_eq s m e (zero_of m (2 ^ shift e) (pow_pos (shift e)) z)))
    | inr l ↦ l
  ]

  bound : u ≤ 2 ^ 22 * L
  bound = within_units 22 (fin false m e) u (units_of_lem s m e f).is w

  multiple_some : (q v : ℕ) → q * (m * up e) * L ≡ (u + v) * (1 * down e) → v ≤ 2 ^ 23 * L
      → eq (round binary32 (unlike false s) (q * (m * up e)) (1 * down e)) zero32 ≡ false
  multiple_some q v h b =
      let x = q * (m * up e) in
      let d = 1 * down e in
      let k = round_units x d (u + v) (mul-pos (pow_pos 0) (down_pos e)) h in
      some_eq (round binary32 (unlike false s) x d) (unlike false s) (rnd (x * L) d)
      (subst (λ (i : ℕ). 0 < i) (sym k) (lt_of_lt_of_le some (grows u v (units_of_lem s m e f).rep)))
      (round_at (unlike false s) x d (subst (λ (i : ℕ). i < Top) (sym k) (no_overflow u v (more u L bound) b)))
    where
      more : (u l : ℕ) → u ≤ 2 ^ 22 * l → u ≤ 2 ^ 23 * l
      more u l h = omega arith

pub twice_some : (c : Float) → T (fits binary32 c) → Within 22 c → eq c zero32 ≡ false
    → eq (two32 ⊗ c) zero32 ≡ false
unfolding mul of_bits
twice_some nan f w n = elim w [ ]
twice_some (inf _) f w n = elim w [ ]
twice_some (fin s m e) f w n =
    let u = m * 2 ^ shift e in
    multiple_some s m e f w n 2 u (twice (m * up e) L u (down e) (units_of_lem s m e f).is)
    (more u L (bound s m e f w n))
  where
    twice : (a l u d : ℕ) → a * l ≡ u * d → 2 * a * l ≡ (u + u) * (1 * d)
    twice a l u d h = omega arith

    more : (u l : ℕ) → u ≤ 2 ^ 22 * l → u ≤ 2 ^ 23 * l
    more u l h = omega arith

pub thrice_some : (c : Float) → T (fits binary32 c) → Within 22 c → eq c zero32 ≡ false
    → eq (three32 ⊗ c) zero32 ≡ false
unfolding mul of_bits
thrice_some nan f w n = elim w [ ]
thrice_some (inf _) f w n = elim w [ ]
thrice_some (fin s m e) f w n =
    let u = m * 2 ^ shift e in
    multiple_some s m e f w n 3 (u + u) (thrice (m * up e) L u (down e) (units_of_lem s m e f).is)
    (more u L (bound s m e f w n))
  where
    thrice : (a l u d : ℕ) → a * l ≡ u * d → 3 * a * l ≡ (u + (u + u)) * (1 * d)
    thrice a l u d h = omega arith

    more : (u l : ℕ) → u ≤ 2 ^ 22 * l → u + u ≤ 2 ^ 23 * l
    more u l h = omega arith
