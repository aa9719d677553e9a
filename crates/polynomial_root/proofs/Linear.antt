-- The fraction a / (a - b), for a and b on opposite sides of zero and not both zero, lies in 0..1: the computed
-- difference has the sign of a, where a is not zero, and is no smaller than a. So its product with t lies in 0..t, and
-- the clamp leaves that as it is. Assumes nothing.
use Prim.Native.Nat.{ℕ, ◌+◌, ◌*◌, ◌^◌, ◌≤◌, ◌<◌, zero-le}
use native.Mathlib.Nat.{le_trans, le_of_eq, add_comm, one-mul, zero-mul, mul-pos, mul-le-mul_right}
use native.Mathlib.Nat.{le_of_mul-le-mul_right, eq-zero-or-pos, eq-or-lt_of_le}
use native.Mathlib.Omega.{arith}
use mathlib.Core.Path.{◌≡◌, refl, sym, ap, ◌∙◌, subst}
use mathlib.Core.Logic.{◌⊎◌, inl, inr}
use mathlib.Core.Bool.{Bool, true, false, not, ◌&&◌, ◌||◌, cond, false≢true}
use lib.IntN.{ℤ, pos}
use lib.Dec.{T, ltb, eqb, lt→ltb, eqb→eq, lit<, lit≤}
use lib.Pow.{pow_pos}
use lib.Ieee.{Float, nan, inf, fin, binary32, up, down, round, add, sub, div, neg, lt, le, eq, unlike, fits, of_bits}
use lib.Ieee.Fits.{div-fits, down_pos, and_i, and_l, and_r, eq→eqb}
use lib.Ieee.Scale.{finite}
use Rattle.number.specs.Number.{◌⊖◌, ◌⊗◌, ◌⊘◌, zero32, one32, clamp, between}
use Rattle.number.proofs.Rounding.{rnd, rnd_fix}
use Rattle.number.proofs.Units.Compared.{L, left, right, no_size, says_le}
use Rattle.number.proofs.Units.{zero_is, Top, Unit32, shift}
use Rattle.number.proofs.Sums.Rounded.{round_at, to_is_minus}
use Rattle.number.proofs.Later.{grows}
use Rattle.number.proofs.Within.{Within, round_within}
use Rattle.number.proofs.Comparing.{or_l, or_r}
use Rattle.number.proofs.Plus.{round_plus}
use Rattle.number.proofs.Signs.{plus_up}
use Rattle.polynomial_root.specs.Roots.{both_zero, opposite, fraction}
use Rattle.polynomial_root.proofs.Zeros.{zero_eq, zero_high, low_zero, high_zero}
use Rattle.polynomial_root.proofs.Orders.{part_stands}
use Rattle.polynomial_root.proofs.Differences.{zero_of, pos_of, units_of_lem, Sides, Sum, difference}

-- ---- the quotient of a by the difference
within_one : (x : Float) → Within 0 x → T (le x one32)
unfolding le lt eq of_bits
within_one nan h = elim h [ ]
within_one (inf _) h = elim h [ ]
within_one (fin true m e) h =
    or_l (ltb 0 (m * up e * 1 + 1 * down e)) (eqb (m * up e * 1) (1 * down e) && eqb (m * up e * 1) 0)
    (lt→ltb 0 (m * up e * 1 + 1 * down e) (some (m * up e * 1) (down e) (down_pos e)))
  where
    some : (a b : ℕ) → 0 < b → 0 < a + 1 * b
    some a b l = omega arith
within_one (fin false m e) h =
    let a = m * up e * 1 in
    let b = 1 * down e in
    elim (eq-or-lt_of_le (plain (m * up e) (down e) h)) [
      | inl q ↦ or_r (ltb a b) (eqb a b && true) (and_i (eqb a b) true (eq→eqb q) tt)
      | inr l ↦ or_l (ltb a b) (eqb a b && true) (lt→ltb a b l)
    ]
  where
    plain : (a b : ℕ) → a ≤ 1 * b → a * 1 ≤ 1 * b
    plain a b l = omega arith

-- a fraction of zero is a zero of some sign
zero_up : (b : Bool) (n d : ℕ) → n ≡ 0 → 0 < d → T (le zero32 (round binary32 b n d))
zero_up false n d z D = plus_up (round binary32 false n d) (round_plus n d)
zero_up true n d z D =
    let q : rnd (n * L) d ≡ 0 =
    ap (λ (x : ℕ). rnd x d) (ap (λ (x : ℕ). x * L) z ∙ zero-mul L ∙ sym (zero-mul d))
    ∙ rnd_fix 0 d D (0, 0, lit< tt, refl) in
    let h = round_at true n d (subst (λ (x : ℕ). x < Top) (sym q) (pow_pos 277)) in
    says_le zero32 (round binary32 true n d) 0 (rnd (n * L) d) zero_is
    (to_is_minus (round binary32 true n d) (rnd (n * L) d) q h) zero-le

-- x of u units over a number of w units, u at most, that has x's sign where x is not zero
module _ (s : Bool) (m : ℕ) (e : ℤ) (t : Bool) (k : ℕ) (j : ℤ) (u w : ℕ)
    (P : m * up e * L ≡ u * down e) (Q : k * up j * L ≡ w * down j) (more : u ≤ w) (some : 0 < w) where
  abbrev N : ℕ
  N = m * up e * down j

  abbrev D : ℕ
  D = k * up j * down e

  D-pos : 0 < D
  D-pos = mul-pos (pos_of (k * up j) L w (down j) some (down_pos j) Q) (down_pos e)

  N-is : N * L ≡ u * (down e * down j)
  N-is = left (m * up e) (k * up j) (down e) (down j) L u w (down_pos e) (down_pos j) (pow_pos 149) P Q

  D-is : D * L ≡ w * (down e * down j)
  D-is = right (m * up e) (k * up j) (down e) (down j) L u w (down_pos e) (down_pos j) (pow_pos 149) P Q

  N-le : N ≤ D
  N-le =
      le_of_mul-le-mul_right
      (le_trans (le_of_eq N-is) (le_trans (mul-le-mul_right (down e * down j) more) (le_of_eq (sym D-is))))
      (pow_pos 149)

  fraction_up : (0 < u → t ≡ s) → T (le zero32 (round binary32 (unlike s t) N D))
  fraction_up sign = elim (eq-zero-or-pos u) [
    | inl z ↦
        zero_up (unlike s t) N D
        (zero_of N L (pow_pos 149) (N-is ∙ ap (λ (x : ℕ). x * (down e * down j)) z ∙ zero-mul (down e * down j)))
        D-pos
    | inr l ↦ subst (λ (b : Bool). T (le zero32 (round binary32 (unlike s b) N D))) (sym (sign l)) (own s)
  ]
    where
      own : (s : Bool) → T (le zero32 (round binary32 (unlike s s) N D))
      own true = plus_up (round binary32 false N D) (round_plus N D)
      own false = plus_up (round binary32 false N D) (round_plus N D)

  quotient : (0 < u → t ≡ s) → T (between zero32 one32 (fin s m e ⊘ fin t k j))
  unfolding div
  quotient sign = go (eqb k 0) (eqb→eq k 0)
    where
      none : 0 < D → D ≡ 0 → ⊥
      none l q = omega arith

      ratio : Float
      ratio = round binary32 (unlike s t) N D

      go : (b : Bool) → (T b → k ≡ 0) → T (between zero32 one32 (cond b (cond (eqb m 0) nan (inf (unlike s t))) ratio))
      go true z = absurd (none D-pos (no_size k (up j) (down e) (z tt)))
      go false z =
          and_i (le zero32 ratio) (le ratio one32) (fraction_up sign)
          (within_one ratio
          (round_within 0 (unlike s t) N D D-pos (lit≤ tt) (le_trans N-le (le_of_eq (sym (one-mul D))))))

-- ---- the sides of zero, from the tests
either : (p q : Bool) → (p || q) ≡ true → T p ⊎ T q
either true q h = inl tt
either false true h = inr tt
either false false h = absurd (false≢true h)

sides : (s : Bool) (m : ℕ) (e : ℤ) (t : Bool) (n : ℕ) (d : ℤ) → opposite (fin s m e) (fin t n d) ≡ true → Sides s t m n
sides true m e false n d h = inl refl
sides false m e true n d h = inl refl
sides true m e true n d h =
    let a = fin true m e in
    let b = fin true n d in
    elim (either (le a zero32 && le zero32 b) (le zero32 a && le b zero32) h) [
      | inl p ↦ inr (inr (high_zero n d (and_r (le a zero32) (le zero32 b) p)))
      | inr q ↦ inr (inl (high_zero m e (and_l (le zero32 a) (le b zero32) q)))
    ]
sides false m e false n d h =
    let a = fin false m e in
    let b = fin false n d in
    elim (either (le a zero32 && le zero32 b) (le zero32 a && le b zero32) h) [
      | inl p ↦ inr (inl (low_zero m e (and_l (le a zero32) (le zero32 b) p)))
      | inr q ↦ inr (inr (low_zero n d (and_r (le zero32 a) (le b zero32) q)))
    ]

-- ---- the theorem: of a finite number, and whatever the other is, the fraction lies in 0..1
-- a NaN is on no side
no_side : (a : Float) → opposite a nan ≡ true → ⊥
unfolding le lt eq of_bits
no_side a = go (le a zero32) (le zero32 a)
  where
    go : (p q : Bool) → ((p && false) || (q && false)) ≡ true → ⊥
    go true true h = false≢true h
    go true false h = false≢true h
    go false true h = false≢true h
    go false false h = false≢true h

-- over an infinity it is a zero
over_infinity : (a : Float) (b : Bool) → T (finite a) → T (between zero32 one32 (a ⊘ inf b))
unfolding div
over_infinity nan b f = elim f [ ]
over_infinity (inf _) b f = elim f [ ]
over_infinity (fin s m e) b f =
    let x = fin (unlike s b) 0 (pos 0) in
    and_i (le zero32 x) (le x one32) (zero_high (unlike s b) 0 (pos 0) refl) (within_one x zero-le)

pub fraction_in_range : (a b : Float) → T (fits binary32 a) → T (fits binary32 b) → T (finite a)
    → opposite a b ≡ true → both_zero a b ≡ false → T (between zero32 one32 (fraction a b))
fraction_in_range nan b f g h o z = elim h [ ]
fraction_in_range (inf _) b f g h o z = elim h [ ]
fraction_in_range (fin s m e) nan f g h o z = absurd (no_side (fin s m e) o)
fraction_in_range (fin s m e) (inf t) f g h o z = unfold sub add neg in over_infinity (fin s m e) (not t) tt
fraction_in_range (fin s m e) (fin t n d) f g h o z = over (fin s m e ⊖ fin t n d) x.0 x.1 x.2
  where
    u : ℕ
    u = m * 2 ^ shift e

    v : ℕ
    v = n * 2 ^ shift d

    p : Unit32 (fin false m e) u
    p = units_of_lem s m e f

    q : Unit32 (fin false n d) v
    q = units_of_lem t n d g

    some : 0 < u + v
    some = elim (eq-zero-or-pos (u + v)) [
      | inl y ↦ absurd (subst T z
          (and_i (eq (fin s m e) zero32) (eq (fin t n d) zero32)
          (zero_eq s m e (zero_of m (2 ^ shift e) (pow_pos (shift e)) (first u v y)))
          (zero_eq t n d (zero_of n (2 ^ shift d) (pow_pos (shift d)) (second u v y)))))
      | inr l ↦ l
    ]
      where
        first : (u v : ℕ) → u + v ≡ 0 → u ≡ 0
        first u v y = omega arith

        second : (u v : ℕ) → u + v ≡ 0 → v ≡ 0
        second u v y = omega arith

    x : (b : Bool) × Sum s m e t n d u v p.is q.is b (fin s m e ⊖ fin t n d) × (0 < u → b ≡ s)
    x = difference s m e t n d u v p.is q.is (sides s m e t n d o) some

    over : (y : Float) (b : Bool) → Sum s m e t n d u v p.is q.is b y → (0 < u → b ≡ s)
        → T (between zero32 one32 (fin s m e ⊘ y))
    over y b (inr i) sign =
        subst (λ (y : Float). T (between zero32 one32 (fin s m e ⊘ y))) (sym i) (over_infinity (fin s m e) b tt)
    over nan b (inl x10) sign = elim x10 [ ]
    over (inf _) b (inl x12) sign = elim x12 [ ]
    over (fin r i j) b (inl (same, w)) sign =
        quotient s m e r i j u (rnd (u + v) 1) p.is w (grows u v p.rep)
        (positive (rnd (u + v) 1) (grows u v p.rep)
        (subst (λ (w : ℕ). v ≤ rnd w 1) (add_comm v u) (grows v u q.rep)))
        (λ l. same ∙ sign l)
      where
        positive : (r : ℕ) → u ≤ r → v ≤ r → 0 < r
        positive r h k = omega (arith, some)

-- ---- the clamp leaves the product as it is
pub fraction_unheld : (t a b : Float) → T (fits binary32 t) → T (finite t) → T (le zero32 t) → T (fits binary32 a)
    → T (fits binary32 b) → T (finite a) → opposite a b ≡ true → both_zero a b ≡ false
    → clamp (fraction a b ⊗ t) zero32 t ≡ fraction a b ⊗ t
fraction_unheld t a b d k l f g h o z =
    part_stands (fraction a b) t (div-fits binary32 _ _) d k l (fraction_in_range a b f g h o z)
