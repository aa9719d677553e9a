-- The order of f32 values, infinities, either zero and NaN included: it is transitive, and nothing is below itself.
-- Assumes nothing.
use mathlib.Core.Path.{◌≡◌, sym, ap, ◌∙◌}
use mathlib.Core.Logic.{inl, inr}
use mathlib.Core.Bool.{Bool, true, false, not, ◌||◌}
use Prim.Native.Nat.{ℕ, ◌+◌, ◌*◌, ◌≤◌, ◌<◌}
use native.Mathlib.Nat.{le_trans, le_of_eq, lt_of_le_of_lt, lt_of_lt_of_le, lt_irrefl, eq-zero-or-pos, zero-mul}
use native.Mathlib.Nat.{mul_right_comm, mul-pos, mul-le-mul_right, mul-lt-mul_of_pos_right, lt_of_mul-lt-mul_right}
use native.Mathlib.Omega.{arith}
use lib.Dec.{T, eqb, ltb→lt, lt→ltb, eqb→eq, not_T}
use lib.Ieee.{Float, nan, inf, fin, up, down, lt, le, below, level}
use lib.Ieee.Fits.{down_pos, and_l, and_r}
use Rattle.number.proofs.Signs.{le_of_tests}
use Rattle.number.proofs.Comparing.{lt_le as lt-le-float, not_lt_le, not_le_lt}
use Rattle.number.proofs.NoNan.{no_nan_lt, no_nan_le}

-- ---- fractions X / p, Y / q, Z / k
module _ (X p Y q Z k : ℕ) where
  le_lt : 0 < p → X * q ≤ Y * p → Y * k < Z * q → X * k < Z * p
  le_lt P h l =
      lt_of_mul-lt-mul_right q
      (lt_of_le_of_lt (le_of_eq (mul_right_comm X k q)) (lt_of_le_of_lt (mul-le-mul_right k h)
      (lt_of_lt_of_le (lt_of_le_of_lt (le_of_eq (mul_right_comm Y p k)) (mul-lt-mul_of_pos_right l P))
      (le_of_eq (mul_right_comm Z q p)))))

  lt_le : 0 < k → X * q < Y * p → Y * k ≤ Z * q → X * k < Z * p
  lt_le K l h =
      lt_of_mul-lt-mul_right q
      (lt_of_le_of_lt (le_of_eq (mul_right_comm X k q)) (lt_of_lt_of_le (mul-lt-mul_of_pos_right l K)
      (le_trans (le_of_eq (mul_right_comm Y p k))
      (le_trans (mul-le-mul_right p h) (le_of_eq (mul_right_comm Z q p))))))

-- ---- numerators that are zero, or not, over one denominator or another
no_pos : (n : ℕ) → 0 < n → n ≡ 0 → ⊥
no_pos n l e = omega arith

same_pos : (a b c : ℕ) → 0 < c → 0 < a * b → 0 < a * c
same_pos a b c C h = elim (eq-zero-or-pos a) [
  | inl z ↦ absurd (no_pos (a * b) h (ap (λ (x : ℕ). x * b) z ∙ zero-mul b))
  | inr l ↦ mul-pos l C
]

same_none : (a b c : ℕ) → 0 < b → a * b ≡ 0 → a * c ≡ 0
same_none a b c B h = elim (eq-zero-or-pos a) [
  | inl z ↦ ap (λ (x : ℕ). x * c) z ∙ zero-mul c
  | inr l ↦ absurd (no_pos (a * b) (mul-pos l B) h)
]

left_pos : (a b : ℕ) → 0 < a → 0 < a + b
left_pos a b h = omega arith

right_pos : (a b : ℕ) → 0 < b → 0 < a + b
right_pos a b h = omega arith

rest_pos : (a b : ℕ) → a ≡ 0 → 0 < a + b → 0 < b
rest_pos a b e h = omega arith

above_pos : (a b : ℕ) → a < b → 0 < b
above_pos a b h = omega arith

none_below : (a b : ℕ) → a ≡ 0 → 0 < b → a < b
none_below a b e h = omega arith

-- ---- what `le` says of two finite values, by their signs
Says : Bool → ℕ → Bool → ℕ → Type 0
Says false a false b = a ≤ b
Says false a true b = (a ≡ 0) × (b ≡ 0)
Says true a false b = Unit
Says true a true b = b ≤ a

le_says : (s t : Bool) (a b : ℕ) → T (below s a t b || level s a t b) → Says s a t b
unfolding Says
le_says false false a b h = le_of_tests a b (eqb a b) (eqb→eq a b) h
le_says false true a b h =
    let z : a ≡ 0 = eqb→eq a 0 (and_r (eqb a b) (eqb a 0) h) in
    (z, sym (eqb→eq a b (and_l (eqb a b) (eqb a 0) h)) ∙ z)
le_says true false a b h = tt
le_says true true a b h = le_of_tests b a (eqb a b) (λ e. sym (eqb→eq a b e)) h

-- X / p not above Y / q, which is below Z / k, with the signs s, t and r
module _ (X p Y q Z k : ℕ) (P : 0 < p) (Q : 0 < q) (K : 0 < k) where
  says_below : (s t r : Bool) → Says s (X * q) t (Y * p) → T (below t (Y * k) r (Z * q))
      → T (below s (X * k) r (Z * p))
  unfolding Says
  says_below false false false h l = lt→ltb (X * k) (Z * p) (le_lt X p Y q Z k P h (ltb→lt (Y * k) (Z * q) l))
  says_below false false true h l = absurd l
  says_below false true false h l =
      let none : Y * k ≡ 0 = same_none Y p k P h.1 in
      lt→ltb (X * k) (Z * p) (none_below (X * k) (Z * p) (same_none X q k Q h.0)
      (same_pos Z q p P (rest_pos (Y * k) (Z * q) none (ltb→lt 0 (Y * k + Z * q) l))))
  says_below false true true h l =
      no_pos (Y * k) (above_pos (Z * q) (Y * k) (ltb→lt (Z * q) (Y * k) l)) (same_none Y p k P h.1)
  says_below true false false h l =
      lt→ltb 0 (X * k + Z * p)
      (right_pos (X * k) (Z * p) (same_pos Z q p P (above_pos (Y * k) (Z * q) (ltb→lt (Y * k) (Z * q) l))))
  says_below true false true h l = absurd l
  says_below true true false h l = lt→ltb 0 (X * k + Z * p) (elim (eq-zero-or-pos (Y * k)) [
    | inl none ↦ right_pos (X * k) (Z * p)
        (same_pos Z q p P (rest_pos (Y * k) (Z * q) none (ltb→lt 0 (Y * k + Z * q) l)))
    | inr some ↦ left_pos (X * k) (Z * p) (same_pos X q k K (lt_of_lt_of_le (same_pos Y k p P some) h))
  ])
  says_below true true true h l = lt→ltb (Z * p) (X * k) (lt_le Z k Y q X p P (ltb→lt (Z * q) (Y * k) l) h)

-- ---- the order is transitive
pub le_lt_trans : (x y z : Float) → T (le x y) → T (lt y z) → T (lt x z)
unfolding le
le_lt_trans nan y z h l = absurd h
le_lt_trans (inf s) nan z h l = absurd h
le_lt_trans (inf s) (inf t) nan h l = absurd l
le_lt_trans (inf true) (inf t) (inf r) h l = and_r t (not r) l
le_lt_trans (inf false) (inf true) (inf r) h l = absurd h
le_lt_trans (inf false) (inf false) (inf r) h l = absurd l
le_lt_trans (inf true) (inf t) (fin r k c) h l = tt
le_lt_trans (inf false) (inf true) (fin r k c) h l = absurd h
le_lt_trans (inf false) (inf false) (fin r k c) h l = absurd l
le_lt_trans (inf s) (fin t n d) nan h l = absurd l
le_lt_trans (inf true) (fin t n d) (inf r) h l = l
le_lt_trans (inf false) (fin t n d) (inf r) h l = absurd h
le_lt_trans (inf true) (fin t n d) (fin r k c) h l = tt
le_lt_trans (inf false) (fin t n d) (fin r k c) h l = absurd h
le_lt_trans (fin s m e) nan z h l = absurd h
le_lt_trans (fin s m e) (inf t) nan h l = absurd l
le_lt_trans (fin s m e) (inf true) (inf r) h l = absurd h
le_lt_trans (fin s m e) (inf false) (inf r) h l = absurd l
le_lt_trans (fin s m e) (inf true) (fin r k c) h l = absurd h
le_lt_trans (fin s m e) (inf false) (fin r k c) h l = absurd l
le_lt_trans (fin s m e) (fin t n d) nan h l = absurd l
le_lt_trans (fin s m e) (fin t n d) (inf r) h l = l
le_lt_trans (fin s m e) (fin t n d) (fin r k c) h l =
    says_below (m * up e) (down e) (n * up d) (down d) (k * up c) (down c) (down_pos e) (down_pos d) (down_pos c) s t r
    (le_says s t (m * up e * down d) (n * up d * down e) h) l

pub lt_trans : (x y z : Float) → T (lt x y) → T (lt y z) → T (lt x z)
lt_trans x y z h l = le_lt_trans x y z (lt-le-float x y h) l

-- ---- nothing is below itself
pub lt_self : (x : Float) → T (lt x x) → ⊥
unfolding lt
lt_self nan h = h
lt_self (inf true) h = h
lt_self (inf false) h = h
lt_self (fin false m e) h = lt_irrefl (m * up e * down e) (ltb→lt (m * up e * down e) (m * up e * down e) h)
lt_self (fin true m e) h = lt_irrefl (m * up e * down e) (ltb→lt (m * up e * down e) (m * up e * down e) h)

-- of two values, not both tests hold
pub lt_not_le : (x y : Float) → T (lt x y) → T (le y x) → ⊥
lt_not_le x y h l = lt_self y (le_lt_trans y x y l h)

-- so what is not above is transitive, too, and goes on from what is below
pub le_le_trans : (x y z : Float) → T (le x y) → T (le y z) → T (le x z)
le_le_trans x y z h l =
    not_lt_le z x (no_nan_le y z l).1 (no_nan_le x y h).0
    (not_T (lt z x) (λ k. lt_not_le y x (le_lt_trans y z x l k) h))

pub lt_le_trans : (x y z : Float) → T (lt x y) → T (le y z) → T (lt x z)
lt_le_trans x y z h l =
    not_le_lt z x (no_nan_le y z l).1 (no_nan_lt x y h).0
    (not_T (le z x) (λ k. lt_not_le x y h (le_le_trans y z x l k)))
