-- A root as it is answered, with a zero written plus zero, is a number where the root is, and two roots keep their
-- order. Assumes nothing.
use Prim.Native.Nat.{ℕ, ◌+◌, ◌*◌, ◌≤◌, ◌<◌}
use native.Mathlib.Nat.{le_of_eq, le_of_lt, mul-pos, eq-zero-or-pos}
use native.Mathlib.Omega.{arith}
use mathlib.Core.Path.{◌≡◌, refl, sym}
use mathlib.Core.Logic.{inl, inr}
use mathlib.Core.Bool.{Bool, true, false, not, cond, ◌&&◌, ◌||◌}
use lib.Dec.{T, ltb, eqb, ltb→lt, lt→ltb, eqb→eq}
use lib.Ieee.{Float, inf, fin, up, down, lt, le, eq, is_nan, of_bits, nan}
use lib.Ieee.Fits.{up_pos, down_pos, and_l}
use Rattle.std.proofs.lemmas.Float.{T_from_true}
use Rattle.number.specs.Number.{zero32, written}
use Rattle.number.proofs.Units.{none_of}
use Rattle.number.proofs.Units.Compared.{no_size}
use Rattle.number.proofs.Comparing.{or_l, le_self}
use Rattle.number.proofs.Signs.{plus_up}
use Rattle.polynomial_root.proofs.Orders.{tested}
use Rattle.polynomial_root.proofs.Zeros.{eq_zero, zero_high, zero_low}

zero_number : T (not (is_nan zero32))
unfolding is_nan of_bits
zero_number = tt

pub written_number : (r : Float) → T (not (is_nan r)) → T (not (is_nan (written r)))
unfolding written
written_number r h = go (eq r zero32)
  where
    go : (b : Bool) → T (not (is_nan (cond b zero32 r)))
    go true = zero_number
    go false = h

-- ---- what is not above, or not below, a zero of either sign
turned : (b a : ℕ) → T (ltb b a || (eqb a b && true)) → b ≤ a
turned b a h = go (ltb b a) (eqb a b) (ltb→lt b a) (eqb→eq a b) h
  where
    go : (p q : Bool) → (T p → b < a) → (T q → a ≡ b) → T (p || (q && true)) → b ≤ a
    go true q f g h = le_of_lt (f tt)
    go false true f g h = le_of_eq (sym (g tt))
    go false false f g h = absurd h

-- of two sizes A ≤ B, or equal ones, that are over one bottom, the first is zero where the second is
gone : (n u v a : ℕ) → 0 < u → 0 < v → n * u * v ≤ a → a ≡ 0 → n ≡ 0
gone n u v a p q l z = none_of n u v p q (omega arith)

zero_up : (a b : Float) → T (eq a zero32) → T (le a b) → T (le zero32 b)
unfolding le lt eq of_bits
zero_up nan b z h = elim z [ ]
zero_up (inf _) b z h = elim z [ ]
zero_up (fin s m e) nan z h = elim h [ ]
zero_up (fin s m e) (inf true) z h = elim h [ ]
zero_up (fin s m e) (inf false) z h = tt
zero_up (fin s m e) (fin false n d) z h = plus_up (fin false n d) tt
zero_up (fin false m e) (fin true n d) z h =
    let A = m * up e * down d in
    let B = n * up d * down e in
    zero_high true n d
    (gone n (up d) (down e) A (up_pos d) (down_pos e) (le_of_eq (sym (eqb→eq A B (and_l (eqb A B) (eqb A 0) h))))
    (no_size m (up e) (down d) (eq_zero false m e z)))
zero_up (fin true m e) (fin true n d) z h =
    let A = m * up e * down d in
    let B = n * up d * down e in
    zero_high true n d
    (gone n (up d) (down e) A (up_pos d) (down_pos e) (turned B A h) (no_size m (up e) (down d) (eq_zero true m e z)))

zero_down : (a b : Float) → T (eq b zero32) → T (le a b) → T (le a zero32)
unfolding le lt eq of_bits
zero_down nan b z h = elim h [ ]
zero_down (inf false) nan z h = elim z [ ]
zero_down (inf false) (inf _) z h = elim z [ ]
zero_down (inf true) nan z h = elim z [ ]
zero_down (inf true) (inf _) z h = elim z [ ]
zero_down (fin false m e) nan z h = elim z [ ]
zero_down (fin false m e) (inf _) z h = elim z [ ]
zero_down (fin true m e) nan z h = elim z [ ]
zero_down (fin true m e) (inf _) z h = elim z [ ]
zero_down (inf true) (fin t n d) z h = tt
zero_down (inf false) (fin t n d) z h = absurd h
zero_down (fin true m e) (fin t n d) z h = elim (eq-zero-or-pos m) [
  | inl y ↦ zero_low true m e y
  | inr l ↦
      or_l (ltb 0 (m * up e * 1 + 0 * down e)) (eqb (m * up e * 1) (0 * down e) && eqb (m * up e * 1) 0)
      (lt→ltb 0 (m * up e * 1 + 0 * down e) (more (m * up e) (down e) (mul-pos l (up_pos e))))
]
  where
    more : (a b : ℕ) → 0 < a → 0 < a * 1 + 0 * b
    more a b l = omega arith
zero_down (fin false m e) (fin false n d) z h =
    let A = m * up e * down d in
    let B = n * up d * down e in
    zero_low false m e
    (gone m (up e) (down d) B (up_pos e) (down_pos d) (tested A B h)
    (no_size n (up d) (down e) (eq_zero false n d z)))
zero_down (fin false m e) (fin true n d) z h =
    let A = m * up e * down d in
    let B = n * up d * down e in
    zero_low false m e
    (gone m (up e) (down d) B (up_pos e) (down_pos d) (le_of_eq (eqb→eq A B (and_l (eqb A B) (eqb A 0) h)))
    (no_size n (up d) (down e) (eq_zero true n d z)))

pub written_order : (a b : Float) → T (le a b) → T (le (written a) (written b))
unfolding written
written_order a b h = go (eq a zero32) (eq b zero32) refl refl
  where
    go : (p q : Bool) → eq a zero32 ≡ p → eq b zero32 ≡ q → T (le (cond p zero32 a) (cond q zero32 b))
    go true true i j = le_self zero32 zero_number
    go true false i j = zero_up a b (T_from_true _ i) h
    go false true i j = zero_down a b (T_from_true _ j) h
    go false false i j = h
