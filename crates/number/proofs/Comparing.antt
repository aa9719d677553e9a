-- The order of f32 values: comparisons as tests and as facts, infinities and either zero included. Assumes nothing.
use mathlib.Core.Path.{◌≡◌, sym}
use mathlib.Core.Logic.{◌⊎◌, inl, inr}
use mathlib.Core.Bool.{Bool, true, false, not, ◌&&◌, ◌||◌}
use Prim.Native.Nat.{ℕ, ◌+◌, ◌*◌, ◌≤◌}
use native.Mathlib.Nat.{eq-or-lt_of_le, eq-zero-or-pos}
use native.Mathlib.Omega.{arith}
use lib.Dec.{T, T_not, ltb, eqb, lt→ltb, nltb→le, eqb→eq, eqb_refl}
use lib.IntN.{ℤ}
use lib.Ieee.{Float, inf, fin, up, down, lt, le, eq, is_nan, below, level, nan}
use lib.Ieee.Fits.{and_i, and_l, and_r, eq→eqb}

-- ---- tests joined
pub or_l : (a b : Bool) → T a → T (a || b)
or_l true b t = tt
or_l false b t = absurd t

pub or_r : (a b : Bool) → T b → T (a || b)
or_r true b t = tt
or_r false b t = t

pub or_cases : (a b : Bool) → T (a || b) → T a ⊎ T b
or_cases true b t = inl tt
or_cases false b t = inr t

-- the parts of a conjunction that holds
pub all_three : (a b c : Bool) → T (a && b && c) → T a × T b × T c
all_three a b c h = let ab = and_l (a && b) c h in (and_l a b ab, and_r a b ab, and_r (a && b) c h)

pub all_four : (a b c d : Bool) → T (a && b && c && d) → T a × T b × T c × T d
all_four a b c d h =
    let abc = all_three a b c (and_l (a && b && c) d h) in
    (abc.0, abc.1, abc.2, and_r (a && b && c) d h)

-- ---- of two values that are no NaN, one is not above the other
total_nat : (s t : Bool) (a b : ℕ) → T (not (below s a t b)) → T (below t b s a || level t b s a)
total_nat false false a b h = elim (eq-or-lt_of_le (nltb→le a b h)) [
  | inl e ↦ or_r (ltb b a) (eqb b a && true) (and_i (eqb b a) true (eq→eqb e) tt)
  | inr l ↦ or_l (ltb b a) (eqb b a && true) (lt→ltb b a l)
]
total_nat false true a b h = elim (eq-zero-or-pos (b + a)) [
  | inl z ↦ or_r (ltb 0 (b + a)) (eqb b a && eqb b 0)
      (and_i (eqb b a) (eqb b 0) (eq→eqb (same b a z)) (eq→eqb (first b a z)))
  | inr l ↦ or_l (ltb 0 (b + a)) (eqb b a && eqb b 0) (lt→ltb 0 (b + a) l)
]
  where
    same : (b a : ℕ) → b + a ≡ 0 → b ≡ a
    same b a z = omega arith

    first : (b a : ℕ) → b + a ≡ 0 → b ≡ 0
    first b a z = omega arith
total_nat true false a b h =
    let z : a + b ≤ 0 = nltb→le 0 (a + b) h in
    let p : b ≡ a = omega arith in
    let q : b ≡ 0 = omega arith in
    and_i (eqb b a) (eqb b 0) (eq→eqb p) (eq→eqb q)
total_nat true true a b h = elim (eq-or-lt_of_le (nltb→le b a h)) [
  | inl e ↦ or_r (ltb a b) (eqb b a && true) (and_i (eqb b a) true (eq→eqb (sym e)) tt)
  | inr l ↦ or_l (ltb a b) (eqb b a && true) (lt→ltb a b l)
]

pub not_lt_le : (x y : Float) → T (not (is_nan x)) → T (not (is_nan y)) → T (not (lt x y)) → T (le y x)
unfolding le is_nan
not_lt_le nan y p q h = elim p [ ]
not_lt_le (inf false) nan p q h = elim q [ ]
not_lt_le (inf true) nan p q h = elim q [ ]
not_lt_le (fin s m e) nan p q h = elim q [ ]
not_lt_le (inf true) (inf true) p q h = tt
not_lt_le (inf true) (inf false) p q h = absurd h
not_lt_le (inf false) (inf true) p q h = tt
not_lt_le (inf false) (inf false) p q h = tt
not_lt_le (inf true) (fin t n d) p q h = absurd h
not_lt_le (inf false) (fin t n d) p q h = tt
not_lt_le (fin s m e) (inf true) p q h = tt
not_lt_le (fin s m e) (inf false) p q h = absurd h
not_lt_le (fin s m e) (fin t n d) p q h = total_nat s t (m * up e * down d) (n * up d * down e) h

pub not_le_lt : (x y : Float) → T (not (is_nan x)) → T (not (is_nan y)) → T (not (le x y)) → T (lt y x)
not_le_lt x y p q h = go (lt y x) (not_lt_le y x q p)
  where
    go : (b : Bool) → (T (not b) → T (le x y)) → T b
    go true k = tt
    go false k = T_not (le x y) h (k tt)

-- ---- each is not above itself; below is not above
level_self : (s : Bool) (a : ℕ) → T (level s a s a)
level_self true a = and_i (eqb a a) true (eqb_refl a) tt
level_self false a = and_i (eqb a a) true (eqb_refl a) tt

pub le_self : (x : Float) → T (not (is_nan x)) → T (le x x)
unfolding le is_nan
le_self nan h = elim h [ ]
le_self (inf true) h = tt
le_self (inf false) h = tt
le_self (fin s m e) h =
    let a = m * up e * down e in
    or_r (below s a s a) (level s a s a) (level_self s a)

pub lt_le : (x y : Float) → T (lt x y) → T (le x y)
unfolding le
lt_le x y h = or_l (lt x y) (eq x y) h

-- a number of sign minus is not above one of sign plus
pub minus_plus : (m : ℕ) (e : ℤ) (n : ℕ) (d : ℤ) → T (le (fin true m e) (fin false n d))
unfolding lt is_nan
minus_plus m e n d = not_lt_le (fin false n d) (fin true m e) tt tt tt

-- with either sign changed the order is turned round
pub turned : (m : ℕ) (e : ℤ) (n : ℕ) (d : ℤ) → T (le (fin false m e) (fin false n d))
    → T (le (fin true n d) (fin true m e))
unfolding le
turned m e n d h = go (ltb a b) (eqb a b) (λ t. eq→eqb (sym (eqb→eq a b t))) h
  where
    a : ℕ
    a = m * up e * down d

    b : ℕ
    b = n * up d * down e

    go : (p q : Bool) → (T q → T (eqb b a)) → T (p || (q && true)) → T (p || (eqb b a && true))
    go true q f h = tt
    go false true f h = and_i (eqb b a) true (f tt) tt
    go false false f h = absurd h
