-- The zeros of either sign: what rounds to one, and what a sum with one is. Assumes nothing.
use mathlib.Core.Path.{◌≡◌, sym, ap, ◌∙◌, subst}
use Prim.Native.Nat.{ℕ, ◌+◌, ◌-◌, ◌<◌}
use native.Mathlib.Nat.{zero-mul}
use native.Mathlib.Omega.{arith}
use mathlib.Core.Bool.{Bool, true, false, not, ◌&&◌, beq, cond}
use lib.Dec.{T, not_T, ltb, lt→ltb, ltb→lt, lit<}
use lib.IntN.{pos}
use lib.Ieee.{Float, fin, binary32, round, sum, eq, of_bits}
use lib.Ieee.Scale.{round_same}
use Rattle.number.specs.Number.{zero32}

pub data Zero : Float → Type 0 where
  zero_of : {s : Bool} → Zero (fin s 0 (pos 0))

-- by the test
pub zero_eq : (x : Float) → Zero x → T (eq x zero32)
unfolding eq of_bits
zero_eq x (zero_of {s = true}) = tt
zero_eq x (zero_of {s = false}) = tt

-- a fraction of 0 rounds to a zero
pub round_none : (s : Bool) (a c : ℕ) → a ≡ 0 → 0 < c → Zero (round binary32 s a c)
unfolding round
round_none s a c z C =
    let e : round binary32 s 0 c ≡ fin s 0 (pos 0) = round_same binary32 s 0 c 0 1 C (lit< tt) (sym (zero-mul c)) in
    subst Zero (sym (ap (λ (x : ℕ). round binary32 s x c) z ∙ e)) zero_of

-- ---- the sum ±a / c + ±b / c, where a or b is 0: `sum` with the answers of its two tests
abbrev pub by_tests : Bool → ℕ → Bool → ℕ → ℕ → Bool → Bool → Float
by_tests s a t b c less more =
    cond (beq s t) (round binary32 s (a + b) c)
    (cond less (round binary32 t (b - a) c) (round binary32 (s && more) (a - b) c))

pub sum_first : (s : Bool) (a : ℕ) (t : Bool) (b c : ℕ) → b ≡ 0 → 0 < a
    → sum binary32 s a t b c ≡ round binary32 s a c
unfolding sum
sum_first s a t b c z p = go s t (ltb a b) (ltb b a) (not_T (ltb a b) (λ h. none (ltb→lt a b h))) (lt→ltb b a some)
  where
    none : a < b → ⊥
    none h = omega arith

    some : b < a
    some = omega arith

    go : (s t less more : Bool) → T (not less) → T more → by_tests s a t b c less more ≡ round binary32 s a c
    go false false less more f g = ap (λ (x : ℕ). round binary32 false x c) (omega arith)
    go true true less more f g = ap (λ (x : ℕ). round binary32 true x c) (omega arith)
    go false true false false f g = elim g [ ]
    go false true true more f g = elim f [ ]
    go true false false false f g = elim g [ ]
    go true false true more f g = elim f [ ]
    go false true false true f g = ap (λ (x : ℕ). round binary32 false x c) (omega arith)
    go true false false true f g = ap (λ (x : ℕ). round binary32 true x c) (omega arith)

pub sum_second : (s : Bool) (a : ℕ) (t : Bool) (b c : ℕ) → a ≡ 0 → 0 < b
    → sum binary32 s a t b c ≡ round binary32 t b c
unfolding sum
sum_second s a t b c z p = go s t (ltb a b) (lt→ltb a b some)
  where
    some : a < b
    some = omega arith

    go : (s t less : Bool) → T less → by_tests s a t b c less (ltb b a) ≡ round binary32 t b c
    go false false less g = ap (λ (x : ℕ). round binary32 false x c) (omega arith)
    go true true less g = ap (λ (x : ℕ). round binary32 true x c) (omega arith)
    go false true false g = elim g [ ]
    go true false false g = elim g [ ]
    go false true true g = ap (λ (x : ℕ). round binary32 true x c) (omega arith)
    go true false true g = ap (λ (x : ℕ). round binary32 false x c) (omega arith)

pub sum_none : (s : Bool) (a : ℕ) (t : Bool) (b c : ℕ) → a ≡ 0 → b ≡ 0 → 0 < c → Zero (sum binary32 s a t b c)
unfolding sum
sum_none s a t b c y z C = go s t (ltb a b) (ltb b a)
  where
    go : (s t less more : Bool) → Zero (by_tests s a t b c less more)
    go false false less more = round_none false (a + b) c (omega arith) C
    go true true less more = round_none true (a + b) c (omega arith) C
    go false true true more = round_none true (b - a) c (omega arith) C
    go true false true more = round_none false (b - a) c (omega arith) C
    go false true false more = round_none false (a - b) c (omega arith) C
    go true false false more = round_none more (a - b) c (omega arith) C
