-- Alike: two floats that are equal, or are both zeros, of either sign (docs/01-scope.md, opening: zeros of either sign
-- count as equal). Every operation takes alike numbers to alike numbers, the quotient where the divisor is no zero,
-- and every comparison answers the same of them. Assumes nothing.
use mathlib.Core.Path.{◌≡◌, refl, sym, ap, ◌∙◌, subst}
use mathlib.Core.Logic.{inl, inr}
use Prim.Native.Nat.{ℕ, zero, suc, ◌+◌, ◌*◌, ◌<◌}
use native.Mathlib.Nat.{zero-mul, mul-zero, zero-add, add-zero, mul-pos, eq-zero-or-pos, zero-lt-suc}
use mathlib.Core.Bool.{Bool, true, false, not, ◌&&◌, ◌||◌, beq, cond, true≢false}
use lib.Dec.{T, ltb, eqb, lit<, leb-suc-zero, eqb-suc-zero}
use lib.Ieee.{Float, nan, inf, fin, binary32, up, down, unlike, of_bits, round, neg, sum, add, sub, mul, div, below}
use lib.Ieee.{level, lt, eq, le}
use lib.Ieee.Fits.{up_pos, down_pos}
use Rattle.number.specs.Number.{◌⊕◌, ◌⊖◌, ◌⊗◌, ◌⊘◌, zero32, clamp}
use Rattle.number.proofs.Units.{plus}
use Rattle.number.proofs.Zeros.{Zero, zero_of, round_none, sum_first, sum_second, sum_none}

pub data Alike : Float → Float → Type 0 where
  same : {x : Float} → Alike x x
  zeros : {x y : Float} → Zero x → Zero y → Alike x y

alike_trans : {x y z : Float} → Alike x y → Alike y z → Alike x z
alike_trans same h = h
alike_trans (zeros a b) same = zeros a b
alike_trans (zeros a b) (zeros c d) = zeros a d

pub alike_of : {x y : Float} → x ≡ y → Alike x y
alike_of {x} e = subst (Alike x) e same

-- alike and both of sign plus are equal
pub plus_same : {x y : Float} → Alike x y → T (plus x) → T (plus y) → x ≡ y
plus_same same p q = refl
plus_same (zeros (zero_of {s = false}) (zero_of {s = true})) p q = elim q [ ]
plus_same {y = y} (zeros (zero_of {s = true}) _) p q = elim p [ ]
plus_same (zeros (zero_of {s = false}) (zero_of {s = false})) p q = refl

-- ---- sums
sum_left : (s t r : Bool) (a b c : ℕ) → a ≡ 0 → 0 < c → Alike (sum binary32 s a r b c) (sum binary32 t a r b c)
sum_left s t r a b c z C = elim (eq-zero-or-pos b) [
  | inl y ↦ zeros (sum_none s a r b c z y C) (sum_none t a r b c z y C)
  | inr p ↦ alike_of (sum_second s a r b c z p ∙ sym (sum_second t a r b c z p))
]

sum_right : (s t r : Bool) (a b c : ℕ) → b ≡ 0 → 0 < c → Alike (sum binary32 r a s b c) (sum binary32 r a t b c)
sum_right s t r a b c z C = elim (eq-zero-or-pos a) [
  | inl y ↦ zeros (sum_none r a s b c y z C) (sum_none r a t b c y z C)
  | inr p ↦ alike_of (sum_first r a s b c z p ∙ sym (sum_first r a t b c z p))
]

add_left : {x y : Float} → Alike x y → (z : Float) → Alike (x ⊕ z) (y ⊕ z)
unfolding add
add_left same z = same
add_left (zeros zero_of zero_of) nan = same
add_left (zeros zero_of zero_of) (inf r) = same
add_left (zeros (zero_of {s = s}) (zero_of {s = t})) (fin r n d) =
    sum_left s t r (0 * down d) (n * up d * 1) (1 * down d) (zero-mul (down d)) (mul-pos (lit< tt) (down_pos d))

add_right : {x y : Float} → Alike x y → (z : Float) → Alike (z ⊕ x) (z ⊕ y)
unfolding add
add_right same z = same
add_right (zeros zero_of zero_of) nan = same
add_right (zeros zero_of zero_of) (inf r) = same
add_right (zeros (zero_of {s = s}) (zero_of {s = t})) (fin r n d) =
    sum_right s t r (n * up d * 1) (0 * down d) (down d * 1) (zero-mul (down d)) (mul-pos (down_pos d) (lit< tt))

pub add_alike : {x x' y y' : Float} → Alike x x' → Alike y y' → Alike (x ⊕ y) (x' ⊕ y')
add_alike {x' = x'} {y = y} p q = alike_trans (add_left p y) (add_right q x')

neg_alike : {x y : Float} → Alike x y → Alike (neg x) (neg y)
unfolding neg
neg_alike same = same
neg_alike (zeros zero_of zero_of) = zeros zero_of zero_of

pub sub_alike : {x x' y y' : Float} → Alike x x' → Alike y y' → Alike (x ⊖ y) (x' ⊖ y')
unfolding sub
sub_alike p q = add_alike p (neg_alike q)

-- ---- products
mul_left : {x y : Float} → Alike x y → (z : Float) → Alike (x ⊗ z) (y ⊗ z)
unfolding mul
mul_left same z = same
mul_left (zeros zero_of zero_of) nan = same
mul_left (zeros zero_of zero_of) (inf r) = same
mul_left (zeros (zero_of {s = s}) (zero_of {s = t})) (fin r n d) = zeros (none s) (none t)
  where
    none : (s : Bool) → Zero (round binary32 (unlike s r) (0 * (n * up d)) (1 * down d))
    none s =
        round_none (unlike s r) (0 * (n * up d)) (1 * down d) (zero-mul (n * up d)) (mul-pos (lit< tt) (down_pos d))

mul_right : {x y : Float} → Alike x y → (z : Float) → Alike (z ⊗ x) (z ⊗ y)
unfolding mul
mul_right same z = same
mul_right (zeros zero_of zero_of) nan = same
mul_right (zeros zero_of zero_of) (inf r) = same
mul_right (zeros (zero_of {s = s}) (zero_of {s = t})) (fin r n d) = zeros (none s) (none t)
  where
    none : (s : Bool) → Zero (round binary32 (unlike r s) (n * up d * 0) (down d * 1))
    none s =
        round_none (unlike r s) (n * up d * 0) (down d * 1) (mul-zero (n * up d)) (mul-pos (down_pos d) (lit< tt))

pub mul_alike : {x x' y y' : Float} → Alike x x' → Alike y y' → Alike (x ⊗ y) (x' ⊗ y')
mul_alike {x' = x'} {y = y} p q = alike_trans (mul_left p y) (mul_right q x')

-- ---- quotients, by what is no zero
div_left : {x y : Float} → Alike x y → (z : Float) → Alike (x ⊘ z) (y ⊘ z)
unfolding div
div_left same z = same
div_left (zeros zero_of zero_of) nan = same
div_left (zeros zero_of zero_of) (inf r) = zeros zero_of zero_of
div_left (zeros zero_of zero_of) (fin r zero d) = same
div_left (zeros (zero_of {s = s}) (zero_of {s = t})) (fin r (suc n) d) = rw (eqb-suc-zero n) (zeros (none s) (none t))
  where
    none : (s : Bool) → Zero (round binary32 (unlike s r) (0 * down d) (suc n * up d * 1))
    none s =
        round_none (unlike s r) (0 * down d) (suc n * up d * 1) (zero-mul (down d))
        (mul-pos (mul-pos (zero-lt-suc n) (up_pos d)) (lit< tt))

pub div_alike : {x x' y y' : Float} → Alike x x' → Alike y y' → (Zero y → ⊥) → Alike (x ⊘ y) (x' ⊘ y')
div_alike {y = y} p same f = div_left p y
div_alike p (zeros a b) f = absurd (f a)

pub no_zero_eq : {x : Float} → eq x zero32 ≡ false → Zero x → ⊥
unfolding eq of_bits
no_zero_eq h (zero_of {s = true}) = true≢false h
no_zero_eq h (zero_of {s = false}) = true≢false h

pub no_zero_lt : {x : Float} → lt zero32 x ≡ true → Zero x → ⊥
unfolding lt of_bits
no_zero_lt h (zero_of {s = true}) = true≢false (sym h)
no_zero_lt h (zero_of {s = false}) = true≢false (sym h)

-- ---- the comparisons: with a zero, a test sees the other number alone
below_first : (s t : Bool) (a b : ℕ) → a ≡ 0 → below s a t b ≡ (not t && ltb 0 b)
below_first false false a b z = ap (λ (x : ℕ). ltb x b) z
below_first false true a b z = refl
below_first true false a b z = ap (λ (x : ℕ). ltb 0 (x + b)) z ∙ ap (ltb 0) (zero-add b)
below_first true true a b z = ap (ltb b) z ∙ leb-suc-zero b

below_second : (s t : Bool) (a b : ℕ) → b ≡ 0 → below s a t b ≡ (s && ltb 0 a)
below_second false false a b z = ap (ltb a) z ∙ leb-suc-zero a
below_second false true a b z = refl
below_second true false a b z = ap (λ (x : ℕ). ltb 0 (a + x)) z ∙ ap (ltb 0) (add-zero a)
below_second true true a b z = ap (λ (x : ℕ). ltb x a) z

level_first : (s t : Bool) (a b : ℕ) → a ≡ 0 → level s a t b ≡ eqb 0 b
level_first s t a b z = ap (λ (x : ℕ). level s x t b) z ∙ go (eqb 0 b) (beq s t)
  where
    go : (p q : Bool) → (p && (q || true)) ≡ p
    go true true = refl
    go true false = refl
    go false q = refl

level_second : (s t : Bool) (a b : ℕ) → b ≡ 0 → level s a t b ≡ eqb a 0
level_second s t a b z = ap (λ (x : ℕ). level s a t x) z ∙ go (eqb a 0) (beq s t)
  where
    go : (p q : Bool) → (p && (q || p)) ≡ p
    go true true = refl
    go true false = refl
    go false q = refl

lt_left : {x y : Float} → Alike x y → (z : Float) → lt x z ≡ lt y z
unfolding lt
lt_left same z = refl
lt_left (zeros zero_of zero_of) nan = refl
lt_left (zeros zero_of zero_of) (inf r) = refl
lt_left (zeros (zero_of {s = s}) (zero_of {s = t})) (fin r n d) =
    let a = 0 * down d in
    let b = n * up d * 1 in
    below_first s r a b (zero-mul (down d)) ∙ sym (below_first t r a b (zero-mul (down d)))

lt_right : {x y : Float} → Alike x y → (z : Float) → lt z x ≡ lt z y
unfolding lt
lt_right same z = refl
lt_right (zeros zero_of zero_of) nan = refl
lt_right (zeros zero_of zero_of) (inf r) = refl
lt_right (zeros (zero_of {s = s}) (zero_of {s = t})) (fin r n d) =
    let a = n * up d * 1 in
    let b = 0 * down d in
    below_second r s a b (zero-mul (down d)) ∙ sym (below_second r t a b (zero-mul (down d)))

pub lt_alike : {x x' y y' : Float} → Alike x x' → Alike y y' → lt x y ≡ lt x' y'
lt_alike {x' = x'} {y = y} p q = lt_left p y ∙ lt_right q x'

eq_left : {x y : Float} → Alike x y → (z : Float) → eq x z ≡ eq y z
unfolding eq
eq_left same z = refl
eq_left (zeros zero_of zero_of) nan = refl
eq_left (zeros zero_of zero_of) (inf r) = refl
eq_left (zeros (zero_of {s = s}) (zero_of {s = t})) (fin r n d) =
    let a = 0 * down d in
    let b = n * up d * 1 in
    level_first s r a b (zero-mul (down d)) ∙ sym (level_first t r a b (zero-mul (down d)))

eq_right : {x y : Float} → Alike x y → (z : Float) → eq z x ≡ eq z y
unfolding eq
eq_right same z = refl
eq_right (zeros zero_of zero_of) nan = refl
eq_right (zeros zero_of zero_of) (inf r) = refl
eq_right (zeros (zero_of {s = s}) (zero_of {s = t})) (fin r n d) =
    let a = n * up d * 1 in
    let b = 0 * down d in
    level_second r s a b (zero-mul (down d)) ∙ sym (level_second r t a b (zero-mul (down d)))

pub eq_alike : {x x' y y' : Float} → Alike x x' → Alike y y' → eq x y ≡ eq x' y'
eq_alike {x' = x'} {y = y} p q = eq_left p y ∙ eq_right q x'

pub le_alike : {x x' y y' : Float} → Alike x x' → Alike y y' → le x y ≡ le x' y'
unfolding le
le_alike {x} {x'} {y} {y'} p q =
    ap (λ (b : Bool). b || eq x y) (lt_alike p q) ∙ ap (λ (b : Bool). lt x' y' || b) (eq_alike p q)

-- ---- choices: by equal tests, of which only the branch taken need be alike
pub cond_alike : {b b' : Bool} {x x' y y' : Float} → b ≡ b' → (b ≡ true → Alike x x') → (b ≡ false → Alike y y')
    → Alike (cond b x y) (cond b' x' y')
cond_alike {b = true} e f g = rw (← e) (f refl)
cond_alike {b = false} e f g = rw (← e) (g refl)

pub clamp_alike : {x x' low low' high high' : Float} → Alike x x' → Alike low low' → Alike high high'
    → Alike (clamp x low high) (clamp x' low' high')
unfolding clamp
clamp_alike p l h = cond_alike (lt_alike p l) (λ t. l) (λ t. cond_alike (lt_alike h p) (λ u. h) (λ u. p))
