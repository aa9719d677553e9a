-- Sums and differences turned round, of every two floats, NaN and infinities included: a sum is the same in either
-- order, a difference changes its sign alone, so its square is the same. Assumes nothing.
use mathlib.Core.Path.{◌≡◌, refl, sym, ap, ◌∙◌}
use Prim.Native.Nat.{ℕ, zero, suc, ◌+◌, ◌-◌, ◌*◌, ◌^◌, ◌≤◌, ◌<◌}
use native.Mathlib.Nat.{mul_comm, add_comm}
use native.Mathlib.Omega.{arith}
use mathlib.Core.Bool.{Bool, true, false, not, cond}
use lib.Dec.{T, ltb, ltb→lt, nltb→le}
use lib.Ieee.{Float, nan, inf, fin, binary32, up, down, round, units, odd, neg, sum, add, sub, mul}
use lib.Ieee.Order.{drop, kept}
use lib.Ieee.Fits.{round_is}
use Rattle.number.specs.Number.{◌⊕◌, ◌⊖◌, ◌⊗◌, size}
use Rattle.number.proofs.Units.{L}
use Rattle.number.proofs.Zeros.{by_tests}

-- ---- the size of what is rounded is rounded with the sign plus
odd_size : (d : ℕ) (s : Bool) (q k l : ℕ) → size (odd d s q k l) ≡ odd d false q k l
unfolding odd size
odd_size d s zero k l = refl
odd_size d s (suc q) k l = refl

units_size : (s : Bool) (q k : ℕ) → size (units binary32 s q k) ≡ units binary32 false q k
unfolding units size
units_size s q k = go (ltb (q * 2 ^ k) (2 ^ 277))
  where
    go : (b : Bool) → size (cond b (odd 25 s q k 149) (inf s)) ≡ cond b (odd 25 false q k 149) (inf false)
    go true = odd_size 25 s q k 149
    go false = refl

round_size : (s : Bool) (a c : ℕ) → size (round binary32 s a c) ≡ round binary32 false a c
round_size s a c =
    ap size (round_is binary32 s a c) ∙ units_size s (kept 24 (a * L) c) (drop 24 (a * L) c)
    ∙ sym (round_is binary32 false a c)

-- ---- a sum in either order
sum_unlike : (a b c : ℕ) → sum binary32 true a false b c ≡ sum binary32 false b true a c
unfolding sum
sum_unlike a b c = go (ltb a b) (ltb b a) (ltb→lt a b) (nltb→le a b) (ltb→lt b a) (nltb→le b a)
  where
    go : (less more : Bool) → (T less → a < b) → (T (not less) → b ≤ a) → (T more → b < a) → (T (not more) → a ≤ b)
        → by_tests true a false b c less more ≡ by_tests false b true a c more less
    go true true f g h k = absurd (both (f tt) (h tt))
      where
        both : a < b → b < a → ⊥
        both l m = omega arith
    go true false f g h k = refl
    go false true f g h k = refl
    go false false f g h k = ap (λ (x : ℕ). round binary32 false x c) (none (g tt) (k tt))
      where
        none : b ≤ a → a ≤ b → a - b ≡ b - a
        none l m = omega arith

sum_turned : (s : Bool) (a : ℕ) (t : Bool) (b c : ℕ) → sum binary32 s a t b c ≡ sum binary32 t b s a c
unfolding sum
sum_turned true a true b c = ap (λ (x : ℕ). round binary32 true x c) (add_comm a b)
sum_turned false a false b c = ap (λ (x : ℕ). round binary32 false x c) (add_comm a b)
sum_turned true a false b c = sum_unlike a b c
sum_turned false a true b c = sym (sum_unlike b a c)

pub add_turned : (x y : Float) → x ⊕ y ≡ y ⊕ x
unfolding add
add_turned nan nan = refl
add_turned nan (inf t) = refl
add_turned nan (fin t n d) = refl
add_turned (inf s) nan = refl
add_turned (inf true) (inf true) = refl
add_turned (inf true) (inf false) = refl
add_turned (inf false) (inf true) = refl
add_turned (inf false) (inf false) = refl
add_turned (inf s) (fin t n d) = refl
add_turned (fin s m e) nan = refl
add_turned (fin s m e) (inf t) = refl
add_turned (fin s m e) (fin t n d) =
    sum_turned s (m * up e * down d) t (n * up d * down e) (down e * down d)
    ∙ ap (sum binary32 t (n * up d * down e) s (m * up e * down d)) (mul_comm (down e) (down d))

-- ---- a sum of both opposites has the same size
sum_opposite : (s : Bool) (a : ℕ) (t : Bool) (b c : ℕ)
    → size (sum binary32 (not s) a (not t) b c) ≡ size (sum binary32 s a t b c)
unfolding sum
sum_opposite s a t b c = go s t (ltb a b) (ltb b a)
  where
    same : (s t : Bool) (x : ℕ) → size (round binary32 s x c) ≡ size (round binary32 t x c)
    same s t x = round_size s x c ∙ sym (round_size t x c)

    go : (s t p q : Bool)
        → size (by_tests (not s) a (not t) b c p q) ≡ size (by_tests s a t b c p q)
    go true true p q = same false true (a + b)
    go false false p q = same true false (a + b)
    go true false true q = same true false (b - a)
    go true false false q = same false q (a - b)
    go false true true q = same false true (b - a)
    go false true false q = same q false (a - b)

add_opposite : (x y : Float) → size (neg x ⊕ neg y) ≡ size (x ⊕ y)
unfolding add neg size
add_opposite nan y = refl
add_opposite (inf s) nan = refl
add_opposite (inf true) (inf true) = refl
add_opposite (inf true) (inf false) = refl
add_opposite (inf false) (inf true) = refl
add_opposite (inf false) (inf false) = refl
add_opposite (inf s) (fin t n d) = refl
add_opposite (fin s m e) nan = refl
add_opposite (fin s m e) (inf t) = refl
add_opposite (fin s m e) (fin t n d) = sum_opposite s (m * up e * down d) t (n * up d * down e) (down e * down d)

pub neg_neg : (x : Float) → neg (neg x) ≡ x
unfolding neg
neg_neg nan = refl
neg_neg (inf true) = refl
neg_neg (inf false) = refl
neg_neg (fin true m e) = refl
neg_neg (fin false m e) = refl

-- ---- differences
-- of the opposites: the difference turned round
pub sub_opposite : (x y : Float) → neg x ⊖ neg y ≡ y ⊖ x
unfolding sub
sub_opposite x y = ap (λ (z : Float). neg x ⊕ z) (neg_neg y) ∙ add_turned (neg x) y

sub_turned : (x y : Float) → size (y ⊖ x) ≡ size (x ⊖ y)
unfolding sub
sub_turned x y = ap size (sym (sub_opposite x y)) ∙ add_opposite x (neg y)

-- a square does not see the sign
square_size : (x : Float) → x ⊗ x ≡ size x ⊗ size x
unfolding mul size
square_size nan = refl
square_size (inf true) = refl
square_size (inf false) = refl
square_size (fin true m e) = refl
square_size (fin false m e) = refl

pub square_turned : (x y : Float) → (y ⊖ x) ⊗ (y ⊖ x) ≡ (x ⊖ y) ⊗ (x ⊖ y)
square_turned x y =
    square_size (y ⊖ x) ∙ ap (λ (z : Float). z ⊗ z) (sub_turned x y) ∙ sym (square_size (x ⊖ y))
