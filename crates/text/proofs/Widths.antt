-- The toolchain's writers make as many digits as the definitions have. Assumes nothing.
use Prim.Native.Nat.{ℕ, zero, suc, ◌-◌, ◌^◌, ◌≤◌, ◌<◌}
use native.Mathlib.Nat.{le_antisymm, le_trans, lt_of_not-le, not-le_of_lt, pow-le-pow_right}
use native.Mathlib.Omega.{arith}
use mathlib.Core.Path.{◌≡◌, refl}
use mathlib.Core.Bool.{Bool, true, false, cond}
use borrow.Author.Tests.{ltb-true, ltb-false}
use lib.Dec.{ltb}
use Rattle.io.specs.Digits.{IsDigitCount}
use Rattle.text.specs.Text.{width}

-- where m digits hold a number, the fewest are at most m
pub at_most : (b least n k m : ℕ) → 0 < b → least ≤ m → n < b ^ m → IsDigitCount b least n k → k ≤ m
at_most b least n k m p l holds f = let less = lt_of_not-le more in omega arith
  where
    more : suc m ≤ k → ⊥
    more g =
        let high : b ^ m ≤ b ^ (k - 1) = pow-le-pow_right p (omega arith) in
        not-le_of_lt holds (le_trans high (f.2 (omega arith)))

-- where m digits do not, they are more
more_than : (b least n k m : ℕ) → 0 < b → b ^ m ≤ n → IsDigitCount b least n k → m < k
more_than b least n k m p high f = lt_of_not-le (λ less. not-le_of_lt f.1 (le_trans (pow-le-pow_right p less) high))

pub width_is : (j n k : ℕ) → IsDigitCount 10 1 n k → k ≤ suc j → k ≡ width j n
unfolding width
width_is zero n k f h = le_antisymm h f.0
width_is (suc j) n k f h = pick j n k f h (width_is j n k f) (ltb n (10 ^ suc j)) refl
  where
    pick : (j n k : ℕ) → IsDigitCount 10 1 n k → k ≤ suc (suc j) → (k ≤ suc j → k ≡ width j n)
        → (t : Bool) → ltb n (10 ^ suc j) ≡ t → k ≡ cond t (width j n) (suc (suc j))
    pick j n k f h fewer true e =
        fewer (at_most 10 1 n k (suc j) (omega arith) (omega arith) (ltb-true n (10 ^ suc j) e) f)
    pick j n k f h fewer false e =
        le_antisymm h (more_than 10 1 n k (suc j) (omega arith) (ltb-false n (10 ^ suc j) e) f)

-- a number of 32 bits: ten decimal digits at most, eight hexadecimal ones
pub decimal_few : (n k : ℕ) → n < 4294967296 → IsDigitCount 10 1 n k → k ≤ 10
decimal_few n k h = at_most 10 1 n k 10 (omega arith) (omega arith) (omega arith)

pub hex_eight : (n k : ℕ) → n < 4294967296 → IsDigitCount 16 8 n k → k ≡ 8
hex_eight n k h f = le_antisymm (at_most 16 8 n k 8 (omega arith) (omega arith) h f) f.0
