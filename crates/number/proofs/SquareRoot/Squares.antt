-- Squares of even, odd and neighbouring whole numbers. Assumes nothing.
use mathlib.Core.Path.{◌≡◌, ◌∙◌}
use Prim.Native.Nat.{ℕ, ◌+◌, ◌*◌}
use native.Mathlib.Nat.{mul-add, add-mul, mul-mul-mul_comm}
use native.Mathlib.Omega.{arith}

pub square_even : (r : ℕ) → 2 * r * (2 * r) ≡ 4 * (r * r)
square_even r = mul-mul-mul_comm 2 r 2 r

pub square_odd : (r : ℕ) → (2 * r + 1) * (2 * r + 1) ≡ 4 * (r * r) + 4 * r + 1
square_odd r = add-mul (2 * r) 1 (2 * r + 1) ∙ expand (mul-add (2 * r) (2 * r) 1) (square_even r)
  where
    expand : 2 * r * (2 * r + 1) ≡ 2 * r * (2 * r) + 2 * r * 1 → 2 * r * (2 * r) ≡ 4 * (r * r)
        → 2 * r * (2 * r + 1) + 1 * (2 * r + 1) ≡ 4 * (r * r) + 4 * r + 1
    expand e f = omega arith

pub square_next : (r : ℕ) → (r + 1) * (r + 1) ≡ r * r + 2 * r + 1
square_next r = add-mul r 1 (r + 1) ∙ expand (mul-add r r 1)
  where
    expand : r * (r + 1) ≡ r * r + r * 1 → r * (r + 1) + 1 * (r + 1) ≡ r * r + 2 * r + 1
    expand e = omega arith
