-- Laws of whole numbers that the laws of f32 lean on. Assumes nothing.
use mathlib.Core.Path.{◌≡◌}
use Prim.Native.Nat.{ℕ, ◌*◌, ◌≤◌, ◌<◌}
use native.Mathlib.Nat.{le_of_lt, lt_irrefl, lt_of_lt_of_le, lt_of_le_of_lt, mul-le-mul_left, mul-lt-mul_of_pos_right}
use native.Mathlib.Omega.{arith}

pub le_of_not_lt : {a b : ℕ} → (a < b → ⊥) → b ≤ a
le_of_not_lt {a} {b} f = omega arith

-- nothing of anything
pub zero_size : (a b : ℕ) → 0 * a * b ≡ 0
zero_size a b = omega arith

-- squares are in the order of their roots
pub square_mono : (a b : ℕ) → a < b → a * a < b * b
square_mono a b h = lt_of_le_of_lt (mul-le-mul_left a (le_of_lt h)) (mul-lt-mul_of_pos_right h (omega arith))

pub square_back : (a b : ℕ) → a * a ≤ b * b → a ≤ b
square_back a b h = le_of_not_lt (λ (l : b < a). lt_irrefl (b * b) (lt_of_lt_of_le (square_mono b a l) h))
