-- The square root by hand: what stands on the sheet after some of its digits (docs/01-scope.md, "The root by hand").
-- Definitions only.
use Rattle.std.specs.Prelude.{ℕ, ◌-◌, ◌*◌, ◌/◌, ◌%◌, ◌^◌, cond, ◌&&◌, leb, Float}
use Rattle.std.specs.Float.Ieee.{lt}
use Rattle.number.specs.declared.by_hand.Argument.{Argument}
use Rattle.number.specs.declared.by_hand.Sheet.{Sheet}
use Rattle.number.specs.Number.{zero32, is_finite, units_of, last}

-- how many binary digits a whole number has
unfoldable pub binary_digits : ℕ → ℕ
binary_digits u = last (λ (k : ℕ). leb (2 ^ k) (2 * u)) 9 0

-- a positive finite x, which is digits * 2 ^ (exponent - 173) with 24 binary digits; no digits for any other x
unfoldable pub argument_of : Float → Argument
argument_of x =
    let k = binary_digits (units_of x) in
    cond (lt zero32 x && is_finite x) (record { digits = units_of x * 2 ^ 24 / 2 ^ k; exponent = k })
    (record { digits = 0; exponent = 0 })

-- the number whose root is worked out: the digits, with the exponent made even, and zeros behind them for 25 digits of
-- the root
unfoldable pub number_of : Argument → ℕ
number_of a = a.digits * 2 ^ (a.exponent % 2) * 2 ^ 25

-- the digits of the root of n down to a place, read as a whole number: the last whose square is not above n
unfoldable pub digits_to : ℕ → ℕ → ℕ
digits_to n place = last (λ (r : ℕ). leb (r * place * (r * place)) n) 25 0

-- the sheet of n down to a place: twice the digits, and what n is above their square, counted in that place
unfoldable pub sheet_at : ℕ → ℕ → Sheet
sheet_at n place =
    let r = digits_to n place * place in
    record { twice = 2 * r; left = (n - r * r) / place }

-- the sheet of x after some digits, at most 25
unfoldable pub sheet_after : Float → ℕ → Sheet
sheet_after x turns = sheet_at (number_of (argument_of x)) (2 ^ (25 - turns))
