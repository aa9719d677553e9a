-- What the inner functions of the square root promise each other; no public statement cites it. Definitions only.
use Rattle.std.specs.Prelude.{◌≡◌, ℕ, ◌+◌, ◌-◌, ◌*◌, ◌/◌, ◌%◌, ◌^◌, ◌<◌, ◌≤◌}
use Rattle.number.specs.declared.by_hand.Sheet.{Sheet}

-- What stands on the sheet of n when its last digit has a place: the digits so far, read as a whole number; what is
-- left, counted in that place, is n minus the square of the digits, and it is smaller than twice the digits plus one.
pub record OnSheet (n place : ℕ) (s : Sheet) : Type 0 where
  pub digits : ℕ
  pub double : s.twice ≡ 2 * (digits * place)
  pub remains : digits * place * (digits * place) + s.left * place ≡ n
  pub small : s.left < 2 * (digits * place) + place

-- the whole number whose root has 24 digits: p with as many zeros behind it as make the exponent k even
abbrev pub whole_of : ℕ → ℕ → ℕ
whole_of p k = p * 2 ^ (23 + k % 2)

-- the pattern b of the root of p * 2 ^ (k - 173): 24 digits, nearest to the root of the whole number, and the field
-- k / 2 + 52, of which the highest digit adds the one
pub record RootBits (p k b : ℕ) : Type 0 where
  pub digits : ℕ
  pub made : b ≡ (k / 2 + 51) * 2 ^ 23 + digits
  pub low : 2 ^ 23 ≤ digits
  pub high : digits < 2 ^ 24
  pub under : (2 * digits - 1) * (2 * digits - 1) < 4 * whole_of p k
  pub over : 4 * whole_of p k < (2 * digits + 1) * (2 * digits + 1)
