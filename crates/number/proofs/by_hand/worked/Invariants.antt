-- Where the loop of `worked` stands: as many digits are written as turns were made, and the last has this place.
use Rattle.std.proofs.Common.{◌≡◌, ℕ, ◌-◌, ◌*◌, ◌^◌, ◌≤◌}
use Rattle.number.specs.declared.by_hand.Sheet.{Sheet}
use Rattle.number.specs.Inner.{OnSheet}
use Rattle.number.proofs.by_hand.worked.Given as goal

pub record Stands (n turns : ℕ) (s : Sheet) (place done : ℕ) : Type 0 where
  pub few : done ≤ turns
  pub at : place ≡ 2 ^ (25 - done)
  pub on : OnSheet (n * 2 ^ 25) place s

abbrev pub invariant-loop : goal.invariant-loop
invariant-loop l = Stands l.n l.turns l.s l.place l.counter
