-- The squared distance of a pair does not see the sign of a zero (docs/01-scope.md, "Our distance rules"): vectors and
-- places, the interior candidate, the choice, and the distance at the start.
mod Vectors
mod Products
mod Distance
pub mod Start
