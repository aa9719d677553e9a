-- What the contracts of `number` cite. Definitions only.
pub mod Number
pub mod Pattern
pub mod ByHand
pub mod Inner
