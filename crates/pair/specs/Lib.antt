-- What the contracts of `pair`, and its theorems, cite. Definitions only.
pub mod Points
pub mod SamePair
