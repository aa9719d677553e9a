-- What the contracts of `distance` cite. Definitions only.
pub mod Distance
