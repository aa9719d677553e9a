-- What the contracts of `geometry` cite. Definitions only.
pub mod Geometry
