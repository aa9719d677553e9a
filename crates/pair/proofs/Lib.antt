-- Laws that other crates cite. Assumes nothing.
pub mod Passed
pub mod Sides
pub mod Norms
pub mod NormBounds
pub mod StayFinite
pub mod SamePair
