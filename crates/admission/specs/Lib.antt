-- What the contracts of `admission`, and of the calls that ask it, cite. Definitions only.
pub mod Admission
pub mod Inner
