-- What the contracts of `polynomial_root` cite. Definitions only.
pub mod Roots
