-- What the contracts of `motion` cite. Definitions only.
pub mod Motion
pub mod Inner
