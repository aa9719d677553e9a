-- What the contracts of `ccd3` cite. Definitions only.
pub mod SafeTime
pub mod Allowance
pub mod Inner
