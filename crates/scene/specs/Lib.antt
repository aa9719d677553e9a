-- What the contracts of `scene` cite. Definitions only.
pub mod Inner
pub mod Scene
pub mod Spelled
