-- The laws of vectors and points that the other crates cite.
pub mod Bounds
pub mod CrossPairs
pub mod Handed
