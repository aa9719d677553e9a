-- Laws that other crates cite, and helpers of this one. Assumes nothing.
pub mod Spelling
pub mod Parts
mod FourBytes
