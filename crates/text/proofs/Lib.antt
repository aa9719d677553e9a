-- Laws that other crates cite, what a page writes, and the widths of numbers. Assumes nothing.
pub mod Puts
pub mod Lengths
mod Sets
mod Widths
