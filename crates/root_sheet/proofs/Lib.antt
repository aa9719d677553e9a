-- Laws of this crate. Assumes nothing.
mod Lengths
mod Numerals
mod Places
