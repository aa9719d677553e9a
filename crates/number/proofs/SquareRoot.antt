-- The square root: the definition taken apart, the digits that the code makes, and what a reader wants to hear.
pub mod Squares
pub mod Digits
pub mod Nearest
pub mod Sheet
pub mod Bits
pub mod Argument
pub mod Found
pub mod Taken
pub mod Worked
pub mod Theorem
pub mod Bounds
pub mod Answer
pub mod Multiplied
