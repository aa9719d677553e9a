-- The laws of the root finders.
pub mod Steps
pub mod Places
pub mod Gathered
pub mod Zeros
pub mod Orders
pub mod Defined
pub mod Spans
pub mod Differences
pub mod Linear
pub mod AtOne
pub mod Multiples
pub mod Ordered
pub mod Written
pub mod Admitted
pub mod Asserts
pub mod Promised
pub mod Corners
