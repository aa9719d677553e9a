-- Laws that other crates cite, and helpers of this one. Assumes nothing.
mod Columns
pub mod Eighths
pub mod Exact
pub mod Scalings
mod Refusals
pub mod Coefficients
mod Outcomes
