-- The laws of the distance rules. Others cite what is public: what is known of the answer.
mod Choice
mod Found
mod Above
mod Listed
mod Ratios
mod Weights
pub mod Measured
pub mod FirstSmallest
pub mod Alike
