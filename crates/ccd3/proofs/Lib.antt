-- Proofs and laws of `ccd3`. What other crates may cite is public.
pub mod WalkLaws
pub mod StartLaws
pub mod Bracket
pub mod Growth
pub mod PlainStep
pub mod Standing
pub mod Kept
pub mod Threshold
pub mod Admitted
pub mod Promises
pub mod Allowance
mod Tables
mod HalvingLoop
mod WalkLoop
