-- What the proofs of several functions use.
pub mod Adding
pub mod Capped
mod Deep
pub mod Heads
pub mod Leaving
mod FirstWays
pub mod StartWays
pub mod OneScore
pub mod Ways
pub mod WholeWays
