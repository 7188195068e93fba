pub mod Stretches
pub mod Runs
pub mod Jumps
pub mod Listing
pub mod Within
