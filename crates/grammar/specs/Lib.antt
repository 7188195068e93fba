pub mod First
pub mod Kinds
pub mod Parts
pub mod Promises
pub mod Stretches
pub mod Tallies
pub mod Wholes
