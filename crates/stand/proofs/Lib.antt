-- The laws of the stand.
mod Arms
pub mod Positions
mod Jumps
mod Opening
mod Stepping
mod Turning
mod Running
pub mod Laws
pub mod Examples
