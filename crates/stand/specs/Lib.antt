pub mod Positions
pub mod Steps
pub mod Runs
pub mod Chains
pub mod Turns
pub mod Printed
