-- The laws of the machine.
pub mod Runs
pub mod Room
pub mod Split
pub mod Beats
pub mod Stays
