pub mod Answering
pub mod Heads
pub mod Judging
pub mod Sizes
pub mod Totals
