-- The laws of the listing of a score.
mod Examples
pub mod Marks
mod Goes
mod Segments
mod Loops
mod Looped
mod Endings
mod Leaving
mod Passes
mod Trees
pub mod Around
mod Shapes
pub mod Order
pub mod Implied
mod Sound
mod Places
pub mod Packs
mod Tested
pub mod Sizes
mod SoundTrees
pub mod Listed
pub mod Bounds
pub mod Beats
pub mod Halting
pub mod Plays
