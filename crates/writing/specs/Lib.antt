pub mod Spell
pub mod Laid
pub mod Writing
