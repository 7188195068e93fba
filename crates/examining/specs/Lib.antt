pub mod Figured
pub mod Judged
