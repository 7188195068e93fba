pub mod Scanning
pub mod Examples
