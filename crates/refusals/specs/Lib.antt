pub mod Limits
pub mod Printed
pub mod Refusals
pub mod Said
