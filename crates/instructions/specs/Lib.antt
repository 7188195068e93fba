pub mod Forms
pub mod Words
pub mod Rules
pub mod Places
pub mod Test
pub mod Tables
