pub mod Spelling
pub mod Laying
pub mod Lining
pub mod NumbersAgain
pub mod SignsAgain
pub mod RoundTrip
