pub mod Words
pub mod Text
pub mod Numbers
pub mod Spellings
pub mod Next
