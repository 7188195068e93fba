-- The laws of words and of listings.
pub mod Inverse
pub mod Least
pub mod Marks
pub mod Listings
pub mod Tables
pub mod Passed
