-- The definitions that contracts cite.
pub mod Lines
pub mod Opening
pub mod Listings
