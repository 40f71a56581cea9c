-- The definitions that contracts cite, by subject.
pub mod Refusals
pub mod Entries
pub mod Trees
pub mod States
pub mod Adding
pub mod Few
pub mod Hits
pub mod Inquiries
pub mod Searches
pub mod Seats
pub mod Stepping
pub mod Ending
pub mod Views
pub mod Nearest
