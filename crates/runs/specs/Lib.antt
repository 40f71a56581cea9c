pub mod Loading
pub mod Rests
pub mod Telling
