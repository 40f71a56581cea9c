pub mod Axes
pub mod Squares
pub mod Attitudes
pub mod Kinds
pub mod Chords
pub mod Gaps
pub mod Spots
