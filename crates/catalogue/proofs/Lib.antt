-- The lemmas, by subject.
pub mod Facts
pub mod Alike
pub mod Fronts
pub mod Shapes
pub mod Writes
pub mod Descent
pub mod Placing
pub mod Asked
pub mod Running
pub mod Staying
