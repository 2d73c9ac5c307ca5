pub mod Receiving
pub mod Fronts
