pub mod Operators
pub mod Morphology
pub mod Selection
pub mod Laws
pub mod Limits
