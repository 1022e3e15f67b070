pub mod Kept
pub mod Lifted
pub mod Fractions
pub mod Order
pub mod Chosen
pub mod Turning
pub mod Choosing
