pub mod Numbers
pub mod Masked
mod Heighten
