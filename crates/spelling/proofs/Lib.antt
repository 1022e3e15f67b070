pub mod Spelled
mod Shown
mod Parting
mod Reading
