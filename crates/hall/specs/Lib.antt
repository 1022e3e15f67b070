pub mod Most
pub mod Narrow
pub mod Promises
pub mod Runs
pub mod Unfair
