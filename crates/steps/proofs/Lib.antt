pub mod Written
pub mod Folding
pub mod Changing
pub mod Merging
pub mod Selecting
pub mod Stacking
