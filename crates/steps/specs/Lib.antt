pub mod Images
pub mod Selections
pub mod Recipes
pub mod Extents
pub mod Planes
pub mod Places
pub mod Written
pub mod Stacks
