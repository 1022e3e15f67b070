pub mod Refusals
pub mod Rasters
pub mod Histories
pub mod Shows
pub mod Cells
pub mod Laws
