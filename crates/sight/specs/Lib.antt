pub mod Ranges
pub mod Power
pub mod Sight
pub mod Cells
pub mod Changes
