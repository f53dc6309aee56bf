pub mod Grid
pub mod Root
pub mod Scaled
pub mod Shares
pub mod Single
