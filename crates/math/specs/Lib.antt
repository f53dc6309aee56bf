pub mod Vectors
pub mod Poses
