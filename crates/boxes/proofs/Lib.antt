pub mod Slabs
pub mod FromInside
pub mod EndPoints
