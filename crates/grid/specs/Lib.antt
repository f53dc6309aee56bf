pub mod Lawful
pub mod Frame
