pub mod Powers
pub mod Positions
pub mod Cubes
pub mod Axes
pub mod LookStart
pub mod Giving
pub mod Numbers
