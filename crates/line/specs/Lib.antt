pub mod Line
pub mod Faces
pub mod Walk
pub mod Look
pub mod StepFractions
pub mod Exact
