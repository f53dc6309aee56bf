pub mod Shares
pub mod Faces
pub mod Entry
pub mod Steps
pub mod Walk
pub mod Look
pub mod StepFractions
pub mod Worked
