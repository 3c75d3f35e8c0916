pub mod Answers
pub mod Checkpoints
pub mod Examples
pub mod Standing
