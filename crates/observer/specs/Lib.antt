pub mod Ranges
pub mod Making
pub mod Observing
pub mod Examples
pub mod Keeps
