pub mod Ranges
pub mod Making
pub mod Tracking
pub mod Examples
pub mod Keeps
pub mod Products
