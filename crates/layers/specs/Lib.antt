pub mod Ranges
pub mod Setting
pub mod Passing
pub mod Corrected
