pub mod Ranges
pub mod Making
pub mod Order
pub mod Refusals
