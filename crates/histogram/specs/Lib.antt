pub mod Ranges
pub mod Making
pub mod Counting
pub mod Examples
pub mod Rows
pub mod Laying
