pub mod Carrying
pub mod Faults
pub mod Outcomes
pub mod Holding
pub mod Playing
pub mod Laws
pub mod Writing
