pub mod Runs
pub mod Bounds
pub mod Steps
pub mod Laws
pub mod Removals
pub mod Room
