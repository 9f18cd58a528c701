pub mod Bindings
pub mod Tables
