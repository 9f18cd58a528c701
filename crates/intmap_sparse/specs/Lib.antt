pub mod Vectors
pub mod EqualityLaws
pub mod Causes
