pub mod Sets
pub mod Combined
pub mod EqualityLaws
pub mod Retaining
pub mod Extending
pub mod Growing
pub mod Draining
pub mod Extracting
