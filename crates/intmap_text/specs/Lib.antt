pub mod Lines
pub mod Words
pub mod Commands
pub mod Reading
pub mod Printing
pub mod Faults
pub mod Serving
