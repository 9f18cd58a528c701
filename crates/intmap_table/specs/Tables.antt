-- The words of the contracts inside the table. No public clause cites these modules, except through what a map shows of stored pairs.
pub mod Bits
pub mod Nodes
pub mod Growing
pub mod Owned
pub mod Behind
pub mod Putting
pub mod Rows
pub mod Walked
pub mod Reached
pub mod Keeping
pub mod Slots
pub mod WordRows
