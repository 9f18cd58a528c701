pub mod Statuses
pub mod Answers
pub mod Calls
pub mod Handles
pub mod Loans
pub mod Places
pub mod Walks
