pub mod List
pub mod Calls
