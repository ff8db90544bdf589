pub mod Calls
pub mod FileCalls
pub mod CallRuns
pub mod Region
