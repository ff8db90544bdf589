pub mod Starred
pub mod Strays
pub mod Singles
pub mod Queries
