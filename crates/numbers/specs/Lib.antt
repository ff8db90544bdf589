-- The vocabulary that every crate uses. Definitions alone; their laws are in proofs/.
pub mod Sums
pub mod Lists
pub mod Signed
pub mod Quota
pub mod Roundings
pub mod Checks
