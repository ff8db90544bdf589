-- Bounds from mixing ratios. Definitions alone; their laws are in proofs/.
pub mod Ratios
pub mod Bounds
pub mod Consistency
pub mod Example
