-- The scratch by columns, chains, and the contracts of the walks; their laws are in proofs/.
pub mod Chain
pub mod Columns
pub mod Walks
