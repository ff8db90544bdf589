-- The passes over a whole tree; their laws are in proofs/.
pub mod Gather
pub mod Descent
pub mod Solve
