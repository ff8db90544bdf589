-- The parts of a cell's correction, and the operation Query; the laws are in proofs/.
pub mod Parts
pub mod Query
