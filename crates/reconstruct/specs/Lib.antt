-- The bounds in force; the laws are in proofs/.
pub mod Rebuild
