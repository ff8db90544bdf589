-- Families: their members, who waits, the operations as one member meets them, contracts, histories, and what is claimed of every history; the laws and
-- the theorems are in proofs/.
pub mod Family
pub mod Waiting
pub mod Member
pub mod Rules
pub mod Operations
pub mod History
pub mod Claims
pub mod Region
pub mod Example
