-- The definitions of the tree, the field and the operation Reconstruct, and of fields that differ only below a node; their laws are in proofs/.
pub mod Tree
pub mod Field
pub mod Masses
pub mod Checks
pub mod Facts
pub mod Operation
pub mod Former
pub mod Region
pub mod Example
