-- The definitions of ClipAndAssuredSum and of the operation Split; their laws are in proofs/.
pub mod Group
pub mod Split
pub mod Operation
