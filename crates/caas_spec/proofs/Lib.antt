-- The laws of one split and of the operation Split, by file; each stands over the definitions of specs/ alone.
pub mod GroupLaws
pub mod PortionLaws
pub mod SplitLaws
pub mod ExtLaws
pub mod OperationLaws
