-- The laws of reading and repairing a file; they stand over the definitions of specs/ alone.
pub mod FileLaws
pub mod FormerLaws
pub mod VerdictLaws
pub mod BackLaws
pub mod RegionLaws
