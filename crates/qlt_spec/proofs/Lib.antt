-- The laws of the tree and of the whole tree's masses, and the theorem that edits stay in their region, by file; each stands over the definitions of
-- specs/ alone.
pub mod TreeLaws
pub mod MassLaws
pub mod SharedLaws
pub mod BetweenLaws
pub mod BelowLaws
pub mod RegionLaws
pub mod FieldLaws
pub mod MissLaws
pub mod FactLaws
pub mod CheckLaws
pub mod OperationLaws
pub mod RegionCallLaws
pub mod ExampleLaws
pub mod FormerLaws
