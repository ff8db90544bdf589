-- The laws of the scratch by columns, of chains and of the walks, by file; each stands over the definitions of specs/ alone.
pub mod ChainLaws
pub mod ColumnLaws
pub mod WalkLaws
pub mod NodeLaws
