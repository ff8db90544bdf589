-- The laws of the passes over a whole tree, by file; each stands over the definitions of specs/ alone.
pub mod UpLaws
pub mod GatherLaws
pub mod LinkLaws
pub mod DescentLaws
pub mod SolveLaws
