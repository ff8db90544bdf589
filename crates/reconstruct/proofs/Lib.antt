-- The laws of Reconstruct's code; each stands over the definitions of specs/ alone.
pub mod RebuildLaws
