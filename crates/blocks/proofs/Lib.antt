-- The laws of words, blocks and files, by file; each stands over the definitions of specs/ alone.
pub mod WordLaws
pub mod BlockLaws
pub mod FileLaws
