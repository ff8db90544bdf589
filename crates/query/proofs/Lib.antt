-- The laws of the query's code; they stand over the definitions of specs/ alone.
pub mod LineLaws
