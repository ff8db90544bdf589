-- The laws of the parts' code; they stand over the definitions of specs/ alone.
pub mod CellLaws
