-- The laws of tables, over the definitions of specs/ alone.
pub mod TableLaws
