-- The laws of the parts and of the query; they stand over the definitions of specs/ alone.
pub mod PartsLaws
pub mod QueryLaws
