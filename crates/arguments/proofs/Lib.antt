-- The laws of an argument's number; they stand over the definitions of specs/ alone.
pub mod ArgumentLaws
