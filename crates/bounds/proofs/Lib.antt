-- Laws for the code.
pub mod FillLaws
