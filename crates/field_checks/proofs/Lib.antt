-- Laws for the checks in code.
pub mod CodeLaws
