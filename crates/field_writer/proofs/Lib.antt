-- Laws for the writer in code.
pub mod Laws
