-- Laws for both operations.
pub mod Laws
