-- Laws for the reader in code.
pub mod Laws
