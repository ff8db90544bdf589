-- Laws for the operation's own functions.
pub mod CheckLaws
pub mod ItemLaws
