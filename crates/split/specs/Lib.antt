-- What the functions below the operation ask and leave.
pub mod Sums
pub mod Items
