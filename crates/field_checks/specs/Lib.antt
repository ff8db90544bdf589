-- What the functions of the checks ask and leave.
pub mod Lists
