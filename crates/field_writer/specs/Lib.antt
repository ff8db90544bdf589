-- What the functions of the writer ask and leave.
pub mod Cells
