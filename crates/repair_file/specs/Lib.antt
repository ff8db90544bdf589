pub mod RepairFile
pub mod Former
pub mod Region
