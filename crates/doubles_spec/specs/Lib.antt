pub mod Import
pub mod Export
pub mod NearestValue
pub mod ExportSingle
pub mod OneField
pub mod Trip
pub mod Classes
pub mod Forms
