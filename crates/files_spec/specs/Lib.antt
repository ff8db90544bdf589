pub mod FieldFile
pub mod ReadField
pub mod WriteField
pub mod Stored
pub mod AnswerFile
pub mod WriteAnswer
pub mod ReadAnswer
pub mod Trip
