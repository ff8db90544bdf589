-- The laws of field files and answer files, by file; each stands over the definitions of specs/ alone.
pub mod ReadLaws
pub mod WriteLaws
pub mod BackLaws
pub mod WriteFieldLaws
pub mod FrontLaws
pub mod ReadAnswerLaws
pub mod FieldTripLaws
pub mod AnswerTripLaws
