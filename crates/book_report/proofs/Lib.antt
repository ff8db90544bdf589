-- The laws of the report's text; they stand over the definitions of specs/ alone.
pub mod ReportLaws
