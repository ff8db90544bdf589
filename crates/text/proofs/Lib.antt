-- The laws of text and of its contract; they stand over the definitions of specs/ alone.
pub mod TextLaws
pub mod ReportsLaws
