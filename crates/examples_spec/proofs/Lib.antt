-- The one fact that covers the table of examples. Assumes nothing.
pub mod StarredLaws
