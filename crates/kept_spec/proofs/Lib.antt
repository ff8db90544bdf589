-- The laws of Open, Step and runs, and the theorems about every run (demand 3) and about two runs side by side.
pub mod RunLaws
pub mod OpenLaws
pub mod StepLaws
pub mod FormerLaws
pub mod Demand3
pub mod BookLaws
pub mod RegionLaws
pub mod RegionRunLaws
pub mod ExampleLaws
