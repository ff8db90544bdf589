-- The laws of families, and the theorems about every history.
pub mod RuleLaws
pub mod AnswerLaws
pub mod FamilyLaws
pub mod TurnLaws
pub mod RegionLaws
pub mod ByteLaws
pub mod WaitingLaws
pub mod MemberLaws
pub mod AccountLaws
pub mod CapLaws
pub mod IsolationLaws
pub mod ServiceLaws
pub mod Histories
pub mod ExampleLaws
