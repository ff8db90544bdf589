pub mod CallLaws
pub mod FileCallLaws
pub mod AnswerLaws
pub mod RegionLaws
pub mod OwnLaws
pub mod DeskLaws
pub mod BoundsLaws
pub mod RunLaws
