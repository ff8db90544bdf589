pub mod TurnCallLaws
pub mod TurnOwnLaws
pub mod RunLaws
