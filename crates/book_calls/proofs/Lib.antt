pub mod CallLaws
pub mod OwnLaws
