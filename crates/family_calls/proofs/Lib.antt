pub mod ListLaws
pub mod CallLaws
pub mod OwnLaws
