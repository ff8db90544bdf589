pub mod Book
pub mod ReadBook
pub mod StartBook
pub mod LentBook
