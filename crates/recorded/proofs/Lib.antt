-- Laws of words as they are read, and of a call and a borrowing read on parts of the tables.
pub mod WordLaws
pub mod CallLaws
pub mod BorrowLaws
