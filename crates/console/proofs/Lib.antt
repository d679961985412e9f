-- Laws of lines, numbers and texts as they are read, of the lines that set tables, and of those that make calls and borrowing reads.
pub mod WordLaws
pub mod NumberLaws
pub mod HexLaws
pub mod TextLaws
pub mod SettingLaws
pub mod CallLaws
pub mod BorrowLaws
