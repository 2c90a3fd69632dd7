pub mod InOrder
pub mod One
pub mod Meaning
pub mod Inside
mod RowsTried
mod StatementsTried
