pub mod Pushed
pub mod Told
pub mod Has
pub mod Grouped
pub mod Alone
