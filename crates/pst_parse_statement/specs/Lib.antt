pub mod Activities
pub mod ActivityFamilies
