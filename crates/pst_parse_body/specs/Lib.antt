pub mod Types
pub mod Bodies
pub mod BodyFamilies
