pub mod ReadTried
pub mod PremisesTried
pub mod PlacesTried
pub mod StepsTried
pub mod AheadTried
