pub mod Cases
pub mod Branches
pub mod Orders
pub mod Traces
pub mod Legality
pub mod Released
pub mod Fronts
mod LocksTried
mod InferenceTried
mod StreamsTried
mod BindsTried
mod StatesTried
mod SelectsTried
mod OwnClaimsTried
mod JoinsTried
mod ArraysTried
mod RefusedTried
mod InlinesTried
mod RepeatsTried
mod InstancesTried
mod CoresTried
mod ClaimValuesTried
mod LocalsTried
mod ReleasesTried
mod RunsTried
mod FillingsTried
mod SuppliesTried
mod HandlesTried
mod ReadingsTried
