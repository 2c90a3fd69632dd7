mod Ordered
mod SourcesTried
mod RulesTried
mod WidthTried
mod MoreTried
mod RightTried
mod PartsTried
pub mod Agreeing
pub mod OneValue
mod ConstantsTried
mod OneDomain
mod ShortestDomain
mod DomainTried
