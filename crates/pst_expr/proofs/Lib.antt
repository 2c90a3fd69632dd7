pub mod LeftLemmas
pub mod Weight
mod ValueLemmas
mod CopyLemmas
mod SpanLemmas
mod DomainLemmas
mod RangeLemmas
