mod FirstLemmas
mod MarkLemmas
mod CountLemmas
mod BackLemmas
mod NoteLemmas
mod GiveLemmas
mod KeepLemmas
mod OpenLemmas
