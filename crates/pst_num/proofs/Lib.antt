mod RangeLemmas
mod ShiftLemmas
mod DivisionLemmas
mod BitLemmas
