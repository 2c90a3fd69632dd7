mod Rows
mod Growing
mod Numbered
mod Settling
mod ConstantsFound
