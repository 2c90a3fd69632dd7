mod SameSeen
pub mod LeastOfEach
mod EnumsJudged
