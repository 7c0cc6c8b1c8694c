pub mod PathLemmas
pub mod Outcomes
pub mod TableLemmas
pub mod AliasLemmas
pub mod LastNames
pub mod SameLemmas
pub mod PlainLemmas
