pub mod EndLemmas
mod RunLemmas
mod GapLemmas
mod NameLemmas
mod BraceLemmas
mod SeveralLemmas
pub mod PartLemmas
mod WordLemmas
pub mod SkipLemmas
mod ReadLemmas
mod GrammarLemmas
mod PartRules
mod CommandRules
mod ScriptRules
