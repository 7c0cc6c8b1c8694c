pub mod NameLemmas
pub mod TakenLemmas
pub mod FileLemmas
pub mod StoreLemmas
pub mod HostLaws
pub mod LineLaws
