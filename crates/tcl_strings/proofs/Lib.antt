pub mod CommandLemmas
pub mod SingleBytes
pub mod PartLemmas
