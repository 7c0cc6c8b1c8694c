-- What contracts see of entries that are handed in.
pub use Rattle.tcl_evaluation.specs.Waiting.{EndsEntry, ExitOf, MissesEntry}
