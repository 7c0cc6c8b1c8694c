-- How far a program comes, as the contracts of evaluations say it.
pub use Rattle.tcl_evaluation.proofs.Steps.{EndsAt}
