use Rattle.tcl_commands.specs.Derived.{text_of}
use Rattle.tcl_evaluation.proofs.HandCalling.{ends_one}
use Rattle.tcl_prepared.specs.Views.{seen_word}
use Rattle.tcl_evaluation.proofs.changes.derived_change.Goals as goal

pub returns-in_ok-derived-in-Set-clause-words : goal.returns-in_ok-derived-in-Set-clause-words
returns-in_ok-derived-in-Set-clause-words c = λ p n names there. ends_one c.args.tree.now.integers n (seen_word c.args.word.now) c.in_ok-derived-in-Set.sums (text_of c.in_ok-derived-in-Set.derived) (c.in_ok-derived-in-Set.ensures p n names there)
