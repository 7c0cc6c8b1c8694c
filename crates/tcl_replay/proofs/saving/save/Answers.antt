use Rattle.std.proofs.Common.{◌∙◌, sym}
use Rattle.tcl_tree.proofs.CoreLemmas.{tree_there}
use Rattle.tcl_replay.proofs.Savable.{savable}
use Rattle.tcl_replay.proofs.saving.save.Goals as goal

pub returns-in-Err-clause-refused : goal.returns-in-Err-clause-refused
returns-in-Err-clause-refused c = savable c.args.tree.now c.args.path.now _ (sym c.is_broken.ensures ∙ c.if-is_broken.false) (tree_there c.args.tree.now c.args.path.now _ c.in-Some.ensures.there)
