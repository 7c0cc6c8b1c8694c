use Rattle.std.proofs.Common.{◌∙◌, sym}
use Rattle.tcl_tree.proofs.CoreLemmas.{tree_there}
use Rattle.tcl_replay.proofs.Before.{nobody, same_broken, same_there}
use Rattle.tcl_replay.proofs.watching.refusal_to_watch.Goals as goal

pub returns-then-is_broken : goal.returns-then-is_broken
returns-then-is_broken c = c.refusal-first.ensures ∙ same_broken c.args.tree.now c.args.path.now c.args.script.now c.args.limit c.args.watched.now (sym c.is_broken.ensures ∙ c.if-is_broken.true)

pub returns-in-Some : goal.returns-in-Some
returns-in-Some c = c.refusal-first.ensures ∙ same_there c.args.tree.now c.args.path.now c.args.script.now c.args.limit c.args.watched.now (tree_there c.args.tree.now c.args.watched.now _ c.in-Some.ensures.there)

pub returns-in-None : goal.returns-in-None
returns-in-None c = nobody c.args.tree.now c.args.path.now c.args.script.now c.args.limit c.args.watched.now (sym c.is_broken.ensures ∙ c.if-is_broken.false) c.in-None.ensures.missing
