use Rattle.std.proofs.Common.{sym}
use Rattle.tcl_tree.proofs.StepLemmas.{leads_somewhere, tree_no_child}
use Rattle.tcl_tree.proofs.MakeLemmas.{descend_leads}
use Rattle.tcl_tree.proofs.CoreLemmas.{tree_there}
use Rattle.tcl_tree.proofs.tree.Tree.delete_at.Goals as goal

pub unreachable-requires : goal.unreachable-requires
unreachable-requires c = leads_somewhere _ _ c.args.self.now.sound _ _ c.requires.1 (sym c.in_default.ensures)

pub returns-in_default-get-clause-refused : goal.returns-in_default-get-clause-refused
returns-in_default-get-clause-refused c = λ p at. tree_no_child _ _ _ _ c.args.name.now _ at (sym c.in-Some.ensures) (sym c.in_default-get.ensures.value)

pub fell-requires : goal.fell-requires
fell-requires c = let p = c.requires.0 in let at = c.requires.1 in (p, c.args.name.now, descend_leads _ _ c.args.self.now.sound _ _ c.args.name.now _ (sym c.in-Some.ensures) (sym c.in-Some-get.ensures.value) p at)

pub returns-clause-dropped : goal.returns-clause-dropped
returns-clause-dropped c = λ p at. c.fell.ensures.dropped p c.args.name.now (descend_leads _ _ c.args.self.now.sound _ _ c.args.name.now _ (sym c.in-Some.ensures) (sym c.in-Some-get.ensures.value) p at)

pub returns-clause-keys : goal.returns-clause-keys
returns-clause-keys c = λ p at. c.fell.ensures.keys p c.args.name.now (descend_leads _ _ c.args.self.now.sound _ _ c.args.name.now _ (sym c.in-Some.ensures) (sym c.in-Some-get.ensures.value) p at)

pub returns-clause-there : goal.returns-clause-there
returns-clause-there c = λ p at.
    let lead = descend_leads _ _ c.args.self.now.sound _ _ c.args.name.now _ (sym c.in-Some.ensures) (sym c.in-Some-get.ensures.value) p at in
    tree_there c.args.self.now _ _ lead

pub returns-clause-parts : goal.returns-clause-parts
returns-clause-parts c = λ p at. c.fell.ensures.parts p c.args.name.now (descend_leads _ _ c.args.self.now.sound _ _ c.args.name.now _ (sym c.in-Some.ensures) (sym c.in-Some-get.ensures.value) p at)
