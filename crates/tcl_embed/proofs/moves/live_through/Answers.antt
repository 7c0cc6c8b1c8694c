use Rattle.tcl_run.specs.Entering.{whole_entry}
use Rattle.tcl_tree.specs.TreeOf.{marks_of, tree_of}
use Rattle.tcl_embed.proofs.Moving.{comes_served, comes_to_nobody, err_more, gives_up_nowhere, gives_up_there}
use Rattle.tcl_eval.proofs.Starting.{at_any_err}
use Rattle.tcl_embed.proofs.moves.live_through.Goals as goal

pub returns-in_err-miss_entry-clause-given_up : goal.returns-in_err-miss_entry-clause-given_up
returns-in_err-miss_entry-clause-given_up g c = at_any_err c.from_residual.result _
    (gives_up_nowhere g.M.Outside.goes g.M.Outside.loses (marks_of c.args.tree.now).integers (tree_of c.args.tree.now) c.args.outside.now c.miss_entry.new.outside c.as_slice-path.result.now c.args.target.items (whole_entry c.args.entry)
    c.as_slice-path.ensures.value c.in_default.ensures.missing c.miss_entry.ensures.lost)

pub returns-in_default-clause-comes : goal.returns-in_default-clause-comes
returns-in_default-clause-comes g c =
    comes_to_nobody g.M.Outside.goes c.args.tree.now c.args.outside.now c.miss_entry.new.outside c.as_slice-path.result.now c.args.target.items (whole_entry c.args.entry) c.as_slice-path.ensures.value c.in_default.ensures.missing c.in_ok-miss_entry.ensures.misses

pub returns-clause-comes : goal.returns-clause-comes
returns-clause-comes g c =
    comes_served g.M.Outside.goes (marks_of c.args.tree.now).integers (tree_of c.args.tree.now) (tree_of c.live_in.new.tree) c.args.outside.now c.live_in.new.outside c.as_slice-path.result.now c.args.target.items (whole_entry c.args.entry) c.live_in.result c.as_slice-path.ensures.value c.live_in.ensures.serves

pub returns-clause-given_up : goal.returns-clause-given_up
returns-clause-given_up g c =
    err_more c.live_in.result _ _ (λ h. gives_up_there g.M.Outside.goes g.M.Outside.loses (marks_of c.args.tree.now).integers (tree_of c.args.tree.now) c.args.outside.now c.live_in.new.outside c.as_slice-path.result.now c.args.target.items (whole_entry c.args.entry) c.as_slice-path.ensures.value h) c.live_in.ensures.given_up
