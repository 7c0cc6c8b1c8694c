use Rattle.tcl_run.proofs.Steady.{stands}
use Rattle.tcl_run.specs.Entering.{whole_entry}
use Rattle.tcl_tree.proofs.CoreLemmas.{tree_there}
use Rattle.tcl_tree.specs.TreeOf.{tree_of}
use Rattle.tcl_embed.proofs.Moving.{gives_up_in, serves}
use Rattle.tcl_eval.proofs.Starting.{at_any_err}
use Rattle.tcl_embed.proofs.moves.live_in.Goals as goal

pub returns-in_err-notify-clause-given_up : goal.returns-in_err-notify-clause-given_up
returns-in_err-notify-clause-given_up g c =
    let n = stands (tree_of c.args.tree.now c.args.path.now) (tree_there c.args.tree.now c.args.path.now c.args.place.key c.requires.there) in
    at_any_err c.from_residual.result _
    (gives_up_in g.M.Outside.goes g.M.Outside.loses c.args.tree.now c.enter-ended.new.tree c.args.outside.now c.enter-ended.new.outside c.notify.new.self c.args.path.now (whole_entry c.args.entry) n.0 n.1 c.enter-ended.result c.enter-ended.ensures.runs c.notify.ensures.lost)

pub returns-clause-given_up : goal.returns-clause-given_up
returns-clause-given_up g c =
    let n = stands (tree_of c.args.tree.now c.args.path.now) (tree_there c.args.tree.now c.args.path.now c.args.place.key c.requires.there) in
    at_any_err c.exit_of.result _
    (gives_up_in g.M.Outside.goes g.M.Outside.loses c.args.tree.now c.enter-ended.new.tree c.args.outside.now c.enter-ended.new.outside c.notify.new.self c.args.path.now (whole_entry c.args.entry) n.0 n.1 c.enter-ended.result c.enter-ended.ensures.runs c.notify.ensures.lost)

pub returns-clause-serves : goal.returns-clause-serves
returns-clause-serves g c =
    let n = stands (tree_of c.args.tree.now c.args.path.now) (tree_there c.args.tree.now c.args.path.now c.args.place.key c.requires.there) in
    serves g.M.Outside.goes g.M.Outside.loses c.args.tree.now c.enter-ended.new.tree c.args.outside.now c.enter-ended.new.outside c.notify.new.self c.args.path.now (whole_entry c.args.entry) n.0 n.1 c.enter-ended.result c.exit_of.result c.exit_of.ensures c.enter-ended.ensures.runs c.in_ok-notify.ensures.told
