use Rattle.std.proofs.Common.{sym, ◌∙◌, subst}
use Rattle.tcl_replay.proofs.Serving.{missed_at, served_at}
use Rattle.tcl_run.specs.Entering.{whole_entry}
use Rattle.tcl_tree.specs.TreeOf.{marks_of, tree_of}
use Rattle.tcl_replay.proofs.replaying.play_entry.Goals as goal

pub returns-in-Some-clause-plays : goal.returns-in-Some-clause-plays
returns-in-Some-clause-plays c = served_at c.serve_there.result (marks_of c.args.tree.now).integers (tree_of c.args.tree.now) (tree_of c.serve_there.new.tree) c.args.player.now c.serve_there.new.player c.as_slice-path.result.now c.args.target.items (whole_entry c.args.entry)
    c.as_slice-path.ensures.value c.serve_there.ensures.serves

pub returns-clause-plays : goal.returns-clause-plays
returns-clause-plays c = missed_at c.miss_entry.result c.args.tree.now c.args.player.now c.miss_entry.new.outside c.as_slice-path.result.now c.args.target.items (whole_entry c.args.entry)
    c.as_slice-path.ensures.value c.in-None.ensures.missing c.miss_entry.ensures.misses
