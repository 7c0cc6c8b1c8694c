use Rattle.std.proofs.Common.{◌∙◌}
use Rattle.std.specs.Prelude.{Err}
use Rattle.tcl_run.proofs.Keeping.{steady_loses}
use Rattle.tcl_run.proofs.Losing.{lost_once}
use Rattle.tcl_tree.proofs.PathLemmas.{not_above_front}
use Rattle.tcl_calls.proofs.Carried.{acts_at}
use Rattle.tcl_calls.proofs.Served.{deleted, delete_refused}
use Rattle.tcl_calls.proofs.Standing.{deleted_here, deleted_steady, unchanged_here, unchanged_steady}
use Rattle.tcl_language.specs.Interpreters.{deletes}
use Rattle.tcl_calls.proofs.serving.delete.Goals as goal

pub returns-in_ok-notify-in-Ok-clause-runs : goal.returns-in_ok-notify-in-Ok-clause-runs
returns-in_ok-notify-in-Ok-clause-runs g c = deleted g.O.Outside.goes c.args.tree.now c.delete_at.new.self c.args.outside.now c.notify.new.self c.args.place c.args.name.now c.empty.result c.empty.ensures c.in-Ok.ensures.there c.in-Ok.ensures.dropped
    (λ p at. c.in-Ok.ensures.keys p at p c.args.place.key (not_above_front p c.args.name.now) at) c.in_ok-notify-in-Ok.ensures.told

pub returns-in_ok-notify-in-Ok-clause-keeps : goal.returns-in_ok-notify-in-Ok-clause-keeps
returns-in_ok-notify-in-Ok-clause-keeps g c = record {
  steady = deleted_steady c.args.tree.now c.delete_at.new.self c.args.place c.args.name.now c.in-Ok.ensures.marks c.in-Ok.ensures.parts c.requires c.in-Ok.ensures.dropped;
  left = c.notify.ensures.left;
  lost = lost_once c.notify.ensures.lost;
}

pub returns-in_ok-notify-in-Ok-clause-here : goal.returns-in_ok-notify-in-Ok-clause-here
returns-in_ok-notify-in-Ok-clause-here g c = deleted_here c.args.tree.now c.delete_at.new.self c.args.place c.args.name.now c.in-Ok.ensures.marks c.in-Ok.ensures.keys c.in-Ok.ensures.dropped

pub returns-in_err-notify-in-Ok-clause-keeps : goal.returns-in_err-notify-in-Ok-clause-keeps
returns-in_err-notify-in-Ok-clause-keeps g c = record {
  steady = deleted_steady c.args.tree.now c.delete_at.new.self c.args.place c.args.name.now c.in-Ok.ensures.marks c.in-Ok.ensures.parts c.requires c.in-Ok.ensures.dropped;
  left = c.notify.ensures.left;
  lost = lost_once c.notify.ensures.lost;
}

pub returns-in_err-notify-in-Ok-clause-here : goal.returns-in_err-notify-in-Ok-clause-here
returns-in_err-notify-in-Ok-clause-here g c = deleted_here c.args.tree.now c.delete_at.new.self c.args.place c.args.name.now c.in-Ok.ensures.marks c.in-Ok.ensures.keys c.in-Ok.ensures.dropped

pub returns-in-Err-clause-runs : goal.returns-in-Err-clause-runs
returns-in-Err-clause-runs g c = acts_at g.O.Outside.goes c.args.tree.now c.delete_at.new.self c.args.outside.now c.args.place (λ style. deletes c.args.name.now) (Err c.no_child.result)
    (delete_refused c.args.tree.now c.delete_at.new.self c.args.place c.args.name.now c.in-Err.field-0 c.no_child.result c.requires c.in-Err.ensures.refused c.in-Err.ensures.unchanged c.no_child.ensures)

pub returns-in-Err-clause-keeps : goal.returns-in-Err-clause-keeps
returns-in-Err-clause-keeps g c = steady_loses _ (unchanged_steady c.args.tree.now c.delete_at.new.self c.in-Err.ensures.marks c.in-Err.ensures.held c.in-Err.ensures.unchanged)

pub returns-in-Err-clause-here : goal.returns-in-Err-clause-here
returns-in-Err-clause-here g c = unchanged_here c.args.tree.now c.delete_at.new.self c.args.place c.in-Err.ensures.marks (λ q k at. c.in-Err.ensures.kept q ∙ at) c.in-Err.ensures.unchanged
