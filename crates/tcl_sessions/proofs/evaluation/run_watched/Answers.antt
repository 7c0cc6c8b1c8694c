use Rattle.std.proofs.Common.{◌≡◌, Some, sym, subst}
use Rattle.std.specs.Prelude.{Result}
use Rattle.tcl_core.specs.Paths.{Path, Text}
use Rattle.tcl_eval.specs.declared.running.OpenEnd.{OpenEnd}
use Rattle.tcl_sessions.proofs.Watching.{Facts, watched_ends}
use Rattle.tcl_sessions.specs.Evaluations.{Ends}
use Rattle.tcl_sessions.specs.declared.refusal.Refusal.{Refusal}
use Rattle.tcl_sessions.specs.declared.session.Watch.{Watch}
use Rattle.tcl_sessions.specs.declared.standing.Standing.{Standing}
use Rattle.tcl_sessions.proofs.evaluation.run_watched.Goals as goal

pub returns : goal.returns
returns c =
    let old = c.args.tree.now in let new = c.open_watched-back.new.tree in let z = c.open_watched-back.result.0 in let r = c.open_watched-back.result.1 in let e = c.args.evaluation.now in let w = c.args.watched.now in let f = c.open_watched-back.ensures in
    subst (λ (x : Result (OpenEnd × Watch) Refusal). Ends old c.args.standing.now e (Some w) new z x) (sym c.kept.ensures)
    (watched_ends old new c.args.standing.now z e w r
    (subst (λ (p : Path). Facts old new z e.limit w r p e.script c.args.standing.now) c.as_slice-path.ensures.value
    (subst (λ (s : Text). Facts old new z e.limit w r c.as_slice-path.result.now s c.args.standing.now) c.as_str-script.ensures
    (subst (λ (o : Standing). Facts old new z e.limit w r c.as_slice-path.result.now c.as_str-script.result.now o) c.replace-lent.ensures.value
    (record { unfit = f.refused; begun = f.begun; marks = f.marks; runs = f.runs; recorded = f.recorded; reacts = f.reacts })))))
