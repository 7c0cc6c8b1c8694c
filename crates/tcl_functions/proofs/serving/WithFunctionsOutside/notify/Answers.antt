use Rattle.std.proofs.Common.{refl, subst, sym}
use Rattle.std.specs.Prelude.{OnOk}
use Rattle.std.proofs.lemmas.Result.{on_ok_weaker}
use Rattle.tcl_core.specs.Runs.{gone}
use Rattle.tcl_run.proofs.Quiet.{within_unchanged}
use Rattle.tcl_tree.specs.TreeOf.{tree_of}
use Rattle.tcl_run.specs.Entering.{whole_entry}
use Rattle.tcl_run.specs.Notifying.{Notified}
use Rattle.tcl_run.specs.declared.outside.Happening.{Happening}
use Rattle.tcl_functions.proofs.Ways.{enters_unheard, exit_back, misses_unheard, returns_unheard, unfound}
use Rattle.tcl_functions.specs.Serving.{going}
use Rattle.tcl_functions.proofs.serving.WithFunctionsOutside.notify.Goals as goal

pub returns-in_default-clause-told : goal.returns-in_default-clause-told
returns-in_default-clause-told g c =
    let T = tree_of c.args.tree.now in
    let o = c.args.self.now in
    let serves = g.F.Functions.serves in
    let step = g.H.Host.step in
    within_unchanged (going serves step) (Unit {0}) c.args.tree.now o c.args.happening (λ S p. refl) (enters_unheard serves step T o) (returns_unheard serves step T o) (misses_unheard serves step T o)
    (λ caller up down entry is. absurd (c.in_default.not-PassedTop caller up down entry is))
    (λ target ended is. absurd (c.in_default.not-EntryDone target ended is))
    (λ caller up entry status is. absurd (c.in_default.not-ExitCameBack caller up entry status is))
    (λ target entry told is. absurd (c.in_default.not-Unfound target entry told is))

pub returns-in-Unfound-clause-told : goal.returns-in-Unfound-clause-told
returns-in-Unfound-clause-told g c =
    let serves = g.F.Functions.serves in
    let step = g.H.Host.step in
    let found = c.in-Unfound in
    subst (λ (w : Happening). OnOk c.hear_end-in-Unfound.result (Notified (going serves step) (Unit {0}) c.args.tree.now c.args.self.now w c.hear_end-in-Unfound.new.self)) (sym found.is)
    (on_ok_weaker c.hear_end-in-Unfound.result
    (λ e may. unfound serves step (tree_of c.args.tree.now) c.args.self.now c.hear_end-in-Unfound.new.self found.target.now (whole_entry found.entry.now) found.told.now e)
    c.hear_end-in-Unfound.ensures.hears)

pub returns-in-Some-up-clause-told : goal.returns-in-Some-up-clause-told
returns-in-Some-up-clause-told g c =
    let serves = g.F.Functions.serves in
    let step = g.H.Host.step in
    let back = c.in-ExitCameBack in
    subst (λ (w : Happening). OnOk c.close.result (Notified (going serves step) (Unit {0}) c.args.tree.now c.args.self.now w c.close.new.self)) (sym back.is)
    (on_ok_weaker c.close.result
    (λ e may p d at top. exit_back serves step c.args.self.now c.close.new.self (gone d (tree_of c.args.tree.now) p) back.up c.in-Some-up.field-0 p d (whole_entry back.entry.now) back.status c.in-Some-up.is top e)
    c.close.ensures.closes)
