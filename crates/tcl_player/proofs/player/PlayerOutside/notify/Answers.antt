use Rattle.std.proofs.Common.{rules, refl, sym, subst, Some, ℕ, ℤ, FitsSigned, w64}
use Rattle.std.specs.Prelude.{OnOk}
use Rattle.std.proofs.lemmas.Int.{to_z-of_z}
use Rattle.std.proofs.lemmas.Result.{on_ok_weaker}
use Rattle.tcl_core.specs.Endings.Reply.{Exit}
use Rattle.tcl_core.specs.Entries.Answer.{Replied}
use Rattle.tcl_core.specs.Execution.{event}
use Rattle.tcl_core.specs.Programs.{Wait}
use Rattle.tcl_core.specs.Trees.What.{Back}
use Rattle.tcl_run.specs.Entering.{whole_entry}
use Rattle.tcl_run.proofs.Quiet.{within_unchanged}
use Rattle.tcl_run.specs.Notifying.{Notified}
use Rattle.tcl_run.specs.declared.outside.Happening.{Happening}
use Rattle.tcl_tree.specs.TreeOf.{tree_of}
use Rattle.tcl_player.proofs.Played.{enters_unheard, misses_unheard, returns_unheard, strays}
use Rattle.tcl_player.specs.Players.{played}
use Rattle.tcl_player.proofs.player.PlayerOutside.notify.Goals as goal

pub returns-in-PassedTop-clause-told : goal.returns-in-PassedTop-clause-told
returns-in-PassedTop-clause-told c =
    subst (λ (w : Happening). OnOk c.call_goes.result (Notified played (Unit {0}) c.args.tree.now c.args.self.now w c.call_goes.new.self)) (sym c.in-PassedTop.is) c.call_goes.ensures.told

pub returns-in-EntryDone-clause-told : goal.returns-in-EntryDone-clause-told
returns-in-EntryDone-clause-told c =
    subst (λ (w : Happening). OnOk c.entry_ends.result (Notified played (Unit {0}) c.args.tree.now c.args.self.now w c.entry_ends.new.self)) (sym c.in-EntryDone.is)
    (on_ok_weaker c.entry_ends.result (λ e. e (tree_of c.args.tree.now)) c.entry_ends.ensures.told)

pub returns-in-Unfound-clause-told : goal.returns-in-Unfound-clause-told
returns-in-Unfound-clause-told c =
    let T = tree_of c.args.tree.now in
    subst (λ (w : Happening). OnOk c.entry_ends-in-Unfound.result (Notified played (Unit {0}) c.args.tree.now c.args.self.now w c.entry_ends-in-Unfound.new.self)) (sym c.in-Unfound.is)
    (on_ok_weaker c.entry_ends-in-Unfound.result (λ e may. strays T c.args.self.now c.entry_ends-in-Unfound.new.self c.in-Unfound.target.now (whole_entry c.in-Unfound.entry.now) c.in-Unfound.told.now (e T)) c.entry_ends-in-Unfound.ensures.told)

pub returns-in-ExitCameBack-clause-told : goal.returns-in-ExitCameBack-clause-told
returns-in-ExitCameBack-clause-told c =
    let T = tree_of c.args.tree.now in
    let o = c.args.self.now in
    let z = c.exit_comes.new.self in
    let up = c.in-ExitCameBack.up in
    let call : ℕ → Wait = λ d. Some (up, whole_entry c.in-ExitCameBack.entry.now, d) in
    let fits_it : FitsSigned w64 c.in-ExitCameBack.status = search rules in
    let same = to_z-of_z w64 c.in-ExitCameBack.status fits_it in
    subst (λ (w : Happening). OnOk c.exit_comes.result (Notified played (Unit {0}) c.args.tree.now o w z)) (sym c.in-ExitCameBack.is)
    (on_ok_weaker c.exit_comes.result (λ e may p d at above. subst (λ (n : ℤ). played T o (call d) (event p (Back up (Replied (Exit n)))) z) same (e p d above)) c.exit_comes.ensures.told)

pub returns-in_default-clause-told : goal.returns-in_default-clause-told
returns-in_default-clause-told c =
    let T = tree_of c.args.tree.now in
    let o = c.args.self.now in
    within_unchanged played (Unit {0}) c.args.tree.now o c.args.happening (λ S p. refl) (enters_unheard T o) (returns_unheard T o) (misses_unheard T o)
    (λ caller up down entry is. absurd (c.in_default.not-PassedTop caller up down entry is))
    (λ target ended is. absurd (c.in_default.not-EntryDone target ended is))
    (λ caller up entry status is. absurd (c.in_default.not-ExitCameBack caller up entry status is))
    (λ target entry told is. absurd (c.in_default.not-Unfound target entry told is))
