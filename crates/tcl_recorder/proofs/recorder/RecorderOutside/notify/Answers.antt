use Rattle.std.proofs.Common.{◌≡◌, ℕ, FitsSigned, ℤ, [], ◌∷◌, ◌++◌, Some, None, length, refl, sym, ◌∙◌, subst, w64, rules}
use Rattle.std.specs.Prelude.{OnOk}
use Rattle.std.proofs.lemmas.Int.{to_z-of_z}
use Rattle.std.proofs.lemmas.Result.{on_ok_weaker}
use Rattle.tcl_core.specs.Endings.{Reply}
use Rattle.tcl_core.specs.Endings.Reply.{Exit}
use Rattle.tcl_core.specs.Entries.Answer.{Replied}
use Rattle.tcl_core.specs.Execution.{event}
use Rattle.tcl_core.specs.Paths.{Path, rise_to}
use Rattle.tcl_core.specs.Runs.{carried, gone}
use Rattle.tcl_core.specs.Trees.What.{Back, Done, Dropped, Out}
use Rattle.tcl_run.proofs.Endings.{IfEnded-both}
use Rattle.tcl_run.proofs.Steady.{holds_stood}
use Rattle.tcl_run.specs.Ends.{IfEnded}
use Rattle.tcl_run.specs.Entering.{whole_entry}
use Rattle.tcl_run.specs.Notifying.{Notified}
use Rattle.tcl_run.specs.Outsides.{Misses, Returns}
use Rattle.tcl_run.specs.declared.outside.Happening.{Happening}
use Rattle.tcl_tree.specs.Gone.{Holds}
use Rattle.tcl_tree.specs.TreeOf.{Names, tree_of}
use Rattle.tcl_recorder.specs.Recording.{crossed, recorded}
use Rattle.tcl_recorder.specs.declared.recorder.Recorder.{Recorder}
use Rattle.tcl_recorder.proofs.Recorders.{crosses, drops, enters, leaves, misses, returns, silent_all, strays}
use Rattle.tcl_recorder.proofs.recorder.RecorderOutside.notify.Goals as goal

pub returns-in-Dropped-clause-told : goal.returns-in-Dropped-clause-told
returns-in-Dropped-clause-told g c =
    let old = c.args.self.now in
    let T = c.args.tree.now in
    let new = c.note_drop.new.self in
    let told = subst (λ (h : Happening). Notified g.O.Outside.goes g.O.Outside.hands_in T old.outside h c.notify.new.self) c.in-Dropped.is c.in_ok-notify.ensures.told in
    subst (λ (h : Happening). OnOk c.note_drop.result (Notified (recorded g.O.Outside.goes) g.O.Outside.hands_in T old h new)) (sym c.in-Dropped.is)
    (on_ok_weaker c.note_drop.result
    (λ e S p at. drops g.O.Outside.goes S old new _ c.note_drop.ensures.kept c.note_drop.ensures.incomplete (e p at)
    (subst (λ u. g.O.Outside.goes S old.outside None (event (p ++ c.in-Dropped.name.now ∷ []) Dropped) u) (sym c.note_drop.ensures.outside) (told S p at)))
    c.note_drop.ensures.fate)

pub returns-in_ok-path-in-Entered-clause-told : goal.returns-in_ok-path-in-Entered-clause-told
returns-in_ok-path-in-Entered-clause-told g c =
    let old = c.args.self.now in
    let T = c.args.tree.now in
    let new : Recorder g.row.O.Denot = record { outside = c.notify.new.self; kept = c.call_enters.new.self; deleted = old.deleted; incomplete = old.incomplete } in
    let told = subst (λ (h : Happening). Notified g.O.Outside.goes g.O.Outside.hands_in T old.outside h c.notify.new.self) c.in-Entered.is c.in_ok-notify.ensures.told in
    subst (λ (h : Happening). OnOk c.call_enters.result (Notified (recorded g.O.Outside.goes) g.O.Outside.hands_in T old h new)) (sym c.in-Entered.is)
    (on_ok_weaker c.call_enters.result
    (λ e p a at up. enters g.O.Outside.goes (tree_of T) old new c.as_slice.result.now p c.in-Entered.up a c.in-Entered.down.now (whole_entry c.in-Entered.entry.now)
    (c.as_slice.ensures.value ∙ c.in_ok-path-in-Entered.ensures.named p at) c.if-self.false up e refl refl (told p a at up))
    c.call_enters.ensures)

pub returns-in_ok-path-in-Returned-clause-told : goal.returns-in_ok-path-in-Returned-clause-told
returns-in_ok-path-in-Returned-clause-told g c =
    let old = c.args.self.now in
    let T = c.args.tree.now in
    let new : Recorder g.row.O.Denot = record { outside = c.notify.new.self; kept = c.call_returns.new.self; deleted = old.deleted; incomplete = old.incomplete } in
    let q = c.as_slice-in-Returned.result.now in
    let n = c.in-Returned.up in
    let down = c.in-Returned.down.now in
    let Kept : Reply → Reply → Type 0 = λ s r. (b : Path) → rise_to (Some n) q ≡ Some b → new.kept ≡ crossed (crossed old.kept (event (b ++ down) (Done (Some (length down)) s))) (event q (Back (Some n) (Replied r))) in
    let Inner : Reply → Reply → Type 0 = λ s r. (p a : Path) (d : ℕ) → Holds T c.in-Returned.caller p d → rise_to (Some n) p ≡ Some a → r ≡ carried (gone d (tree_of T) p) (Some n) p down s → Returns g.O.Outside.goes (tree_of T) old.outside p n a down s r new.outside in
    let Outer : Reply → Reply → Type 0 = λ s r. (p a : Path) (d : ℕ) → Holds T c.in-Returned.caller p d → rise_to (Some n) p ≡ Some a → r ≡ carried (gone d (tree_of T) p) (Some n) p down s → Returns (recorded g.O.Outside.goes) (tree_of T) old p n a down s r new in
    let told = subst (λ (h : Happening). Notified g.O.Outside.goes g.O.Outside.hands_in T old.outside h c.notify.new.self) c.in-Returned.is c.in_ok-notify.ensures.told in
    subst (λ (h : Happening). OnOk c.call_returns.result (Notified (recorded g.O.Outside.goes) g.O.Outside.hands_in T old h new)) (sym c.in-Returned.is)
    (on_ok_weaker c.call_returns.result
    (λ e. IfEnded-both c.in-Returned.ended.now (λ s. IfEnded c.in-Returned.told.now (Kept s)) (λ s. IfEnded c.in-Returned.told.now (Inner s)) (λ s. IfEnded c.in-Returned.told.now (Outer s))
    (λ s x y. IfEnded-both c.in-Returned.told.now (Kept s) (Inner s) (Outer s)
    (λ r kept inner p a d at up is. returns g.O.Outside.goes (tree_of T) old new q p n a down s r (c.as_slice-in-Returned.ensures.value ∙ c.in_ok-path-in-Returned.ensures.stood p (holds_stood T c.in-Returned.caller p d at)) c.if-self.false up kept refl refl (inner p a d at up is)) x y)
    e told)
    c.call_returns.ensures)

pub returns-in_ok-path-in-Missed-clause-told : goal.returns-in_ok-path-in-Missed-clause-told
returns-in_ok-path-in-Missed-clause-told g c =
    let old = c.args.self.now in
    let T = c.args.tree.now in
    let new : Recorder g.row.O.Denot = record { outside = c.notify.new.self; kept = c.call_misses.new.self; deleted = old.deleted; incomplete = old.incomplete } in
    let q = c.as_slice-in-Missed.result.now in
    let n = c.in-Missed.up in
    let down = c.in-Missed.down.now in
    let i = whole_entry c.in-Missed.entry.now in
    let Kept : Reply → Type 0 = λ r. new.kept ≡ crossed (crossed old.kept (event q (Out (Some n) down i))) (event q (Back (Some n) (Replied r))) in
    let Inner : Reply → Type 0 = λ r. (p a : Path) → Names T c.in-Missed.caller p → rise_to (Some n) p ≡ Some a → Misses g.O.Outside.goes (tree_of T) old.outside p n down i r new.outside in
    let Outer : Reply → Type 0 = λ r. (p a : Path) → Names T c.in-Missed.caller p → rise_to (Some n) p ≡ Some a → Misses (recorded g.O.Outside.goes) (tree_of T) old p n down i r new in
    let told = subst (λ (h : Happening). Notified g.O.Outside.goes g.O.Outside.hands_in T old.outside h c.notify.new.self) c.in-Missed.is c.in_ok-notify.ensures.told in
    subst (λ (h : Happening). OnOk c.call_misses.result (Notified (recorded g.O.Outside.goes) g.O.Outside.hands_in T old h new)) (sym c.in-Missed.is)
    (on_ok_weaker c.call_misses.result
    (λ e. IfEnded-both c.in-Missed.told.now Kept Inner Outer
    (λ r kept inner p a at up. misses g.O.Outside.goes (tree_of T) old new q p n down i r (c.as_slice-in-Missed.ensures.value ∙ c.in_ok-path-in-Missed.ensures.named p at) c.if-self.false kept refl refl (inner p a at up))
    e told)
    c.call_misses.ensures)

pub returns-in_ok-path-in-PassedTop-clause-told : goal.returns-in_ok-path-in-PassedTop-clause-told
returns-in_ok-path-in-PassedTop-clause-told g c =
    let old = c.args.self.now in
    let T = c.args.tree.now in
    let new : Recorder g.row.O.Denot = record { outside = c.notify.new.self; kept = c.call_goes.new.self; deleted = old.deleted; incomplete = old.incomplete } in
    let told = subst (λ (h : Happening). Notified g.O.Outside.goes g.O.Outside.hands_in T old.outside h c.notify.new.self) c.in-PassedTop.is c.in_ok-notify.ensures.told in
    subst (λ (h : Happening). OnOk c.call_goes.result (Notified (recorded g.O.Outside.goes) g.O.Outside.hands_in T old h new)) (sym c.in-PassedTop.is)
    (on_ok_weaker c.call_goes.result
    (λ e p at up. crosses g.O.Outside.goes (tree_of T) old new None c.as_slice-in-PassedTop.result.now p (Out c.in-PassedTop.up c.in-PassedTop.down.now (whole_entry c.in-PassedTop.entry.now))
    (c.as_slice-in-PassedTop.ensures.value ∙ c.in_ok-path-in-PassedTop.ensures.named p at) c.if-self.false refl (λ w. w) e refl (λ f. absurd f) (told p at up))
    c.call_goes.ensures)

pub returns-in-EntryDone-clause-told : goal.returns-in-EntryDone-clause-told
returns-in-EntryDone-clause-told g c =
    let old = c.args.self.now in
    let T = c.args.tree.now in
    let new : Recorder g.row.O.Denot = record { outside = c.notify.new.self; kept = c.entry_ends.new.self; deleted = old.deleted; incomplete = old.incomplete } in
    let told = subst (λ (h : Happening). Notified g.O.Outside.goes g.O.Outside.hands_in T old.outside h c.notify.new.self) c.in-EntryDone.is c.in_ok-notify.ensures.told in
    subst (λ (h : Happening). OnOk c.entry_ends.result (Notified (recorded g.O.Outside.goes) g.O.Outside.hands_in T old h new)) (sym c.in-EntryDone.is)
    (on_ok_weaker c.entry_ends.result
    (λ e. leaves g.O.Outside.goes (tree_of T) old new c.in-EntryDone.target.now c.in-EntryDone.ended.now c.if-self.false c.in_ok-goes_on.ensures refl refl e told)
    c.entry_ends.ensures)

pub returns-in_ok-path-in-ExitCameBack-clause-told : goal.returns-in_ok-path-in-ExitCameBack-clause-told
returns-in_ok-path-in-ExitCameBack-clause-told g c =
    let old = c.args.self.now in
    let T = c.args.tree.now in
    let new : Recorder g.row.O.Denot = record { outside = c.notify.new.self; kept = c.exit_comes.new.self; deleted = old.deleted; incomplete = old.incomplete } in
    let h = c.in-ExitCameBack.up in
    let q = c.as_slice-in-ExitCameBack.result.now in
    let fits_it : FitsSigned w64 c.in-ExitCameBack.status = search rules in
    let Kept : ℤ → Type 0 = λ n. OnOk c.exit_comes.result (c.exit_comes.new.self ≡ crossed old.kept (event q (Back h (Replied (Exit n))))) in
    let told = subst (λ (h : Happening). Notified g.O.Outside.goes g.O.Outside.hands_in T old.outside h c.notify.new.self) c.in-ExitCameBack.is c.in_ok-notify.ensures.told in
    subst (λ (h : Happening). OnOk c.exit_comes.result (Notified (recorded g.O.Outside.goes) g.O.Outside.hands_in T old h new)) (sym c.in-ExitCameBack.is)
    (on_ok_weaker c.exit_comes.result
    (λ e may p d at up. crosses g.O.Outside.goes (tree_of T) old new (Some (h, _, _)) c.as_slice-in-ExitCameBack.result.now p (Back h (Replied (Exit c.in-ExitCameBack.status)))
    (c.as_slice-in-ExitCameBack.ensures.value ∙ c.in_ok-path-in-ExitCameBack.ensures.stood p (holds_stood T c.in-ExitCameBack.caller p d at)) c.if-self.false refl (λ w. w) e refl (λ f. absurd f) (told may p d at up))
    (subst Kept (to_z-of_z w64 c.in-ExitCameBack.status fits_it) c.exit_comes.ensures))

pub returns-in-Unfound-clause-told : goal.returns-in-Unfound-clause-told
returns-in-Unfound-clause-told g c =
    let old = c.args.self.now in
    let T = c.args.tree.now in
    let new : Recorder g.row.O.Denot = record { outside = c.notify.new.self; kept = c.stray_comes.new.self; deleted = old.deleted; incomplete = old.incomplete } in
    let told = subst (λ (h : Happening). Notified g.O.Outside.goes g.O.Outside.hands_in T old.outside h c.notify.new.self) c.in-Unfound.is c.in_ok-notify.ensures.told in
    subst (λ (h : Happening). OnOk c.stray_comes.result (Notified (recorded g.O.Outside.goes) g.O.Outside.hands_in T old h new)) (sym c.in-Unfound.is)
    (on_ok_weaker c.stray_comes.result
    (λ e. strays g.O.Outside.goes g.O.Outside.hands_in (tree_of T) old new c.in-Unfound.target.now (whole_entry c.in-Unfound.entry.now) c.in-Unfound.told.now c.if-self.false c.in_ok-goes_on.ensures refl e told)
    c.stray_comes.ensures)

-- once it was dropped
pub returns-then-self-clause-told : goal.returns-then-self-clause-told
returns-then-self-clause-told g c = silent_all g.O.Outside.goes g.O.Outside.hands_in c.args.tree.now c.args.self.now c.args.happening c.notify.new.self c.if-self.true c.in_ok-goes_on.ensures c.in_ok-notify.ensures.told
