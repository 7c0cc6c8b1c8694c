-- What comes back to calls that leave the tree.
use Rattle.std.proofs.Common.{◌≡◌, ℕ, true, List, Option, Some, None, refl, sym, subst, inl, inr}
use Rattle.std.specs.Prelude.{Result, Ok, Err}
use Rattle.tcl_core.specs.Endings.{Reply}
use Rattle.tcl_core.specs.Endings.Cause.{Above}
use Rattle.tcl_core.specs.Endings.Reply.{Cut}
use Rattle.tcl_core.specs.Entries as core
use Rattle.tcl_core.specs.Entries.{Entry}
use Rattle.tcl_core.specs.Entries.Answer.{Replied, Heard}
use Rattle.tcl_core.specs.Entries.Entry.{AskHost}
use Rattle.tcl_core.specs.Paths.{Height, Path, rise_to}
use Rattle.tcl_core.specs.Runs.{is_own}
use Rattle.tcl_core.specs.Trees.{Tree}
use Rattle.tcl_host.specs.declared.reply.HostReply.{HostReply}
use Rattle.tcl_host.specs.declared.request.Request.{Request}
use Rattle.tcl_run.proofs.Endings.{Interrupts-more}
use Rattle.tcl_run.proofs.Fitting.{own_reply, told_fits}
use Rattle.tcl_run.specs.Ends.{Interrupts}
use Rattle.tcl_run.specs.Entering.{request_of}
use Rattle.tcl_run.specs.Outsides.{AnswersFor, ComesNext, OnEntry, reply_of}
use Rattle.tcl_run.specs.declared.interruption.Cause.TheVariants as cause
use Rattle.tcl_run.specs.declared.interruption.Interruption.{Interruption}
use Rattle.tcl_run.specs.declared.interruption.Interruption.TheVariants as interruption
use Rattle.tcl_run.specs.declared.outside.Turn.{Turn}
use Rattle.tcl_run.specs.declared.outside.Turn.TheVariants as turn
use Rattle.tcl_sessions.specs.Standing.{AnswersAgain, ComesBack, Hears, IsFresh, Recalls, Waits, answer_of, goes}
use Rattle.tcl_sessions.specs.Standing.ComesBack.{again, heard, waits}
use Rattle.tcl_sessions.specs.declared.standing.Answer.{Answer}
use Rattle.tcl_sessions.specs.declared.standing.Standing.{Standing}
use Rattle.tcl_tree.specs.Own.{Own}

-- what comes back answers the call, or what a caller that is gone is told for it does
answers_for : (T : Tree Own) (o z : Standing) (p : Path) (d : ℕ) (h : Height) (i : Entry) (a : core.Answer) → rise_to h p ≡ None → ComesBack o p h i a z → is_own h i a ≡ true → AnswersFor goes T o p d h i z a
answers_for T o z p d h i a past comes own = ((a, refl, comes), told_fits d T p h i a past own)

-- an answer of before comes back
pub comes_again : (T : Tree Own) (o z : Standing) (p : Path) (d : ℕ) (h : Height) (i : Entry) (a : Answer) (t : Result Turn Interruption) → rise_to h p ≡ None → Recalls o (answer_of a) z → AnswersAgain h i a t → ComesNext goes Prim.⊥ T o p d h i z t
comes_again T o z p d h i a (Ok (turn.Entry target entry)) past r x = absurd x
comes_again T o z p d h i a (Ok (turn.Completed text)) past r x = absurd x
comes_again T o z p d h i a (Ok turn.Nobody) past r x = absurd x
comes_again T o z p d h i a (Ok (turn.Heard b)) past r x = answers_for T o z p d h i (Heard (reply_of b)) past (again (subst (λ (c : core.Answer). Recalls o c z) x.0 r)) x.1
comes_again T o z p d h i a (Err e) past r x =
    Interrupts-more e (λ q. (answer_of a ≡ Replied q) × (is_own h i (Replied q) ≡ true)) (λ q. AnswersFor goes T o p d h i z (Replied q))
    (λ q y. answers_for T o z p d h i (Replied q) past (again (subst (λ (c : core.Answer). Recalls o c z) y.0 r)) y.1) x

-- no answer is an entry
pub answers_no_entry : (h : Height) (i : Entry) (a : Answer) (t : Result Turn Interruption) (P : Type 0) → AnswersAgain h i a t → OnEntry t P
answers_no_entry h i a (Ok (turn.Entry target entry)) P x = absurd x
answers_no_entry h i a (Ok (turn.Completed text)) P x = tt
answers_no_entry h i a (Ok (turn.Heard b)) P x = tt
answers_no_entry h i a (Ok turn.Nobody) P x = tt
answers_no_entry h i a (Err e) P x = tt

pub none_is_any : (t : Result Turn Interruption) (P : Type 0) → OnEntry t Prim.⊥ → OnEntry t P
none_is_any (Ok (turn.Entry target entry)) P x = absurd x
none_is_any (Ok (turn.Completed text)) P x = tt
none_is_any (Ok (turn.Heard b)) P x = tt
none_is_any (Ok turn.Nobody) P x = tt
none_is_any (Err e) P x = tt

-- the host's reply comes back
pub comes_heard : (T : Tree Own) (o z : Standing) (p : Path) (d : ℕ) (h : Height) (i : Entry) (q : Request) (a : HostReply) → rise_to h p ≡ None → IsFresh o → h ≡ None → i ≡ AskHost (request_of q) → Hears o q a z → ComesNext goes Prim.⊥ T o p d h i z (Ok (turn.Heard a))
comes_heard T o z p d h i q a past fresh up is x =
    answers_for T o z p d h i (Heard (reply_of a)) past (heard q a fresh up is refl x)
    (subst (λ (k : Height). is_own k i (Heard (reply_of a)) ≡ true) (sym up) (subst (λ (j : Entry). is_own None j (Heard (reply_of a)) ≡ true) (sym is) (own_reply a q x.fits)))

-- the call waits
pub comes_cut : (T : Tree Own) (o z : Standing) (p : Path) (d : ℕ) (h : Height) (n : ℕ) (i : Entry) → rise_to h p ≡ None → IsFresh o → h ≡ Some n → Waits o p i z → ComesNext goes Prim.⊥ T o p d h i z (Err (interruption.Cut cause.Above))
comes_cut T o z p d h n i past fresh up x =
    answers_for T o z p d h i (Replied (Cut Above)) past (waits n fresh up refl x)
    (subst (λ (k : Height). is_own k i (Replied (Cut Above)) ≡ true) (sym up) refl)

-- from an equal state the same comes
pub comes_from : (T : Tree Own) (o u z : Standing) (p : Path) (d : ℕ) (h : Height) (i : Entry) (t : Result Turn Interruption) → u ≡ o → ComesNext goes Prim.⊥ T u p d h i z t → ComesNext goes Prim.⊥ T o p d h i z t
comes_from T o u z p d h i t e x = subst (λ (s : Standing). ComesNext goes Prim.⊥ T s p d h i z t) e x
