-- Answers to calls that left the tree, and how the last entry ended.
use Rattle.std.specs.Prelude.{◌≡◌, ℕ, zero, suc, ℤ, Bool, true, false, Option, Some, None, Result}
use Rattle.std.specs.Prelude.{Ok, Err}
use Rattle.tcl_core.specs.Endings.{Reply, ok}
use Rattle.tcl_core.specs.Endings.Reply.{Completed, Exit, Cut}
use Rattle.tcl_core.specs.Entries.{Answer, Entry}
use Rattle.tcl_core.specs.Entries.Answer.{Replied, Heard, Nobody}
use Rattle.tcl_core.specs.Lives.{Outcome}
use Rattle.tcl_core.specs.Lives.Outcome.{Exited, Finished}
use Rattle.tcl_core.specs.Paths.{Height}
use Rattle.tcl_core.specs.Trees.{Move}
use Rattle.tcl_core.specs.Trees.Move.{Come}
use Rattle.tcl_reactions.specs.Playing.{may_come}
use Rattle.tcl_run.specs.Ends.{Interrupts}
use Rattle.tcl_run.specs.Outsides.{reply_of}
use Rattle.tcl_run.specs.declared.interruption.Interruption.{Interruption}
use Rattle.tcl_run.specs.declared.outside.Turn.{Turn}
use Rattle.tcl_run.specs.declared.outside.Turn.TheVariants as turn
use Rattle.tcl_tree.specs.Own.{Own}

-- how the last entry ended: by this exit, or otherwise
abbrev pub last_outcome : Option ℤ → Outcome
last_outcome (Some n) = Exited n
last_outcome None = Finished

-- the status of an exit, and none of another reply
abbrev pub IsExitOf : Reply → Option ℤ → Type 0
IsExitOf (Exit n) o = o ≡ Some n
IsExitOf r o = o ≡ None

-- Whether a move may come to the open call, so high up and for this, whose caller is gone so many
-- levels up or stands; the outcome is that of the last entry.
abbrev pub fits_call : Outcome → Option ℕ → Height → Entry → Move Own → Bool
fits_call x away h i (Come a) = may_come x away (Some (h, i, 0)) a
fits_call (Exited n) away h i m = false
fits_call x away h i m = true

-- What is taken for whether the caller is gone is so, where that matters: after an entry that ended
-- by an exit nothing but that exit fits, whoever is gone.
abbrev pub IsKnown : Option ℤ → Option ℕ → Option ℕ → Type 0
IsKnown None taken away = taken ≡ away
IsKnown (Some n) taken away = Unit {0}

-- a step more is granted where the playing goes on and one is left
abbrev pub pays_on : {A : Type 0} → Option A → ℕ → Bool
pays_on None (suc n) = true
pays_on None zero = false
pays_on (Some f) n = false

-- an end from outside
abbrev pub is_cut : Answer → Bool
is_cut (Replied (Cut c)) = true
is_cut a = false

abbrev pub cuts_off : Move Own → Bool
cuts_off (Come a) = is_cut a
cuts_off m = false

-- a call that is answered so comes to this
abbrev pub IsTold : Answer → Result Turn Interruption → Type 0
IsTold a (Ok (turn.Entry target entry)) = Prim.⊥
IsTold a (Ok (turn.Completed text)) = a ≡ Replied (Completed (ok text))
IsTold a (Ok (turn.Heard reply)) = a ≡ Heard (reply_of reply)
IsTold a (Ok turn.Nobody) = a ≡ Nobody
IsTold a (Err e) = Interrupts e (λ r. a ≡ Replied r)
