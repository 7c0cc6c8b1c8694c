-- Small playings, one for each outcome. The tree is the child of the worked life of tcl_core.
use Rattle.std.specs.Prelude.{◌≡◌, ℕ, pos, List, [], ◌∷◌, ◌++◌, Some, None}
use Rattle.tcl_core.specs.Endings.{Reply, error, ok}
use Rattle.tcl_core.specs.Endings.Cause.{Above}
use Rattle.tcl_core.specs.Endings.Meter.{Count}
use Rattle.tcl_core.specs.Endings.Kind.{Full, Gone}
use Rattle.tcl_core.specs.Endings.Reply.{Completed, Cut, Exit, Stop}
use Rattle.tcl_core.specs.Entries.{Answer, Request}
use Rattle.tcl_core.specs.Entries.Answer.{Replied, Heard, Nobody}
use Rattle.tcl_core.specs.Entries.Entry.{AskHost, Eval}
use Rattle.tcl_core.specs.Entries.HostReply.{Line, TheEnd, TheRest, Fails}
use Rattle.tcl_core.specs.Entries.Request.{Open, ReadAll, ReadLine}
use Rattle.tcl_core.specs.Example.{Script, an_answer, child, child_alone, commands, finish}
use Rattle.tcl_core.specs.Example.{finish_calls, lost, nobody, one_entry}
use Rattle.tcl_core.specs.Lives.{Outcome}
use Rattle.tcl_core.specs.Lives.Outcome.{Finished, Waiting, Ended, Exited, Spent, Misfit}
use Rattle.tcl_core.specs.Programs.{Table}
use Rattle.tcl_core.specs.Programs.Prog.{done, exit, call}
use Rattle.tcl_core.specs.Execution.{event}
use Rattle.tcl_core.specs.Trees.{Event, Move, Tree}
use Rattle.tcl_core.specs.Trees.Move.{Enter, Come}
use Rattle.tcl_core.specs.Trees.What.{Out, Done}
use Rattle.tcl_reactions.specs.Playing.{IsOver, Lived, Player, beginner, outcome}

-- each entry is passed on to the interpreter above, which is outside of the tree
abbrev pub asking : Table ℕ Script
asking = record {
  program = λ i. done lost;
  entry = λ i. call (Some 1) [] i lost finish;
  lost = nobody;
  programs_call = λ i. tt;
  entries_call = λ i. finish_calls;
}

-- each entry is an exit
abbrev pub leaving : Table ℕ Script
leaving = record {
  program = λ i. done lost;
  entry = λ i. exit (pos 3);
  lost = λ path. lost;
  programs_call = λ i. tt;
  entries_call = λ i. tt;
}

-- Playing these moves with so many steps comes to this outcome, tells this, and is then over.
pub record Comes_to (prog : Table ℕ Script) (ms : List (Move ℕ)) (n : ℕ) (x : Outcome)
    (outs : List (Event ℕ)) : Type 0 where
  pub last : Tree ℕ
  pub player : Player ℕ
  pub playing : Lived prog child_alone (beginner ms n) last player
  pub is_over : IsOver player
  pub outcome : outcome player ≡ x
  pub told : player.outs ≡ outs

abbrev pub asked : Event ℕ
asked = event [] (Out (Some 1) [] (Eval []))

abbrev pub done_so : Event ℕ
done_so = event [] (Done None (Completed (ok [])))

-- an entry that finds nobody: the child has no child
abbrev pub stray_entry : List (Move ℕ)
stray_entry = Enter (child ∷ []) (Eval []) ∷ []

abbrev pub nobody_there : Event ℕ
nobody_there = event (child ∷ []) (Done None (Completed (error child)))

-- an entry, and then this reply, or this word of a host
abbrev pub one_entry_and : Reply → List (Move ℕ)
one_entry_and r = one_entry ++ Come (Replied r) ∷ []

abbrev pub one_entry_heard : List (Move ℕ)
one_entry_heard = one_entry ++ Come (Heard TheEnd) ∷ []

pub record WorkedPlayings : Type 0 where
  -- it has a command done, which makes one step; with no step left it is spent, and tells nothing
  pub served : Comes_to commands one_entry 1 Finished (done_so ∷ [])
  pub spent : Comes_to commands one_entry 0 Spent []
  -- an answer to a call that it didn't make
  pub uncalled : Comes_to commands an_answer 1 Misfit []
  -- an answer that its call waits for, none, an end from outside, and what a host says, which is no
  -- answer to it
  pub answered : Comes_to asking (one_entry_and (Completed (ok []))) 1 Finished
      (asked ∷ done_so ∷ [])
  pub waiting : Comes_to asking one_entry 1 Waiting (asked ∷ [])
  -- that nobody is there to answer it: it goes on by its own completion for that
  pub missed : Comes_to asking (one_entry ++ Come Nobody ∷ []) 1 Finished
      (asked ∷ event [] (Done None (Completed lost)) ∷ [])
  pub ended : Comes_to asking (one_entry_and (Cut Above)) 1 Ended (asked ∷ [])
  pub unfit : Comes_to asking one_entry_heard 1 Misfit (asked ∷ [])
  -- an entry that finds nobody is told so, before another one and while a call is open
  pub unfound : Comes_to commands (stray_entry ++ one_entry) 1 Finished
      (nobody_there ∷ done_so ∷ [])
  pub unfound_meanwhile : Comes_to asking (one_entry ++ stray_entry) 1 Waiting
      (asked ∷ nobody_there ∷ [])
  -- an exit
  pub exited : Comes_to leaving one_entry 1 (Exited (pos 3))
      (event [] (Done None (Exit (pos 3))) ∷ [])

-- each entry asks the host for this
abbrev pub asking_host : Request → Table ℕ Script
asking_host q = record {
  program = λ i. done lost;
  entry = λ i. call None [] (AskHost q) lost finish;
  lost = λ path. lost;
  programs_call = λ i. tt;
  entries_call = λ i. finish_calls;
}

-- this doesn't answer a request; and no alias that leads one level up
abbrev pub AnswersNoRequest : Request → Answer → Type 0
AnswersNoRequest q a = Comes_to (asking_host q) (one_entry ++ Come a ∷ []) 1 Misfit
    (event [] (Out None [] (AskHost q)) ∷ [])

abbrev pub AnswersNoAlias : Answer → Type 0
AnswersNoAlias a = Comes_to asking (one_entry ++ Come a ∷ []) 1 Misfit (asked ∷ [])

pub record WorkedMisfits : Type 0 where
  -- what another read gives
  pub line_for_the_rest : AnswersNoRequest (ReadAll []) (Heard (Line []))
  pub rest_for_a_line : AnswersNoRequest (ReadLine []) (Heard (TheRest []))
  pub end_for_the_rest : AnswersNoRequest (ReadAll []) (Heard TheEnd)
  -- a refusal that the request can't have: of an opening that no channel is open, of a channel that
  -- no file could be opened
  pub channel_refused : AnswersNoRequest (Open [] []) (Heard (Fails 261))
  pub opening_refused : AnswersNoRequest (ReadAll []) (Heard (Fails 267))
  -- a completion and a stop of a request; what a host says of an alias
  pub completed : AnswersNoRequest (ReadLine []) (Replied (Completed (ok [])))
  pub stopped : AnswersNoRequest (ReadLine []) (Replied (Stop 0 (Full Count)))
  -- what ends a caller that is gone, of one that isn't
  pub deleted : AnswersNoRequest (ReadLine []) (Replied (Stop 0 Gone))
  pub heard : AnswersNoAlias (Heard (Line []))
  -- that nobody is there, of a request
  pub missed : AnswersNoRequest (ReadLine []) Nobody
  -- a stop that names the interpreter to which the call goes up
  pub stopped_from_above : AnswersNoAlias (Replied (Stop 1 (Full Count)))
