-- A small beginning, step by step: the root makes a step, and asks the host for a line; there it is
-- given up. The tree is that of the worked life of tcl_core.
use Rattle.std.specs.Prelude.{ℕ, suc, List, [], ◌∷◌, ◌++◌, Some, None}
use Rattle.tcl_core.specs.Endings.{ok}
use Rattle.tcl_core.specs.Endings.Reply.{Completed}
use Rattle.tcl_core.specs.Entries.{Entry, Said}
use Rattle.tcl_core.specs.Entries.Answer.{Heard}
use Rattle.tcl_core.specs.Entries.Entry.{AskHost}
use Rattle.tcl_core.specs.Entries.HostReply.{TheEnd}
use Rattle.tcl_core.specs.Entries.Request.{ReadLine}
use Rattle.tcl_core.specs.Entries.Said.{Finished, Told, Missed}
use Rattle.tcl_core.specs.Example.{first_tree, lost}
use Rattle.tcl_core.specs.Programs.{Calls_only, Prog, Table}
use Rattle.tcl_core.specs.Programs.Act.{Charge}
use Rattle.tcl_core.specs.Programs.Prog.{act, call, done}
use Rattle.tcl_core.specs.Runs.{Ending, Runs, World}
use Rattle.tcl_core.specs.Execution.{event}
use Rattle.tcl_core.specs.Trees.{Event, Grant, Move, effect}
use Rattle.tcl_core.specs.Trees.Grant.{Allow}
use Rattle.tcl_core.specs.Trees.Grants.{Budget, Listed}
use Rattle.tcl_core.specs.Trees.Move.{Come}
use Rattle.tcl_core.specs.Trees.What.{Back, Charged, Out}
use Rattle.tcl_partial_runs.specs.Beginnings.{Begins, Begun}
use Rattle.tcl_partial_runs.specs.Keeping.{keeps}

-- the one script that there is
pub data Reading : Type 0 where
  ReadsLine : Reading

abbrev pub request : Entry
request = AskHost (ReadLine [])

-- whatever the host says, that is the end
abbrev pub after_line : Said → Prog ℕ Reading
after_line (Finished c) = done c
after_line (Told a) = done (ok [])
after_line Missed = done lost

abbrev pub after_line_calls : (a : Said) → Calls_only (after_line a)
after_line_calls (Finished c) = tt
after_line_calls (Told a) = tt
after_line_calls Missed = tt

-- one step, and then the request
abbrev pub reads_line : Prog ℕ Reading
reads_line = act Charge (λ T. call None [] request lost after_line)

abbrev pub reading : Table ℕ Reading
reading = record {
  program = λ i. reads_line;
  entry = λ i. done lost;
  lost = λ path. lost;
  programs_call = λ i. λ T.
      after_line_calls;
  entries_call = λ i. tt;
}

-- what is told by then
abbrev pub so_far : List (Event ℕ)
so_far = event [] Charged ∷ event [] (Out None [] request) ∷ []

-- what is told in the whole run, in which the host has no line left
abbrev pub all_told : List (Event ℕ)
all_told = so_far ++ event [] (Back None (Heard TheEnd)) ∷ []

abbrev pub start : World ℕ
start = record {
  tree = first_tree;
  moves = Come (Heard TheEnd) ∷ [];
  grants = Listed (Allow ∷ []);
  tape = all_told;
}

abbrev pub finish : World ℕ
finish = record { tree = effect [] Charged first_tree; moves = []; grants = Listed []; tape = [] }

pub record WorkedBeginning : Type 0 where
  -- given up when the request has been told
  pub given_up : Begun keeps reading first_tree [] [] reads_line so_far
  -- a whole run, and what stands first in it
  pub whole : Runs reading start [] reads_line finish (Some (Completed (ok [])))
  pub stands_first : Begins start.tape so_far
  -- so it is in each run whose step is granted, whatever else the outside hands in
  pub each : (ms : List (Move ℕ)) (gs : List Grant) (tape : List (Event ℕ)) (v : World ℕ)
      (e : Ending) →
      Runs reading (record {
        tree = first_tree;
        moves = ms;
        grants = Listed (Allow ∷ gs);
        tape = tape;
      }) [] reads_line
      v e → Begins tape so_far
  -- and in each with a budget that has a step
  pub each_within : (ms : List (Move ℕ)) (n : ℕ) (tape : List (Event ℕ)) (v : World ℕ) (e : Ending)
      →
      Runs reading (record { tree = first_tree; moves = ms; grants = Budget (suc n); tape = tape })
      [] reads_line v e → Begins tape so_far
