-- Two small lives in which an interpreter is dropped while it is in use, step by step.
use Rattle.std.specs.Prelude.{◌≡◌, ℕ, zero, suc, true, false, List, [], ◌∷◌, ◌++◌, Some, None}
use Rattle.tcl_core.specs.Paths.{Text}
use Rattle.tcl_core.specs.Endings.{Completion, ok, error, refusal}
use Rattle.tcl_core.specs.Endings.Kind.{Gone}
use Rattle.tcl_core.specs.Endings.Reply.{Completed, Stop}
use Rattle.tcl_core.specs.Entries.{Entry, Said}
use Rattle.tcl_core.specs.Entries.Entry.{Eval}
use Rattle.tcl_core.specs.Entries.Said.{Finished, Told, Missed}
use Rattle.tcl_core.specs.Entries.Answer.{Replied}
use Rattle.tcl_core.specs.Trees.{Node, Tree, Event, at, fresh}
use Rattle.tcl_core.specs.Trees.Grants.{Budget}
use Rattle.tcl_core.specs.Trees.What.{Seen, Changed, Charged, Nested, Unnested, Made, Dropped, Out}
use Rattle.tcl_core.specs.Trees.What.{In, Done, Back}
use Rattle.tcl_core.specs.Trees.Move.{Enter}
use Rattle.tcl_core.specs.Programs.{Prog, Calls_only, Table}
use Rattle.tcl_core.specs.Programs.Act.{Charge, Change, Make, Drop}
use Rattle.tcl_core.specs.Programs.Wrap.{Deeper, Framed}
use Rattle.tcl_core.specs.Programs.Prog.{done, act, inside, call, wait}
use Rattle.tcl_core.specs.Runs.{World, Runs}
use Rattle.tcl_core.specs.Views.{moves_of, view}
use Rattle.tcl_core.specs.Lives.{React, idle, never, outs_of}
use Rattle.tcl_core.specs.Lives.Outcome.{Waiting}
use Rattle.tcl_core.specs.Laws.{after}
use Rattle.tcl_core.specs.Execution.{event}

-- A script tells the child c to go on, or the child g of that; or has the one so many levels up
-- delete its child c, within frames of its own or without; or deletes it, and makes it anew.
pub data Script : Type 0 where
  TellsC : Script
  TellsG : Script
  Framed_asks : Script
  Asks : (levels : ℕ) → Script
  Kills : Script

abbrev pub c : Text
c = 99 ∷ []

abbrev pub g : Text
g = 103 ∷ []

abbrev pub lost : Completion
lost = error []

-- Where the answer comes back, the variable is set: whoever goes on shows it.
abbrev pub goes_on : Said → Prog ℕ Script
goes_on (Finished x) = act (Change 2) (λ T. done (ok []))
goes_on (Told a) = done lost
goes_on Missed = done lost

abbrev pub finish : Said → Prog ℕ Script
finish (Finished x) = done x
finish (Told a) = done lost
finish Missed = done lost

-- the scripts, as texts
abbrev pub tells_c : Text
tells_c = 0 ∷ []

abbrev pub tells_g : Text
tells_g = 1 ∷ []

abbrev pub asks_parent : Text
asks_parent = 2 ∷ []

abbrev pub asks_above : Text
asks_above = 3 ∷ []

abbrev pub kills : Text
kills = []

abbrev pub script_of : Text → Script
script_of [] = Kills
script_of (zero ∷ t) = TellsC
script_of (suc zero ∷ t) = TellsG
script_of (suc (suc zero) ∷ t) = Framed_asks
script_of (x ∷ t) = Asks 2

abbrev pub program : Text → Script → Prog ℕ Script
program next TellsC = act Charge (λ T. call (Some 0) (c ∷ []) (Eval next) lost finish)
program next TellsG = act Charge (λ T. call (Some 0) (g ∷ []) (Eval asks_above) lost finish)
program next Framed_asks = inside (Framed 3 (λ n. 4)) (Asks 1) done
program next (Asks n) = act Charge (λ T. call (Some n) [] (Eval kills) lost goes_on)
program next Kills = act Charge (λ T. act (Drop c) (λ U. act (Make c 0 true) (λ V. done (ok []))))

abbrev pub entry : Entry → Prog ℕ Script
entry (Eval t) = inside Deeper (script_of t) done
entry i = done lost

abbrev pub finish_calls : (a : Said) → Calls_only (finish a)
finish_calls (Finished x) = tt
finish_calls (Told a) = tt
finish_calls Missed = tt

abbrev pub goes_on_calls : (a : Said) → Calls_only (goes_on a)
goes_on_calls (Finished x) = λ T. tt
goes_on_calls (Told a) = tt
goes_on_calls Missed = tt

abbrev pub program_calls : (next : Text) (i : Script) → Calls_only (program next i)
program_calls next TellsC = λ T. finish_calls
program_calls next TellsG = λ T. finish_calls
program_calls next Framed_asks = λ x. tt
program_calls next (Asks n) = λ T. goes_on_calls
program_calls next Kills = λ T U V. tt

abbrev pub entry_calls : (i : Entry) → Calls_only (entry i)
entry_calls (Eval t) = λ x. tt
entry_calls i = tt

-- c is told this
abbrev pub commands : Text → Table ℕ Script
commands next = record {
  program = program next;
  entry = entry;
  lost = λ path. lost;
  programs_call = program_calls next;
  entries_call = entry_calls;
}

abbrev pub root : Node ℕ
root = record {
  own = 0;
  safe = false;
  root = true;
  count = 0;
  limit = None;
  depth = 0;
  depth_limit = 1000;
}

abbrev pub child : Node ℕ
child = record {
  own = 1;
  safe = true;
  root = false;
  count = 0;
  limit = None;
  depth = 0;
  depth_limit = 200;
}

abbrev pub first_tree : Tree ℕ
first_tree [] = Some root
first_tree (x ∷ []) = Some child
first_tree (x ∷ y ∷ []) = Some child
first_tree (x ∷ y ∷ z ∷ p) = None

abbrev pub start : List (Event ℕ) → World ℕ
start log = record {
  tree = first_tree;
  moves = Enter [] (Eval tells_c) ∷ [];
  grants = Budget 9;
  tape = log;
}

abbrev pub finished : ℕ → List (Event ℕ) → World ℕ
finished n log = record { tree = after log first_tree; moves = []; grants = Budget n; tape = [] }

-- The root has c ask it to delete c. The root does, and makes c anew. When control comes back to
-- the evaluation in c, that ends: it sets no variable, neither its own nor that of the new c, and
-- brings no frames back there. The root is told the error.
abbrev pub deletion : List (Event ℕ)
deletion =
    event [] (In None (Eval tells_c)) ∷ event [] Nested ∷ event [] Charged
    ∷ event [] (Out (Some 0) (c ∷ []) (Eval asks_parent))
    ∷ event (c ∷ []) (In (Some 1) (Eval asks_parent)) ∷ event (c ∷ []) Nested
    ∷ event (c ∷ []) (Changed 3) ∷ event (c ∷ []) Charged
    ∷ event (c ∷ []) (Out (Some 1) [] (Eval kills)) ∷ []

abbrev pub after_deletion : List (Event ℕ)
after_deletion =
    event [] (In (Some 0) (Eval kills)) ∷ event [] Nested ∷ event [] Charged
    ∷ event (c ∷ []) Dropped ∷ event (c ∷ []) (Made 0 true) ∷ event [] Unnested
    ∷ event [] (Done (Some 0) (Completed (ok [])))
    ∷ event (c ∷ []) (Back (Some 1) (Replied (Stop 0 Gone))) ∷ event (c ∷ []) Seen
    ∷ event (c ∷ []) Unnested ∷ event (c ∷ []) (Done (Some 1) (Stop 0 Gone))
    ∷ event [] (Back (Some 0) (Replied (Completed (refusal Gone)))) ∷ event [] Unnested
    ∷ event [] (Done None (Completed (refusal Gone))) ∷ []

-- The same from one level further down: g, in c, asks the root to delete c. What ends g and then c
-- names c, one level up from g.
abbrev pub from_below : List (Event ℕ)
from_below =
    event [] (In None (Eval tells_c)) ∷ event [] Nested ∷ event [] Charged
    ∷ event [] (Out (Some 0) (c ∷ []) (Eval tells_g))
    ∷ event (c ∷ []) (In (Some 1) (Eval tells_g)) ∷ event (c ∷ []) Nested
    ∷ event (c ∷ []) Charged ∷ event (c ∷ []) (Out (Some 0) (g ∷ []) (Eval asks_above))
    ∷ event (c ∷ g ∷ []) (In (Some 1) (Eval asks_above)) ∷ event (c ∷ g ∷ []) Nested
    ∷ event (c ∷ g ∷ []) Charged ∷ event (c ∷ g ∷ []) (Out (Some 2) [] (Eval kills))
    ∷ event [] (In (Some 0) (Eval kills)) ∷ event [] Nested ∷ event [] Charged
    ∷ event (c ∷ []) Dropped ∷ event (c ∷ []) (Made 0 true) ∷ event [] Unnested
    ∷ event [] (Done (Some 0) (Completed (ok [])))
    ∷ event (c ∷ g ∷ []) (Back (Some 2) (Replied (Stop 1 Gone))) ∷ event (c ∷ g ∷ []) Unnested
    ∷ event (c ∷ g ∷ []) (Done (Some 1) (Stop 1 Gone))
    ∷ event (c ∷ []) (Back (Some 0) (Replied (Stop 0 Gone))) ∷ event (c ∷ []) Unnested
    ∷ event (c ∷ []) (Done (Some 1) (Stop 0 Gone))
    ∷ event [] (Back (Some 0) (Replied (Completed (refusal Gone)))) ∷ event [] Unnested
    ∷ event [] (Done None (Completed (refusal Gone))) ∷ []

pub record WorkedDeletion : Type 0 where
  pub life : Runs (commands asks_parent) (start (deletion ++ after_deletion)) [] (wait idle never)
      (finished 6 (deletion ++ after_deletion)) None
  -- the new c is as it was made, and nothing is in progress any more
  pub anew : after (deletion ++ after_deletion) first_tree (c ∷ []) ≡ Some (fresh 0 true)
  pub ends : after (deletion ++ after_deletion) first_tree [] ≡ Some (record root { count = 3 })
  -- up to the deletion c is handed one entry and makes one call
  pub handed : moves_of (view (c ∷ []) deletion) ≡ Enter [] (Eval asks_parent) ∷ []
  pub told : outs_of (view (c ∷ []) deletion) ≡ event [] (Out (Some 1) [] (Eval kills)) ∷ []
  -- and by itself it does the same with that entry, and waits
  pub replayed : React (commands asks_parent) (at first_tree (c ∷ []))
      (moves_of (view (c ∷ []) deletion)) 1 Waiting (outs_of (view (c ∷ []) deletion))
      (at (after deletion first_tree) (c ∷ []))
  -- from below
  pub life_below : Runs (commands tells_g) (start from_below) [] (wait idle never)
      (finished 5 from_below) None
  pub anew_below : after from_below first_tree (c ∷ []) ≡ Some (fresh 0 true)
  pub ends_below : after from_below first_tree [] ≡ Some (record root { count = 4 })
