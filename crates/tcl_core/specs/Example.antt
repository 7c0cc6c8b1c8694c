-- A small life, step by step: the outside has the root evaluate a script, which has its child set
-- its one variable to 7. An interpreter's own part is a number here, its variable; what can go on
-- in one is one of three scripts.
use Rattle.std.specs.Prelude.{◌≡◌, ℕ, true, false, List, [], ◌∷◌, ◌++◌, Some, None}
use Rattle.tcl_core.specs.Paths.{Text, Path, Place}
use Rattle.tcl_core.specs.Endings.{Completion, ok, error}
use Rattle.tcl_core.specs.Endings.Reply.{Completed}
use Rattle.tcl_core.specs.Entries.{Entry, Said}
use Rattle.tcl_core.specs.Entries.Entry.{Eval}
use Rattle.tcl_core.specs.Entries.Said.{Finished, Told, Missed}
use Rattle.tcl_core.specs.Entries.Answer.{Replied, Nobody}
use Rattle.tcl_core.specs.Trees.{Node, Tree, Event, What, Move, at, effect}
use Rattle.tcl_core.specs.Trees.Grants.{Budget}
use Rattle.tcl_core.specs.Trees.What.{Changed, Charged, Nested, Unnested, Out, In, Done, Back}
use Rattle.tcl_core.specs.Trees.What.{Unfound}
use Rattle.tcl_core.specs.Trees.Move.{Enter, Come}
use Rattle.tcl_core.specs.Programs.{Prog, Calls_only, Table}
use Rattle.tcl_core.specs.Programs.Act.{Charge, Change}
use Rattle.tcl_core.specs.Programs.Wrap.{Deeper}
use Rattle.tcl_core.specs.Programs.Prog.{done, act, inside, call, wait}
use Rattle.tcl_core.specs.Runs.{World, Runs}
use Rattle.tcl_core.specs.Views.{moves_of, view}
use Rattle.tcl_core.specs.Lives.{Outcome, React, idle, never, outs_of}
use Rattle.tcl_core.specs.Execution.{event}

pub data Script : Type 0 where
  SetSeven : Script
  TellChild : Script
  AskAbove : Script

abbrev pub child : Text
child = 99 ∷ []

-- the empty text sets the variable, one character tells the child, and more ask the interpreter
-- above
abbrev pub script_of : Text → Script
script_of [] = SetSeven
script_of (x ∷ []) = TellChild
script_of (x ∷ y ∷ t) = AskAbove

abbrev pub lost : Completion
lost = error []

-- who asks the interpreter above, where nobody is, goes on by this
abbrev pub nobody_above : Completion
nobody_above = error (117 ∷ [])

-- an entry from outside that finds nobody is told whom it didn't find: the names of its path, one
-- behind the other
abbrev pub joined : Path → Text
joined [] = []
joined (name ∷ path) = name ++ joined path

abbrev pub nobody : Path → Completion
nobody path = error (joined path)

abbrev pub finish : Said → Prog ℕ Script
finish (Finished c) = done c
finish (Told a) = done lost
finish Missed = done lost

abbrev pub program : Script → Prog ℕ Script
program SetSeven = act Charge (λ T. act (Change 7) (λ U. done (ok [])))
program TellChild = act Charge (λ T. call (Some 0) (child ∷ []) (Eval []) lost finish)
program AskAbove = act Charge (λ T. call (Some 1) [] (Eval []) nobody_above finish)

abbrev pub entry : Entry → Prog ℕ Script
entry (Eval t) = inside Deeper (script_of t) done
entry i = done lost

abbrev pub finish_calls : (a : Said) → Calls_only (finish a)
finish_calls (Finished c) = tt
finish_calls (Told a) = tt
finish_calls Missed = tt

abbrev pub program_calls : (i : Script) → Calls_only (program i)
program_calls SetSeven = λ T. λ U. tt
program_calls TellChild = λ T. finish_calls
program_calls AskAbove = λ T. finish_calls

abbrev pub entry_calls : (i : Entry) → Calls_only (entry i)
entry_calls (Eval t) = λ c. tt
entry_calls i = tt

abbrev pub commands : Table ℕ Script
commands = record {
  program = program;
  entry = entry;
  lost = nobody;
  programs_call = program_calls;
  entries_call = entry_calls;
}

abbrev pub root : Node ℕ
root = record {
  own = 0;
  safe = false;
  root = true;
  count = 0;
  limit = None;
  depth = 0;
  depth_limit = 1000;
}

abbrev pub safe_child : Node ℕ
safe_child = record {
  own = 0;
  safe = true;
  root = false;
  count = 0;
  limit = Some 3;
  depth = 0;
  depth_limit = 200;
}

abbrev pub first_tree : Tree ℕ
first_tree [] = Some root
first_tree (x ∷ []) = Some safe_child
first_tree (x ∷ y ∷ p) = None

abbrev pub tell : Entry
tell = Eval (1 ∷ [])

-- all that happens
abbrev pub log : List (Event ℕ)
log =
    event [] (In None tell) ∷ event [] Nested ∷ event [] Charged ∷ event []
    (Out (Some 0) (child ∷ []) (Eval []))
    ∷ event (child ∷ []) (In (Some 1) (Eval [])) ∷ event (child ∷ []) Nested ∷ event (child ∷ [])
    Charged ∷ event (child ∷ []) (Changed 7)
    ∷ event (child ∷ []) Unnested ∷ event (child ∷ []) (Done (Some 1) (Completed (ok [])))
    ∷ event [] (Back (Some 0) (Replied (Completed (ok [])))) ∷ event [] Unnested ∷ event []
    (Done None (Completed (ok []))) ∷ []

abbrev pub start : World ℕ
start = record { tree = first_tree; moves = Enter [] tell ∷ []; grants = Budget 2; tape = log }

abbrev pub tail : List (Event ℕ) → List (Event ℕ)
tail [] = []
tail (x ∷ xs) = xs

-- the world after the next happening
abbrev pub next : Place → What ℕ → List (Move ℕ) → ℕ → World ℕ → World ℕ
next p x ms b w = record {
  tree = effect p x w.tree;
  moves = ms;
  grants = Budget b;
  tape = tail w.tape;
}

abbrev pub w1 : World ℕ
w1 = next [] (In None tell) [] 2 start

abbrev pub w2 : World ℕ
w2 = next [] Nested [] 2 w1

abbrev pub w3 : World ℕ
w3 = next [] Charged [] 1 w2

abbrev pub w4 : World ℕ
w4 = next [] (Out (Some 0) (child ∷ []) (Eval [])) [] 1 w3

abbrev pub w5 : World ℕ
w5 = next (child ∷ []) (In (Some 1) (Eval [])) [] 1 w4

abbrev pub w6 : World ℕ
w6 = next (child ∷ []) Nested [] 1 w5

abbrev pub w7 : World ℕ
w7 = next (child ∷ []) Charged [] 0 w6

abbrev pub w8 : World ℕ
w8 = next (child ∷ []) (Changed 7) [] 0 w7

abbrev pub w9 : World ℕ
w9 = next (child ∷ []) Unnested [] 0 w8

abbrev pub w10 : World ℕ
w10 = next (child ∷ []) (Done (Some 1) (Completed (ok []))) [] 0 w9

abbrev pub w11 : World ℕ
w11 = next [] (Back (Some 0) (Replied (Completed (ok [])))) [] 0 w10

abbrev pub w12 : World ℕ
w12 = next [] Unnested [] 0 w11

abbrev pub w13 : World ℕ
w13 = next [] (Done None (Completed (ok []))) [] 0 w12

-- What is so of it: it is a life; the child has its variable, and was charged for one command of
-- the two; its own life is handed one entry and tells of one end.
pub record WorkedLife : Type 0 where
  pub life : Runs commands start [] (wait idle never) w13 None
  pub child_ends : w13.tree (child ∷ []) ≡ Some (record safe_child { own = 7; count = 1 })
  pub root_ends : w13.tree [] ≡ Some (record root { count = 2 })
  pub child_is_handed : moves_of (view (child ∷ []) log) ≡ Enter [] (Eval []) ∷ []
  pub child_tells : outs_of (view (child ∷ []) log) ≡ event [] (Done None (Completed (ok []))) ∷ []

-- THE CHILD ALONE, handed that entry. With a budget of one step it does what it did in the life
-- above; with none it is spent at its first step, tells nothing, and is left as it was. And handed
-- one by which it asks whoever is above, where nobody is.
abbrev pub child_alone : Tree ℕ
child_alone = at first_tree (child ∷ [])

abbrev pub one_entry : List (Move ℕ)
one_entry = Enter [] (Eval []) ∷ []

abbrev pub an_answer : List (Move ℕ)
an_answer = Come (Replied (Completed (ok []))) ∷ []

abbrev pub asks_nobody : List (Move ℕ)
asks_nobody = Enter [] (Eval (1 ∷ 1 ∷ [])) ∷ Come Nobody ∷ []

pub record WorkedReactions : Type 0 where
  pub served : (V : Tree ℕ) × React commands child_alone one_entry 1 Outcome.Finished
      (event [] (Done None (Completed (ok []))) ∷ []) V ×
      (V [] ≡ Some (record safe_child { own = 7; count = 1 }))
  pub spent : (V : Tree ℕ) × React commands child_alone one_entry 0 Outcome.Spent [] V ×
      (V [] ≡ Some safe_child)
  -- it is told so, and goes on by the completion that its call has for that
  pub missed : (V : Tree ℕ) × React commands child_alone asks_nobody 1 Outcome.Finished
      (event [] (Out (Some 1) [] (Eval [])) ∷ event [] (Done None (Completed nobody_above)) ∷ [])
      V × (V [] ≡ Some (record safe_child { count = 1 }))
  -- an answer to a call that it didn't make
  pub uncalled : React commands child_alone an_answer 1 Outcome.Misfit [] child_alone

-- AN ENTRY THAT FINDS NOBODY: the child has no child.
abbrev pub stranger : Path
stranger = child ∷ child ∷ []

-- an entry for it, and then one for the child
abbrev pub two_entries : List (Move ℕ)
two_entries = Enter stranger (Eval []) ∷ Enter (child ∷ []) (Eval []) ∷ []

-- all that happens
abbrev pub stray : List (Event ℕ)
stray =
    event [] (Unfound stranger (Eval []) (nobody stranger))
    ∷ event (child ∷ []) (In None (Eval [])) ∷ event (child ∷ []) Nested
    ∷ event (child ∷ []) Charged ∷ event (child ∷ []) (Changed 7)
    ∷ event (child ∷ []) Unnested ∷ event (child ∷ []) (Done None (Completed (ok []))) ∷ []

pub record WorkedUnfound : Type 0 where
  -- the whole tree tells that nobody is there, by the whole path, and goes on to the next entry
  pub life : (V : Tree ℕ) × React commands first_tree two_entries 1 Outcome.Finished
      (event stranger (Done None (Completed (error (child ++ child))))
      ∷ event (child ∷ []) (Done None (Completed (ok []))) ∷ []) V ×
      (V (child ∷ []) ≡ Some (record safe_child { own = 7; count = 1 }))
  -- the child sees nothing of the first, though that was to come into it: it is handed the second
  -- alone
  pub handed : moves_of (view (child ∷ []) stray) ≡ one_entry
  pub told : outs_of (view (child ∷ []) stray) ≡ event [] (Done None (Completed (ok []))) ∷ []
  -- by itself it is told of an entry by the path that leads from it
  pub alone : React commands child_alone (Enter (child ∷ []) (Eval []) ∷ []) 0 Outcome.Finished
      (event (child ∷ []) (Done None (Completed (error child))) ∷ []) child_alone
