-- An evaluation as a server has it: the trees before and after it, the outside, and the record of
-- what crossed one boundary in it.
use Rattle.std.specs.Prelude.{◌≡◌, List, [], ◌∷◌, ◌++◌, Some, None}
use Rattle.tcl_core.specs.Endings.{Reply}
use Rattle.tcl_core.specs.Entries.{Entry}
use Rattle.tcl_core.specs.Laws.{IsSpared}
use Rattle.tcl_core.specs.Paths.{Path, Place, strip}
use Rattle.tcl_core.specs.Programs.{Table, Wait}
use Rattle.tcl_core.specs.Runs.{Runs, Visits}
use Rattle.tcl_core.specs.Execution.{Chain, Crossings, before, event}
use Rattle.tcl_core.specs.Trees.{Event, Tree, What}
use Rattle.tcl_core.specs.Trees.What.{Dropped, Out, In, Done}
use Rattle.tcl_recorder.specs.Boundary.{boundary}

module _ {O : Type 0} where
  -- the interpreter at t is entered, this happens, and it is left with this reply
  abbrev pub visit : Path → Entry → List (Event O) → Reply → List (Event O)
  visit t i τ r = event t (In None i) ∷ τ ++ event t (Done None r) ∷ []

  -- nobody calls an interpreter outside the subtree, or the host
  abbrev pub IsNoCall : What O → Type 0
  IsNoCall (Out h down i) = Prim.⊥
  IsNoCall x = Unit {0}

  abbrev pub CallsNobody : List (Event O) → Type 0
  CallsNobody [] = Unit {0}
  CallsNobody (ev ∷ τ) = IsNoCall ev.what × CallsNobody τ

-- not the top of the whole tree
abbrev pub IsBelowTheTop : Place → Type 0
IsBelowTheTop [] = Prim.⊥
IsBelowTheTop (x ∷ c) = Unit {0}

-- An entry from outside of the whole tree is done by the interpreter at t. It takes the tree from T
-- to V, and the outside from o to z by what happens in it, the entry itself and its end being the
-- outside's own doing. The interpreter at c is watched: these are the crossings of its boundary,
-- and neither it nor one above it is dropped.
pub record WatchedVisit {O I S : Type 0} (goes : Tree O → S → Wait → Event O → S → Type 0)
    (prog : Table O I) (T : Tree O) (o : S) (t : Path) (i : Entry) (c : Place)
    (crossings : List (Event O)) (V : Tree O) (z : S) (r : Reply) : Type 0 where
  pub events : List (Event O)
  pub visits : Visits prog (Runs prog) (before T (visit t i events r)) None t i (before V [])
      (Some r)
  pub outside : Chain (Crossings goes) [] T o events [] V z
  pub recorded : crossings ≡ boundary c (visit t i events r)
  pub spared : IsSpared c (visit t i events r)

-- The same of an evaluation in which the watched interpreter is dropped: it, or one above it, first
-- at `dropped`. These are the crossings of its boundary until then.
pub record DroppedVisit {O I S : Type 0} (goes : Tree O → S → Wait → Event O → S → Type 0)
    (prog : Table O I) (T : Tree O) (o : S) (t : Path) (i : Entry) (c : Place)
    (crossings : List (Event O)) (V : Tree O) (z : S) (r : Reply) : Type 0 where
  pub events : List (Event O)
  pub visits : Visits prog (Runs prog) (before T (visit t i events r)) None t i (before V [])
      (Some r)
  pub outside : Chain (Crossings goes) [] T o events [] V z
  pub first : List (Event O)
  pub dropped : Place
  pub below : Path
  pub last : List (Event O)
  pub parts : visit t i events r ≡ first ++ event dropped Dropped ∷ last
  pub falls : strip dropped c ≡ Some below
  pub spared : IsSpared c first
  pub recorded : crossings ≡ boundary c first
