-- The laws of boundaries, and of recorders.
use Rattle.std.specs.Prelude.{◌≡◌, ℕ, Bool, true, false, List, [], ◌∷◌, ◌++◌, Option, Some, None}
use Rattle.tcl_core.specs.Endings.{Completion, Reply}
use Rattle.tcl_core.specs.Endings.Reply.{Completed}
use Rattle.tcl_core.specs.Entries.{Answer, Entry}
use Rattle.tcl_core.specs.Laws.{IsSpared}
use Rattle.tcl_core.specs.Lives.{outs_of}
use Rattle.tcl_core.specs.Paths.{Path, Place, Height, strip, rise_to}
use Rattle.tcl_core.specs.Programs.{Prog, Table}
use Rattle.tcl_core.specs.Runs.{Runs, Visits}
use Rattle.tcl_core.specs.Execution.{Chain, Crossings, Executes, Fits, Open, before, event}
use Rattle.tcl_core.specs.Execution.{pending, waits_for}
use Rattle.tcl_core.specs.Trees.{Event, Move, Node, Tree, What}
use Rattle.tcl_core.specs.Trees.Move.{Enter, Come}
use Rattle.tcl_core.specs.Trees.What.{Dropped, Out, In, Done, Back, Unfound}
use Rattle.tcl_core.specs.Views.{moves_of, view}
use Rattle.tcl_partial_runs.specs.Beginnings.{Begun}
use Rattle.tcl_run.specs.Outsides.{Going}
use Rattle.tcl_tree.specs.Own.{Own}
use Rattle.tcl_recorder.specs.Boundary.{at_passing, back_seen, boundary, done_seen, in_seen}
use Rattle.tcl_recorder.specs.Boundary.{out_seen}
use Rattle.tcl_recorder.specs.Recording.{after, fallen_after, noted, recorded, told_of}
use Rattle.tcl_recorder.specs.Recording.{while_there}
use Rattle.tcl_recorder.specs.declared.recorder.Recorder.{Recorder}

-- ## Boundaries

-- the entries and answers among these moves: all but that the tree is made, or dropped
abbrev pub handed_over : {O : Type 0} → List (Move O) → List (Move O)
handed_over [] = []
handed_over (Enter t i ∷ ms) = Enter t i ∷ handed_over ms
handed_over (Come a ∷ ms) = Come a ∷ handed_over ms
handed_over (m ∷ ms) = handed_over ms

-- What the boundary hands to the subtree are its entries and answers, and what it tells of the
-- subtree is all that is told of it.
abbrev pub BoundaryMoves : Type 0 → Type 0
BoundaryMoves O = (c : Place) (τ : List (Event O)) →
    moves_of (boundary c τ) ≡ handed_over (moves_of (view c τ))

abbrev pub BoundaryOuts : Type 0 → Type 0
BoundaryOuts O = (c : Place) (τ : List (Event O)) → outs_of (boundary c τ) ≡ outs_of (view c τ)

-- It is put together in order.
abbrev pub BoundaryParts : Type 0 → Type 0
BoundaryParts O = (c : Place) (σ τ : List (Event O)) →
    boundary c (σ ++ τ) ≡ boundary c σ ++ boundary c τ

abbrev pub IsNoCrossing : {O : Type 0} → What O → Type 0
IsNoCrossing (Out h down i) = Prim.⊥
IsNoCrossing (Back h a) = Prim.⊥
IsNoCrossing (In h i) = Prim.⊥
IsNoCrossing (Done h r) = Prim.⊥
IsNoCrossing (Unfound t i c) = Prim.⊥
IsNoCrossing _ = Unit {0}

-- Nothing but crossings is in it.
abbrev pub BoundaryCrossings : Type 0 → Type 0
BoundaryCrossings O = (c : Place) (ev : Event O) (τ : List (Event O)) → IsNoCrossing ev.what →
    boundary c (ev ∷ τ) ≡ boundary c τ

abbrev pub apart_by : Option Path → Option Path → Option Path
apart_by (Some q) None = Some q
apart_by o b = None

-- where p is below c, if it is there and the far end of its way isn't: another interpreter, or what
-- is outside of the tree
abbrev pub one_end : Place → Place → Option Place → Option Path
one_end c p None = strip c p
one_end c p (Some a) = apart_by (strip c p) (strip c a)

-- Of the crossings it has those with exactly one end in the subtree: one end is the interpreter
-- where it happens, and the other one is the interpreter so many levels up from it, or what is
-- outside of the tree. An entry that finds nobody crosses the boundary of the whole tree alone, and
-- so does its end.
pub record OneEnd (O : Type 0) : Type 0 where
  pub out : (c p : Place) (h : Height) (down : Path) (i : Entry) (τ : List (Event O)) →
      boundary c (event p (Out h down i) ∷ τ)
      ≡ at_passing (one_end c p (rise_to h p)) (out_seen h down i) (boundary c τ)
  pub back : (c p : Place) (h : Height) (a : Answer) (τ : List (Event O)) →
      boundary c (event p (Back h a) ∷ τ)
      ≡ at_passing (one_end c p (rise_to h p)) (back_seen h a) (boundary c τ)
  pub enters : (c p : Place) (h : Height) (i : Entry) (τ : List (Event O)) →
      boundary c (event p (In h i) ∷ τ)
      ≡ at_passing (one_end c p (rise_to h p)) (in_seen i) (boundary c τ)
  pub leaves : (c p : Place) (h : Height) (r : Reply) (τ : List (Event O)) →
      boundary c (event p (Done h r) ∷ τ)
      ≡ at_passing (one_end c p (rise_to h p)) (done_seen r) (boundary c τ)
  pub unfound : (t : Path) (i : Entry) (x : Completion) (τ : List (Event O)) →
      boundary [] (event [] (Unfound t i x) ∷ τ)
      ≡ event t (In None i) ∷ event t (Done None (Completed x)) ∷ boundary [] τ
  pub unseen : (name : List ℕ) (c : Place) (t : Path) (i : Entry) (x : Completion)
      (τ : List (Event O)) →
      boundary (name ∷ c) (event [] (Unfound t i x) ∷ τ) ≡ boundary (name ∷ c) τ

-- ## Deletion

-- Where it wasn't dropped before, it wasn't after these happenings just where they spare it.
abbrev pub FatesAreTold : Type 0
FatesAreTold = (c : Place) (τ : List (Event Own)) →
    (fallen_after false c τ ≡ false → IsSpared c τ) ×
    (IsSpared c τ → fallen_after false c τ ≡ false)

-- It is told in order.
abbrev pub FateParts : Type 0
FateParts = (b : Bool) (c : Place) (σ τ : List (Event Own)) →
    fallen_after b c (σ ++ τ) ≡ fallen_after (fallen_after b c σ) c τ

-- What happens while it is there is all, where it isn't dropped; else all up to where first it is
-- dropped, or one above it; and nothing, where it was dropped before.
pub record UpToTheDrop : Type 0 where
  pub spared : (c : Place) (τ : List (Event Own)) → IsSpared c τ → while_there false c τ ≡ τ
  pub dropped : (c d z : Place) (σ τ : List (Event Own)) → IsSpared c σ → strip d c ≡ Some z →
      while_there false c (σ ++ event d Dropped ∷ τ) ≡ σ ++ event d Dropped ∷ []
  pub over : (c : Place) (τ : List (Event Own)) → while_there true c τ ≡ []

-- ## Recorders

-- What is recorded of these happenings from the tree T on, where nothing was missing before: their
-- boundary, as long as the watched interpreter is there, but for entries for paths where nobody
-- stands; and whether the watched interpreter was dropped.
pub record KeepsAll {S : Type 0} (T : Tree Own) (o : Recorder S) (τ : List (Event Own))
    (z : Recorder S) : Type 0 where
  pub whole : o.incomplete ≡ false
  pub kept : z.kept ≡ after o.kept (told_of o.deleted o.kept.watched T τ)
  pub fate : z.deleted ≡ fallen_after o.deleted o.kept.watched τ

-- These happenings take the outside that the recorder holds from one state to the other, with the
-- tree. Where nothing is missing from the record afterwards, they are recorded.
pub record IsWatched {S : Type 0} (goes : Going S) (cs : Open) (T : Tree Own) (o : Recorder S)
    (τ : List (Event Own)) (ds : Open) (V : Tree Own) (z : Recorder S) : Type 0 where
  pub outside : Chain (Crossings goes) cs T o.outside τ ds V z.outside
  pub keeps : z.incomplete ≡ false → KeepsAll T o τ z

abbrev pub RecordsTheBoundary : {S : Type 0} → Going S → Type 0
RecordsTheBoundary {S} goes = (cs ds : Open) (T V : Tree Own) (o z : Recorder S)
    (τ : List (Event Own)) → Chain (Crossings (recorded goes)) cs T o τ ds V z →
    IsWatched goes cs T o τ ds V z

-- A run takes the tree over a tape, which takes the outside that the recorder holds; the boundary
-- of that very tape is added to the record, up to where the watched interpreter is dropped, and it
-- is told whether it was. So it is wherever nothing is missing from the record.
pub record WatchedRun {I S : Type 0} (goes : Going S) (prog : Table Own I) (T : Tree Own)
    (o : Recorder S) (p : Place) (x : Prog Own I) (V : Tree Own) (z : Recorder S) (r : Reply) : Type
    0 where
  pub events : List (Event Own)
  pub runs : Runs prog (before T events) p x (before V []) (Some r)
  pub outside : Chain (Crossings goes) (pending (waits_for x) []) T o.outside events [] V z.outside
  pub kept : z.kept ≡ after o.kept (while_there o.deleted o.kept.watched events)
  pub fate : z.deleted ≡ fallen_after o.deleted o.kept.watched events

abbrev pub RunsAreWatched : {S : Type 0} → Type 0 → Going S → Type 0
RunsAreWatched {S} I goes = (prog : Table Own I) (T V : Tree Own) (o z : Recorder S) (p : Place)
    (x : Prog Own I) (r : Reply) → z.incomplete ≡ false → Fits x →
    Executes (Crossings (recorded goes)) prog T o p x V z r → WatchedRun goes prog T o p x V z r

-- What comes of a program with a recorder comes of it with the outside that the recorder holds.
abbrev pub RunsUnwatched : {S : Type 0} → Type 0 → Going S → Type 0
RunsUnwatched {S} I goes = (prog : Table Own I) (T V : Tree Own) (o z : Recorder S) (p : Place)
    (x : Prog Own I) (r : Reply) →
    Executes (Crossings (recorded goes)) prog T o p x V z r →
    Executes (Crossings goes) prog T o.outside p x V z.outside r

-- And what is given up with a recorder on its way, as for want of memory, is given up so without.
abbrev pub GivenUpUnwatched : {S : Type 0} → Type 0 → Going S → Type 0
GivenUpUnwatched {S} I goes = (prog : Table Own I) (T : Tree Own) (o z : Recorder S) (p : Place)
    (x : Prog Own I) →
    Begun (Crossings (recorded goes)) prog T o p x z →
    Begun (Crossings goes) prog T o.outside p x z.outside

-- ## Entries from outside of the tree

-- the interpreter at t is entered, this happens in it, and it is left with this reply
abbrev pub visit : Place → Entry → List (Event Own) → Reply → List (Event Own)
visit t i τ r = event t (In None i) ∷ τ ++ event t (Done None r) ∷ []

-- An entry into the interpreter at t is done there over a tape, which takes the outside that the
-- recorder holds; the boundary of that very tape is added to the record, up to where the watched
-- interpreter is dropped, and it is told whether it was.
pub record WatchedVisit {I S : Type 0} (goes : Going S) (prog : Table Own I) (T : Tree Own)
    (o : Recorder S) (t : Place) (i : Entry) (V : Tree Own) (z : Recorder S) (r : Reply) : Type 0
  where
    pub events : List (Event Own)
    pub visits : Visits prog (Runs prog) (before T (visit t i events r)) None t i (before V [])
        (Some r)
    pub outside : Chain (Crossings goes) [] T o.outside (visit t i events r) [] V z.outside
    pub kept : z.kept ≡ after o.kept (while_there o.deleted o.kept.watched (visit t i events r))
    pub fate : z.deleted ≡ fallen_after o.deleted o.kept.watched (visit t i events r)

-- A recorder goes by the entry, by a run of its program, and by its end.
abbrev pub VisitsAreWatched : {S : Type 0} → Type 0 → Going S → Type 0
VisitsAreWatched {S} I goes = (prog : Table Own I) (T V : Tree Own) (o u w z : Recorder S)
    (t : Place) (i : Entry) (r : Reply) (node : Node Own) → T t ≡ Some node →
    recorded goes T o None (event t (In None i)) u →
    Executes (Crossings (recorded goes)) prog T u t (prog.entry i) V w r →
    recorded goes V w None (event t (Done None r)) z →
    WatchedVisit goes prog T o t i V z r

-- The same of an entry of which the outside that the recorder holds isn't told: what happens in it
-- takes that outside.
pub record WatchedEntry {I S : Type 0} (goes : Going S) (prog : Table Own I) (T : Tree Own)
    (o : Recorder S) (t : Place) (i : Entry) (V : Tree Own) (z : Recorder S) (r : Reply) : Type 0
  where
    pub events : List (Event Own)
    pub visits : Visits prog (Runs prog) (before T (visit t i events r)) None t i (before V [])
        (Some r)
    pub outside : Chain (Crossings goes) [] T o.outside events [] V z.outside
    pub kept : z.kept ≡ after o.kept (while_there o.deleted o.kept.watched (visit t i events r))
    pub fate : z.deleted ≡ fallen_after o.deleted o.kept.watched (visit t i events r)

abbrev pub EntriesAreWatched : {S : Type 0} → Type 0 → Going S → Type 0
EntriesAreWatched {S} I goes = (prog : Table Own I) (T V : Tree Own) (o w : Recorder S) (t : Place)
    (i : Entry) (r : Reply) (node : Node Own) → T t ≡ Some node → w.incomplete ≡ false →
    Executes (Crossings (recorded goes)) prog T (noted o (event t (In None i))) t (prog.entry i) V w
    r →
    WatchedEntry goes prog T o t i V (noted w (event t (Done None r))) r
