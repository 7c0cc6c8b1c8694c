-- The laws of isolation, told of records. They hold whatever the commands are: `prog` is their
-- table.
use Rattle.std.specs.Prelude.{◌≡◌, ℕ, ◌≤◌, ◌+◌, List, [], ◌∷◌, ◌++◌, Option, Some}
use Rattle.tcl_core.specs.Endings.{Reply}
use Rattle.tcl_core.specs.Endings.Reply.{Cut}
use Rattle.tcl_core.specs.Entries.{Entry}
use Rattle.tcl_core.specs.Entries.Answer.{Replied}
use Rattle.tcl_core.specs.Laws.{AtMove, IsLowering, IsOpenOrDone, IsSpared, IsUnended, after, rest}
use Rattle.tcl_core.specs.Lives.{Outcome, React, count_at, limit_at, outcome_of, outs_of}
use Rattle.tcl_core.specs.Lives.Outcome.{Ended, Finished, Waiting}
use Rattle.tcl_core.specs.Paths.{Path, Place}
use Rattle.tcl_core.specs.Programs.{Table, Wait}
use Rattle.tcl_core.specs.Execution.{Chain, Crossings, Executes, Open}
use Rattle.tcl_core.specs.Trees.{Event, Move, Node, Tree, What, at}
use Rattle.tcl_core.specs.Trees.What.{Out, In, Done, Back}
use Rattle.tcl_core.specs.Views.{moves_of, steps_of, view}
use Rattle.tcl_host.specs.declared.reply.HostReply.{HostReply}
use Rattle.tcl_host.specs.declared.request.Request.{Request}
use Rattle.tcl_run.specs.Outsides.{hosted}
use Rattle.tcl_tree.specs.Own.{Own}
use Rattle.tcl_reactions.specs.Laws.{IsAnswer, outcome_so_far}
use Rattle.tcl_recorder.specs.Boundary.{boundary}
use Rattle.tcl_isolation.specs.Visits.{CallsNobody, DroppedVisit, IsBelowTheTop, WatchedVisit}
use Rattle.tcl_isolation.specs.Visits.{visit}

-- What code executes in an entry for a path where somebody stands is a watched visit, wherever the
-- watched interpreter is and whatever crosses its boundary, if it isn't dropped.
abbrev pub EntriesAreVisits : {O S : Type 0} → Type 0 → (Tree O → S → Wait → Event O → S → Type 0) →
    Type 0
EntriesAreVisits {O} {S} I goes = (prog : Table O I) (T V : Tree O) (o z : S) (t : Path) (i : Entry)
    (c : Place) (r : Reply) (node : Node O) → T t ≡ Some node →
    Executes (Crossings goes) prog T o t (prog.entry i) V z r →
    (events : List (Event O)) × (IsSpared c (visit t i events r) →
    WatchedVisit goes prog T o t i c (boundary c (visit t i events r)) V z r)

-- ## What a subtree does by itself

-- a budget of m isn't less than the rise of a count
abbrev pub Suffices : {O : Type 0} → ℕ → Option (Node O) → Option (Node O) → Type 0
Suffices m old new = count_at new ≤ count_at old + m

-- Where no entry was ended from outside, the subtree by itself does with the moves of the record
-- what the record tells of it, and leaves the subtree that stands there afterwards: with every
-- budget that isn't less than the rise of its top's count.
abbrev pub Reacts : {O S : Type 0} → Type 0 → (Tree O → S → Wait → Event O → S → Type 0) → Type 0
Reacts {O} {S} I goes = (prog : Table O I) (T V : Tree O) (o z : S) (t : Path) (i : Entry)
    (c : Place) (crossings : List (Event O)) (r : Reply) (n : Node O) (m : ℕ) →
    WatchedVisit goes prog T o t i c crossings V z r → IsBelowTheTop c → T c ≡ Some n →
    IsUnended crossings → Suffices m (T c) (V c) →
    React prog (at T c) (moves_of crossings) m (outcome_of crossings Finished) (outs_of crossings)
    (at V c)

-- And that is all that it does: no other reaction of it comes to anything else.
abbrev pub ReactsSo : {O S : Type 0} → Type 0 → (Tree O → S → Wait → Event O → S → Type 0) → Type 0
ReactsSo {O} {S} I goes = (prog : Table O I) (T V : Tree O) (o z : S) (t : Path) (i : Entry)
    (c : Place) (crossings : List (Event O)) (r : Reply) (n : Node O) (m : ℕ) (x : Outcome)
    (told : List (Event O)) (W : Tree O) →
    WatchedVisit goes prog T o t i c crossings V z r → IsBelowTheTop c → T c ≡ Some n →
    IsUnended crossings → Suffices m (T c) (V c) →
    React prog (at T c) (moves_of crossings) m x told W → (x ≡ outcome_of crossings Finished) ×
    (told ≡ outs_of crossings) × (W ≡ at V c)

-- ## Up to an end from outside

-- With these moves and this budget the tree S does this by itself, and nothing else.
pub record DoesJust {O I : Type 0} (prog : Table O I) (S : Tree O) (ms : List (Move O)) (m : ℕ)
    (x : Outcome) (outs : List (Event O)) (W : Tree O) : Type 0 where
  pub does : React prog S ms m x outs W
  pub nothing_else : (y : Outcome) (told : List (Event O)) (U : Tree O) →
      React prog S ms m y told U → (y ≡ x) × (told ≡ outs) × (U ≡ W)

module _ {O : Type 0} where
  abbrev pub IsMove : What O → Type 0
  IsMove (In h i) = Unit {0}
  IsMove (Back h a) = Unit {0}
  IsMove x = Prim.⊥

  abbrev pub IsTold : What O → Type 0
  IsTold (Out h down i) = Unit {0}
  IsTold (Done h r) = Unit {0}
  IsTold x = Prim.⊥

  -- an answer that ends a call from outside
  abbrev pub IsEnd : What O → Type 0
  IsEnd (Back h (Replied (Cut x))) = Unit {0}
  IsEnd x = Prim.⊥

  -- such a happening comes first
  abbrev pub StartsWith : (What O → Type 0) → List (Event O) → Type 0
  StartsWith P [] = Prim.⊥
  StartsWith P (ev ∷ τ) = P ev.what

-- What the tree S does by itself with the first part of its record, where `late` is what the record
-- has behind it.
pub record DoesUntil {O I : Type 0} (prog : Table O I) (S : Tree O) (early late : List (Event O))
    (m : ℕ) : Type 0 where
  -- Where control comes in then, by an entry or an answer: with the moves before, it waits at its
  -- open call, or no call is open; it tells just what the record tells before; and it does nothing
  -- else.
  pub before : StartsWith IsMove late → (W : Tree O) ×
      DoesJust prog S (moves_of early) m (outcome_so_far early) (outs_of early) W
  -- where an answer comes, it waits
  pub waits : StartsWith IsAnswer late → outcome_so_far early ≡ Waiting
  -- Where that answer ends the call from outside: with all moves of the record it is ended so, and
  -- tells just that too.
  pub ends : StartsWith IsEnd late → (W : Tree O) ×
      DoesJust prog S (moves_of (early ++ late)) m Ended (outs_of early) W
  -- Where it tells something then: the last crossing before is the move by which control came in.
  -- With the moves before that one it waits, or no call is open, and tells just what the record
  -- tells before.
  pub inside : StartsWith IsTold late → (front : List (Event O)) × (move : Event O) ×
      (early ≡ front ++ move ∷ []) × IsMove move.what × (W : Tree O) ×
      DoesJust prog S (moves_of front) m (outcome_so_far front) (outs_of early) W
  -- And wherever that is: what the record tells before is a beginning of what it tells with the
  -- moves before.
  pub begins : (x : Outcome) (outs : List (Event O)) (W : Tree O) →
      React prog S (moves_of early) m x outs W → (more : List (Event O)) ×
      (outs ≡ outs_of early ++ more)

-- Up to each place of the record before which no entry was ended from outside, the subtree by
-- itself does with the moves what the record tells, with the same budgets.
abbrev pub ReactsUntil : {O S : Type 0} → Type 0 → (Tree O → S → Wait → Event O → S → Type 0) →
    Type 0
ReactsUntil {O} {S} I goes = (prog : Table O I) (T V : Tree O) (o z : S) (t : Path) (i : Entry)
    (c : Place) (crossings early late : List (Event O)) (r : Reply) (n : Node O) (m : ℕ) →
    WatchedVisit goes prog T o t i c crossings V z r → IsBelowTheTop c → T c ≡ Some n →
    crossings ≡ early ++ late → IsUnended early → Suffices m (T c) (V c) →
    DoesUntil prog (at T c) early late m

-- And where control comes in, what the subtree by itself leaves is the subtree as it stands there.
abbrev pub ReactsThere : {O S : Type 0} → Type 0 → (Tree O → S → Wait → Event O → S → Type 0) →
    Type 0
ReactsThere {O} {S} I goes = (prog : Table O I) (T V : Tree O) (o z : S) (t : Path) (i : Entry)
    (c : Place) (crossings : List (Event O)) (r : Reply) (n : Node O) (m : ℕ)
    (first last : List (Event O)) (ev : Event O) (move : Move O) →
    (w : WatchedVisit goes prog T o t i c crossings V z r) → IsBelowTheTop c → T c ≡ Some n →
    visit t i w.events r ≡ first ++ ev ∷ last → moves_of (boundary c (ev ∷ [])) ≡ move ∷ [] →
    IsUnended (boundary c first) → Suffices m (T c) (V c) →
    React prog (at T c) (moves_of (boundary c first)) m (outcome_so_far (boundary c first))
    (outs_of (boundary c first)) (at (after first T) c)

-- ## Up to a deletion

-- Where the watched interpreter is dropped, it or one above it, and no entry was ended from outside
-- until then: with the moves of the record until then the subtree by itself has done what it was
-- asked for, or it waits at a call that is open; it tells what the record tells, and leaves the
-- subtree that stood there when it was dropped. So it is with every budget that isn't less than the
-- steps made there until then; and it does nothing else.
abbrev pub ReactsToDrop : {O S : Type 0} → Type 0 → (Tree O → S → Wait → Event O → S → Type 0) →
    Type 0
ReactsToDrop {O} {S} I goes = (prog : Table O I) (T V : Tree O) (o z : S) (t : Path) (i : Entry)
    (c : Place) (crossings : List (Event O)) (r : Reply) (n : Node O) (m : ℕ) →
    (w : DroppedVisit goes prog T o t i c crossings V z r) → IsBelowTheTop c → T c ≡ Some n →
    IsUnended crossings → steps_of (view c w.first) ≤ m → (x : Outcome) × IsOpenOrDone x ×
    DoesJust prog (at T c) (moves_of crossings) m x (outs_of crossings) (at (after w.first T) c)

-- ## What is outside

-- From an entry into the watched subtree, or an answer to a call of it, to the next call or end
-- that leaves it: where one happening hands in a move, and what follows tells nothing to the
-- outside, nothing outside changes by that; and the host makes no step, whatever state it is in.
pub record QuietBetween {S : Type 0} (I : Type 0) (step : S → Request → HostReply → S → Type 0) :
    Type 0 where
  pub tree : (prog : Table Own I) (T V : Tree Own) (o z : S) (t : Path) (i : Entry) (c : Place)
      (crossings : List (Event Own)) (r : Reply) (first mid last : List (Event Own))
      (ev : Event Own) (m : Move Own) →
      (w : WatchedVisit (hosted step) prog T o t i c crossings V z r) →
      visit t i w.events r ≡ first ++ ev ∷ (mid ++ last) →
      moves_of (boundary c (ev ∷ [])) ≡ m ∷ [] → outs_of (boundary c mid) ≡ [] →
      rest (after mid (after (first ++ ev ∷ []) T)) c ≡ rest (after (first ++ ev ∷ []) T) c
  pub host : (prog : Table Own I) (T V : Tree Own) (o z : S) (t : Path) (i : Entry) (c : Place)
      (crossings : List (Event Own)) (r : Reply) (first mid last : List (Event Own))
      (ev : Event Own) (m : Move Own) (cs ds : Open) (M N : Tree Own) (o1 o2 : S) →
      (w : WatchedVisit (hosted step) prog T o t i c crossings V z r) →
      visit t i w.events r ≡ first ++ ev ∷ (mid ++ last) →
      moves_of (boundary c (ev ∷ [])) ≡ m ∷ [] → outs_of (boundary c mid) ≡ [] →
      Chain (Crossings (hosted step)) cs M o1 mid ds N o2 → o2 ≡ o1

-- Where the evaluation is in the watched subtree and nobody there calls outside it, all outside it
-- is afterwards what it was.
abbrev pub LeavesTheRest : {O S : Type 0} → Type 0 → (Tree O → S → Wait → Event O → S → Type 0) →
    Type 0
LeavesTheRest {O} {S} I goes = (prog : Table O I) (T V : Tree O) (o z : S) (u : Path) (i : Entry)
    (c : Place) (crossings : List (Event O)) (r : Reply) →
    WatchedVisit goes prog T o (c ++ u) i c crossings V z r → CallsNobody crossings →
    rest V c ≡ rest T c

-- And the host is: none was asked for anything, since nothing came back from past the top of the
-- whole tree.
abbrev pub LeavesTheHost : {S : Type 0} → Type 0 → (S → Request → HostReply → S → Type 0) → Type 0
LeavesTheHost {S} I step = (prog : Table Own I) (T V : Tree Own) (o z : S) (u : Path) (i : Entry)
    (c : Place) (crossings : List (Event Own)) (r : Reply) →
    WatchedVisit (hosted step) prog T o (c ++ u) i c crossings V z r → CallsNobody crossings → z ≡ o

-- ## Two worlds

-- Two evaluations in two worlds: other trees, other outsides, and other places of what is evaluated
-- and of what is watched. The watched subtrees are the same, and in neither an entry was ended from
-- outside. Where all moves of their records agree, so do the records, and the subtrees left.
abbrev pub WorldsAgree : {O S R : Type 0} → Type 0 → (Tree O → S → Wait → Event O → S → Type 0) →
    (Tree O → R → Wait → Event O → R → Type 0) → Type 0
WorldsAgree {O} {S} {R} I goes goes2 = (prog : Table O I) (T V T2 V2 : Tree O) (o z : S) (o2 z2 : R)
    (t t2 : Path) (i i2 : Entry) (c d : Place) (crossings others : List (Event O)) (r r2 : Reply)
    (n : Node O) →
    WatchedVisit goes prog T o t i c crossings V z r → IsBelowTheTop c → T c ≡ Some n →
    IsUnended crossings →
    WatchedVisit goes2 prog T2 o2 t2 i2 d others V2 z2 r2 → IsBelowTheTop d → IsUnended others →
    at T c ≡ at T2 d → moves_of crossings ≡ moves_of others → (crossings ≡ others) ×
    (outs_of crossings ≡ outs_of others) × (at V c ≡ at V2 d)

-- And where the moves begin with the same, the records are the same up to where the next move
-- stands: so the same is told until then.
abbrev pub WorldsAgreeUntil : {O S R : Type 0} → Type 0 →
    (Tree O → S → Wait → Event O → S → Type 0) → (Tree O → R → Wait → Event O → R → Type 0) → Type 0
WorldsAgreeUntil {O} {S} {R} I goes goes2 = (prog : Table O I) (T V T2 V2 : Tree O) (o z : S)
    (o2 z2 : R) (t t2 : Path) (i i2 : Entry) (c d : Place) (crossings others : List (Event O))
    (r r2 : Reply) (n : Node O) (ms a b : List (Move O)) →
    WatchedVisit goes prog T o t i c crossings V z r → IsBelowTheTop c → T c ≡ Some n →
    IsUnended crossings →
    WatchedVisit goes2 prog T2 o2 t2 i2 d others V2 z2 r2 → IsBelowTheTop d → IsUnended others →
    at T c ≡ at T2 d → moves_of crossings ≡ ms ++ a → moves_of others ≡ ms ++ b →
    (same : List (Event O)) × (rest1 : List (Event O)) × (rest2 : List (Event O)) ×
    (crossings ≡ same ++ rest1) × (others ≡ same ++ rest2) × (moves_of same ≡ ms) ×
    AtMove rest1 × AtMove rest2

-- ## Counted steps

-- The watched interpreter's count rises by the steps that were made in its subtree.
abbrev pub CountRises : {O S : Type 0} → Type 0 → (Tree O → S → Wait → Event O → S → Type 0) →
    Type 0
CountRises {O} {S} I goes = (prog : Table O I) (T V : Tree O) (o z : S) (t : Path) (i : Entry)
    (c : Place) (crossings : List (Event O)) (r : Reply) (n : Node O) →
    (w : WatchedVisit goes prog T o t i c crossings V z r) → IsBelowTheTop c → T c ≡ Some n →
    count_at (V c) ≡ n.count + steps_of (view c (visit t i w.events r))

-- how often it was counted, and the limit that it then has
pub record IsWithin {O : Type 0} (o : Option (Node O)) (l b : ℕ) : Type 0 where
  pub count : count_at o ≤ b
  pub limit : (k : ℕ) × (limit_at o ≡ Some k) × (k ≤ l)

-- With a count limit that nothing in the evaluation raises or takes away, it is counted at most to
-- the greater of the limit and the count before: to each number that both are at most.
abbrev pub CountStaysWithin : {O S : Type 0} → Type 0 → (Tree O → S → Wait → Event O → S → Type 0) →
    Type 0
CountStaysWithin {O} {S} I goes = (prog : Table O I) (T V : Tree O) (o z : S) (t : Path) (i : Entry)
    (c : Place) (crossings : List (Event O)) (r : Reply) (n : Node O) (l b : ℕ) →
    (w : WatchedVisit goes prog T o t i c crossings V z r) → IsBelowTheTop c → T c ≡ Some n →
    n.limit ≡ Some l → IsLowering l c (visit t i w.events r) → l ≤ b → n.count ≤ b → IsWithin
    (V c) l b
