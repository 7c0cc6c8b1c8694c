-- The laws. They hold whatever the commands are: `prog` is their table.
use Rattle.std.specs.Prelude.{length, nat_le, ◌≡◌, ◌⊎◌, ℕ, zero, suc, ◌≤◌, ◌+◌, Bool, true, false}
use Rattle.std.specs.Prelude.{List, [], ◌∷◌, ◌++◌, ◌&&◌, Option, Some, None}
use Rattle.tcl_core.specs.Paths.{Path, Place, Height, strip, rise_to}
use Rattle.tcl_core.specs.Endings.{Meter, Completion, Reply, IsQuit}
use Rattle.tcl_core.specs.Endings.Meter.{Count, Depth}
use Rattle.tcl_core.specs.Endings.Reply.{Stop, Cut}
use Rattle.tcl_core.specs.Entries.{Entry, Said, Answer}
use Rattle.tcl_core.specs.Entries.Answer.{Replied}
use Rattle.tcl_core.specs.Trees.{asked, effect, Grant, Grants, Tree, Node, What, Event, Move, at}
use Rattle.tcl_core.specs.Trees.{on_some, depth_of}
use Rattle.tcl_core.specs.Trees.Grants.{Listed, Budget}
use Rattle.tcl_core.specs.Trees.Move.{Born, Fall, Enter, Come}
use Rattle.tcl_core.specs.Trees.What.{Charged, Refused, Limited, Made, Dropped, Out, In, Done, Back}
use Rattle.tcl_core.specs.Trees.What.{Unfound}
use Rattle.tcl_core.specs.Programs.{Act, Wrap, Wait, Deed, Prog, Table, spot, decide, opens}
use Rattle.tcl_core.specs.Programs.Next.{On, Off}
use Rattle.tcl_core.specs.Programs.Prog.{act, go, inside, call, wait}
use Rattle.tcl_core.specs.Runs.{World, Ending, Step, Runs, Visits, gone, gone_from, returned}
use Rattle.tcl_core.specs.Runs.{reached, fits}
use Rattle.tcl_core.specs.Views.{grants_of, moves_of, steps_of, view, inside_of}
use Rattle.tcl_core.specs.Tables.{Discipline, Keeps_to, IsGood, AreTame, AreAllowed, exposes}
use Rattle.tcl_core.specs.Tables.{hostless, sets_limit, unlimiting}
use Rattle.tcl_core.specs.Lives.Outcome.{Finished, Waiting, Exited}
use Rattle.tcl_core.specs.Lives.{Lives, Outcome, React, outs_of, outcome_of}

-- the same world with another tape
abbrev pub retape : {O : Type 0} → World O → List (Event O) → World O
retape w τ = record { tree = w.tree; moves = w.moves; grants = w.grants; tape = τ }

-- what is the same of two runs from worlds that differ in the tape alone
pub record Agrees {O : Type 0} (w : World O) (τ : List (Event O)) (v : World O) (e : Ending)
    (z : World O) (o : Ending) : Type 0 where
  pub rest : List (Event O)
  pub made : List (Event O)
  pub world : z ≡ retape v rest
  pub ending : o ≡ e
  pub first : w.tape ≡ made ++ v.tape
  pub second : τ ≡ made ++ rest

-- From the same tree, with the same handed in, the same happens.
abbrev pub Determinism : Type 0 → Type 0 → Type 0
Determinism O I = (prog : Table O I) (w z : World O) (p : Place) (x : Prog O I) (v y : World O)
    (e o : Ending) →
    w.tree ≡ z.tree → w.moves ≡ z.moves → w.grants ≡ z.grants →
    Runs prog w p x v e → Runs prog z p x y o → v.tape ≡ [] → y.tape ≡ [] →
    (w.tape ≡ z.tape) × (v ≡ y) × (e ≡ o)

-- A subtree's life is that of a tree of its own, to which the crossings into it are handed in.
abbrev pub LivesWithin : Type 0 → Type 0 → Type 0
LivesWithin O I = (prog : Table O I) (c : Place) (w v : World O) →
    Lives prog w v None → Lives prog (inside_of c w) (inside_of c v) None

-- Two lives in which a subtree is the same at first, and is handed the same, are the same in it.
abbrev pub NonInterference : Type 0 → Type 0 → Type 0
NonInterference O I = (prog : Table O I) (c : Place) (w v z y : World O) →
    Lives prog w v None → Lives prog z y None → v.tape ≡ [] → y.tape ≡ [] →
    at w.tree c ≡ at z.tree c → moves_of (view c w.tape) ≡ moves_of (view c z.tape) →
    grants_of (view c w.tape) ≡ grants_of (view c z.tape) →
    (view c w.tape ≡ view c z.tape) × (at v.tree c ≡ at y.tree c)

-- the tree after these happenings
abbrev pub after : {O : Type 0} → List (Event O) → Tree O → Tree O
after [] T = T
after (ev ∷ τ) T = after τ (effect ev.place ev.what T)

-- A run is what it makes happen, and its tree is what that leaves.
abbrev pub Happenings : Type 0 → Type 0 → Type 0
Happenings O I = (prog : Table O I) (w : World O) (p : Place) (x : Prog O I) (v : World O)
    (e : Ending) →
    Runs prog w p x v e → (made : List (Event O)) × (w.tape ≡ made ++ v.tape) ×
    (v.tree ≡ after made w.tree)

-- c is neither made nor dropped
abbrev pub Stands : {O : Type 0} → Place → Place → What O → Type 0
Stands c p (Made o s) = strip p c ≡ Some [] → Prim.⊥
Stands c p Dropped = strip p c ≡ None
Stands c p _ = Unit {0}

abbrev pub IsStanding : {O : Type 0} → Place → List (Event O) → Type 0
IsStanding c [] = Unit {0}
IsStanding c (ev ∷ τ) = Stands c ev.place ev.what × IsStanding c τ

-- the tree as a whole is neither made nor dropped by what is handed in
abbrev pub KeepsTop : {O : Type 0} → List (Move O) → Type 0
KeepsTop [] = Unit {0}
KeepsTop (Born o s ∷ ms) = Prim.⊥
KeepsTop (Fall ∷ ms) = Prim.⊥
KeepsTop (m ∷ ms) = KeepsTop ms

-- c isn't dropped: neither it nor one above it is
abbrev pub Spares : {O : Type 0} → Place → Place → What O → Type 0
Spares c p Dropped = strip p c ≡ None
Spares c p x = Unit {0}

abbrev pub IsSpared : {O : Type 0} → Place → List (Event O) → Type 0
IsSpared c [] = Unit {0}
IsSpared c (ev ∷ τ) = Spares c ev.place ev.what × IsSpared c τ

-- c isn't the whole tree, or that isn't made anew from outside
abbrev pub IsHeld : {O : Type 0} → Place → List (Move O) → Type 0
IsHeld [] ms = KeepsTop ms
IsHeld (x ∷ c) ms = Unit {0}

-- c stands at first, and isn't dropped in what follows
pub record Lasts {O : Type 0} (c : Place) (w : World O) : Type 0 where
  pub node : Node O
  pub stands : w.tree c ≡ Some node
  pub spared : IsSpared c w.tape
  pub held : IsHeld c w.moves

-- An interpreter's count rises by the steps that are made in its subtree.
abbrev pub Counting : Type 0 → Type 0 → Type 0
Counting O I = (prog : Table O I) (c p : Place) (w : World O) (x : Prog O I) (v : World O)
    (e : Ending) (n : Node O) →
    Runs prog w p x v e → Lasts c w → w.tree c ≡ Some n →
    (m : Node O) × (v.tree c ≡ Some m) ×
    (m.count + steps_of (view c v.tape) ≡ n.count + steps_of (view c w.tape))

-- c's limit is neither raised past l nor taken away
abbrev pub Lowers : {O : Type 0} → ℕ → What O → Option Place → Type 0
Lowers l (Limited x) (Some []) = (k : ℕ) × (x ≡ Some k) × (k ≤ l)
Lowers l x b = Unit {0}

abbrev pub IsLowering : {O : Type 0} → ℕ → Place → List (Event O) → Type 0
IsLowering l c [] = Unit {0}
IsLowering l c (ev ∷ τ) = Lowers l ev.what (strip ev.place c) × IsLowering l c τ

-- With a limit that nobody raises or takes away, it ends at most at the greater of the limit and
-- the count before: at most at each number that both are at most.
abbrev pub Limiting : Type 0 → Type 0 → Type 0
Limiting O I = (prog : Table O I) (c p : Place) (w : World O) (x : Prog O I) (v : World O)
    (e : Ending) (n : Node O) (l b : ℕ) →
    Runs prog w p x v e → Lasts c w → IsLowering l c w.tape → w.tree c ≡ Some n → n.limit ≡ Some l →
    l ≤ b → n.count ≤ b →
    (m : Node O) × (k : ℕ) × (v.tree c ≡ Some m) × (m.limit ≡ Some k) × (k ≤ l) × (m.count ≤ b)

-- After any happenings the subtree at c is as those in it leave it.
abbrev pub Moments : Type 0 → Type 0
Moments O = (c : Place) (τ : List (Event O)) (T : Tree O) →
    at (after τ T) c ≡ after (view c τ) (at T c)

-- A call within the tree reads no move.
abbrev pub Inner : Type 0 → Type 0
Inner O = (a : Place) (down : Path) (i : Entry) (ms : List (Move O)) →
    asked (a ++ down) (In (Some (length down)) i) ms ≡ ms

-- the same world, with more to be handed in
abbrev pub more_grants : List Grant → Grants → Grants
more_grants more (Listed gs) = Listed (gs ++ more)
more_grants more (Budget n) = Budget n

abbrev pub with_more : {O : Type 0} → List (Move O) → List Grant → World O → World O
with_more ms gs w = record {
  tree = w.tree;
  moves = w.moves ++ ms;
  grants = more_grants gs w.grants;
  tape = w.tape;
}

-- What is handed in after a run is not looked at.
abbrev pub MoreMoves : Type 0 → Type 0 → Type 0
MoreMoves O I = (prog : Table O I) (w : World O) (p : Place) (x : Prog O I) (v : World O)
    (r : Reply) (ms : List (Move O)) (gs : List Grant) →
    Runs prog w p x v (Some r) → Runs prog (with_more ms gs w) p x (with_more ms gs v) (Some r)

-- No entry is ended from outside: none ends by a stop that names an interpreter above the tree, and
-- no call is answered so.
abbrev pub Unended : {O : Type 0} → Place → What O → Type 0
Unended p (Done h (Cut x)) = rise_to h p ≡ None → Prim.⊥
Unended p (Back h (Replied (Cut x))) = rise_to h p ≡ None → Prim.⊥
Unended p _ = Unit {0}

abbrev pub IsUnended : {O : Type 0} → List (Event O) → Type 0
IsUnended [] = Unit {0}
IsUnended (ev ∷ τ) = Unended ev.place ev.what × IsUnended τ

-- What an evaluation anywhere in the tree does in the subtree at c is what React does with that
-- subtree alone and the crossings into it, with every budget that is not less than the steps made
-- in it: the same is told to its outside, and the same subtree left.
abbrev pub Isolation : Type 0 → Type 0 → Type 0
Isolation O I = (prog : Table O I) (c : Place) (w v : World O) (t : Path) (i : Entry) (r : Reply)
    (m : ℕ) →
    Visits prog (Runs prog) w None t i v (Some r) → v.moves ≡ [] → v.tape ≡ [] →
    Lasts c w → IsUnended (view c w.tape) → steps_of (view c w.tape) ≤ m →
    React prog (at w.tree c) (moves_of (view c w.tape)) m
    (outcome_of (view c w.tape) Outcome.Finished) (outs_of (view c w.tape)) (at v.tree c)

-- it stops with nothing in progress, or at an open call
abbrev pub IsOpenOrDone : Outcome → Type 0
IsOpenOrDone Finished = Unit {0}
IsOpenOrDone Waiting = Unit {0}
IsOpenOrDone x = Prim.⊥

-- The same up to where c is dropped, it or one above it: what an evaluation does in the subtree at
-- c until then is what React does with that subtree alone and the crossings into it until then,
-- with every budget that is not less than the steps made in it. It has done what it was asked for,
-- or it waits at a call that is open; and what it leaves is the subtree that stood at c when it was
-- dropped.
abbrev pub IsolationToDrop : Type 0 → Type 0 → Type 0
IsolationToDrop O I = (prog : Table O I) (c : Place) (w v : World O) (t : Path) (i : Entry)
    (r : Reply) (m : ℕ) (before later : List (Event O)) (d z : Place) (n : Node O) →
    Visits prog (Runs prog) w None t i v (Some r) → v.moves ≡ [] → v.tape ≡ [] →
    w.tape ≡ before ++ record { place = d; what = Dropped } ∷ later → strip d c ≡ Some z →
    w.tree c ≡ Some n → IsSpared c before → IsHeld c w.moves →
    IsUnended (view c before) → steps_of (view c before) ≤ m →
    (x : Outcome) × IsOpenOrDone x ×
    React prog (at w.tree c) (moves_of (view c before)) m x (outs_of (view c before))
    (at (after before w.tree) c)

-- an interpreter but for its count and its depth
abbrev pub bare : {O : Type 0} → Node O → Node O
bare n = record n { count = 0; depth = 0 }

abbrev pub hidden : {O : Type 0} → Option Place → Option Place → Option (Node O) → Option (Node O)
hidden (Some q) b o = None
hidden None (Some q) o = on_some bare o
hidden None None o = o

-- the tree outside the subtree at c, but for the counts and depths of those above c
abbrev pub rest : {O : Type 0} → Tree O → Place → Tree O
rest T c = λ p. hidden (strip c p) (strip p c) (T p)

-- where control goes by a happening, as it is seen from c
pub data Turn : Type 0 where
  Enters : Turn
  Leaves : Turn
  Inside : Turn
  Elsewhere : Turn
  Life : Turn

abbrev pub comes_in : Option Place → Turn
comes_in None = Enters
comes_in (Some a) = Inside

abbrev pub goes_out : Option Place → Turn
goes_out None = Leaves
goes_out (Some a) = Inside

abbrev pub life_at : Place → Turn
life_at [] = Life
life_at (x ∷ q) = Inside

abbrev pub turn_in : {O : Type 0} → Place → What O → Turn
turn_in q (In h i) = comes_in (rise_to h q)
turn_in q (Back h a) = comes_in (rise_to h q)
turn_in q (Done h r) = goes_out (rise_to h q)
turn_in q (Out h down i) = goes_out (rise_to h q)
turn_in q (Made o s) = life_at q
turn_in q Dropped = life_at q
turn_in q (Unfound t i c) = life_at q
turn_in q _ = Inside

abbrev pub turn_at : {O : Type 0} → Option Place → What O → Turn
turn_at None x = Elsewhere
turn_at (Some q) x = turn_in q x

abbrev pub turn : {O : Type 0} → Place → Event O → Turn
turn c ev = turn_at (strip c ev.place) ev.what

-- no control leaves c
abbrev pub NoLeaving : {O : Type 0} → Place → List (Event O) → Type 0
NoLeaving c [] = Unit {0}
NoLeaving c (ev ∷ τ) = (turn c ev ≡ Leaves → Prim.⊥) × NoLeaving c τ

-- From an entry into c, or an answer to a call of c's, to the next call or end that leaves it,
-- nothing outside c changes.
abbrev pub QuietOutside : Type 0 → Type 0 → Type 0
QuietOutside O I = (prog : Table O I) (c : Place) (w v : World O) (e : Ending)
    (first mid last : List (Event O)) (ev : Event O) →
    Lives prog w v e → v.tape ≡ [] → w.tape ≡ first ++ ev ∷ (mid ++ last) → turn c ev ≡ Enters →
    NoLeaving c mid →
    rest (after mid (after (first ++ ev ∷ []) w.tree)) c ≡ rest (after (first ++ ev ∷ []) w.tree) c

-- nobody in the subtree at c calls an interpreter outside it, or the host
abbrev pub Inward : {O : Type 0} → Option Place → What O → Type 0
Inward (Some q) (Out h down i) = rise_to h q ≡ None → Prim.⊥
Inward b x = Unit {0}

abbrev pub AreInward : {O : Type 0} → Place → List (Event O) → Type 0
AreInward c [] = Unit {0}
AreInward c (ev ∷ τ) = Inward (strip c ev.place) ev.what × AreInward c τ

-- Where the evaluation is in the subtree at c and nobody there calls outside it, all outside it is
-- afterwards what it was.
abbrev pub Untouched : Type 0 → Type 0 → Type 0
Untouched O I = (prog : Table O I) (c : Place) (w v : World O) (t : Path) (i : Entry) (r : Reply) →
    Visits prog (Runs prog) w None (c ++ t) i v (Some r) → AreInward c w.tape →
    rest v.tree c ≡ rest w.tree c

-- a reply, told at q in c, that is a stop which names c or one above it, or an end from outside
abbrev pub ends_in : Place → Reply → Bool
ends_in q (Stop n m) = nat_le (length q) n
ends_in q (Cut x) = true
ends_in q r = false

abbrev pub refused_in : Place → Meter → Height → Bool
refused_in q m None = true
refused_in q Count (Some n) = nat_le (length q) n
refused_in q Depth (Some zero) = false
refused_in q Depth (Some (suc n)) = nat_le (length q) (suc n)

-- such a stop is raised in c, or comes into it as an answer (an interpreter's own depth limit is an
-- error there, and no stop)
abbrev pub raised_in : {O : Type 0} → Place → What O → Bool
raised_in q (Refused m h) = refused_in q m h
raised_in q (Back h (Replied r)) = ends_in q r
raised_in q x = false

abbrev pub raised_at : {O : Type 0} → Option Place → What O → Bool
raised_at None x = false
raised_at (Some q) x = raised_in q x

abbrev pub freed : Option Place → Type 0 → Type 0
freed None t = Unit {0}
freed (Some a) t = t

abbrev pub unmoved_by : {O : Type 0} → Option Place → What O → Type 0 → Type 0
unmoved_by (Some q) Charged t = Prim.⊥
unmoved_by (Some q) (Done h r) t = freed (rise_to h q) t
unmoved_by b x t = t

-- no step is made in c before an entry into it has ended
abbrev pub Unmoved : {O : Type 0} → Place → List (Event O) → Type 0
Unmoved c [] = Unit {0}
Unmoved c (ev ∷ τ) = unmoved_by (strip c ev.place) ev.what (Unmoved c τ)

-- and so it is after each such stop
abbrev pub Obeys : {O : Type 0} → Place → List (Event O) → Type 0
Obeys c [] = Unit {0}
Obeys c (ev ∷ τ) = (raised_at (strip c ev.place) ev.what ≡ true → Unmoved c τ) × Obeys c τ

-- Once a stop that names c or one above it is raised in c or comes into it as an answer, no step is
-- made in c before it has left c. So no program catches one.
abbrev pub Stopping : Type 0 → Type 0 → Type 0
Stopping O I = (prog : Table O I) (c p : Place) (w : World O) (x : Prog O I) (v : World O)
    (e : Ending) →
    Runs prog w p x v e → v.tape ≡ [] → Obeys c w.tape

-- What a safe subtree whose interpreters keep a discipline does keeps it, where what is handed in
-- does: nothing happens there that it forbids. (So a safe child with no host command asks the host
-- for nothing, and no script in it sets a limit.)
abbrev pub Disciplined : Type 0 → Type 0 → Type 0
Disciplined O I = (R : Discipline O I) (prog : Table O I) → Keeps_to R prog →
    (c : Place) (w v : World O) →
    Lives prog w v None → v.tape ≡ [] → IsGood R (at w.tree c) →
    AreTame R (moves_of (view c w.tape)) →
    AreAllowed R (view c w.tape) × IsGood R (at v.tree c)

-- the happening reads a move; and nothing is left, or a move is read next
abbrev pub ReadsMove : {O : Type 0} → Event O → Type 0
ReadsMove {O} ev = (ms : List (Move O)) → (m : Move O) × (asked ev.place ev.what ms ≡ m ∷ ms)

abbrev pub AtMove : {O : Type 0} → List (Event O) → Type 0
AtMove [] = Unit {0}
AtMove (ev ∷ τ) = ReadsMove ev

-- Two evaluations in two worlds, in which the subtrees at c are equal and the moves into them begin
-- with the same: the same happens there up to where a further move is read, and so the same is told
-- to the outside.
abbrev pub TwoWorlds : Type 0 → Type 0 → Type 0
TwoWorlds O I = (prog : Table O I) (c : Place) (w v z y : World O) (t t2 : Path) (i i2 : Entry)
    (r r2 : Reply) (ms a b : List (Move O)) →
    Visits prog (Runs prog) w None t i v (Some r) → v.moves ≡ [] → v.tape ≡ [] → Lasts c w →
    IsUnended (view c w.tape) →
    Visits prog (Runs prog) z None t2 i2 y (Some r2) → y.moves ≡ [] → y.tape ≡ [] → Lasts c z →
    IsUnended (view c z.tape) →
    at w.tree c ≡ at z.tree c → moves_of (view c w.tape) ≡ ms ++ a →
    moves_of (view c z.tape) ≡ ms ++ b →
    (same : List (Event O)) × (rest1 : List (Event O)) × (rest2 : List (Event O)) ×
    (view c w.tape ≡ same ++ rest1) × (view c z.tape ≡ same ++ rest2) × AtMove rest1 ×
    AtMove rest2

-- Where all moves agree, so does all that happens in the subtree, and the subtree that is left.
abbrev pub AllAgree : Type 0 → Type 0 → Type 0
AllAgree O I = (prog : Table O I) (c : Place) (w v z y : World O) (t t2 : Path) (i i2 : Entry)
    (r r2 : Reply) →
    Visits prog (Runs prog) w None t i v (Some r) → v.moves ≡ [] → v.tape ≡ [] → Lasts c w →
    IsUnended (view c w.tape) →
    Visits prog (Runs prog) z None t2 i2 y (Some r2) → y.moves ≡ [] → y.tape ≡ [] → Lasts c z →
    IsUnended (view c z.tape) →
    at w.tree c ≡ at z.tree c → moves_of (view c w.tape) ≡ moves_of (view c z.tape) →
    (view c w.tape ≡ view c z.tape) × (outs_of (view c w.tape) ≡ outs_of (view c z.tape)) ×
    (at v.tree c ≡ at y.tree c)

-- Under a budget no more steps are made than it has, and what is left of it is what they left.
abbrev pub Bounded : Type 0 → Type 0 → Type 0
Bounded O I = (prog : Table O I) (w v : World O) (p : Place) (x : Prog O I) (e : Ending) (n : ℕ) →
    Runs prog w p x v e → w.grants ≡ Budget n → v.tape ≡ [] → (k : ℕ) × (v.grants ≡ Budget k) ×
    (k + steps_of w.tape ≡ n)

-- What is no completion passes, whatever was to follow: no program goes on after a stop, an exit or
-- an end from outside.
pub record Passing (O I : Type 0) : Type 0 where
  -- an act that is refused so ends the whole so, and so does a wrap that doesn't open
  pub act : (prog : Table O I) (w v : World O) (p : Place) (d : Act O) (k : Tree O → Prog O I)
      (x : Deed O) (r : Reply) (e : Ending) →
      decide d w.tree p w.grants ≡ Some x → x.2 ≡ Off r → Runs prog w p (act d k) v e → e ≡ Some r
  pub shut : (prog : Table O I) (w v : World O) (p : Place) (b : Wrap O) (i : I)
      (k : Completion → Prog O I) (x : Deed O) (r : Reply) (e : Ending) →
      opens b w.tree p w.grants ≡ Some x → x.2 ≡ Off r → Runs prog w p (inside b i k) v e →
      e ≡ Some r
  -- where an inner evaluation ends so, the whole does, with a wrap or without
  pub inner : (prog : Table O I) (w u v : World O) (p : Place) (i : I) (k : Completion → Prog O I)
      (r : Reply) (e : Ending) →
      IsQuit r → Runs prog w p (prog.program i) u (Some r) → Runs prog w p (go i k) v e → e ≡ Some r
  pub wrapped : (prog : Table O I) (w u z v : World O) (p : Place) (b : Wrap O) (i : I)
      (k : Completion → Prog O I) (x : Deed O) (r : Reply) (e : Ending) →
      IsQuit r → opens b w.tree p w.grants ≡ Some x → x.2 ≡ On → Step w (spot p x.0) x.1 u →
      Runs prog u p (prog.program i) z (Some r) → Runs prog w p (inside b i k) v e → e ≡ Some r
  -- where a call within the tree is answered so, as its caller is told it
  pub called : (prog : Table O I) (w u z v : World O) (p a t : Place) (h : Height) (down : Path)
      (i : Entry) (lost : Completion) (k : Said → Prog O I) (r : Reply) (e : Ending) →
      IsQuit (returned u.tree z.tree h p down r) → rise_to h p ≡ Some a →
      Step w p (Out h down i) u →
      reached u.tree a down ≡ Some t →
      Visits prog (Runs prog) u (Some (length down)) t i z (Some r) →
      Runs prog w p (call h down i lost k) v e →
      e ≡ Some (returned u.tree z.tree h p down r)
  -- where the interpreter of the caller, or one above it, is gone by then, the whole ends, whatever
  -- was answered
  pub ousted : (prog : Table O I) (w u z v : World O) (p a t : Place) (h : Height) (down : Path)
      (i : Entry) (lost : Completion) (k : Said → Prog O I) (r : Reply) (e : Ending) (n : ℕ) →
      rise_to h p ≡ Some a → Step w p (Out h down i) u → reached u.tree a down ≡ Some t →
      Visits prog (Runs prog) u (Some (length down)) t i z (Some r) →
      gone (depth_of (u.tree p)) z.tree p ≡ Some n → Runs prog w p (call h down i lost k) v e →
      (q : Reply) × IsQuit q × (e ≡ Some q)
  -- and a call that left the tree is then answered by no completion and by no word of the host
  pub ousted_outside : (T : Tree O) (p : Place) (s : Wait) (y : Answer) (n : ℕ) →
      gone_from s T p ≡ Some n → fits T p s (Come y) ≡ true →
      (q : Reply) × IsQuit q × (y ≡ Replied q)
  -- and where one that left the tree is
  pub answered : (prog : Table O I) (w v : World O) (p : Place) (s : Wait) (k : Said → Prog O I)
      (ms : List (Move O)) (r : Reply) (e : Ending) →
      IsQuit r → w.moves ≡ Come (Replied r) ∷ ms → fits w.tree p s (Come (Replied r)) ≡ true →
      Runs prog w p (wait s k) v e → e ≡ Some r

-- Where an entry is ended from outside, what is told before that is a beginning of what React
-- tells, for the moves before it: and so for each beginning of what happens in the subtree in which
-- nothing is ended from outside. The budget is one that the whole doesn't pass.
abbrev pub IsolationUntil : Type 0 → Type 0 → Type 0
IsolationUntil O I = (prog : Table O I) (c : Place) (w v : World O) (t : Path) (i : Entry)
    (r : Reply) (m : ℕ) (before later : List (Event O)) (x : Outcome) (outs : List (Event O))
    (V : Tree O) →
    Visits prog (Runs prog) w None t i v (Some r) → v.moves ≡ [] → v.tape ≡ [] →
    view c w.tape ≡ before ++ later → IsUnended before → steps_of (view c w.tape) ≤ m →
    React prog (at w.tree c) (moves_of before) m x outs V → (more : List (Event O)) ×
    (outs ≡ outs_of before ++ more)

abbrev pub Beneath : {O : Type 0} → Option (Node O) → Option (Node O) → Type 0
Beneath a None = Unit {0}
Beneath None (Some n) = Prim.⊥
Beneath (Some m) (Some n) = n.depth ≤ m.depth

-- above each that stands all stand, and are in use as deeply
abbrev pub IsUpright : {O : Type 0} → Tree O → Type 0
IsUpright T = (p q z : Place) → strip p q ≡ Some z → Beneath (T p) (T q)

-- whether neither c nor one above it is dropped
abbrev pub none_there : Option Place → Bool
none_there None = true
none_there (Some z) = false

abbrev pub spares : {O : Type 0} → Place → Place → What O → Bool
spares c p Dropped = none_there (strip p c)
spares c p x = true

abbrev pub is_spared : {O : Type 0} → Place → List (Event O) → Bool
is_spared c [] = true
is_spared c (ev ∷ τ) = spares c ev.place ev.what && is_spared c τ

-- what is left of a depth where it is spared, and where it isn't
abbrev pub depth_left : Bool → ℕ → ℕ
depth_left true d = d
depth_left false d = 0

-- After a run that came to its end each depth is what it was where neither the interpreter nor one
-- above it was dropped on the way, and 0 where one was: whoever was made anew there is not in use.
-- So an interpreter in use that isn't dropped stands as long as it is in use, and where nothing was
-- in progress nothing is: of what was dropped in use nothing is left. What is in use at first and
-- isn't dropped isn't made either, whether the run came to its end or not.
pub record IsSteady {O : Type 0} (w v : World O) (e : Ending) : Type 0 where
  pub made : List (Event O)
  pub happened : w.tape ≡ made ++ v.tape
  pub depths : (r : Reply) → e ≡ Some r → (q : Place) →
      depth_of (v.tree q) ≡ depth_left (is_spared q made) (depth_of (w.tree q))
  pub upright : (r : Reply) → e ≡ Some r → IsUpright v.tree
  pub standing : (c : Place) → 1 ≤ depth_of (w.tree c) → is_spared c made ≡ true →
      IsStanding c made

abbrev pub Steady : Type 0 → Type 0 → Type 0
Steady O I = (prog : Table O I) (w v : World O) (p : Place) (x : Prog O I) (e : Ending) →
    Runs prog w p x v e → IsUpright w.tree → KeepsTop w.moves → IsSteady w v e

-- How many levels up from q the highest interpreter is that is dropped by these, of that at q and
-- those above it; none where none of them is.
abbrev pub fallen : Option Place → Option ℕ
fallen None = None
fallen (Some z) = Some (length z)

abbrev pub fall_at : {O : Type 0} → Place → Place → What O → Option ℕ
fall_at q p Dropped = fallen (strip p q)
fall_at q p x = None

abbrev pub farther : Bool → ℕ → ℕ → ℕ
farther true n m = m
farther false n m = n

abbrev pub higher : Option ℕ → Option ℕ → Option ℕ
higher None b = b
higher (Some n) None = Some n
higher (Some n) (Some m) = Some (farther (nat_le n m) n m)

abbrev pub highest : {O : Type 0} → Place → List (Event O) → Option ℕ
highest q [] = None
highest q (ev ∷ τ) = higher (fall_at q ev.place ev.what) (highest q τ)

-- Who is gone after a run is who was dropped in it: where an interpreter was in use at first, the
-- depths that are left tell whether it, or one above it, was dropped, and which is the highest.
abbrev pub GoneIsDropped : Type 0 → Type 0 → Type 0
GoneIsDropped O I = (prog : Table O I) (w v : World O) (p : Place) (x : Prog O I) (r : Reply) →
    Runs prog w p x v (Some r) → IsUpright w.tree → KeepsTop w.moves →
    (made : List (Event O)) × (w.tape ≡ made ++ v.tape) ×
    ((q : Place) → 1 ≤ depth_of (w.tree q) →
    gone (depth_of (w.tree q)) v.tree q ≡ highest q made)

-- below a safe interpreter all are safe; and the one at c is
abbrev pub IsSafeBelow : {O : Type 0} → Tree O → Type 0
IsSafeBelow {O} T = (p q z : Place) (m n : Node O) → strip p q ≡ Some z → T p ≡ Some m →
    m.safe ≡ true → T q ≡ Some n → n.safe ≡ true

abbrev pub IsSafeAt : {O : Type 0} → Tree O → Place → Type 0
IsSafeAt {O} T c = (n : Node O) × (T c ≡ Some n) × (n.safe ≡ true)

-- all own parts are plain
abbrev pub ArePlain : {O : Type 0} → (O → Bool) → Tree O → Type 0
ArePlain {O} plain T = (p : Place) (n : Node O) → T p ≡ Some n → plain n.own ≡ true

-- no entry is such a one
abbrev pub AreFree : {O : Type 0} → (Entry → Bool) → List (Move O) → Type 0
AreFree f [] = Unit {0}
AreFree f (Enter t i ∷ ms) = (f i ≡ false) × AreFree f ms
AreFree f (m ∷ ms) = AreFree f ms

abbrev pub IsNoRequest : {O : Type 0} → What O → Type 0
IsNoRequest (Out None down i) = Prim.⊥
IsNoRequest x = Unit {0}

-- the host is asked for nothing
abbrev pub AsksNothing : {O : Type 0} → List (Event O) → Type 0
AsksNothing [] = Unit {0}
AsksNothing (ev ∷ τ) = IsNoRequest ev.what × AsksNothing τ

-- A safe interpreter in whose subtree nobody has a host command, `plain` being the test of an own
-- part for that, asks the host for nothing, where nobody is asked from outside to expose a command
-- or to invoke a hidden one. Of the table it wants that its commands keep to that.
abbrev pub NoRequests : Type 0 → Type 0 → Type 0
NoRequests O I = (plain : O → Bool) (fine : I → Bool) (prog : Table O I) →
    Keeps_to (hostless plain fine) prog →
    (c : Place) (w v : World O) (t : Path) (i : Entry) (r : Reply) →
    Visits prog (Runs prog) w None t i v (Some r) → v.moves ≡ [] → v.tape ≡ [] → Lasts c w →
    IsSafeBelow w.tree → IsSafeAt w.tree c → ArePlain plain (at w.tree c) →
    AreFree exposes (moves_of (view c w.tape)) → AsksNothing (view c w.tape)

-- nobody asks from outside for a limit of the interpreter at q
abbrev pub Unasked : {O : Type 0} → Place → List (Move O) → Type 0
Unasked q [] = Unit {0}
Unasked q (Enter t i ∷ ms) = (sets_limit i ≡ true → t ≡ q → Prim.⊥) × Unasked q ms
Unasked q (m ∷ ms) = Unasked q ms

-- the limits of `now`: those of a new interpreter, or those that were
abbrev pub AsLimited : {O : Type 0} → Option (Node O) → Option (Node O) → Type 0
AsLimited was None = Unit {0}
AsLimited {O} was (Some m) = ((m.limit ≡ None) × (m.depth_limit ≡ 200)) ⊎
    ((n : Node O) × (was ≡ Some n) × (m.limit ≡ n.limit) × (m.depth_limit ≡ n.depth_limit))

-- In the subtree of a safe interpreter no script changes a limit: where nobody asks from outside
-- for a limit of the interpreter at q below it, that has the limits that it had, or is new and has
-- those of a new one; and one that is neither made nor dropped has those that it had.
abbrev pub LimitsKept : Type 0 → Type 0 → Type 0
LimitsKept O I = (fine : I → Bool) (prog : Table O I) →
    ((limited : Place → Bool) → Keeps_to (unlimiting fine limited) prog) →
    (c : Place) (w v : World O) (t : Path) (i : Entry) (r : Reply) →
    Visits prog (Runs prog) w None t i v (Some r) → v.moves ≡ [] → v.tape ≡ [] → Lasts c w →
    IsSafeBelow w.tree → IsSafeAt w.tree c →
    (q : Place) → Unasked q (moves_of (view c w.tape)) →
    AsLimited (w.tree (c ++ q)) (v.tree (c ++ q)) ×
    ((n : Node O) → w.tree (c ++ q) ≡ Some n → IsStanding (c ++ q) w.tape → (m : Node O) ×
    (v.tree (c ++ q) ≡ Some m) × (m.limit ≡ n.limit) × (m.depth_limit ≡ n.depth_limit))

-- it stops by itself: all entries came to their end, or all moves are read and a call is open
abbrev pub StopsByItself : Outcome → Type 0
StopsByItself Finished = Unit {0}
StopsByItself (Exited n) = Unit {0}
StopsByItself Waiting = Unit {0}
StopsByItself x = Prim.⊥

-- Where a tree by itself stops by itself, that is all that it does with these moves and this
-- budget: no other life of it comes to anything else.
abbrev pub OneReaction : Type 0 → Type 0 → Type 0
OneReaction O I = (prog : Table O I) (S : Tree O) (ms : List (Move O)) (n : ℕ) (x y : Outcome)
    (outs told : List (Event O)) (V W : Tree O) →
    React prog S ms n x outs V → StopsByItself x → React prog S ms n y told W → (y ≡ x) ×
    (told ≡ outs) × (W ≡ V)
