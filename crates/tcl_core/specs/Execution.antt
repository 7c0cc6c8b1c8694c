-- A run as code makes it: from a tree and a state of the outside to those after it, with no list of
-- happenings.
use Rattle.std.specs.Option.{option_map, option_map_or}
use Rattle.std.specs.Prelude.{ℕ, ℤ, suc, pred, ◌-◌, ◌≡◌, true, List, [], ◌∷◌, Option, Some, None}
use Rattle.std.specs.Prelude.{length}
use Rattle.tcl_core.specs.Paths.{Path, Place, Height, rise_to}
use Rattle.tcl_core.specs.Endings.{Completion, Reply, IsQuit, refusal}
use Rattle.tcl_core.specs.Endings.Meter.{Depth}
use Rattle.tcl_core.specs.Endings.Kind.{Full}
use Rattle.tcl_core.specs.Endings.Reply.{Completed, Exit}
use Rattle.tcl_core.specs.Entries.{Entry, HostReply, Said}
use Rattle.tcl_core.specs.Entries.Answer.{Replied, Heard, Nobody}
use Rattle.tcl_core.specs.Entries.Said.{Finished, Told, Missed}
use Rattle.tcl_core.specs.Trees.{Tree, Node, What, Event, Grant, effect, granted, at, depth_of}
use Rattle.tcl_core.specs.Trees.Grants.{Listed}
use Rattle.tcl_core.specs.Trees.What.{Charged, Refused, Dropped, Out, In, Done, Back, Unfound}
use Rattle.tcl_core.specs.Trees.Move.{Come}
use Rattle.tcl_core.specs.Programs.{Calls_only, Deed, spot, Act, Wrap, Wait, Prog, Table, decide}
use Rattle.tcl_core.specs.Programs.{opens, closes, or_lost}
use Rattle.tcl_core.specs.Programs.Next.{On, TooDeep, Off}
use Rattle.tcl_core.specs.Programs.Prog.{done, exit, act, go, inside, call, wait}
use Rattle.tcl_core.specs.Runs.{World, Runs, returned, reached, fits}
use Rattle.tcl_core.specs.Runs.{height_of}
use Rattle.tcl_core.specs.Rules.{IsOn, IsNoExit}
use Rattle.tcl_core.specs.Views.{moves_of, grants_of}

-- the act comes to this deed, whatever else the outside will grant
abbrev pub Decides : {O : Type 0} → Act O → Tree O → Place → Deed O → Type 0
Decides d T p x = (gs : List Grant) → decide d T p (granted (spot p x.0) x.1 (Listed gs)) ≡ Some x

abbrev pub Opens_so : {O : Type 0} → Wrap O → Tree O → Place → Deed O → Type 0
Opens_so b T p x = (gs : List Grant) → opens b T p (granted (spot p x.0) x.1 (Listed gs)) ≡ Some x

abbrev pub event : {O : Type 0} → Place → What O → Event O
event p x = record { place = p; what = x }

-- From the tree T and the outside's state o, the program at p ends with the reply r, the tree V and
-- the state z. `step` is how the outside goes from one state to the next, by a happening, which
-- finds the tree as it then stands; an answer from outside comes with the call that it answers.
pub data Executes {O I S : Type 0} (step : Tree O → S → Wait → Event O → S → Type 0)
    (prog : Table O I) : Tree O → S → Place → Prog O I → Tree O → S → Reply → Type 0 where
  completed : {T : Tree O} {o : S} {p : Place} {c : Completion} →
      Executes step prog T o p (done c) T o (Completed c)
  exited : {T : Tree O} {o : S} {p : Place} {n : ℤ} → Executes step prog T o p (exit n) T o (Exit n)
  acted : {T V : Tree O} {o u z : S} {p : Place} {d : Act O} {k : Tree O → Prog O I} {r : Reply}
      (x : Deed O) → Decides d T p x → IsOn x.2 → step T o None (event (spot p x.0) x.1) u →
      Executes step prog (effect (spot p x.0) x.1 T) u p (k (at T p)) V z r →
      Executes step prog T o p (act d k) V z r
  refused : {T : Tree O} {o u : S} {p : Place} {d : Act O} {k : Tree O → Prog O I} {r : Reply}
      (x : Deed O) → Decides d T p x → x.2 ≡ Off r → step T o None (event (spot p x.0) x.1) u →
      Executes step prog T o p (act d k) (effect (spot p x.0) x.1 T) u r
  went : {T U V : Tree O} {o u z : S} {p : Place} {i : I} {k : Completion → Prog O I}
      {c : Completion} {r : Reply} →
      Executes step prog T o p (prog.program i) U u (Completed c) →
      Executes step prog U u p (k c) V z r → Executes step prog T o p (go i k) V z r
  passed : {T U : Tree O} {o u : S} {p : Place} {i : I} {k : Completion → Prog O I} {r : Reply} →
      IsQuit r →
      Executes step prog T o p (prog.program i) U u r → Executes step prog T o p (go i k) U u r
  wrapped : {T U V : Tree O} {o o1 o2 o3 z : S} {p : Place} {b : Wrap O} {i : I}
      {k : Completion → Prog O I} {c : Completion} {r : Reply} (x : Deed O) →
      Opens_so b T p x → x.2 ≡ On → step T o None (event (spot p x.0) x.1) o1 →
      Executes step prog (effect (spot p x.0) x.1 T) o1 p (prog.program i) U o2 (Completed c) →
      step U o2 None (event p (closes b (effect (spot p x.0) x.1 T p) (U p))) o3 →
      Executes step prog (effect p (closes b (effect (spot p x.0) x.1 T p) (U p)) U) o3 p (k c) V z
      r →
      Executes step prog T o p (inside b i k) V z r
  wrapped_passed : {T U : Tree O} {o o1 o2 o3 : S} {p : Place} {b : Wrap O} {i : I}
      {k : Completion → Prog O I} {r : Reply} (x : Deed O) → IsQuit r →
      Opens_so b T p x → x.2 ≡ On → step T o None (event (spot p x.0) x.1) o1 →
      Executes step prog (effect (spot p x.0) x.1 T) o1 p (prog.program i) U o2 r →
      step U o2 None (event p (closes b (effect (spot p x.0) x.1 T p) (U p))) o3 →
      Executes step prog T o p (inside b i k)
      (effect p (closes b (effect (spot p x.0) x.1 T p) (U p)) U) o3 r
  too_deep : {T V : Tree O} {o u z : S} {p : Place} {b : Wrap O} {i : I} {k : Completion → Prog O I}
      {r : Reply} (x : Deed O) →
      Opens_so b T p x → x.2 ≡ TooDeep → step T o None (event (spot p x.0) x.1) u →
      Executes step prog (effect (spot p x.0) x.1 T) u p (k (refusal (Full Depth))) V z r →
      Executes step prog T o p (inside b i k) V z r
  shut : {T : Tree O} {o u : S} {p : Place} {b : Wrap O} {i : I} {k : Completion → Prog O I}
      {r : Reply} (x : Deed O) →
      Opens_so b T p x → x.2 ≡ Off r → step T o None (event (spot p x.0) x.1) u →
      Executes step prog T o p (inside b i k) (effect (spot p x.0) x.1 T) u r
  called : {T U V : Tree O} {o o1 o2 o3 o4 o5 z : S} {p : Place} {h : Height} {down : Path}
      {i : Entry} {lost : Completion} {k : Said → Prog O I} {s r : Reply} {c : Completion}
      (a t : Place) →
      rise_to h p ≡ Some a → reached T a down ≡ Some t →
      step T o None (event p (Out h down i)) o1 →
      step T o1 None (event t (In (Some (length down)) i)) o2 →
      Executes step prog T o2 t (prog.entry i) U o3 s →
      step U o3 None (event t (Done (Some (length down)) s)) o4 →
      returned T U h p down s ≡ Completed c →
      step U o4 None (event p (Back h (Replied (returned T U h p down s)))) o5 →
      Executes step prog U o5 p (k (Finished c)) V z r →
      Executes step prog T o p (call h down i lost k) V z r
  called_passed : {T U : Tree O} {o o1 o2 o3 o4 o5 : S} {p : Place} {h : Height} {down : Path}
      {i : Entry} {lost : Completion} {k : Said → Prog O I} {s r : Reply} (a t : Place) →
      rise_to h p ≡ Some a → reached T a down ≡ Some t →
      step T o None (event p (Out h down i)) o1 →
      step T o1 None (event t (In (Some (length down)) i)) o2 →
      Executes step prog T o2 t (prog.entry i) U o3 s →
      step U o3 None (event t (Done (Some (length down)) s)) o4 →
      returned T U h p down s ≡ r →
      IsQuit r → step U o4 None (event p (Back h (Replied r))) o5 →
      Executes step prog T o p (call h down i lost k) U o5 r
  unreached : {T V : Tree O} {o o1 o2 z : S} {p : Place} {h : Height} {down : Path} {i : Entry}
      {lost : Completion} {k : Said → Prog O I} {r : Reply} (a : Place) →
      rise_to h p ≡ Some a → reached T a down ≡ None →
      step T o None (event p (Out h down i)) o1 →
      step T o1 None (event p (Back h (Replied (Completed lost)))) o2 →
      Executes step prog T o2 p (k (Finished lost)) V z r →
      Executes step prog T o p (call h down i lost k) V z r
  called_out : {T V : Tree O} {o u z : S} {p : Place} {h : Height} {down : Path} {i : Entry}
      {lost : Completion} {k : Said → Prog O I} {r : Reply} → rise_to h p ≡ None →
      step T o None (event p (Out h down i)) u →
      Executes step prog T u p (wait (Some (h, i, depth_of (T p))) (or_lost lost k)) V z r →
      Executes step prog T o p (call h down i lost k) V z r
  answered : {T V : Tree O} {o u z : S} {p : Place} {s : Wait} {k : Said → Prog O I}
      {c : Completion} {r : Reply} → rise_to (height_of s) p ≡ None →
      fits T p s (Come (Replied (Completed c))) ≡ true →
      step T o s (event p (Back (height_of s) (Replied (Completed c)))) u →
      Executes step prog T u p (k (Finished c)) V z r →
      Executes step prog T o p (wait s k) V z r
  heard : {T V : Tree O} {o u z : S} {p : Place} {s : Wait} {k : Said → Prog O I} {a : HostReply}
      {r : Reply} → rise_to (height_of s) p ≡ None →
      fits T p s (Come (Heard a)) ≡ true →
      step T o s (event p (Back (height_of s) (Heard a))) u →
      Executes step prog T u p (k (Told a)) V z r → Executes step prog T o p (wait s k) V z r
  missed : {T V : Tree O} {o u z : S} {p : Place} {s : Wait} {k : Said → Prog O I} {r : Reply} →
      rise_to (height_of s) p ≡ None → fits T p s (Come Nobody) ≡ true →
      step T o s (event p (Back (height_of s) Nobody)) u →
      Executes step prog T u p (k Missed) V z r → Executes step prog T o p (wait s k) V z r
  answered_passed : {T : Tree O} {o u : S} {p : Place} {s : Wait} {k : Said → Prog O I} {r : Reply}
      → IsQuit r → rise_to (height_of s) p ≡ None →
      fits T p s (Come (Replied r)) ≡ true →
      step T o s (event p (Back (height_of s) (Replied r))) u →
      Executes step prog T o p (wait s k) T u r
  entered : {T U V : Tree O} {o o1 o2 o3 z : S} {p : Place} {s : Wait} {k : Said → Prog O I}
      {node : Node O} {y r : Reply} (t : Path) (i : Entry) → rise_to (height_of s) p ≡ None →
      T t ≡ Some node → step T o None (event t (In None i)) o1 →
      Executes step prog T o1 t (prog.entry i) U o2 y →
      step U o2 None (event t (Done None y)) o3 → IsNoExit y →
      Executes step prog U o3 p (wait s k) V z r → Executes step prog T o p (wait s k) V z r
  entered_exiting : {T U : Tree O} {o o1 o2 o3 o4 : S} {p : Place} {c : Height × Entry × ℕ}
      {k : Said → Prog O I} {node : Node O} {n : ℤ} (t : Path) (i : Entry) → rise_to c.0 p ≡ None →
      T t ≡ Some node → step T o None (event t (In None i)) o1 →
      Executes step prog T o1 t (prog.entry i) U o2 (Exit n) →
      step U o2 None (event t (Done None (Exit n))) o3 →
      step U o3 (Some c) (event p (Back c.0 (Replied (Exit n)))) o4 →
      Executes step prog T o p (wait (Some c) k) U o4 (Exit n)
  unfound : {T V : Tree O} {o u z : S} {p : Place} {s : Wait} {k : Said → Prog O I} {r : Reply}
      (t : Path) (i : Entry) → rise_to (height_of s) p ≡ None → T t ≡ None →
      step T o None (event [] (Unfound t i (prog.lost t))) u →
      Executes step prog T u p (wait s k) V z r → Executes step prog T o p (wait s k) V z r

-- what passes the top
abbrev pub passing : {O S : Type 0} → Option Place → (Tree O → S → Wait → Event O → S → Type 0) →
    Tree O → S → Wait → Event O → S → Type 0
passing None goes T o s ev u = goes T o s ev u
passing (Some a) goes T o s ev u = u ≡ o

abbrev pub sees : {O S : Type 0} → (Tree O → S → Wait → Event O → S → Type 0) → Tree O → S → Wait →
    Place → What O → S → Type 0
sees goes T o s p (Out h down i) u = passing (rise_to h p) goes T o s (event p (Out h down i)) u
sees goes T o s p (In h i) u = passing (rise_to h p) goes T o s (event p (In h i)) u
sees goes T o s p (Done h r) u = passing (rise_to h p) goes T o s (event p (Done h r)) u
sees goes T o s p (Back h a) u = passing (rise_to h p) goes T o s (event p (Back h a)) u
sees goes T o s p (Unfound t i c) u = goes T o s (event p (Unfound t i c)) u
sees goes T o s p _ u = u ≡ o

-- How an outside goes that is told what passes the top of the tree alone, and who it is that calls;
-- all else leaves it as it is.
abbrev pub past_top : {O S : Type 0} → (Tree O → S → Wait → Event O → S → Type 0) → Tree O → S →
    Wait → Event O → S → Type 0
past_top goes T o s ev u = sees goes T o s ev.place ev.what u

abbrev pub hears : {O S : Type 0} → (Tree O → S → Wait → Event O → S → Type 0) → Tree O → S → Wait →
    Place → What O → S → Type 0
hears goes T o s p (Out h down i) u = goes T o s (event p (Out h down i)) u
hears goes T o s p (In h i) u = goes T o s (event p (In h i)) u
hears goes T o s p (Done h r) u = goes T o s (event p (Done h r)) u
hears goes T o s p (Back h a) u = goes T o s (event p (Back h a)) u
hears goes T o s p Charged u = goes T o s (event p Charged) u
hears goes T o s p (Refused m None) u = goes T o s (event p (Refused m None)) u
hears goes T o s p Dropped u = goes T o s (event p Dropped) u
hears goes T o s p (Unfound t i c) u = goes T o s (event p (Unfound t i c)) u
hears goes T o s p _ u = u ≡ o

-- How an outside goes that is told of all crossings, those between two interpreters of the tree
-- among them, of an entry that finds nobody, of the steps that it grants or refuses, and of each
-- interpreter that is dropped; all else leaves it as it is.
pub record Crossings {O S : Type 0} (goes : Tree O → S → Wait → Event O → S → Type 0) (T : Tree O)
    (o : S) (s : Wait) (ev : Event O) (u : S) : Type 0 where
  pub told : hears goes T o s ev.place ev.what u

-- ## The calls that are open

-- The calls that left the tree and are open, the last one first: each is answered before one that
-- was made earlier.
abbrev pub Open : Type 0
Open = List (Height × Entry × ℕ)

abbrev pub with_call : Option Place → Height × Entry × ℕ → Open → Open
with_call None c cs = c ∷ cs
with_call (Some a) c cs = cs

abbrev pub without_call : Option Place → Open → Open
without_call None [] = []
without_call None (c ∷ cs) = cs
without_call (Some a) cs = cs

abbrev pub last_call : Option Place → Open → Wait
last_call None [] = None
last_call None (c ∷ cs) = Some c
last_call (Some a) cs = None

module _ {O : Type 0} where
  -- the call that a happening answers: an answer from outside is one to the last that is open
  abbrev pub answers_to : Place → What O → Open → Wait
  answers_to p (Back h a) cs = last_call (rise_to h p) cs
  answers_to p x cs = None

  -- which are open after it
  abbrev pub calls_after : Tree O → Place → What O → Open → Open
  calls_after T p (Out h down i) cs = with_call (rise_to h p) (h, i, depth_of (T p)) cs
  calls_after T p (Back h a) cs = without_call (rise_to h p) cs
  calls_after T p x cs = cs

-- where a program waits for an answer, its call is open
abbrev pub pending : Wait → Open → Open
pending None cs = cs
pending (Some c) cs = c ∷ cs

module _ {O I : Type 0} where
  abbrev pub waits_for : Prog O I → Wait
  waits_for (wait s k) = s
  waits_for x = None

  -- a program that calls only, or one that waits for an answer and then calls only
  abbrev pub Fits : Prog O I → Type 0
  Fits (wait s k) = (a : Said) → Calls_only (k a)
  Fits x = Calls_only x

-- The outside goes through these happenings, by which the tree comes from one to the other, and the
-- calls that are open: an answer from outside comes with the call that it answers, all else with
-- none.
pub data Chain {O S : Type 0} (step : Tree O → S → Wait → Event O → S → Type 0) : Open → Tree O →
    S → List (Event O) → Open → Tree O → S → Type 0 where
  none : {cs : Open} {T : Tree O} {o : S} → Chain step cs T o [] cs T o
  more : {cs ds : Open} {T V : Tree O} {o u z : S} {ev : Event O} {τ : List (Event O)} →
      step T o (answers_to ev.place ev.what cs) ev u →
      Chain step (calls_after T ev.place ev.what cs) (effect ev.place ev.what T) u τ ds V z →
      Chain step cs T o (ev ∷ τ) ds V z

-- the world in which just this is yet to happen
abbrev pub before : {O : Type 0} → Tree O → List (Event O) → World O
before T τ = record { tree = T; moves = moves_of τ; grants = grants_of τ; tape = τ }

-- Some happenings take the outside from one state to the other and the tree with it, and a run over
-- their tape does. Where the program waits for an answer, its call is the one that is open.
pub record Makes {O I S : Type 0} (step : Tree O → S → Wait → Event O → S → Type 0)
    (prog : Table O I) (T : Tree O) (o : S) (p : Place) (x : Prog O I) (V : Tree O) (z : S)
    (r : Reply) : Type 0 where
  pub events : List (Event O)
  pub chain : Chain step (pending (waits_for x) []) T o events [] V z
  pub runs : Runs prog (before T events) p x (before V []) (Some r)

-- the depth of the top, and how many levels there may be
abbrev pub Levels : Type 0
Levels = ℕ × ℕ

abbrev pub levels_of : {O : Type 0} → Node O → Levels
levels_of n = (n.depth, n.depth_limit)

abbrev pub down_one : Levels → Levels
down_one d = (suc d.0, d.1)

abbrev pub up_one : Levels → Levels
up_one d = (pred d.0, d.1)

abbrev pub room_of : Levels → ℕ
room_of d = d.1 - d.0

abbrev pub top_levels : {O : Type 0} → Tree O → Option Levels
top_levels T = option_map levels_of (T [])

abbrev pub levels_left : {O : Type 0} → Tree O → ℕ
levels_left T = option_map_or room_of (top_levels T) 0
