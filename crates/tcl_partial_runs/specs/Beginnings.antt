-- A run as code makes it that is given up on its way, as for want of memory: what is told of it
-- until then is what each whole run begins with.
use Rattle.std.specs.Prelude.{◌≡◌, Bool, true, List, [], ◌∷◌, ◌++◌, Some, None, length}
use Rattle.tcl_core.specs.Paths.{Path, Place, Height, rise_to}
use Rattle.tcl_core.specs.Endings.{Completion, Reply, refusal}
use Rattle.tcl_core.specs.Endings.Meter.{Depth}
use Rattle.tcl_core.specs.Endings.Kind.{Full}
use Rattle.tcl_core.specs.Endings.Reply.{Completed}
use Rattle.tcl_core.specs.Entries.{Entry, HostReply, Said}
use Rattle.tcl_core.specs.Entries.Answer.{Replied, Heard, Nobody}
use Rattle.tcl_core.specs.Entries.Said.{Finished, Told, Missed}
use Rattle.tcl_core.specs.Trees.{Tree, Node, What, Event, Move, Grant, Grants, effect, asked}
use Rattle.tcl_core.specs.Trees.{at, granted, depth_of}
use Rattle.tcl_core.specs.Trees.Grants.{Listed}
use Rattle.tcl_core.specs.Trees.What.{Refused, Out, In, Done, Back, Unfound}
use Rattle.tcl_core.specs.Trees.Move.{Come}
use Rattle.tcl_core.specs.Programs.{Deed, spot, Act, Wrap, Wait, Prog, Table, closes, or_lost}
use Rattle.tcl_core.specs.Programs.Next.{On, TooDeep}
use Rattle.tcl_core.specs.Programs.Prog.{act, go, inside, call, wait}
use Rattle.tcl_core.specs.Runs.{World, Ending, Runs, returned, reached, fits}
use Rattle.tcl_core.specs.Runs.{height_of}
use Rattle.tcl_core.specs.Rules.{IsOn, IsNoExit}
use Rattle.tcl_core.specs.Execution.{Executes, Chain, Decides, Fits, Open, Opens_so, event}
use Rattle.tcl_core.specs.Execution.{pending, waits_for}
use Rattle.tcl_core.specs.Meaning.{by_test}

-- From the tree T and the outside's state o the program at p went on for a while, and was then
-- given up, wherever it was; z is the state of the outside by then. What came to its end inside of
-- it are `Executes`, with the same steps of the outside.
pub data Begun {O I S : Type 0} (step : Tree O → S → Wait → Event O → S → Type 0)
    (prog : Table O I) : Tree O → S → Place → Prog O I → S → Type 0 where
  -- given up here, with nothing told
  stopped : {T : Tree O} {o : S} {p : Place} {x : Prog O I} → Begun step prog T o p x o
  -- given up when it had come to its end, before anything that follows it
  ended : {T V : Tree O} {o z : S} {p : Place} {x : Prog O I} {r : Reply} →
      Executes step prog T o p x V z r → Begun step prog T o p x z
  -- after an act
  acted : {T : Tree O} {o u z : S} {p : Place} {d : Act O} {k : Tree O → Prog O I} (x : Deed O) →
      Decides d T p x → IsOn x.2 → step T o None (event (spot p x.0) x.1) u →
      Begun step prog (effect (spot p x.0) x.1 T) u p (k (at T p)) z →
      Begun step prog T o p (act d k) z
  -- in an inner evaluation, and after one
  going : {T : Tree O} {o z : S} {p : Place} {i : I} {k : Completion → Prog O I} →
      Begun step prog T o p (prog.program i) z → Begun step prog T o p (go i k) z
  went : {T U : Tree O} {o u z : S} {p : Place} {i : I} {k : Completion → Prog O I} {c : Completion}
      →
      Executes step prog T o p (prog.program i) U u (Completed c) → Begun step prog U u p (k c) z →
      Begun step prog T o p (go i k) z
  -- the same with a wrap: it is open, or was closed again
  within : {T : Tree O} {o u z : S} {p : Place} {b : Wrap O} {i : I} {k : Completion → Prog O I}
      (x : Deed O) →
      Opens_so b T p x → x.2 ≡ On → step T o None (event (spot p x.0) x.1) u →
      Begun step prog (effect (spot p x.0) x.1 T) u p (prog.program i) z →
      Begun step prog T o p (inside b i k) z
  wrapped : {T U : Tree O} {o o1 o2 o3 z : S} {p : Place} {b : Wrap O} {i : I}
      {k : Completion → Prog O I} {c : Completion} (x : Deed O) →
      Opens_so b T p x → x.2 ≡ On → step T o None (event (spot p x.0) x.1) o1 →
      Executes step prog (effect (spot p x.0) x.1 T) o1 p (prog.program i) U o2 (Completed c) →
      step U o2 None (event p (closes b (effect (spot p x.0) x.1 T p) (U p))) o3 →
      Begun step prog (effect p (closes b (effect (spot p x.0) x.1 T p) (U p)) U) o3 p (k c) z →
      Begun step prog T o p (inside b i k) z
  -- after an evaluation that was too deep
  too_deep : {T : Tree O} {o u z : S} {p : Place} {b : Wrap O} {i : I} {k : Completion → Prog O I}
      (x : Deed O) →
      Opens_so b T p x → x.2 ≡ TooDeep → step T o None (event (spot p x.0) x.1) u →
      Begun step prog (effect (spot p x.0) x.1 T) u p (k (refusal (Full Depth))) z →
      Begun step prog T o p (inside b i k) z
  -- a call went out, to whomever it goes
  calling_out : {T : Tree O} {o u : S} {p : Place} {h : Height} {down : Path} {i : Entry}
      {lost : Completion} {k : Said → Prog O I} →
      step T o None (event p (Out h down i)) u → Begun step prog T o p (call h down i lost k) u
  -- it came in, and what was asked for was given up
  calling : {T : Tree O} {o o1 o2 z : S} {p : Place} {h : Height} {down : Path} {i : Entry}
      {lost : Completion} {k : Said → Prog O I} (a t : Place) →
      rise_to h p ≡ Some a → reached T a down ≡ Some t →
      step T o None (event p (Out h down i)) o1 →
      step T o1 None (event t (In (Some (length down)) i)) o2 →
      Begun step prog T o2 t (prog.entry i) z →
      Begun step prog T o p (call h down i lost k) z
  -- it was done, and the answer did not come back
  returning : {T U : Tree O} {o o1 o2 o3 o4 : S} {p : Place} {h : Height} {down : Path} {i : Entry}
      {lost : Completion} {k : Said → Prog O I} {s : Reply} (a t : Place) →
      rise_to h p ≡ Some a → reached T a down ≡ Some t →
      step T o None (event p (Out h down i)) o1 →
      step T o1 None (event t (In (Some (length down)) i)) o2 →
      Executes step prog T o2 t (prog.entry i) U o3 s →
      step U o3 None (event t (Done (Some (length down)) s)) o4 →
      Begun step prog T o p (call h down i lost k) o4
  -- after the answer
  called : {T U : Tree O} {o o1 o2 o3 o4 o5 z : S} {p : Place} {h : Height} {down : Path}
      {i : Entry} {lost : Completion} {k : Said → Prog O I} {s : Reply} {c : Completion}
      (a t : Place) →
      rise_to h p ≡ Some a → reached T a down ≡ Some t →
      step T o None (event p (Out h down i)) o1 →
      step T o1 None (event t (In (Some (length down)) i)) o2 →
      Executes step prog T o2 t (prog.entry i) U o3 s →
      step U o3 None (event t (Done (Some (length down)) s)) o4 →
      returned T U h p down s ≡ Completed c →
      step U o4 None (event p (Back h (Replied (returned T U h p down s)))) o5 →
      Begun step prog U o5 p (k (Finished c)) z → Begun step prog T o p (call h down i lost k) z
  -- after a call to one that doesn't stand
  unreached : {T : Tree O} {o o1 o2 z : S} {p : Place} {h : Height} {down : Path} {i : Entry}
      {lost : Completion} {k : Said → Prog O I} (a : Place) →
      rise_to h p ≡ Some a → reached T a down ≡ None →
      step T o None (event p (Out h down i)) o1 →
      step T o1 None (event p (Back h (Replied (Completed lost)))) o2 →
      Begun step prog T o2 p (k (Finished lost)) z → Begun step prog T o p (call h down i lost k) z
  -- a call left the tree, and was waited for
  called_out : {T : Tree O} {o u z : S} {p : Place} {h : Height} {down : Path} {i : Entry}
      {lost : Completion} {k : Said → Prog O I} → rise_to h p ≡ None →
      step T o None (event p (Out h down i)) u →
      Begun step prog T u p (wait (Some (h, i, depth_of (T p))) (or_lost lost k)) z →
      Begun step prog T o p (call h down i lost k) z
  -- after its answer
  answered : {T : Tree O} {o u z : S} {p : Place} {s : Wait} {k : Said → Prog O I} {c : Completion}
      → rise_to (height_of s) p ≡ None →
      fits T p s (Come (Replied (Completed c))) ≡ true →
      step T o s (event p (Back (height_of s) (Replied (Completed c)))) u →
      Begun step prog T u p (k (Finished c)) z → Begun step prog T o p (wait s k) z
  heard : {T : Tree O} {o u z : S} {p : Place} {s : Wait} {k : Said → Prog O I} {a : HostReply} →
      rise_to (height_of s) p ≡ None →
      fits T p s (Come (Heard a)) ≡ true →
      step T o s (event p (Back (height_of s) (Heard a))) u → Begun step prog T u p (k (Told a)) z →
      Begun step prog T o p (wait s k) z
  missed : {T : Tree O} {o u z : S} {p : Place} {s : Wait} {k : Said → Prog O I} →
      rise_to (height_of s) p ≡ None → fits T p s (Come Nobody) ≡ true →
      step T o s (event p (Back (height_of s) Nobody)) u → Begun step prog T u p (k Missed) z →
      Begun step prog T o p (wait s k) z
  -- in an entry from outside, while the call is waited for
  entering_in : {T : Tree O} {o o1 z : S} {p : Place} {s : Wait} {k : Said → Prog O I}
      {node : Node O} (t : Path) (i : Entry) → rise_to (height_of s) p ≡ None → T t ≡ Some node →
      step T o None (event t (In None i)) o1 → Begun step prog T o1 t (prog.entry i) z →
      Begun step prog T o p (wait s k) z
  -- it was done, and its reply was not told; or it was told
  leaving : {T U : Tree O} {o o1 o2 : S} {p : Place} {s : Wait} {k : Said → Prog O I} {y : Reply}
      {node : Node O} (t : Path) (i : Entry) → rise_to (height_of s) p ≡ None → T t ≡ Some node →
      step T o None (event t (In None i)) o1 →
      Executes step prog T o1 t (prog.entry i) U o2 y →
      Begun step prog T o p (wait s k) o2
  left : {T U : Tree O} {o o1 o2 o3 : S} {p : Place} {s : Wait} {k : Said → Prog O I} {y : Reply}
      {node : Node O} (t : Path) (i : Entry) → rise_to (height_of s) p ≡ None → T t ≡ Some node →
      step T o None (event t (In None i)) o1 →
      Executes step prog T o1 t (prog.entry i) U o2 y →
      step U o2 None (event t (Done None y)) o3 → Begun step prog T o p (wait s k) o3
  -- after such an entry, unless it exited
  entered : {T U : Tree O} {o o1 o2 o3 z : S} {p : Place} {s : Wait} {k : Said → Prog O I}
      {y : Reply} {node : Node O} (t : Path) (i : Entry) → rise_to (height_of s) p ≡ None →
      T t ≡ Some node → step T o None (event t (In None i)) o1 →
      Executes step prog T o1 t (prog.entry i) U o2 y →
      step U o2 None (event t (Done None y)) o3 → IsNoExit y →
      Begun step prog U o3 p (wait s k) z → Begun step prog T o p (wait s k) z
  -- after one that finds nobody
  unfound : {T : Tree O} {o u z : S} {p : Place} {s : Wait} {k : Said → Prog O I} (t : Path)
      (i : Entry) → rise_to (height_of s) p ≡ None → T t ≡ None →
      step T o None (event [] (Unfound t i (prog.lost t))) u →
      Begun step prog T u p (wait s k) z → Begun step prog T o p (wait s k) z

module _ {O : Type 0} where
  -- the moves that these happenings read, in front of others
  abbrev pub handed : List (Event O) → List (Move O) → List (Move O)
  handed [] ms = ms
  handed (ev ∷ τ) ms = asked ev.place ev.what (handed τ ms)

  -- the words that they read, in front of others
  abbrev pub allowed : List (Event O) → Grants → Grants
  allowed [] gs = gs
  allowed (ev ∷ τ) gs = granted ev.place ev.what (allowed τ gs)

  -- a world with this tape in which what these happenings read is handed in first
  abbrev pub handing : Tree O → List (Event O) → List (Move O) → Grants → List (Event O) → World O
  handing T τ ms gs tape = record {
    tree = T;
    moves = handed τ ms;
    grants = allowed τ gs;
    tape = tape;
  }

  -- the outside does not refuse a step or an evaluation by it, or by any of them
  abbrev pub Unrefused : What O → Type 0
  Unrefused (Refused m None) = Prim.⊥
  Unrefused x = Unit {0}

  abbrev pub IsUnrefused : List (Event O) → Type 0
  IsUnrefused [] = Unit {0}
  IsUnrefused (ev ∷ τ) = Unrefused ev.what × IsUnrefused τ

  -- the one begins with the other
  abbrev pub Begins : List (Event O) → List (Event O) → Type 0
  Begins tape τ = (rest : List (Event O)) × (tape ≡ τ ++ rest)

-- The outside goes from o to z by some happenings that each run of the program begins with: each in
-- which what they read is handed in first, whatever else is, and whether the run comes to an end or
-- halts.
pub record BeginsEach {O I S : Type 0} (step : Tree O → S → Wait → Event O → S → Type 0)
    (prog : Table O I) (T : Tree O) (o : S) (p : Place) (x : Prog O I) (z : S) : Type 0 where
  pub told : List (Event O)
  pub last : Tree O
  -- the calls that are open by then; where the program waits for an answer, its call was open
  pub calls : Open
  pub chain : Chain step (pending (waits_for x) []) T o told calls last z
  -- where it is told word by word which steps and evaluations are granted
  pub first : (ms : List (Move O)) (gs : List Grant) (tape : List (Event O)) (v : World O)
      (e : Ending) → Runs prog (handing T told ms (Listed gs) tape) p x v e → Begins tape told
  -- and where that is said in any way, as by a budget that has their steps, if it refuses none of
  -- them
  pub first_of_any : (ms : List (Move O)) (gs : Grants) (tape : List (Event O)) (v : World O)
      (e : Ending) → IsUnrefused told → Runs prog (handing T told ms gs tape) p x v e →
      Begins tape told

-- What a program makes happen until it is given up is what each run of it begins with, whatever the
-- outside is told. (`proofs/Begins.antt` has it for an outside whose steps are any relation; here
-- they are those that a test lets through.)
abbrev pub BeginningsBegin : Type 0 → Type 0 → Type 0 → Type 0
BeginningsBegin O I S = (goes : Tree O → S → Wait → Event O → S → Bool) (prog : Table O I)
    (T : Tree O) (o z : S) (p : Place) (x : Prog O I) → Fits x →
    Begun (by_test goes) prog T o p x z → BeginsEach (by_test goes) prog T o p x z
