-- The life of a tree: what is handed in is done, in order. A subtree by itself, under a budget; a
-- whole tree; two worlds.
use Rattle.std.specs.Prelude.{◌≡◌, ℕ, zero, suc, ℤ, Bool, true, false, nat_lt, ◌+◌, List, [], ◌∷◌}
use Rattle.std.specs.Prelude.{◌++◌, Option, Some, None, length}
use Rattle.tcl_core.specs.Paths.{Text, Path, Place, rise_to}
use Rattle.tcl_core.specs.Endings.{Kind, Completion, Reply, Cause, ok, refusal}
use Rattle.tcl_core.specs.Endings.Meter.{Count}
use Rattle.tcl_core.specs.Endings.Reply.{Completed, Stop, Exit, Cut}
use Rattle.tcl_core.specs.Endings.Cause.{Above, Over}
use Rattle.tcl_core.specs.Entries.{Answer, Said}
use Rattle.tcl_core.specs.Entries.Entry.{Eval}
use Rattle.tcl_core.specs.Entries.Answer.{Replied}
use Rattle.tcl_core.specs.Trees.{Node, Tree, What, Event, Move, at, on_node, with_limit}
use Rattle.tcl_core.specs.Trees.Grants.{Budget}
use Rattle.tcl_core.specs.Trees.What.{Refused, Out, In, Done, Back, Unfound}
use Rattle.tcl_core.specs.Trees.Move.{Enter, Come}
use Rattle.tcl_core.specs.Programs.{Wait, Prog, Table}
use Rattle.tcl_core.specs.Programs.Prog.{done, wait}
use Rattle.tcl_core.specs.Runs.{World, Ending, Runs, Visits}
use Rattle.tcl_core.specs.Views.{moves_of, view}

-- no call is open
abbrev pub idle : Wait
idle = None

abbrev pub never : {O I : Type 0} → Said → Prog O I
never s = done (ok [])

-- The life of a tree: control is outside, and what is handed in is done, in order.
abbrev pub Lives : {O I : Type 0} → Table O I → World O → World O → Ending → Type 0
Lives prog w v e = Runs prog w [] (wait idle never) v e

-- what is told to the outside: the calls that leave the tree, and how its entries ended, those too
-- that found nobody
abbrev pub put : {O : Type 0} → Option Place → Place → What O → List (Event O) → List (Event O)
put None p x τ = record { place = p; what = x } ∷ τ
put (Some a) p x τ = τ

abbrev pub told : {O : Type 0} → Place → What O → List (Event O) → List (Event O)
told p (Out h down i) τ = put (rise_to h p) p (Out h down i) τ
told p (Done h r) τ = put (rise_to h p) p (Done h r) τ
told p (Unfound t i c) τ = record { place = t; what = Done None (Completed c) } ∷ τ
told p _ τ = τ

abbrev pub outs_of : {O : Type 0} → List (Event O) → List (Event O)
outs_of [] = []
outs_of (ev ∷ τ) = told ev.place ev.what (outs_of τ)

pub data Outcome : Type 0 where
  Finished : Outcome
  Waiting : Outcome
  Ended : Outcome
  Exited : (status : ℤ) → Outcome
  Spent : Outcome
  Misfit : Outcome

-- how the life of a tree is over whose last entry ended so
abbrev pub ending_of : Reply → Outcome
ending_of (Exit n) = Outcome.Exited n
ending_of r = Outcome.Finished

abbrev pub last_of : Option Place → Reply → Outcome → Outcome
last_of None r x = ending_of r
last_of (Some a) r x = x

-- the outcome that the last entry's end gives; x where there is none
abbrev pub outcome_at : {O : Type 0} → Place → What O → Outcome → Outcome
outcome_at p (Done h r) x = last_of (rise_to h p) r x
outcome_at p (Unfound t i c) x = Outcome.Finished
outcome_at p _ x = x

abbrev pub outcome_of : {O : Type 0} → List (Event O) → Outcome → Outcome
outcome_of [] x = x
outcome_of (ev ∷ τ) x = outcome_of τ (outcome_at ev.place ev.what x)

-- nothing is cut off from outside: no step is refused there, and no entry is ended nor a call
-- answered so
abbrev pub Uncut : {O : Type 0} → Place → What O → Type 0
Uncut p (Refused m h) = rise_to h p ≡ None → Prim.⊥
Uncut p (Done h (Cut x)) = rise_to h p ≡ None → Prim.⊥
Uncut p (Back h (Replied (Cut x))) = rise_to h p ≡ None → Prim.⊥
Uncut p _ = Unit {0}

abbrev pub IsUncut : {O : Type 0} → List (Event O) → Type 0
IsUncut [] = Unit {0}
IsUncut (ev ∷ τ) = Uncut ev.place ev.what × IsUncut τ

-- the entries from outside that begin here, and those that end: one that finds nobody does neither
abbrev pub one_more : Option Place → ℕ → ℕ
one_more None n = suc n
one_more (Some a) n = n

abbrev pub begun_at : {O : Type 0} → Place → What O → ℕ → ℕ
begun_at p (In h i) n = one_more (rise_to h p) n
begun_at p _ n = n

abbrev pub ended_at : {O : Type 0} → Place → What O → ℕ → ℕ
ended_at p (Done h r) n = one_more (rise_to h p) n
ended_at p _ n = n

abbrev pub begun : {O : Type 0} → List (Event O) → ℕ
begun [] = 0
begun (ev ∷ τ) = begun_at ev.place ev.what (begun τ)

abbrev pub ended : {O : Type 0} → List (Event O) → ℕ
ended [] = 0
ended (ev ∷ τ) = ended_at ev.place ev.what (ended τ)

-- after these happenings k entries are in progress; where nothing more happens in them, each has a
-- call open
abbrev pub InProgress : {O : Type 0} → ℕ → List (Event O) → Type 0
InProgress k τ = begun τ ≡ ended τ + k

abbrev pub copies : {A : Type 0} → ℕ → A → List A
copies zero x = []
copies (suc k) x = x ∷ copies k x

-- the same world, where the moves are these alone, or these and then k ends from outside
abbrev pub handed : {O : Type 0} → World O → List (Move O) → World O
handed w ms = record { tree = w.tree; moves = ms; grants = w.grants; tape = w.tape }

abbrev pub unwound : {O : Type 0} → World O → List (Move O) → ℕ → Reply → List (Event O) → World O
unwound w ms k r τ = record {
  tree = w.tree;
  moves = ms ++ copies k (Come (Replied r));
  grants = w.grants;
  tape = τ;
}

-- what ends the open calls where a move doesn't fit: the exit by which the last entry ended, or
-- else that the run is over
abbrev pub end_of : Outcome → Reply
end_of (Exited n) = Exit n
end_of x = Cut Over

-- after an exit the rest is left unread
abbrev pub AllRead : {O : Type 0} → Outcome → List (Move O) → Type 0
AllRead (Exited n) ms = Unit {0}
AllRead x ms = ms ≡ []

-- the budget refuses a step at p
abbrev pub spent_at : {O : Type 0} → Place → Event O
spent_at p = record { place = p; what = Refused Count None }

-- A tree by itself does what is handed in, entry by entry, up to what first ends it: from w, whose
-- tape is all that is told until then, to v.
pub data Reacts {O I : Type 0} (prog : Table O I) : World O → World O → Outcome → Type 0 where
  -- no entry is in progress, and all moves are read, or the last entry ended by an exit
  over : (w v : World O) (x : Outcome) → Lives prog w v None → IsUncut w.tape →
      InProgress 0 w.tape → x ≡ outcome_of w.tape Finished → AllRead x v.moves → Reacts prog w v x
  -- all are read, and a call is open
  waiting : (w v : World O) (k : ℕ) → Lives prog w v None → IsUncut w.tape →
      InProgress (suc k) w.tape → v.moves ≡ [] → Reacts prog w v Waiting
  -- an answer where no call is open; and a move that doesn't fit where one is: the tree is left as
  -- if an end from outside had come in its place
  uncalled : (w v : World O) (m : Move O) (rest : List (Move O)) → Lives prog w v None →
      IsUncut w.tape → InProgress 0 w.tape → outcome_of w.tape Finished ≡ Finished →
      v.moves ≡ m ∷ rest → Reacts prog w v Misfit
  unfit : (w u v : World O) (k : ℕ) (ms : List (Move O)) (m : Move O) (rest : List (Move O))
      (τ : List (Event O)) → Lives prog w u None → IsUncut w.tape → InProgress (suc k) w.tape →
      u.moves ≡ m ∷ rest → w.moves ≡ ms ++ m ∷ rest →
      Lives prog (unwound w ms (suc k) (end_of (outcome_of w.tape Finished)) τ) v None →
      v.moves ≡ [] → Reacts prog w v Misfit
  -- an answer from outside ends the open call, and so all that are open
  ended_so : (w u v : World O) (k : ℕ) (ms : List (Move O)) (c : Cause) (rest : List (Move O))
      (τ : List (Event O)) → w.moves ≡ ms ++ Come (Replied (Cut c)) ∷ rest →
      Lives prog (handed w ms) u None → u.moves ≡ [] →
      IsUncut w.tape → InProgress (suc k) w.tape →
      Lives prog (unwound w ms (suc k) (Cut Above) τ) v None → v.moves ≡ [] →
      Reacts prog w v Ended
  -- the budget refuses the next step, and so ends the entry in progress and all calls that are open
  spent : (w v : World O) (k : ℕ) (ms rest : List (Move O)) (p : Place) (τ : List (Event O)) →
      w.moves ≡ ms ++ rest → moves_of w.tape ≡ ms → IsUncut w.tape → InProgress (suc k) w.tape →
      Lives prog (unwound w ms k (Cut Over) (w.tape ++ spent_at p ∷ τ)) v None → v.moves ≡ [] →
      Reacts prog w v Spent

abbrev pub alone : {O : Type 0} → Tree O → List (Move O) → ℕ → List (Event O) → World O
alone S ms n τ = record { tree = S; moves = ms; grants = Budget n; tape = τ }

-- What the tree S does by itself with these moves and a budget of n counted steps: what it tells
-- the outside, and the tree it leaves.
pub record React {O I : Type 0} (prog : Table O I) (S : Tree O) (ms : List (Move O)) (n : ℕ)
    (outcome : Outcome) (outs : List (Event O)) (V : Tree O) : Type 0 where
  pub tape : List (Event O)
  pub last : World O
  pub run : Reacts prog (alone S ms n tape) last outcome
  pub told : outs ≡ outs_of tape
  pub left : V ≡ last.tree

-- how a whole evaluation ends
pub data End : Type 0 where
  Completed_as : (completion : Completion) → End
  Stopped : (kind : Kind) → End
  Exits : (status : ℤ) → End

-- A stop that names an interpreter below the root is its error; one that names the root is a stop.
abbrev pub stops_below : Bool → Kind → End
stops_below true m = Completed_as (refusal m)
stops_below false m = Stopped m

abbrev pub end_at : Path → Reply → Option End
end_at p (Completed c) = Some (Completed_as c)
end_at p (Stop n m) = Some (stops_below (nat_lt n (length p)) m)
end_at p (Exit n) = Some (Exits n)
end_at p (Cut c) = None

abbrev pub count_at : {O : Type 0} → Option (Node O) → ℕ
count_at None = 0
count_at (Some n) = n.count

abbrev pub limit_at : {O : Type 0} → Option (Node O) → Option ℕ
limit_at None = None
limit_at (Some n) = n.limit

-- the root may make n steps
abbrev pub limited : {O : Type 0} → ℕ → Tree O → Tree O
limited n T = on_node [] (with_limit (Some (count_at (T []) + n))) T

-- the root has the limit that it had in T
abbrev pub unlimited : {O : Type 0} → Tree O → Tree O → Tree O
unlimited T V = on_node [] (with_limit (limit_at (T []))) V

abbrev pub comes : {O : Type 0} → List Answer → List (Move O)
comes [] = []
comes (a ∷ as2) = Come a ∷ comes as2

-- The evaluation of the script s at p in the whole tree T, with n counted steps, the host's replies
-- being B.
pub record Whole {O I : Type 0} (prog : Table O I) (T : Tree O) (p : Path) (s : Text) (n : ℕ)
    (B : List Answer) (ending : End) (outs : List (Event O)) (V : Tree O) : Type 0 where
  pub tape : List (Event O)
  pub last : World O
  pub reply : Reply
  pub run : Visits prog (Runs prog) (alone (limited n T) (Enter p (Eval s) ∷ comes B) n tape) None p
      (Eval s) last (Some reply)
  pub all_read : last.moves ≡ []
  pub all_done : last.tape ≡ []
  pub ends : end_at p reply ≡ Some ending
  pub told : outs ≡ outs_of tape
  pub left : V ≡ unlimited T last.tree

-- the first k
abbrev pub first : {A : Type 0} → ℕ → List A → List A
first zero xs = []
first (suc k) [] = []
first (suc k) (x ∷ xs) = x ∷ first k xs

-- Two worlds agree at c up to k: the subtrees there are equal, and so are the first k moves into
-- them.
abbrev pub Agree : {O : Type 0} → Place → ℕ → World O → World O → Type 0
Agree c k w z = (at w.tree c ≡ at z.tree c) ×
    (first k (moves_of (view c w.tape)) ≡ first k (moves_of (view c z.tape)))
