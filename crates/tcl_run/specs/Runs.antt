-- How a run goes through the table of interpreters.
use Rattle.std.specs.Prelude.{◌≡◌, ℕ, ◌<◌, ◌≤◌, ◌-◌, ◌++◌, Bool, true, false, List, [], Option}
use Rattle.std.specs.Prelude.{Some, None, Result, Ok, Err}
use Rattle.std.specs.Option.{option_map}
use Rattle.tcl_partial_runs.specs.Beginnings.{Begun}
use Rattle.tcl_core.specs.Paths.{Place, Path}
use Rattle.tcl_core.specs.Endings.{Reply}
use Rattle.tcl_core.specs.Endings.Cause.{Above}
use Rattle.tcl_core.specs.Endings.Reply.{Stop, Cut}
use Rattle.tcl_core.specs.Endings.Kind.{Full}
use Rattle.tcl_core.specs.Endings.Meter.{Count}
use Rattle.tcl_core.specs.Lives.{count_at, limit_at}
use Rattle.tcl_core.specs.Programs.{blocked, is_spent, limit_or}
use Rattle.tcl_core.specs.Programs as programs
use Rattle.tcl_core.specs.Runs.{Ending}
use Rattle.tcl_core.specs.Execution.{Executes, Crossings, event}
use Rattle.tcl_core.specs.Trees.{Tree, Node, effect}
use Rattle.tcl_core.specs.Trees.What.{Changed, Charged, Refused}
use Rattle.tcl_frames.specs.Chain.{Chain}
use Rattle.tcl_frames.specs.declared.fault.FrameFault.{FrameFault}
use Rattle.tcl_tree.specs.Gone.{held_of}
use Rattle.tcl_tree.specs.Held.{Stays}
use Rattle.tcl_tree.specs.Own.{Own}
use Rattle.tcl_tree.specs.TreeOf.{tree_of, key_of, marks_of, Names}
use Rattle.tcl_tree.specs.declared.tree.Tree as table
use Rattle.tcl_tree.specs.declared.tree.Place as table_place
use Rattle.tcl_text.specs.declared.integer.Integers.{Integers}
use Rattle.tcl_language.specs.Instructions.{Instr, Program, with_chain}
use Rattle.tcl_run.specs.Language.{language}
use Rattle.tcl_run.specs.Ends.{IfEnded, IfRan}
use Rattle.tcl_run.specs.Outsides.{Going}
use Rattle.tcl_run.specs.declared.interruption.Interruption.{Interruption}

-- From a tree and a state of the outside the program at the place may end so, with these left.
abbrev pub Comes : {S : Type 0} → Going S → programs.Table Own Instr → Tree Own → S → Place →
    Program → Tree Own → S → Reply → Type 0
Comes goes language T o p x V z r = Executes (Crossings goes) language T o p x V z r

-- What may have become of the outside by now: it was lost once or more, or not at all.
pub data IsLoss {S : Type 0} (loses : S → S → Type 0) (o : S) : S → Type 0 where
  unlost : IsLoss loses o o
  lost : {u z : S} → IsLoss loses o u → loses u z → IsLoss loses o z

-- How an outside goes, and what may have become of a state of it where an evaluation is given up.
pub record Ways (S : Type 0) : Type 1 where
  pub goes : Going S
  pub loses : S → S → Type 0

abbrev pub ways : {S : Type 0} → Going S → (S → S → Type 0) → Ways S
ways goes loses = record { goes = goes; loses = loses }

-- From a tree and a state of the outside the program at the place came so far, with these left: to
-- its end; or to where it was given up, as for want of memory, of which nothing is said of the
-- tree, and the outside is what may have become of its state there.
pub data Proceeds {S : Type 0} (ways : Ways S) (language : programs.Table Own Instr) (T : Tree Own)
    (o : S) (p : Place) (x : Program) (V : Tree Own) (z : S) : Ending → Type 0 where
  ended : {r : Reply} → Comes ways.goes language T o p x V z r →
      Proceeds ways language T o p x V z (Some r)
  given_up : {last : S} → Begun (Crossings ways.goes) language T o p x last →
      IsLoss ways.loses last z → Proceeds ways language T o p x V z None

-- how many evaluations are in progress in an interpreter, and how many there may be
abbrev pub meters_of : Node Own → ℕ × ℕ
meters_of n = (n.depth, n.depth_limit)

abbrev pub meters_at : Tree Own → Place → Option (ℕ × ℕ)
meters_at T p = option_map meters_of (T p)

abbrev pub depth_in : Option (ℕ × ℕ) → ℕ
depth_in None = 0
depth_in (Some m) = m.0

abbrev pub limit_in : Option (ℕ × ℕ) → ℕ
limit_in None = 0
limit_in (Some m) = m.1

-- how many evaluations are in progress at a place
abbrev pub depth_at : Tree Own → Place → ℕ
depth_at T p = depth_in (meters_at T p)

-- an evaluation is in progress there, and in all above it
abbrev pub InUse : Tree Own → Place → Type 0
InUse T p = (a b : Path) → a ++ b ≡ p → 0 < depth_at T a

-- how much deeper an evaluation in the tree can go
abbrev pub room : Tree Own → ℕ
room T = 1000 - depth_at T []

-- how many steps were counted at a place
abbrev pub steps_at : Tree Own → Place → ℕ
steps_at T p = count_at (T p)

-- whether an interpreter was made as the root of a tree
abbrev pub is_root : Option (Node Own) → Bool
is_root None = false
is_root (Some n) = n.root

-- What becomes of the count of a tree's top. It doesn't fall; and where the top is a root (that of
-- a copied part of a tree is none), nothing sets its limit, and its count ends at most at the
-- greater of that limit and what it was: at most at each bound on both.
pub record IsCounted (old new : Option (Node Own)) : Type 0 where
  pub rises : count_at old ≤ count_at new
  pub root : is_root new ≡ is_root old
  pub limit : is_root old ≡ true → limit_at new ≡ limit_at old
  pub within : is_root old ≡ true → (b : ℕ) → limit_or (limit_at old) ≤ b → count_at old ≤ b →
      count_at new ≤ b

-- What an evaluation leaves as it is, however it ends. Who is in use stays so under its key, as
-- deeply and below the same one, and stands, or is gone; who was gone is gone; and in whom nothing
-- was in progress nothing is. No count falls of one that was in use and stands.
pub record IsSteady (old new : table.Tree) : Type 0 where
  pub marks : marks_of new ≡ marks_of old
  pub stays : Stays (held_of old) (held_of new)
  pub counts : (q : Path) (k : ℕ) → InUse (tree_of old) q → key_of old q ≡ Some k →
      key_of new q ≡ Some k → steps_at (tree_of old) q ≤ steps_at (tree_of new) q
  -- the top keeps its depth, in use or not: that measures how much deeper an evaluation can go
  pub top : depth_at (tree_of new) [] ≡ depth_at (tree_of old) []
  pub counted : IsCounted (tree_of old []) (tree_of new [])

-- What an evaluation in the interpreter that the place names leaves as it is where it came to a
-- completion: that interpreter, and each above it, stands where it stood, by its key, and is in use
-- as deeply; and no count of theirs falls.
pub record IsHere (old new : table.Tree) (place : table_place.Place) : Type 0 where
  pub marks : marks_of new ≡ marks_of old
  pub keys : (p a b : Path) (k : ℕ) → Names old place p → a ++ b ≡ p → key_of old a ≡ Some k →
      key_of new a ≡ Some k
  pub depths : (p a b : Path) → Names old place p → a ++ b ≡ p →
      depth_at (tree_of new) a ≡ depth_at (tree_of old) a
  pub counts : (p a b : Path) → Names old place p → a ++ b ≡ p →
      steps_at (tree_of old) a ≤ steps_at (tree_of new) a

-- Who stood at the place, and all above it, in whom an evaluation was in progress meanwhile: no
-- count falls of those that stand there still.
pub record IsHeld (old new : table.Tree) (p : Place) : Type 0 where
  pub counts : (a b : Path) (k : ℕ) → a ++ b ≡ p → key_of old a ≡ Some k → key_of new a ≡ Some k →
      steps_at (tree_of old) a ≤ steps_at (tree_of new) a

-- What a change of own parts, or of counts, leaves as it is: all keys, and all depths with their
-- limits, those of the gone included. No count falls.
pub record IsLevel (old new : table.Tree) : Type 0 where
  pub marks : marks_of new ≡ marks_of old
  pub keys : (q : Path) → key_of new q ≡ key_of old q
  pub held : (k : ℕ) → held_of new k ≡ held_of old k
  pub meters : (q : Path) → meters_at (tree_of new) q ≡ meters_at (tree_of old) q
  pub counts : (q : Path) → steps_at (tree_of old) q ≤ steps_at (tree_of new) q
  pub counted : IsCounted (tree_of old []) (tree_of new [])

-- What any evaluation leaves as it is, however it ends: who is in use stays so, or is gone; the
-- root's limit bounds the root's count; and the outside may hand in no more entries than before.
-- (That its own interpreter stands where it came to a completion is said by `IsHere` besides.)
pub record Keeps {S : Type 0} (entries : S → ℕ) (old new : table.Tree) (o z : S) : Type 0 where
  pub steady : IsSteady old new
  pub left : entries z ≤ entries o

-- The same of what evaluates no script. What may have become of the outside, where an evaluation is
-- given up behind it, is told too.
pub record KeepsAndLoses {S : Type 0} (entries : S → ℕ) (loses : S → S → Type 0)
    (old new : table.Tree) (o z : S) : Type 0 where
  pub steady : IsSteady old new
  pub left : entries z ≤ entries o
  pub lost : IsLoss loses o z

-- an evaluation is in progress in the interpreter that the place names
abbrev pub IsRunning : table.Tree → table_place.Place → Type 0
IsRunning t place = (p : Path) × Names t place p × InUse (tree_of t) p

-- a step at p is counted, and the outside is told of it
pub record Counts {S : Type 0} (goes : Going S) (T : Tree Own) (o : S) (p : Place) (U : Tree Own)
    (z : S) : Type 0 where
  pub free : blocked is_spent T p ≡ None
  pub counted : U ≡ effect p Charged T
  pub told : goes T o None (event p Charged) z

-- a step at p is refused by the limit of an interpreter, or, where no limit refuses it, by the
-- outside; and no interpreter changes
pub data RefusesStep {S : Type 0} (goes : Going S) (T : Tree Own) (o : S) (p : Place)
    (U : Tree Own) : S → Reply → Type 0 where
  by_limit : (levels : ℕ) → blocked is_spent T p ≡ Some levels → U ≡ T →
      RefusesStep goes T o p U o (Stop levels (Full Count))
  from_outside : {z : S} → blocked is_spent T p ≡ None → U ≡ T →
      goes T o None (event p (Refused Count None)) z → RefusesStep goes T o p U z (Cut Above)

-- the place names the interpreter at p, in a tree of that style of integers
pub record IsThere (t : table.Tree) (place : table_place.Place) (p : Path) (style : Integers) : Type
    0 where
  pub names : Names t place p
  pub style_is : (marks_of t).integers ≡ style

-- and an evaluation is in progress there
pub record IsAt (t : table.Tree) (place : table_place.Place) (p : Path) (style : Integers) : Type 0
  where
    pub names : Names t place p
    pub style_is : (marks_of t).integers ≡ style
    pub running : InUse (tree_of t) p

-- What came of a program in the interpreter that the place names, where an evaluation is in
-- progress.
abbrev pub Evaluates : {S : Type 0} → Going S → table.Tree → S → table_place.Place →
    (Integers → Program) → table.Tree → S → Result (List ℕ) Interruption → Type 0
Evaluates goes old o place program new z result =
    IfEnded result (λ r. (p : Path) (style : Integers) → IsAt old place p style →
    Comes goes (language style) (tree_of old) o p (program style) (tree_of new) z r)

-- the same, wherever the place is
abbrev pub EvaluatesAt : {S : Type 0} → Going S → table.Tree → S → table_place.Place →
    (Integers → Program) → table.Tree → S → Result (List ℕ) Interruption → Type 0
EvaluatesAt goes old o place program new z result =
    IfEnded result (λ r. (p : Path) (style : Integers) → IsThere old place p style →
    Comes goes (language style) (tree_of old) o p (program style) (tree_of new) z r)

-- How far a program came in the interpreter that the place names, where an evaluation is in
-- progress.
abbrev pub ProceedsIn : {S : Type 0} → Ways S → table.Tree → S → table_place.Place →
    (Integers → Program) → table.Tree → S → Result (List ℕ) Interruption → Type 0
ProceedsIn ways old o place program new z result =
    IfRan result (λ e. (p : Path) (style : Integers) → IsAt old place p style →
    Proceeds ways (language style) (tree_of old) o p (program style) (tree_of new) z e)

-- the same, wherever the place is
abbrev pub ProceedsAt : {S : Type 0} → Ways S → table.Tree → S → table_place.Place →
    (Integers → Program) → table.Tree → S → Result (List ℕ) Interruption → Type 0
ProceedsAt ways old o place program new z result =
    IfRan result (λ e. (p : Path) (style : Integers) → IsThere old place p style →
    Proceeds ways (language style) (tree_of old) o p (program style) (tree_of new) z e)

-- the own part at p has another chain, where there is one
abbrev pub Rechained : Tree Own → Place → Own → Result Chain FrameFault → Tree Own → Type 0
Rechained T p own (Ok chain) U = U ≡ effect p (Changed (with_chain own chain)) T
Rechained T p own (Err f) U = ⊥
