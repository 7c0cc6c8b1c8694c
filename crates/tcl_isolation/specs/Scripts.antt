-- The laws of isolation for scripts: `language style` is their table of commands, in a style of
-- integers.
use Rattle.std.specs.Prelude.{◌≡◌, ℕ, ◌≤◌, ◌++◌, List, [], Some}
use Rattle.tcl_core.specs.Endings.{Reply}
use Rattle.tcl_core.specs.Entries.{Entry}
use Rattle.tcl_core.specs.Laws.{AreFree, ArePlain, AsLimited, AsksNothing, IsSafeAt, IsSafeBelow}
use Rattle.tcl_core.specs.Laws.{IsStanding, Unasked}
use Rattle.tcl_core.specs.Paths.{Path, Place}
use Rattle.tcl_core.specs.Tables.{exposes}
use Rattle.tcl_core.specs.Trees.{Event, Node, Tree, at}
use Rattle.tcl_core.specs.Views.{moves_of}
use Rattle.tcl_run.specs.Language.{language}
use Rattle.tcl_language.specs.Safety.{plain}
use Rattle.tcl_run.specs.Outsides.{Going}
use Rattle.tcl_text.specs.declared.integer.Integers.{Integers}
use Rattle.tcl_tree.specs.Own.{Own}
use Rattle.tcl_isolation.specs.Laws.{IsWithin}
use Rattle.tcl_isolation.specs.Limits.{AreLowering}
use Rattle.tcl_isolation.specs.Visits.{IsBelowTheTop, WatchedVisit, visit}

-- Where the watched interpreter is safe, in its subtree nobody has a host command, and no entry of
-- the record exposes one or invokes a hidden one, the record has no request of the host.
abbrev pub AsksTheHostNothing : {S : Type 0} → Going S → Type 0
AsksTheHostNothing {S} goes = (style : Integers) (T V : Tree Own) (o z : S) (t : Path) (i : Entry)
    (c : Place) (crossings : List (Event Own)) (r : Reply) →
    WatchedVisit goes (language style) T o t i c crossings V z r → IsBelowTheTop c → IsSafeBelow T →
    IsSafeAt T c → ArePlain plain (at T c) → AreFree exposes (moves_of crossings) →
    AsksNothing crossings

-- In the subtree of a safe watched interpreter no script changes a limit. The interpreter at q
-- below it, for which no entry of the record asks a limit, has the limits that it had, or is new
-- and has those of a new one; and the ones that it had where it is neither made nor dropped, as the
-- watched interpreter itself is not.
pub record LimitsStay {S : Type 0} (goes : Going S) : Type 0 where
  pub below : (style : Integers) (T V : Tree Own) (o z : S) (t : Path) (i : Entry) (c : Place)
      (crossings : List (Event Own)) (r : Reply) (q : Place) →
      (w : WatchedVisit goes (language style) T o t i c crossings V z r) → IsBelowTheTop c →
      IsSafeBelow T → IsSafeAt T c → Unasked q (moves_of crossings) →
      AsLimited (T (c ++ q)) (V (c ++ q)) ×
      ((n : Node Own) → T (c ++ q) ≡ Some n → IsStanding (c ++ q) (visit t i w.events r) →
      (m : Node Own) × (V (c ++ q) ≡ Some m) × (m.limit ≡ n.limit) ×
      (m.depth_limit ≡ n.depth_limit))
  pub watched : (style : Integers) (T V : Tree Own) (o z : S) (t : Path) (i : Entry) (c : Place)
      (crossings : List (Event Own)) (r : Reply) (n : Node Own) →
      WatchedVisit goes (language style) T o t i c crossings V z r → IsBelowTheTop c →
      IsSafeBelow T → IsSafeAt T c → T c ≡ Some n → Unasked [] (moves_of crossings) →
      (m : Node Own) × (V c ≡ Some m) × (m.limit ≡ n.limit) × (m.depth_limit ≡ n.depth_limit)

-- A watched interpreter with a count limit that no entry of the record raises or takes away is
-- counted at most to the greater of the limit and the count before. It needn't be safe: nobody sets
-- a limit of its own, and who asks for one asks below.
abbrev pub ScriptsStayWithin : {S : Type 0} → Going S → Type 0
ScriptsStayWithin {S} goes = (style : Integers) (T V : Tree Own) (o z : S) (t : Path) (i : Entry)
    (c : Place) (crossings : List (Event Own)) (r : Reply) (n : Node Own) (l b : ℕ) →
    WatchedVisit goes (language style) T o t i c crossings V z r → IsBelowTheTop c → T c ≡ Some n →
    n.limit ≡ Some l → AreLowering l (moves_of crossings) → l ≤ b → n.count ≤ b → IsWithin (V c) l b
