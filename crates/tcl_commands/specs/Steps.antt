-- How commands go step by step.
use Rattle.std.specs.Prelude.{Result, MatchResult}
use Rattle.tcl_core.specs.Endings.{Reply}
use Rattle.tcl_core.specs.Paths.{Path}
use Rattle.tcl_core.specs.Trees.{Tree}
use Rattle.tcl_language.specs.Instructions.{Program}
use Rattle.tcl_run.specs.Ends.{Interrupts}
use Rattle.tcl_run.specs.Plain.{Does}
use Rattle.tcl_run.specs.Runs.{IsLevel, IsThere}
use Rattle.tcl_run.specs.declared.interruption.Interruption.{Interruption}
use Rattle.tcl_text.specs.declared.integer.Integers.{Integers}
use Rattle.tcl_tree.specs.Own.{Own}
use Rattle.tcl_tree.specs.TreeOf.{tree_of}
use Rattle.tcl_tree.specs.declared.tree.Tree as table
use Rattle.tcl_tree.specs.declared.tree.Place as table_place

-- a program for each style of integer texts
abbrev pub Styled : Type 0
Styled = Integers → Program

-- in the interpreter that the place names the program ends so, with this tree
abbrev pub EndsAt : table.Tree → table_place.Place → Styled → Tree Own → Reply → Type 0
EndsAt t place program V r = (p : Path) (style : Integers) → IsThere t place p style →
    Does (program style) (tree_of t) p V r

-- However the program ends that is left at a later table, so ends the whole.
abbrev pub Leads : table.Tree → table_place.Place → Styled → table.Tree → Styled → Type 0
Leads old place whole new rest = (V : Tree Own) (r : Reply) → EndsAt new place rest V r →
    EndsAt old place whole V r

-- What came of a step that stands before any rest: what is left is the rest, or all is over.
abbrev pub Steps : table.Tree → table_place.Place → (Styled → Styled) → table.Tree →
    Result (Unit {0}) Interruption → Type 0
Steps old place step new result = (rest : Styled) → MatchResult result
    (λ done. Leads old place (step rest) new rest)
    (λ i. Interrupts i (EndsAt old place (step rest) (tree_of new)))

-- The same of a step that finds something, of which the rest is told.
abbrev pub Finds : {A : Type 0} → table.Tree → table_place.Place → ((A → Styled) → Styled) →
    table.Tree → Result A Interruption → Type 0
Finds {A} old place step new result = (rest : A → Styled) → MatchResult result
    (λ a. Leads old place (step rest) new (rest a))
    (λ i. Interrupts i (EndsAt old place (step rest) (tree_of new)))

-- A command that is on its way: what is left of it at the later table, and nothing but own parts
-- changed.
pub record IsOnWay (old : table.Tree) (place : table_place.Place) (whole : Styled)
    (now : table.Tree) (rest : Styled) : Type 0 where
  pub leads : Leads old place whole now rest
  pub level : IsLevel old now
