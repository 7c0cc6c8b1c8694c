-- Commands on their way.
use Rattle.std.proofs.Common.{◌≡◌, ℕ, List, subst, ◌∙◌}
use Rattle.std.specs.Prelude.{Result, Err}
use Rattle.tcl_core.specs.Endings.{Completion}
use Rattle.tcl_core.specs.Endings.Reply.{Completed}
use Rattle.tcl_core.specs.Paths.{Path}
use Rattle.tcl_core.specs.Programs.Prog.{done}
use Rattle.tcl_run.specs.Ends.{Interrupts}
use Rattle.tcl_run.specs.Plain.{Acts}
use Rattle.tcl_run.specs.Runs.{IsLevel}
use Rattle.tcl_run.specs.declared.interruption.Interruption.{Interruption}
use Rattle.tcl_run.proofs.Endings.{Interrupts-more}
use Rattle.tcl_run.proofs.Steady.{level-refl, level-trans}
use Rattle.tcl_tree.specs.TreeOf.{tree_of, Names}
use Rattle.tcl_tree.specs.declared.tree.Tree.{Tree as Table}
use Rattle.tcl_tree.specs.declared.tree.Place.{Place as TablePlace}
use Rattle.tcl_commands.specs.Steps.{Styled, EndsAt, Leads, IsOnWay}
use Rattle.tcl_commands.proofs.Going.{ends_done, passed_acts}

pub way_begins : (t : Table) (place : TablePlace) (whole rest : Styled) → whole ≡ rest → IsOnWay t place whole t rest
way_begins t place whole rest e = record { leads = subst (λ (x : Styled). Leads t place whole t x) e (λ V r h. h); level = level-refl t }

-- a step on
pub way_goes : (a b c : Table) (place : TablePlace) (whole now next : Styled) → IsOnWay a place whole b now → IsLevel b c → Leads b place now c next → IsOnWay a place whole c next
way_goes a b c place whole now next way level leads = record { leads = λ V r h. way.leads V r (leads V r h); level = level-trans a b c way.level level }

-- the place names the same interpreter
pub way_names : (a b : Table) (place : TablePlace) (whole now : Styled) → IsOnWay a place whole b now → (p : Path) × Names a place p → (p : Path) × Names b place p
way_names a b place whole now way at = (at.0, way.level.keys at.0 ∙ at.1)

-- the end
pub way_ends : (a b : Table) (place : TablePlace) (whole : Styled) (c : Completion) → IsOnWay a place whole b (λ style. done c) → EndsAt a place whole (tree_of b) (Completed c)
way_ends a b place whole c way = way.leads (tree_of b) (Completed c) (ends_done b place c)

-- an end on the way
pub way_passes : (a b c : Table) (place : TablePlace) (whole now : Styled) (i y : Interruption) (result : Result (List ℕ) Interruption) → result ≡ Err y → y ≡ i → IsOnWay a place whole b now →
    Interrupts i (EndsAt b place now (tree_of c)) → Acts a place whole c result
way_passes a b c place whole now i y result e same way h =
    passed_acts a c place whole i y result e same (Interrupts-more i (EndsAt b place now (tree_of c)) (EndsAt a place whole (tree_of c)) (λ r g. way.leads (tree_of c) r g) h)
