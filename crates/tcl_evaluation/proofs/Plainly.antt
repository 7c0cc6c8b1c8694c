-- What functions of other crates come to, which say nothing where memory was wanted: there the program was given up, and the outside is what may have become of it.
use Rattle.std.proofs.Common.{◌≡◌, Some, None, ap, subst, sym, ◌∙◌}
use Rattle.std.specs.Prelude.{Result, Err}
use Rattle.tcl_core.specs.Endings.{Completion, Reply}
use Rattle.tcl_core.specs.Endings.Reply.{Completed, Stop, Exit, Cut}
use Rattle.tcl_core.specs.Entries.{Entry}
use Rattle.tcl_core.specs.Paths.{Path, Place, Text}
use Rattle.tcl_core.specs.Programs.{Table as Programs}
use Rattle.tcl_core.specs.Programs.Prog.{done}
use Rattle.tcl_core.specs.Runs.{Ending}
use Rattle.tcl_core.specs.Trees.{Tree}
use Rattle.tcl_language.specs.Instructions.{Instr, Program}
use Rattle.tcl_language.specs.Interpreters.{asks_at}
use Rattle.tcl_run.specs.Language.{language}
use Rattle.tcl_run.specs.Ends.{Interrupts}
use Rattle.tcl_run.specs.Runs.{Comes, Evaluates, EvaluatesAt, IsAt, IsLoss, IsThere, Proceeds, ProceedsAt, ProceedsIn, Ways}
use Rattle.tcl_run.specs.Runs.Proceeds.{ended}
use Rattle.tcl_run.specs.declared.interruption.Interruption.{Interruption}
use Rattle.tcl_run.proofs.Endings.{IfRan-more, breaks, ran}
use Rattle.tcl_run.proofs.Proceeding.{at_prog, at_reply, completed, sees_below, stopped, stopped_by}
use Rattle.tcl_text.specs.declared.integer.Integers.{Integers}
use Rattle.tcl_tree.specs.Own.{Own}
use Rattle.tcl_tree.specs.TreeOf.{tree_of}
use Rattle.tcl_tree.specs.declared.tree.Tree.{Tree as Table}
use Rattle.tcl_tree.specs.declared.tree.Place.{Place as TablePlace}
use Rattle.tcl_calls.specs.Looking.{LooksTo, here, looked, GetsTo, GetsToEnd}
use Rattle.tcl_evaluation.specs.View.{Asks, GoesOn}
use Rattle.tcl_evaluation.proofs.Steps.{EndsFrom, EndsAt}
use Rattle.tcl_evaluation.proofs.HandPlainly.{there_at}

-- what evaluates, and may lose the outside
pub evaluates_proceeds : {S : Type 0} (ways : Ways S) (t u : Table) (o z : S) (place : TablePlace) (program : Integers → Program) (r : Result Text Interruption) →
    Evaluates ways.goes t o place program u z r → IsLoss ways.loses o z → ProceedsIn ways t o place program u z r
evaluates_proceeds ways t u o z place program r runs l = ran r (λ e. (p : Path) (style : Integers) → IsAt t place p style → Comes ways.goes (language style) (tree_of t) o p (program style) (tree_of u) z e)
    (EndsFrom ways t o place program u z) (λ e h p style at. ended (h p style at)) (λ p style at. stopped_by l) runs

-- the same, wherever the place is
pub evaluates_at_proceeds : {S : Type 0} (ways : Ways S) (t u : Table) (o z : S) (place : TablePlace) (program : Integers → Program) (r : Result Text Interruption) →
    EvaluatesAt ways.goes t o place program u z r → IsLoss ways.loses o z → ProceedsAt ways t o place program u z r
evaluates_at_proceeds ways t u o z place program r runs l = ran r (λ e. (p : Path) (style : Integers) → IsThere t place p style → Comes ways.goes (language style) (tree_of t) o p (program style) (tree_of u) z e)
    (EndsAt ways t o place program u z) (λ e h p style at. ended (h p style at)) (λ p style at. stopped_by l) runs

-- ## Programs that begin by looks

module _ {S : Type 0} {ways : Ways S} {language : Programs Own Instr} where
  pub looks_proceed : {T V : Tree Own} {o z : S} {p : Place} {x y : Program} {e : Ending} → LooksTo T p x y → Proceeds ways language T o p y V z e → Proceeds ways language T o p x V z e
  looks_proceed here t = t
  looks_proceed (looked f) t = sees_below (looks_proceed f t)

module _ {S : Type 0} (ways : Ways S) (t : Table) (o : S) (place : TablePlace) where
  pub gets_leads : (whole rest : Integers → Program) (u : Table) (z : S) (e : Ending) → GetsTo t place whole rest → EndsFrom ways t o place rest u z e → EndsFrom ways t o place whole u z e
  gets_leads whole rest u z e f h = λ p style at. looks_proceed (f p style (there_at t place p style at)) (h p style at)

  -- what is left is evaluated
  pub gets_proceeds : (whole rest : Integers → Program) (u : Table) (z : S) (r : Result Text Interruption) → GetsTo t place whole rest → ProceedsIn ways t o place rest u z r → ProceedsIn ways t o place whole u z r
  gets_proceeds whole rest u z r f h = IfRan-more r (EndsFrom ways t o place rest u z) (EndsFrom ways t o place whole u z) (λ e d. gets_leads whole rest u z e f d) h

  pub gets_ended : (whole : Integers → Program) (e : Reply) → GetsToEnd t place whole e → EndsFrom ways t o place whole t o (Some e)
  gets_ended whole e f = λ p style at. let g = f p style (there_at t place p style at) in looks_proceed g.way (at_reply g.end completed)

  -- an end that is passed on
  pub passes_proceeds : (whole : Integers → Program) (r : Result Text Interruption) (i y : Interruption) → r ≡ Err y → y ≡ i → Interrupts i (GetsToEnd t place whole) → ProceedsIn ways t o place whole t o r
  passes_proceeds whole r i y e same h = subst (λ (x : Result Text Interruption). ProceedsIn ways t o place whole t o x) (sym (e ∙ ap Err same))
      (breaks i (GetsToEnd t place whole) (EndsFrom ways t o place whole t o) (gets_ended whole) (λ p style at. stopped) h)

module _ {S : Type 0} (ways : Ways S) (t u : Table) (o z : S) (place : TablePlace) where
  -- the same program
  pub proceeds_as : (whole other : Integers → Program) (r : Result Text Interruption) → ((style : Integers) → whole style ≡ other style) → ProceedsIn ways t o place other u z r → ProceedsIn ways t o place whole u z r
  proceeds_as whole other r same h = IfRan-more r (EndsFrom ways t o place other u z) (EndsFrom ways t o place whole u z) (λ e d p style at. at_prog (same style) (d p style at)) h

  goes_last : (style : Integers) (T U : Tree Own) (p : Path) (x : (Completion → Program) → Program) (e : Ending) → GoesOn ways style T o p x U z e → Proceeds ways (language style) T o p (x done) U z e
  goes_last style T U p x (Some (Completed c)) g = g done U z (Some (Completed c)) completed
  goes_last style T U p x (Some (Stop n m)) g = g done
  goes_last style T U p x (Some (Exit n)) g = g done
  goes_last style T U p x (Some (Cut c)) g = g done
  goes_last style T U p x None g = g done

  -- the answer is all that is left
  pub asking_last : (path : Path) (entry : Entry) (r : Result Text Interruption) → Asks ways t o place path entry u z r → ProceedsIn ways t o place (λ style. asks_at path entry done) u z r
  asking_last path entry r asks = IfRan-more r (λ e. (p : Path) (style : Integers) → IsAt t place p style → GoesOn ways style (tree_of t) o p (asks_at path entry) (tree_of u) z e)
      (EndsFrom ways t o place (λ style. asks_at path entry done) u z) (λ e g p style at. goes_last style (tree_of t) (tree_of u) p (asks_at path entry) e (g p style at)) asks
