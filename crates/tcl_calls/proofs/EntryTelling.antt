-- Programs whose last step is to ask.
use Rattle.std.proofs.Common.{◌≡◌, inl, inr, Bool, true, false, sym, ◌∙◌, ap, subst}
use Rattle.std.specs.Prelude.{Result, Ok, Err}
use Rattle.tcl_core.specs.Endings.{Completion, Reply, ok}
use Rattle.tcl_core.specs.Endings.Reply.{Completed, Stop, Exit, Cut}
use Rattle.tcl_core.specs.Entries.{Entry}
use Rattle.tcl_core.specs.Paths.{Text, Path, Place}
use Rattle.tcl_core.specs.Programs.Prog.{done}
use Rattle.tcl_core.specs.Execution.{completed}
use Rattle.tcl_core.specs.Trees.{Tree}
use Rattle.tcl_flow.specs.View.{completion_of}
use Rattle.tcl_language.specs.Instructions.{Program, either, fails}
use Rattle.tcl_language.specs.Interpreters.{asks, asks_at, with_text, code_is_ok}
use Rattle.tcl_run.specs.Language.{language}
use Rattle.tcl_run.specs.Ends.{Interrupts, failing}
use Rattle.tcl_run.specs.Outsides.{Going}
use Rattle.tcl_run.specs.Runs.{Comes, Evaluates, IsAt, IsRunning}
use Rattle.tcl_run.specs.declared.interruption.Interruption.{Interruption}
use Rattle.tcl_run.specs.declared.interruption.Interruption.TheVariants as interruption
use Rattle.tcl_run.proofs.Endings.{IfEnded-more, Interrupts-more}
use Rattle.tcl_run.proofs.Leads.{at_prog, at_reply}
use Rattle.tcl_text.specs.declared.integer.Integers.{Integers}
use Rattle.tcl_tree.specs.Own.{Own}
use Rattle.tcl_tree.specs.TreeOf.{tree_of, Names}
use Rattle.tcl_tree.specs.declared.tree.Tree.{Tree as Table}
use Rattle.tcl_tree.specs.declared.tree.Place.{Place as TablePlace}
use Rattle.tcl_calls.specs.Asking.{Asks, GoesOn, EndsIn, Styled}
use Rattle.tcl_calls.specs.Telling.{TellsAs}

-- what is said of a code as the core has it
with_ok : (text : Text) (c : Completion) → code_is_ok c.code ≡ true → with_text text c ≡ done (ok text)
with_ok text c e = ap (λ (b : Bool). either b (done (ok text)) (done c)) e

with_other : (text : Text) (c : Completion) → code_is_ok c.code ≡ false → with_text text c ≡ done c
with_other text c e = ap (λ (b : Bool). either b (done (ok text)) (done c)) e

module _ {S : Type 0} (goes : Going S) (style : Integers) where
  -- nothing follows
  goes_last : (T U : Tree Own) (o u : S) (p : Place) (x : (Completion → Program) → Program) (e : Reply) → GoesOn goes style T o p x U u e → Comes goes (language style) T o p (x done) U u e
  goes_last T U o u p x (Completed c) g = g done U u (Completed c) completed
  goes_last T U o u p x (Stop n m) g = g done
  goes_last T U o u p x (Exit n) g = g done
  goes_last T U o u p x (Cut c) g = g done

module _ {S : Type 0} (goes : Going S) (t u : Table) (o z : S) (place : TablePlace) (path : Path) (entry : Entry) where
  -- the answer is all that is left
  pub asks_last : (r : Result Text Interruption) → Asks goes t o place path entry u z r → Evaluates goes t o place (λ style. asks_at path entry done) u z r
  asks_last r asks = IfEnded-more r (λ e. (p : Path) (style : Integers) → IsAt t place p style → GoesOn goes style (tree_of t) o p (asks_at path entry) (tree_of u) z e)
      (EndsIn goes t o place (λ style. asks_at path entry done) (tree_of u) z) (λ e g p style at. goes_last goes style (tree_of t) (tree_of u) o z p (asks_at path entry) e (g p style at)) asks

  -- an ordinary one is told as a text
  pub asks_telling : (text : Text) (ended r : Result Text Interruption) → TellsAs ended text r → Asks goes t o place path entry u z ended → Evaluates goes t o place (λ style. asks_at path entry (with_text text)) u z r
  asks_telling text (Ok value) r told asks = subst (λ (x : Result Text Interruption). Evaluates goes t o place (λ style. asks_at path entry (with_text text)) u z x) (sym told)
      (λ p style at. asks p style at (with_text text) (tree_of u) z (Completed (ok text)) completed)
  asks_telling text (Err interruption.Memory) r told asks = subst (λ (x : Result Text Interruption). Evaluates goes t o place (λ style. asks_at path entry (with_text text)) u z x) (sym told) tt
  asks_telling text (Err (interruption.Completed c)) r (inl h) asks = subst (λ (x : Result Text Interruption). Evaluates goes t o place (λ style. asks_at path entry (with_text text)) u z x) (sym h.1)
      (λ p style at. asks p style at (with_text text) (tree_of u) z (Completed (ok text)) (at_prog (with_ok text (completion_of c.value) h.0) completed))
  asks_telling text (Err (interruption.Completed c)) r (inr h) asks = subst (λ (x : Result Text Interruption). Evaluates goes t o place (λ style. asks_at path entry (with_text text)) u z x) (sym h.1)
      (λ p style at. asks p style at (with_text text) (tree_of u) z (Completed (completion_of c.value)) (at_prog (with_other text (completion_of c.value) h.0) completed))
  asks_telling text (Err (interruption.Stopped s)) r told asks = subst (λ (x : Result Text Interruption). Evaluates goes t o place (λ style. asks_at path entry (with_text text)) u z x) (sym told) (λ p style at. asks p style at (with_text text))
  asks_telling text (Err (interruption.Exited n)) r told asks = subst (λ (x : Result Text Interruption). Evaluates goes t o place (λ style. asks_at path entry (with_text text)) u z x) (sym told) (λ p style at. asks p style at (with_text text))
  asks_telling text (Err (interruption.Cut x)) r told asks = subst (λ (y : Result Text Interruption). Evaluates goes t o place (λ style. asks_at path entry (with_text text)) u z y) (sym told) (λ p style at. asks p style at (with_text text))

module _ {S : Type 0} (goes : Going S) (t u : Table) (o z : S) (place : TablePlace) (whole : Styled) where
  pub passes : (r : Result Text Interruption) (i y : Interruption) → r ≡ Err y → y ≡ i → Interrupts i (EndsIn goes t o place whole (tree_of u) z) → Evaluates goes t o place whole u z r
  passes r i y e same h = subst (λ (x : Result Text Interruption). Evaluates goes t o place whole u z x) (sym (e ∙ ap Err same)) h

  -- the same program
  pub evaluates_as : (other : Styled) (r : Result Text Interruption) → ((style : Integers) → whole style ≡ other style) → Evaluates goes t o place other u z r → Evaluates goes t o place whole u z r
  evaluates_as other r same e = IfEnded-more r (EndsIn goes t o place other (tree_of u) z) (EndsIn goes t o place whole (tree_of u) z) (λ e d p style at. at_prog (same style) (d p style at)) e

-- what runs is there
pub running_there : (t : Table) (place : TablePlace) → IsRunning t place → (p : Path) × Names t place p
running_there t place h = (h.0, h.1)

-- a program that fails
pub fails_told : {S : Type 0} (goes : Going S) (t : Table) (o : S) (place : TablePlace) (whole : Styled) (message : Text) (i : Interruption) → ((style : Integers) → whole style ≡ fails message) → Interrupts i (λ e. e ≡ Completed (failing message)) → Interrupts i (EndsIn goes t o place whole (tree_of t) o)
fails_told goes t o place whole message i same told = Interrupts-more i (λ e. e ≡ Completed (failing message)) (EndsIn goes t o place whole (tree_of t) o) (λ e f p style at. at_prog (same style) (at_reply f completed)) told
