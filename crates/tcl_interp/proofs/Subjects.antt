-- Steps that find the path of a subject.
use Rattle.std.proofs.Common.{◌≡◌, [], ◌∷◌, refl, sym, ◌∙◌, ap, subst}
use Rattle.std.specs.Prelude.{Result, Ok, Err}
use Rattle.tcl_core.specs.Paths.{Text, Path}
use Rattle.tcl_language.specs.Instructions.{Program}
use Rattle.tcl_language.specs.Interpreters.{at_path}
use Rattle.tcl_run.specs.Ends.{Interrupts}
use Rattle.tcl_run.specs.Outsides.{Going}
use Rattle.tcl_run.specs.Runs.{Evaluates}
use Rattle.tcl_run.specs.declared.interruption.Interruption.{Interruption}
use Rattle.tcl_run.proofs.Endings.{Interrupts-more}
use Rattle.tcl_text.specs.declared.integer.Integers.{Integers}
use Rattle.tcl_tree.specs.declared.tree.Tree.{Tree as Table}
use Rattle.tcl_tree.specs.declared.tree.Place.{Place as TablePlace}
use Rattle.tcl_calls.specs.Asking.{Styled}
use Rattle.tcl_calls.specs.Looking.{Finds, GetsTo, GetsToEnd}
use Rattle.tcl_calls.proofs.Looks.{gets_as, gets_end, looks_then, passes_evaluates}
use Rattle.tcl_interp.specs.Subjects.{About, on_child, on_itself, on_path, path_text, reached}

-- ## Steps that find something

-- what stands before the step changes nothing
pub finds_after : {A B : Type 0} (t : Table) (place : TablePlace) (view : A → B) (f g : (B → Styled) → Styled) (r : Result A Interruption) → ((rest : B → Styled) → GetsTo t place (g rest) (f rest)) → Finds t place view f r → Finds t place view g r
finds_after t place view f g (Ok a) before h = λ rest p style at. looks_then (before rest p style at) (h rest p style at)
finds_after t place view f g (Err i) before h = Interrupts-more i _ _ (λ e d rest. gets_end t place (g rest) (f rest) e (before rest) (d rest)) h

-- the same step
pub finds_as : {A B : Type 0} (t : Table) (place : TablePlace) (view : A → B) (f g : (B → Styled) → Styled) (r : Result A Interruption) → ((rest : B → Styled) (style : Integers) → g rest style ≡ f rest style) → Finds t place view f r → Finds t place view g r
finds_as t place view f g r same h = finds_after t place view f g r (λ rest. gets_as t place (g rest) (f rest) (same rest)) h

module _ {S : Type 0} (goes : Going S) (t : Table) (o : S) (place : TablePlace) where
  -- all is over by a step that was to find something
  pub found_out : {B : Type 0} (f : (B → Styled) → Styled) (rest : B → Styled) (r : Result Text Interruption) (i y : Interruption) → r ≡ Err y → y ≡ i → Interrupts i (λ e. (k : B → Styled) → GetsToEnd t place (f k) e) → Evaluates goes t o place (f rest) t o r
  found_out f rest r i y e same h = passes_evaluates goes t o place (f rest) r i y e same (Interrupts-more i _ (GetsToEnd t place (f rest)) (λ e d. d rest) h)

  -- and by one that only tests
  pub passed_out : (f : Styled → Styled) (rest : Styled) (r : Result Text Interruption) (i y : Interruption) → r ≡ Err y → y ≡ i → Interrupts i (λ e. (k : Styled) → GetsToEnd t place (f k) e) → Evaluates goes t o place (f rest) t o r
  passed_out f rest r i y e same h = passes_evaluates goes t o place (f rest) r i y e same (Interrupts-more i _ (GetsToEnd t place (f rest)) (λ e d. d rest) h)

-- ## Paths of subjects

pub reached_itself : (a : About) → a ≡ on_itself → (k : Path → Program) → reached a k ≡ at_path (path_text a) (λ path n. k path)
reached_itself a e k = subst (λ (x : About). reached x k ≡ at_path (path_text x) (λ path n. k path)) (sym e) refl

pub reached_path : (a : About) (text : Text) → a ≡ on_path text → (k : Path → Program) → reached a k ≡ at_path (path_text a) (λ path n. k path)
reached_path a text e k = subst (λ (x : About). reached x k ≡ at_path (path_text x) (λ path n. k path)) (sym e) refl

pub reached_child : (a : About) (name : Text) (path : Path) → a ≡ on_child name → path ≡ name ∷ [] → (k : Path → Program) → reached a k ≡ k path
reached_child a name path e f k = ap (λ (x : About). reached x k) e ∙ ap k (sym f)
