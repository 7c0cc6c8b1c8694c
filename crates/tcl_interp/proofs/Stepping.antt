-- Steps of a program one after the other, each of which may run something.
use Rattle.std.proofs.Common.{◌≡◌, inl, inr, true, false, [], ◌∷◌, Some, refl, sym, ◌∙◌, ap, subst}
use Rattle.std.specs.Prelude.{Result, Ok, Err}
use Rattle.tcl_core.specs.Endings.{Completion, ok}
use Rattle.tcl_core.specs.Endings.Reply.{Completed}
use Rattle.tcl_core.specs.Entries.Entry.{Delete}
use Rattle.tcl_core.specs.Paths.{Text, Path}
use Rattle.tcl_core.specs.Programs.Prog.{done}
use Rattle.tcl_core.specs.Execution.{completed}
use Rattle.tcl_flow.specs.View.{completion_of}
use Rattle.tcl_language.specs.Instructions.{Program, either}
use Rattle.tcl_language.specs.Definitions.{deletes_child}
use Rattle.tcl_language.specs.Interpreters.{after_delete, at_path, code_is_ok, deletes_at, deletes_named}
use Rattle.tcl_run.specs.Ends.{Interrupts}
use Rattle.tcl_run.specs.Outsides.{Going}
use Rattle.tcl_run.specs.Plain.{Acts, Does}
use Rattle.tcl_run.specs.Runs.{Evaluates, IsHere, IsThere}
use Rattle.tcl_run.specs.declared.interruption.Interruption.{Interruption}
use Rattle.tcl_run.specs.declared.interruption.Interruption.TheVariants as interruption
use Rattle.tcl_run.proofs.Endings.{IfEnded-more, Interrupts-more}
use Rattle.tcl_run.proofs.Leads.{at_prog, at_reply}
use Rattle.tcl_run.proofs.Plain.{does_comes}
use Rattle.tcl_run.proofs.Steady.{still_at}
use Rattle.tcl_text.specs.Writing.{written_list}
use Rattle.tcl_text.specs.declared.integer.Integers.{Integers}
use Rattle.tcl_tree.specs.TreeOf.{tree_of}
use Rattle.tcl_tree.specs.declared.tree.Tree.{Tree as Table}
use Rattle.tcl_tree.specs.declared.tree.Place.{Place as TablePlace}
use Rattle.tcl_calls.specs.Asking.{Asks, EndsIn, Leads, Steps, Styled}
use Rattle.tcl_calls.proofs.EntryTelling.{passes}
use Rattle.tcl_interp.specs.Deleting.{Deletes}
use Rattle.tcl_interp.specs.Failing.{FailsSo}

-- ## Programs as they end

-- what runs nothing inside
pub acts_evaluates : {S : Type 0} (goes : Going S) (t u : Table) (o : S) (place : TablePlace) (program : Styled) (r : Result Text Interruption) → Acts t place program u r → Evaluates goes t o place program u o r
acts_evaluates goes t u o place program r acts = IfEnded-more r (λ e. (p : Path) (style : Integers) → IsThere t place p style → Does (program style) (tree_of t) p (tree_of u) e) (EndsIn goes t o place program (tree_of u) o)
    (λ e d p style at. does_comes (program style) o (d p style (record { names = at.names; style_is = at.style_is }))) acts

-- a program that fails
pub fails_passed : {S : Type 0} (goes : Going S) (t : Table) (o : S) (place : TablePlace) (whole : Styled) (program : Program) (r : Result Text Interruption) (i y : Interruption) → ((style : Integers) → whole style ≡ program) → r ≡ Err y → y ≡ i → Interrupts i (FailsSo program) → Evaluates goes t o place whole t o r
fails_passed goes t o place whole program r i y is e same h = passes goes t t o o place whole r i y e same
    (Interrupts-more i (FailsSo program) (EndsIn goes t o place whole (tree_of t) o) (λ e f p style at. at_prog (is style ∙ f.way) (at_reply f.end completed)) h)

-- ## Steps

module _ {S : Type 0} (goes : Going S) (t u : Table) (o z : S) (place : TablePlace) where
  -- the same step
  pub steps_as : (f g : Styled → Styled) (r : Result (Unit {0}) Interruption) → ((rest : Styled) (style : Integers) → g rest style ≡ f rest style) → Steps goes t o place f u z r → Steps goes t o place g u z r
  steps_as f g (Ok x) same h = λ rest V y q e p style at. at_prog (same rest style) (h rest V y q e p style at)
  steps_as f g (Err i) same h = λ rest. Interrupts-more i (EndsIn goes t o place (f rest) (tree_of u) z) (EndsIn goes t o place (g rest) (tree_of u) z) (λ e d p style at. at_prog (same rest style) (d p style at)) (h rest)

  -- an end that is passed on
  pub steps_pass : (f : Styled → Styled) (r : Result (Unit {0}) Interruption) (i y : Interruption) → r ≡ Err y → y ≡ i → ((rest : Styled) → Interrupts i (EndsIn goes t o place (f rest) (tree_of u) z)) → Steps goes t o place f u z r
  steps_pass f r i y e same h = subst (λ (x : Result (Unit {0}) Interruption). Steps goes t o place f u z x) (sym (e ∙ ap Err same)) h

  -- what stands before a step changes nothing
  pub steps_after : (f g : Styled → Styled) (r : Result (Unit {0}) Interruption) → ((rest : Styled) → Leads goes t o place (g rest) t o (f rest)) → Steps goes t o place f u z r → Steps goes t o place g u z r
  steps_after f g (Ok x) before h = λ rest V y q e. before rest V y q (h rest V y q e)
  steps_after f g (Err i) before h = λ rest. Interrupts-more i (EndsIn goes t o place (f rest) (tree_of u) z) (EndsIn goes t o place (g rest) (tree_of u) z) (λ e d. before rest (tree_of u) z e d) (h rest)

-- one after the other
pub leads_then : {S : Type 0} (goes : Going S) (s t u : Table) (a o z : S) (place : TablePlace) (whole mid step rest : Styled) → Leads goes s a place whole t o mid → ((style : Integers) → mid style ≡ step style) → Leads goes t o place step u z rest → Leads goes s a place whole u z rest
leads_then goes s t u a o z place whole mid step rest before same after = λ V y q e. before V y q (λ p style at. at_prog (same style) (after V y q e p style at))

-- one ends after others went
pub leads_end : {S : Type 0} (goes : Going S) (s t u : Table) (a o z : S) (place : TablePlace) (whole mid step : Styled) (i : Interruption) → Leads goes s a place whole t o mid → ((style : Integers) → mid style ≡ step style) → Interrupts i (EndsIn goes t o place step (tree_of u) z) →
    Interrupts i (EndsIn goes s a place whole (tree_of u) z)
leads_end goes s t u a o z place whole mid step i before same h = Interrupts-more i (EndsIn goes t o place step (tree_of u) z) (EndsIn goes s a place whole (tree_of u) z) (λ e d. before (tree_of u) z e (λ p style at. at_prog (same style) (d p style at))) h

-- nothing is left to do
pub leads_done : {S : Type 0} (goes : Going S) (s t : Table) (a o : S) (place : TablePlace) (whole rest : Styled) (text told : Text) → Leads goes s a place whole t o rest → ((style : Integers) → rest style ≡ done (ok text)) → told ≡ text → Evaluates goes s a place whole t o (Ok told)
leads_done goes s t a o place whole rest text told before same is = before (tree_of t) o (Completed (ok told)) (λ p style at. at_prog (same style) (at_reply (ap (λ (x : Text). Completed (ok x)) is) completed))

-- ## Deleting

after_ok : (more : Program) (c : Completion) → code_is_ok c.code ≡ true → after_delete more c ≡ more
after_ok more c e = ap (λ b. either b more (done c)) e

after_other : (more : Program) (c : Completion) → code_is_ok c.code ≡ false → after_delete more c ≡ done c
after_other more c e = ap (λ b. either b more (done c)) e

module _ {S : Type 0} (goes : Going S) (t u : Table) (o z : S) (place : TablePlace) (above : Path) (name : Text) (here : IsHere t u place) where
  abbrev step_of : Styled → Styled
  step_of rest style = deletes_at (above, name) (rest style)

  pub deletes_steps : (ended : Result Text Interruption) (r : Result (Unit {0}) Interruption) → Deletes ended r → Asks goes t o place above (Delete name) u z ended → Steps goes t o place step_of u z r
  deletes_steps (Ok value) r d asks = subst (λ (x : Result (Unit {0}) Interruption). Steps goes t o place step_of u z x) (sym d)
      (λ rest V y q e p style at. asks p style at (after_delete (rest style)) V y q (e p style (still_at t u place p style here at)))
  deletes_steps (Err interruption.Memory) r d asks = subst (λ (x : Result (Unit {0}) Interruption). Steps goes t o place step_of u z x) (sym d) (λ rest. tt)
  deletes_steps (Err (interruption.Completed c)) r (inl d) asks = subst (λ (x : Result (Unit {0}) Interruption). Steps goes t o place step_of u z x) (sym d.1)
      (λ rest V y q e p style at. asks p style at (after_delete (rest style)) V y q (at_prog (after_ok (rest style) (completion_of c.value) d.0) (e p style (still_at t u place p style here at))))
  deletes_steps (Err (interruption.Completed c)) r (inr d) asks = subst (λ (x : Result (Unit {0}) Interruption). Steps goes t o place step_of u z x) (sym d.1)
      (λ rest p style at. asks p style at (after_delete (rest style)) (tree_of u) z (Completed (completion_of c.value)) (at_prog (after_other (rest style) (completion_of c.value) d.0) completed))
  deletes_steps (Err (interruption.Stopped s)) r d asks = subst (λ (x : Result (Unit {0}) Interruption). Steps goes t o place step_of u z x) (sym d) (λ rest p style at. asks p style at (after_delete (rest style)))
  deletes_steps (Err (interruption.Exited n)) r d asks = subst (λ (x : Result (Unit {0}) Interruption). Steps goes t o place step_of u z x) (sym d) (λ rest p style at. asks p style at (after_delete (rest style)))
  deletes_steps (Err (interruption.Cut c)) r d asks = subst (λ (x : Result (Unit {0}) Interruption). Steps goes t o place step_of u z x) (sym d) (λ rest p style at. asks p style at (after_delete (rest style)))

-- A child is deleted by the path that is its name.
module _ {S : Type 0} (goes : Going S) (t u : Table) (o z : S) (place : TablePlace) (name path : Text) where
  abbrev there_of : Styled → Styled
  there_of rest style = at_path path (λ names n. deletes_named path names (rest style))

  abbrev last : Styled
  last style = done (ok [])

  there_is : path ≡ written_list (name ∷ []) → (style : Integers) → deletes_child (Some name) ≡ there_of last style
  there_is e style = ap (λ (x : Text). at_path x (λ names n. deletes_named x names (done (ok [])))) (sym e)

  pub deleted_done : (told : Text) → path ≡ written_list (name ∷ []) → ((rest : Styled) → Leads goes t o place (there_of rest) u z rest) → told ≡ [] → Evaluates goes t o place (λ style. deletes_child (Some name)) u z (Ok told)
  deleted_done told e steps none = leads_done goes t u o z place (λ style. deletes_child (Some name)) last [] told (λ V y q d p style at. at_prog (there_is e style) (steps last V y q d p style at)) (λ style. refl) none

  pub deleted_end : (i : Interruption) → path ≡ written_list (name ∷ []) → ((rest : Styled) → Interrupts i (EndsIn goes t o place (there_of rest) (tree_of u) z)) → Interrupts i (EndsIn goes t o place (λ style. deletes_child (Some name)) (tree_of u) z)
  deleted_end i e steps = Interrupts-more i (EndsIn goes t o place (there_of last) (tree_of u) z) (EndsIn goes t o place (λ style. deletes_child (Some name)) (tree_of u) z) (λ r d p style at. at_prog (there_is e style) (d p style at)) (steps last)
