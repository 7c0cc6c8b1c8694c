-- The words of `invokehidden`.
use Rattle.std.proofs.Common.{◌≡◌, ◌<◌, ◌≤◌, Bool, true, false, List, [], ◌∷◌, length, refl, sym, ◌∙◌, ap, arith}
use Rattle.std.specs.Prelude.{◌&&◌, not, Result, Ok, Err, IfOk, IfErr}
use Rattle.tcl_core.specs.Endings.{Reply}
use Rattle.tcl_core.specs.Entries.Entry.{InvokeHidden}
use Rattle.tcl_core.specs.Paths.{Text}
use Rattle.tcl_language.specs.Faults.{wrong_args}
use Rattle.tcl_language.specs.Instructions.{Program, either, fails}
use Rattle.tcl_language.specs.Interpreters.{invoked_as, asks_trusted, is_option, is_global, bad_option}
use Rattle.tcl_run.specs.Ends.{Interrupts}
use Rattle.tcl_run.specs.declared.interruption.Interruption.{Interruption}
use Rattle.tcl_run.proofs.Endings.{Interrupts-more}
use Rattle.tcl_interp.specs.Failing.{FailsSo}
use Rattle.tcl_interp.specs.Programs.{called_with, invoke_forms, invokes}
use Rattle.tcl_interp.specs.Subjects.{About, path_text}

module _ (a : About) where
  -- ## Where no more options are read

  pub called_none : (global : Bool) (words : List Text) → length words ≡ 0 → called_with a global words ≡ fails (wrong_args (invoke_forms a))
  called_none global [] h = refl
  called_none global (w ∷ ws) h = absurd (omega (arith, h))

  pub called_some : (global : Bool) (words : List Text) → 1 ≤ length words → called_with a global words ≡ asks_trusted (path_text a) (InvokeHidden global words)
  called_some global [] h = absurd (omega arith)
  called_some global (w ∷ ws) h = refl

  -- ## The first word

  abbrev after_option : Text → List Text → Bool → Program
  after_option w words b = either (b && not false) (either (is_global w) (invoked_as (path_text a) (invoke_forms a) true words) (fails (bad_option w))) (asks_trusted (path_text a) (InvokeHidden false (w ∷ words)))

  abbrev after_global : Text → List Text → Bool → Program
  after_global w words b = either b (invoked_as (path_text a) (invoke_forms a) true words) (fails (bad_option w))

  -- behind `-global` nothing is an option
  behind_global : (words : List Text) → invoked_as (path_text a) (invoke_forms a) true words ≡ called_with a true words
  behind_global [] = refl
  behind_global (w ∷ ws) = by (is_option w)
    where
      by : (b : Bool) → either (b && not true) (either (is_global w) (invoked_as (path_text a) (invoke_forms a) true ws) (fails (bad_option w))) (asks_trusted (path_text a) (InvokeHidden true (w ∷ ws))) ≡ asks_trusted (path_text a) (InvokeHidden true (w ∷ ws))
      by true = refl
      by false = refl

  -- no option stands there
  pub plain_call : (args : List Text) (w : Text) (words : List Text) → args ≡ w ∷ words → is_option w ≡ false → invokes a args ≡ called_with a false args
  plain_call args w words is o = ap (invokes a) is ∙ ap (after_option w words) o ∙ ap (called_with a false) (sym is)

  -- `-global` stands there
  pub global_call : (args : List Text) (w : Text) (words : List Text) → args ≡ w ∷ words → is_option w ≡ true → is_global w ≡ true → invokes a args ≡ called_with a true words
  global_call args w words is o g = ap (invokes a) is ∙ ap (after_option w words) o ∙ ap (after_global w words) g ∙ behind_global words

  -- another option stands there
  pub wrong_call : (args : List Text) (w : Text) (words : List Text) → args ≡ w ∷ words → is_option w ≡ true → is_global w ≡ false → invokes a args ≡ fails (bad_option w)
  wrong_call args w words is o g = ap (invokes a) is ∙ ap (after_option w words) o ∙ ap (after_global w words) g

  pub no_call : (args : List Text) → length args < 1 → invokes a args ≡ fails (wrong_args (invoke_forms a))
  no_call [] h = refl
  no_call (w ∷ ws) h = absurd (omega arith)

-- ## The same program

pub fails_as : (x y : Program) (e : Reply) → x ≡ y → FailsSo y e → FailsSo x e
fails_as x y e same h = record { message = h.message; way = same ∙ h.way; end = h.end }

pub called_more : {A B : Type 0} (r : Result A B) (P Q : A → Type 0) → ((a : A) → P a → Q a) → IfOk r P → IfOk r Q
called_more (Ok a) P Q f h = f a h
called_more (Err e) P Q f h = tt

pub refused_more : {A : Type 0} (r : Result A Interruption) (P Q : Reply → Type 0) → ((e : Reply) → P e → Q e) → IfErr r (λ i. Interrupts i P) → IfErr r (λ i. Interrupts i Q)
refused_more (Ok a) P Q f h = tt
refused_more (Err i) P Q f h = Interrupts-more i P Q f h
