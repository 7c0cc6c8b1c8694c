-- The names of commands and children, in order.
use Rattle.std.proofs.Common.{◌≡◌, ℕ, ◌+◌, ◌≤◌, List, [], ◌∷◌, ◌++◌, drop, length, Some, refl, sym, ◌∙◌, ap, append-nil, append_assoc, add-one}
use Rattle.std.specs.Prelude.{slice_get}
use Rattle.std.proofs.Math.ListN.{drop_of_length-le}
use Rattle.tcl_core.specs.Paths.{Text}
use Rattle.tcl_language.specs.Interpreters.{alias_only, aliases_in, names_in}
use Rattle.tcl_tree.specs.Own.{CommandMap}
use Rattle.tcl_interpreter.specs.declared.command.Command.{Command}
use Rattle.tcl_text.proofs.Items.{drop_at}
use Rattle.tcl_calls.specs.Listing.{first_of}

pub alias_step : (es : CommandMap) (i : ℕ) (name : Text) (c : Command) → slice_get es i ≡ Some (name, c) → alias_only name c (aliases_in (drop (i + 1) es)) ≡ aliases_in (drop i es)
alias_step es i name c e = ap (λ n. alias_only name c (aliases_in (drop n es))) (add-one i) ∙ sym (ap aliases_in (drop_at es i (name, c) e))

pub alias_end : (es : CommandMap) (i : ℕ) (names : List Text) → length es ≤ i → names ++ aliases_in (drop i es) ≡ names
alias_end es i names h = ap (λ xs. names ++ aliases_in xs) (drop_of_length-le es h) ∙ append-nil names

pub key_step : {A : Type 0} (es : List (Text × A)) (i : ℕ) (e : Text × A) (names : List Text) → slice_get es i ≡ Some e → (names ++ e.0 ∷ []) ++ first_of (drop (i + 1) es) ≡ names ++ first_of (drop i es)
key_step es i e names at = append_assoc names (e.0 ∷ []) (first_of (drop (i + 1) es)) ∙ ap (λ n. names ++ e.0 ∷ first_of (drop n es)) (add-one i) ∙ sym (ap (λ xs. names ++ first_of xs) (drop_at es i e at))

pub key_end : {A : Type 0} (es : List (Text × A)) (i : ℕ) (names : List Text) → length es ≤ i → names ++ first_of (drop i es) ≡ names
key_end es i names h = ap (λ xs. names ++ first_of xs) (drop_of_length-le es h) ∙ append-nil names

pub names_first : (es : CommandMap) → names_in es ≡ first_of es
names_first [] = refl
names_first (e ∷ es) = ap (λ xs. e.0 ∷ xs) (names_first es)
