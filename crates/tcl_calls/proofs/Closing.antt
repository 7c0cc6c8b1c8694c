-- How elements are closed.
use Rattle.std.proofs.Common.{◌≡◌, ℕ, List, [], ◌∷◌, ◌++◌, map, reverse, sym, ◌∙◌, ap, subst}
use Rattle.std.specs.Prelude.{Result, Ok}
use Rattle.std.proofs.lemmas.List.{map-append, reverse-append}
use Rattle.tcl_core.specs.Endings.{Reply}
use Rattle.tcl_core.specs.Trees.{Node}
use Rattle.tcl_language.specs.Instructions.{Open}
use Rattle.tcl_tree.specs.Own.{Own}
use Rattle.tcl_calls.specs.Words.{open_of, opens, AtOk, ClosesBy}
use Rattle.tcl_calls.specs.declared.words.OpenElement.{OpenElement}

pub opens-push : (es : List OpenElement) (e : OpenElement) → opens (es ++ e ∷ []) ≡ open_of e ∷ opens es
opens-push es e = ap reverse (map-append open_of es (e ∷ [])) ∙ reverse-append (map open_of es) (open_of e ∷ [])

-- what is said of an element's closing is said of the elements that are open
pub closed_by : (n : Node Own) (es : List Open) (x : Open) (xs : List Open) (key : List ℕ) (e : Reply) → es ≡ x ∷ xs → ClosesBy n (x ∷ xs) key e → ClosesBy n es key e
closed_by n es x xs key e same h = subst (λ (l : List Open). ClosesBy n l key e) (sym same) h

pub at_ok : {A F : Type 0} (r : Result A F) (a : A) (P : A → Type 0) → r ≡ Ok a → P a → AtOk r P
at_ok {A} {F} r a P e h = subst (λ (x : Result A F). AtOk x P) (sym e) h
