-- What contracts see of calls of procedures.
use Rattle.std.specs.Prelude.{◌≡◌, ℕ, Bool, true, false, List, [], ◌∷◌, ◌++◌, map, Option, Some}
use Rattle.std.specs.Prelude.{None}
use Rattle.tcl_core.specs.Endings.{Reply}
use Rattle.tcl_core.specs.Endings.Reply.{Completed}
use Rattle.tcl_core.specs.Paths.{Path}
use Rattle.tcl_core.specs.Trees.{Node, effect}
use Rattle.tcl_core.specs.Trees.What.{Changed}
use Rattle.tcl_language.specs.Control.{bindings, fit_all, in_frame, last_form, parameter_form}
use Rattle.tcl_language.specs.Instructions.{too_long}
use Rattle.tcl_interpreter.specs.declared.parameter.Parameter.{Parameter}
use Rattle.tcl_tree.specs.Own.{Own}
use Rattle.tcl_tree.specs.TreeOf.{tree_of, Names}
use Rattle.tcl_tree.specs.declared.tree.Tree.{Tree}
use Rattle.tcl_tree.specs.declared.tree.Place.{Place}
use Rattle.tcl_calls.specs.declared.procedures.Binding.{Binding}

-- names with what they are bound to
abbrev pub pair_of : Binding → List ℕ × List ℕ
pair_of b = (b.name, b.value)

abbrev pub pairs_of : List Binding → List (List ℕ × List ℕ)
pairs_of bs = map pair_of bs

-- these bindings, and then others
abbrev pub joined : List (List ℕ × List ℕ) → Option (List (List ℕ × List ℕ)) →
    Option (List (List ℕ × List ℕ))
joined before None = None
joined before (Some rest) = Some (before ++ rest)

-- the next word or the default, and the words behind it
abbrev pub next_bound : Option (List ℕ) → List (List ℕ) → Option (List ℕ × List (List ℕ))
next_bound default (word ∷ words) = Some (word, words)
next_bound None [] = None
next_bound (Some default) [] = Some (default, [])

-- what was found is what the definition says, and fits
abbrev pub Bound : Option (List (List ℕ × List ℕ)) → Option (List (List ℕ × List ℕ)) → Type 0
Bound None given = given ≡ None
Bound (Some bs) given = (given ≡ Some bs) × (fit_all bs ≡ true)

-- a bound list is too long
abbrev pub TooLongBound : Option (List (List ℕ × List ℕ)) → Reply → Type 0
TooLongBound None e = ⊥
TooLongBound (Some bs) e = (fit_all bs ≡ false) × (e ≡ Completed too_long)

-- a parameter in the form of its procedure, where it is the last, and where it isn't
abbrev pub form_of : Bool → Parameter → List ℕ
form_of true p = last_form p
form_of false p = parameter_form p.name p.default

-- what a last parameter is bound to
abbrev pub IsBoundTo : Parameter → Option (List ℕ) → Option (List (List ℕ × List ℕ)) → Type 0
IsBoundTo p None given = given ≡ None
IsBoundTo p (Some value) given = given ≡ Some ((p.name, value) ∷ [])

-- each parameter with the word at its place
abbrev pub straight : List Parameter → List (List ℕ) → List (List ℕ × List ℕ)
straight [] words = []
straight (p ∷ ps) [] = []
straight (p ∷ ps) (word ∷ words) = (p.name, word) ∷ straight ps words

-- The words of a call bind its parameters, and the frame of the call, in which they are set, is on
-- top of those of the interpreter that the place names.
abbrev pub Enters : Tree → Place → List Parameter → List ℕ → List (List ℕ) → Tree → Type 0
Enters old place ps word args new =
    (bs : List (List ℕ × List ℕ)) × (bindings ps args ≡ Some bs) × (fit_all bs ≡ true) ×
    ((p : Path) (n : Node Own) → Names old place p → tree_of old p ≡ Some n →
    tree_of new ≡ effect p (Changed (in_frame (word ∷ args) bs n.own)) (tree_of old))
