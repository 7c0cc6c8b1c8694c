use Rattle.std.proofs.Common.{◌≡◌, false, List, [], ◌∷◌, ◌++◌, map, length}
use Rattle.tcl_core.specs.Paths.{Text}
use Rattle.tcl_language.specs.Control.{walks_of}
use Rattle.tcl_language.specs.Instructions.{Program, Walk}
use Rattle.tcl_language.specs.Variables.{is_odd}
use Rattle.tcl_calls.specs.Walks.{whole}
use Rattle.tcl_calls.proofs.walks.read_walks.Given as goal

abbrev pub invariant-words : goal.invariant-words
invariant-words l = record {
  even : is_odd l.left ≡ false;
  same : (form body : Text) (k : List Walk → Text → Program) → walks_of form (l.fn.words ++ body ∷ []) [] k ≡ walks_of form (l.left ++ body ∷ []) (map whole l.walks.items) k;
}

abbrev pub decreases-words : goal.decreases-words
decreases-words l = length l.left
