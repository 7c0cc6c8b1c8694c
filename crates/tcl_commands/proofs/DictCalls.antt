-- What `dict` comes to, by its first word.
use Rattle.std.proofs.Common.{◌≡◌, ◌<◌, List, [], ◌∷◌, Option, Some, None, length, refl, sym, ap, ◌∙◌, arith}
use Rattle.std.specs.Prelude.{Result}
use Rattle.tcl_core.specs.Paths.{Text}
use Rattle.tcl_language.specs.Changes.{change_or, dict, dict_changes}
use Rattle.tcl_language.specs.Data as collections
use Rattle.tcl_language.specs.Instructions.{Program}
use Rattle.tcl_run.specs.Plain.{Acts}
use Rattle.tcl_run.specs.declared.interruption.Interruption.{Interruption}
use Rattle.tcl_text.specs.declared.integer.Integers.{Integers}
use Rattle.tcl_tree.specs.declared.tree.Tree.{Tree as Table}
use Rattle.tcl_tree.specs.declared.tree.Place.{Place as TablePlace}
use Rattle.tcl_commands.proofs.Going.{acts_as}
use Rattle.tcl_commands.specs.Changes.{program_of, program_or}
use Rattle.tcl_commands.specs.declared.changes.Change.{Change}

pub no_word : (args : List Text) → length args < 1 → args ≡ []
no_word [] h = refl
no_word (x ∷ xs) h = absurd (omega arith)

module _ (t u : Table) (place : TablePlace) (args : List Text) (result : Result Text Interruption) where
  -- no word
  pub none_acts : args ≡ [] → Acts t place (λ style. collections.dict args) u result → Acts t place (λ style. dict style args) u result
  none_acts e acts = acts_as t u place (λ style. dict style args) (λ style. collections.dict args) result (λ style. ap (dict style) e ∙ ap collections.dict (sym e)) acts

  module _ (word : Text) (words : List Text) (named : Option Change) (is : args ≡ word ∷ words)
      (listed : (other : Program) (style : Integers) (xs : List Text) → change_or other style dict_changes word xs ≡ program_or other style named xs) where
    meant : (style : Integers) → dict style args ≡ program_or (collections.dict (word ∷ words)) style named words
    meant style = ap (dict style) is ∙ listed (collections.dict (word ∷ words)) style words

    -- one that changes a variable
    pub change_acts : (change : Change) → named ≡ Some change → Acts t place (λ style. program_of change style words) u result → Acts t place (λ style. dict style args) u result
    change_acts change so acts = acts_as t u place (λ style. dict style args) (λ style. program_of change style words) result
        (λ style. meant style ∙ ap (λ (x : Option Change). program_or (collections.dict (word ∷ words)) style x words) so) acts

    -- one that is a function of its words
    pub words_acts : named ≡ None → Acts t place (λ style. collections.dict args) u result → Acts t place (λ style. dict style args) u result
    words_acts so acts = acts_as t u place (λ style. dict style args) (λ style. collections.dict args) result
        (λ style. meant style ∙ ap (λ (x : Option Change). program_or (collections.dict (word ∷ words)) style x words) so ∙ ap collections.dict (sym is)) acts
