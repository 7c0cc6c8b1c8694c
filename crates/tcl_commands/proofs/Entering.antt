-- What the words of a change of an entry are read as.
use Rattle.std.proofs.Common.{◌≡◌, ◌∷◌, ℕ, List, Option, Some, None, refl}
use Rattle.std.specs.Prelude.{Ok}
use Rattle.tcl_words.specs.Arguments.{two_or_three_words}
use Rattle.tcl_commands.specs.Entries.{given_words}

-- a name, a key and an increment, where one is given
pub words_given : (form name key : List ℕ) (by : Option (List ℕ)) → two_or_three_words form (name ∷ key ∷ given_words by) ≡ Ok (name, key, by)
words_given form name key None = refl
words_given form name key (Some by) = refl
