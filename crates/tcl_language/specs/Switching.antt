-- `switch`: which body its words choose. (switch(n))
use Rattle.std.specs.Prelude.{Bool, true, false, ◌||◌, List, [], ◌∷◌, Option, Some, None, Result}
use Rattle.std.specs.Prelude.{Ok, Err, codes}
use Rattle.std.specs.Str.{bytes_eq}
use Rattle.tcl_core.specs.Paths.{Text}
use Rattle.tcl_glob.specs.Patterns.{is_match, letters}
use Rattle.tcl_text.specs.Lists.{list_of}
use Rattle.tcl_text.specs.Writing.{fault_message}
use Rattle.tcl_text.specs.declared.list.ListFault.{ListFault}
use Rattle.tcl_language.specs.Instructions.{Program, either, or_fails}
use Rattle.tcl_language.specs.Faults.{wrong_args}
use Rattle.tcl_language.specs.Expressions.{runs_last}
use Rattle.tcl_language.specs.Interpreters.{bad_option, is_option}
use Rattle.tcl_language.specs.Variables.{is_odd}

-- ## Patterns

-- How patterns are taken: as those of `string match`, or each as the text that it is; and whether
-- the case of ASCII letters doesn't count.
pub record Manner : Type 0 where
  pub glob : Bool
  pub nocase : Bool

abbrev pub exactly : Manner
exactly = record { glob = false; nocase = false }

-- whether a pattern fits a text
abbrev pub is_fit : Manner → Text → Text → Bool
is_fit manner string pattern = either manner.glob (is_match manner.nocase pattern string)
    (bytes_eq (letters manner.nocase pattern) (letters manner.nocase string))

-- ## Pairs of a pattern and a body, each behind the other

-- a pattern that fits, or `default` as the last pattern, before these pairs
abbrev pub takes : (Text → Bool) → Text → List Text → Bool
takes fits pattern [] = bytes_eq pattern (codes "default") || fits pattern
takes fits pattern (word ∷ pairs) = fits pattern

-- the first body that isn't `-`; where there is none, nothing
abbrev pub first_body : List Text → Option Text
first_body (pattern ∷ body ∷ pairs) = either (bytes_eq body (codes "-")) (first_body pairs)
    (Some body)
first_body _ = None

-- the body of the first pattern that fits
abbrev pub chosen : (Text → Bool) → List Text → Option Text
chosen fits (pattern ∷ body ∷ pairs) = either (takes fits pattern pairs)
    (first_body (pattern ∷ body ∷ pairs)) (chosen fits pairs)
chosen fits _ = None

-- ## Words

abbrev pub switch_form : Text
switch_form = codes "switch ?option ...? string ?pattern body ...?"

-- what words come to: the body that they choose, if they choose one, or why they are refused
abbrev pub Choice : Type 0
Choice = Result (Option Text) Text

abbrev pub among : Manner → Text → List Text → Choice
among manner string pairs = either (is_odd pairs) (Err (wrong_args switch_form))
    (Ok (chosen (is_fit manner string) pairs))

abbrev pub among_read : Manner → Text → Result (List Text) ListFault → Choice
among_read manner string (Ok pairs) = among manner string pairs
among_read manner string (Err f) = Err (fault_message f)

-- the text that is compared, and behind it the pairs, as words or as the elements of one
abbrev pub behind_options : Manner → List Text → Choice
behind_options manner [] = Err (wrong_args switch_form)
behind_options manner (string ∷ []) = among manner string []
behind_options manner (string ∷ pairs ∷ []) = among_read manner string (list_of pairs)
behind_options manner (string ∷ pattern ∷ body ∷ pairs) = among manner string
    (pattern ∷ body ∷ pairs)

-- A word before others: an option, behind which that is read; the end of the options; an option
-- that is none; or the text that is compared.
abbrev pub option_first : Text → Manner → List Text → (Manner → Choice) → Choice
option_first word manner words go_on =
    either (bytes_eq word (codes "--")) (behind_options manner words)
    (either (bytes_eq word (codes "-exact")) (go_on (record manner { glob = false }))
    (either (bytes_eq word (codes "-glob")) (go_on (record manner { glob = true }))
    (either (bytes_eq word (codes "-nocase")) (go_on (record manner { nocase = true }))
    (either (is_option word) (Err (bad_option word)) (behind_options manner (word ∷ words))))))

-- Options are read while more than two words are left.
abbrev pub choice : Manner → List Text → Choice
choice manner (word ∷ a ∷ b ∷ words) = option_first word manner (a ∷ b ∷ words)
    (λ other. choice other (a ∷ b ∷ words))
choice manner words = behind_options manner words

-- `switch ?option ...? string ?pattern body ...?`: where no body is chosen, the empty text
abbrev pub switch : List Text → Program
switch words = or_fails (λ message. message) (choice exactly words) runs_last
