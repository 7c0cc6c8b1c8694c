-- The subcommand is.
use Rattle.std.specs.Prelude.{ℕ, ℤ, pos, ◌==◌, Bool, true, false, not, if◌then◌else◌, List, [], ◌∷◌}
use Rattle.std.specs.Prelude.{length, Ok, Err, Some, None, codes, is_ok, is_some}
use Rattle.std.specs.declared.result.Result.{Result}
use Rattle.std.specs.declared.option.Option.{Option}
use Rattle.std.specs.Fmt.{signed_decimal}
use Rattle.std.specs.List.{list_all}
use Rattle.std.specs.Str.{chars, bytes_eq}
use Rattle.tcl_text.specs.declared.integer.Integers.{Integers}
use Rattle.tcl_text.specs.Numbers.{integer_of, in_64_bits}
use Rattle.tcl_text.specs.Booleans.{boolean_of}
use Rattle.tcl_text.specs.Lists.{list_of}
use Rattle.tcl_words.specs.Outcomes.{Outcome, next}
use Rattle.tcl_words.specs.Faults.{wrong_arguments, bad_option}
use Rattle.tcl_characters.specs.Classes.{is_member}
use Rattle.tcl_characters.specs.declared.classes.Class.{Class}
use Rattle.tcl_characters.specs.declared.classes.Class.TheVariants.{Alpha, Digit, Alnum, Upper}
use Rattle.tcl_characters.specs.declared.classes.Class.TheVariants.{Lower, Space, Xdigit}
use Rattle.tcl_strings.specs.declared.kinds.Kind.{Kind}
use Rattle.tcl_strings.specs.declared.kinds.Kind.TheVariants.{Integer, Boolean, WholeList, Of}

abbrev pub class_of : List ℕ → Option Class
class_of name =
    if bytes_eq name (codes "alpha") then Some Alpha
    else (if bytes_eq name (codes "digit") then Some Digit
    else (if bytes_eq name (codes "alnum") then Some Alnum
    else (if bytes_eq name (codes "upper") then Some Upper
    else (if bytes_eq name (codes "lower") then Some Lower
    else (if bytes_eq name (codes "space") then Some Space
    else (if bytes_eq name (codes "xdigit") then Some Xdigit
    else None))))))

abbrev pub of_class : Option Class → Option Kind
of_class None = None
of_class (Some class) = Some (Of class)

-- what a class word names
abbrev pub kind_of : List ℕ → Option Kind
kind_of name =
    if bytes_eq name (codes "integer") then Some Integer
    else (if bytes_eq name (codes "wideinteger") then Some Integer
    else (if bytes_eq name (codes "boolean") then Some Boolean
    else (if bytes_eq name (codes "list") then Some WholeList
    else of_class (class_of name))))

-- whether a text that isn't empty is of a kind
abbrev pub fits_kind : Integers → Kind → List ℕ → Bool
fits_kind style Integer text = is_ok (in_64_bits (integer_of style text))
fits_kind style Boolean text = is_some (boolean_of style text)
fits_kind style WholeList text = is_ok (list_of text)
fits_kind style (Of class) text = list_all (is_member class) (chars text)

-- the empty text is of every kind; with `strict` it is a list alone
abbrev pub empty_fits : Kind → Bool → Bool
empty_fits WholeList strict = true
empty_fits kind strict = not strict

abbrev pub is_kind : Integers → Bool → Kind → List ℕ → Bool
is_kind style strict kind text = if length text == 0 then empty_fits kind strict else fits_kind
    style kind text

-- ---- the words

abbrev pub class_words : List (List ℕ) → Result (List ℕ × Option (List ℕ) × List ℕ) (List ℕ)
class_words (class ∷ text ∷ []) = Ok (class, None, text)
class_words (class ∷ option ∷ text ∷ []) = Ok (class, Some option, text)
class_words words = Err (wrong_arguments (codes "string is class ?-strict? s"))

abbrev pub kind_or : List ℕ → Option Kind → Result Kind (List ℕ)
kind_or name None = Err (bad_option name)
kind_or name (Some kind) = Ok kind

abbrev pub strict_word : Option (List ℕ) → Result Bool (List ℕ)
strict_word None = Ok false
strict_word (Some word) = if bytes_eq word (codes "-strict") then Ok true else Err (bad_option word)

abbrev pub truth : Bool → ℤ
truth true = pos 1
truth false = pos 0

abbrev pub is_of : Integers → List (List ℕ) → Outcome
is_of style words =
    next (class_words words) (λ p.
    next (kind_or p.0 (kind_of p.0)) (λ kind.
    next (strict_word p.1) (λ strict.
    Ok (signed_decimal (truth (is_kind style strict kind p.2))))))
