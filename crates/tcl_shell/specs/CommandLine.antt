-- What the words of the command line mean: the command's own description, as `clap` reads it, and
-- what its matches say.
use Rattle.std.specs.Prelude.{◌≡◌, ◌≢◌, ◌⊎◌, ℕ, Bool, true, false, List, [], ◌∷◌, map, codes}
use Rattle.std.specs.Prelude.{Option, Some, None, unwrap_or, if◌then◌else◌}
use Rattle.std.specs.Borrow.{Bor}
use Rattle.std.specs.Str.{bytes_eq}
use Rattle.std.specs.Str.Parse.{digits_value, without_leading_plus}
use Rattle.clap.specs.Words.{App, Row, Rule, Text, new_app, new_rule, with_rule, matches_of}
use Rattle.clap.specs.Words.{fault_of, first_of, one_of, all_of, kind_of, IsAmong}
use Rattle.clap.specs.declared.builder.action.ArgAction.TheVariants.{SetTrue, Append}
use Rattle.clap.specs.declared.builder.value_parser.ValueParser.TheVariants.{Unsigned, Names}
use Rattle.clap.specs.declared.error.Error.{Error}
use Rattle.clap.specs.declared.error.kind.ErrorKind.TheVariants.{DisplayHelp, DisplayVersion}
use Rattle.clap.specs.declared.error.kind.ErrorKind.TheVariants.{OutOfMemory}
use Rattle.tcl_text.specs.declared.integer.Integers.{Integers}
use Rattle.tcl_text.specs.declared.integer.Integers.TheVariants.{Tcl8, Tcl9}
use Rattle.tcl_shell.specs.declared.ending.Ending.{Ending}
use Rattle.tcl_shell.specs.declared.ending.Ending.TheVariants as ending
use Rattle.tcl_shell.specs.declared.options.Options.{Options}

-- ## The command: `tclsafe [--limit N] [--safe] [--integers 8|9] [FILE] [ARG..]`

abbrev pub limit_rule : Rule
limit_rule = record (new_rule (codes "limit"))
    { long = Some (codes "limit"); value_names = 1; parser = Some (Unsigned 0 1000000000000) }

abbrev pub safe_rule : Rule
safe_rule = record (new_rule (codes "safe")) { long = Some (codes "safe"); action = Some SetTrue }

-- the names of the two styles
abbrev pub styles : List Text
styles = codes "8" ∷ codes "9" ∷ []

abbrev pub integers_rule : Bor (List (Bor (List ℕ))) → Rule
integers_rule names = record (new_rule (codes "integers"))
    { long = Some (codes "integers"); value_names = 1; parser = Some (Names names) }

abbrev pub file_rule : Rule
file_rule = new_rule (codes "FILE")

abbrev pub arguments_rule : Rule
arguments_rule = record (new_rule (codes "ARG")) { action = Some Append }

-- its name, and that it has a version
abbrev pub named : App
named = record {
  top = record ((new_app (codes "tclsafe")).top) { has_version = true };
  subs = [];
}

abbrev pub command : Bor (List (Bor (List ℕ))) → App
command names = with_rule (with_rule (with_rule (with_rule (with_rule named limit_rule) safe_rule)
    (integers_rule names)) file_rule) arguments_rule

-- ## What is read of the words

-- the words have these matches, and no fault
abbrev pub IsParsed : List Text → List Row → Type 0
IsParsed words rows = (names : Bor (List (Bor (List ℕ)))) ×
    (map (λ name. name.now) names.now ≡ styles) × (rows ≡ matches_of (command names) words) ×
    (fault_of (command names) words ≡ [])

-- memory was wanted, or the words have a fault of the error's kind
abbrev pub IsMisparsed : List Text → Error → Type 0
IsMisparsed words e = (kind_of e ≡ OutOfMemory) ⊎
    ((names : Bor (List (Bor (List ℕ)))) × (map (λ name. name.now) names.now ≡ styles) ×
    IsAmong (kind_of e) (fault_of (command names) words))

-- the number of steps, of the text behind `--limit`
abbrev pub LimitIs : Option Text → ℕ → Type 0
LimitIs None n = n ≡ 10000000
LimitIs (Some text) n = n ≡ digits_value 10 (without_leading_plus text)

-- whether `--safe` stands there
abbrev pub SafeIs : Option Text → Bool → Type 0
SafeIs text b = (text ≡ None → b ≡ false) × (text ≡ Some (codes "true") → b ≡ true) ×
    (text ≡ Some (codes "false") → b ≡ false)

abbrev pub style_of : Option Text → Integers
style_of None = Tcl8
style_of (Some text) = if bytes_eq text (codes "9") then Tcl9 else Tcl8

-- what the matches say
pub record Says (rows : List Row) (o : Options) : Type 0 where
  pub limit : LimitIs (first_of (codes "limit") rows) o.limit
  pub safe : SafeIs (one_of (codes "safe") rows) o.is_safe
  pub integers : o.integers ≡ style_of (first_of (codes "integers") rows)
  pub file : o.file.now ≡ unwrap_or (first_of (codes "FILE") rows) (codes "-")
  pub arguments : map (λ word. word.now) o.arguments.items
      ≡ unwrap_or (all_of (codes "ARG") rows) []

-- The words have no fault, and the options are what their matches say.
abbrev pub IsRead : List Text → Options → Type 0
IsRead words o = (rows : List Row) × IsParsed words rows × Says rows o

-- what is told of an error of the words
abbrev pub Tells : Error → Ending → Type 0
Tells e (ending.Helped text) = (kind_of e ≡ DisplayHelp) ⊎ (kind_of e ≡ DisplayVersion)
Tells e (ending.Misused text) = (kind_of e ≢ DisplayHelp) × (kind_of e ≢ DisplayVersion) ×
    (kind_of e ≢ OutOfMemory)
Tells e ending.OutOfMemory = Unit {0}
Tells e _ = Prim.⊥

-- No options are read: help or the version is asked for, the words have a mistake, or memory was
-- wanted.
abbrev pub IsNotRead : List Text → Ending → Type 0
IsNotRead words ending.OutOfMemory = Unit {0}
IsNotRead words e = (error : Error) × IsMisparsed words error × Tells error e
