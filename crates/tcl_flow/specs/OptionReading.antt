-- The options that the words of a return give.
use Rattle.std.specs.Prelude.{◌≡◌, ◌↔◌, ℕ, zero, suc, ◌+◌, length, ℤ, cond, List, [], ◌∷◌, ◌++◌}
use Rattle.std.specs.Prelude.{Option, Some, None, Result, Ok, Err, codes}
use Rattle.std.specs.Str.{bytes_eq}
use Rattle.tcl_text.specs.declared.integer.Integers.{Integers}
use Rattle.tcl_value.specs.Dicts.{Pairs, dict_of}
use Rattle.tcl_value.specs.declared.dict_fault.DictFault.{DictFault}
use Rattle.tcl_core.specs.Endings.{Options, Completion}
use Rattle.tcl_flow.specs.Returning.{Text, code_of, level_of, plain, raised, returned}
use Rattle.tcl_flow.specs.declared.returning.OptionsFault.{OptionsFault}
use Rattle.tcl_flow.specs.declared.returning.OptionsFault.TheVariants.{BadOption, BadCode}
use Rattle.tcl_flow.specs.declared.reading.OptionsError.{OptionsError}
use Rattle.tcl_flow.specs.declared.reading.OptionsError.TheVariants.{Memory, Fault}
use Rattle.tcl_flow.specs.declared.reading.OptionName.{OptionName}
use Rattle.tcl_flow.specs.declared.reading.OptionName.TheVariants.{Code, Level, Errorcode, Nested}
use Rattle.tcl_flow.specs.declared.reading.OptionName.TheVariants.{Other}

-- ## Words

-- the words of a return by twos, each an option's name and its value
abbrev pub options_in : List Text → Pairs
options_in [] = []
options_in (x ∷ []) = []
options_in (k ∷ v ∷ l) = (k, v) ∷ options_in l

-- the word that is left over is the result, which is empty where there is none
abbrev pub result_in : List Text → Text
result_in [] = []
result_in (x ∷ []) = x
result_in (k ∷ v ∷ l) = result_in l

-- ## One option

-- which option a name means; those that mean none are dropped with their values
abbrev pub option_name : Text → OptionName
option_name x = cond (bytes_eq x (codes "-code")) Code
    (cond (bytes_eq x (codes "-level")) Level
    (cond (bytes_eq x (codes "-errorcode")) Errorcode
    (cond (bytes_eq x (codes "-options")) Nested Other)))

-- What an option comes to: the options are then these, or these entries stand in its place.
pub data Meaning : Type 0 where
  sets : Options → Meaning
  stands_for : Pairs → Meaning

abbrev pub with_code : Option ℤ → Text → Options → Result Meaning OptionsFault
with_code (Some n) v o = Ok (sets (record { code = n; level = o.level; errorcode = o.errorcode }))
with_code None v o = Err (BadCode v)

abbrev pub with_level : Option ℕ → Text → Options → Result Meaning OptionsFault
with_level (Some n) v o = Ok (sets (record { code = o.code; level = n; errorcode = o.errorcode }))
with_level None v o = Err (BadOption v)

abbrev pub in_place : Result Pairs DictFault → Text → Result Meaning OptionsFault
in_place (Ok es) v = Ok (stands_for es)
in_place (Err f) v = Err (BadOption v)

-- an option of this value, over the options that were read before it
abbrev pub meaning : OptionName → Integers → Text → Options → Result Meaning OptionsFault
meaning Code style v o = with_code (code_of style v) v o
meaning Level style v o = with_level (level_of style v) v o
meaning Errorcode style v o = Ok (sets (record { code = o.code; level = o.level; errorcode = v }))
meaning Nested style v o = in_place (dict_of v) v
meaning Other style v o = Ok (sets o)

-- ## All of them

-- Options are read from the left, so that later ones win, and a dict of options as if its entries
-- stood there; the first that is refused is told.
pub data Reads (style : Integers) : Pairs → Options → Result Options OptionsFault → Type 0 where
  ended : (o : Options) → Reads style [] o (Ok o)
  set : (k v : Text) (rest : Pairs) (o p : Options) (r : Result Options OptionsFault) →
      meaning (option_name k) style v o ≡ Ok (sets p) → Reads style rest p r →
      Reads style ((k, v) ∷ rest) o r
  opened : (k v : Text) (rest es : Pairs) (o : Options) (r : Result Options OptionsFault) →
      meaning (option_name k) style v o ≡ Ok (stands_for es) → Reads style (es ++ rest) o r →
      Reads style ((k, v) ∷ rest) o r
  refused : (k v : Text) (rest : Pairs) (o : Options) (f : OptionsFault) →
      meaning (option_name k) style v o ≡ Err f → Reads style ((k, v) ∷ rest) o (Err f)

-- the words of a return make this completion
abbrev pub Makes : Integers → List Text → Completion → Type 0
Makes style l c = (o : Options) × Reads style (options_in l) plain (Ok o) ×
    (c ≡ returned (raised o) (result_in l))

-- ## Reading from the left

-- how much there is to read: the values, and one more for each
abbrev pub weight : Pairs → ℕ
weight [] = 0
weight (p ∷ ps) = suc (length p.1) + weight ps

-- on behind an option of this meaning
abbrev pub and_on : Result Meaning OptionsFault → Pairs → Options →
    (Pairs → Options → Result Options OptionsFault) → Result Options OptionsFault
and_on (Ok (sets p)) rest o go = go rest p
and_on (Ok (stands_for es)) rest o go = go (es ++ rest) o
and_on (Err f) rest o go = Err f

-- option after option; the number is at least as much as there is to read
abbrev pub read_within : ℕ → Integers → Pairs → Options → Result Options OptionsFault
read_within zero style ps o = Ok o
read_within (suc n) style [] o = Ok o
read_within (suc n) style (p ∷ rest) o = and_on (meaning (option_name p.0) style p.1 o) rest o
    (read_within n style)

-- what the options come to, over those that were read before them
abbrev pub read_over : Integers → Pairs → Options → Result Options OptionsFault
read_over style ps o = read_within (weight ps) style ps o

abbrev pub made_with : Text → Result Options OptionsFault → Result Completion OptionsFault
made_with text (Ok o) = Ok (returned (raised o) text)
made_with text (Err f) = Err f

-- the completion that the words of a return make, or the first refusal
abbrev pub return_of : Integers → List Text → Result Completion OptionsFault
return_of style l = made_with (result_in l) (read_over style (options_in l) plain)

-- ## Answers

-- what is told is a refusal of which this holds, or memory ran out
abbrev pub IsRefused : OptionsError → (OptionsFault → Type 0) → Type 0
IsRefused Memory P = Unit {0}
IsRefused (Fault f) P = P f

-- after the option the options are these, or these entries are to stand in its place
abbrev pub Gave : Option Pairs → Options → Options → Result Meaning OptionsFault → Type 0
Gave None p o m = m ≡ Ok (sets p)
Gave (Some es) p o m = (m ≡ Ok (stands_for es)) × (p ≡ o)

-- ## Laws

-- there is one way to read them
abbrev pub OneReading : Type 0
OneReading = (style : Integers) (ps : Pairs) (o : Options) (r q : Result Options OptionsFault) →
    Reads style ps o r → Reads style ps o q → r ≡ q

-- and there is a way to read them
abbrev pub SomeReading : Type 0
SomeReading = (style : Integers) (ps : Pairs) (o : Options) → (r : Result Options OptionsFault) ×
    Reads style ps o r

-- The functions say what the relations say.
abbrev pub ReadsSo : Type 0
ReadsSo = (style : Integers) (ps : Pairs) (o : Options) (r : Result Options OptionsFault) →
    (read_over style ps o ≡ r) ↔ Reads style ps o r

abbrev pub MakesSo : Type 0
MakesSo = (style : Integers) (l : List Text) (c : Completion) →
    (return_of style l ≡ Ok c) ↔ Makes style l c
