-- `array`, which reads and changes whole arrays. What is no array reads as one with no elements.
use Rattle.std.specs.Prelude.{List, [], ◌∷◌, length, Option, Some, None, Result, codes}
use Rattle.std.specs.Fmt.{decimal}
use Rattle.std.specs.Map.{keys_of}
use Rattle.std.specs.Str.{bytes_eq}
use Rattle.tcl_core.specs.Paths.{Text}
use Rattle.tcl_core.specs.Endings.{ok}
use Rattle.tcl_core.specs.Programs.Prog.{done}
use Rattle.tcl_frames.specs.Arrays.{after_set_elements, after_unset_elements, is_found, of_elements}
use Rattle.tcl_frames.specs.Chain.{array_at}
use Rattle.tcl_frames.specs.Places.{Levels}
use Rattle.tcl_frames.specs.VariableArrays.{Elements, taken}
use Rattle.tcl_frames.specs.declared.fault.FrameFault.{FrameFault}
use Rattle.tcl_text.specs.Lists.{list_of}
use Rattle.tcl_text.specs.Messages.{missing_value}
use Rattle.tcl_text.specs.Writing.{fault_message, written_list}
use Rattle.tcl_language.specs.Instructions.{Program, either, fails, gives, or_fails, look}
use Rattle.tcl_language.specs.Faults.{frame_message, wrong_args, unknown_subcommand}
use Rattle.tcl_language.specs.Inspection.{answer}
use Rattle.tcl_language.specs.Variables.{chain_becomes, is_odd}

-- on with what is read of the variables, or the error that says why nothing is
abbrev pub reads : {A : Type 0} → (Levels → Result A FrameFault) → (A → Program) → Program
reads read k = look (λ n. or_fails frame_message (read n.own.chain.frames) k)

-- ## What an array has

-- `array exists arrayName`
abbrev pub exists : List Text → Program
exists (name ∷ []) = reads (λ fs. is_found (array_at fs name)) answer
exists _ = fails (wrong_args (codes "array exists arrayName"))

-- `array size arrayName`
abbrev pub size : List Text → Program
size (name ∷ []) = reads (λ fs. of_elements length (array_at fs name))
    (λ count. done (ok (decimal count)))
size _ = fails (wrong_args (codes "array size arrayName"))

-- the words of a subcommand that takes a name, and perhaps a pattern
abbrev pub name_and_pattern : List Text → Option (Text × Option Text)
name_and_pattern (name ∷ []) = Some (name, None)
name_and_pattern (name ∷ pattern ∷ []) = Some (name, Some pattern)
name_and_pattern _ = None

abbrev pub with_words : Text → Option (Text × Option Text) → (Text → Option Text → Program) →
    Program
with_words form None k = fails (wrong_args form)
with_words form (Some words) k = k words.0 words.1

-- the keys and values of elements in turn
abbrev pub in_turn : Elements → List Text
in_turn [] = []
in_turn (e ∷ es) = e.0 ∷ e.1 ∷ in_turn es

-- the list of the keys and values whose keys a pattern takes, in the order of the array
abbrev pub pairs_listed : Text → Option Text → Program
pairs_listed name pattern = reads (λ fs. of_elements (taken pattern) (array_at fs name))
    (λ es. gives (written_list (in_turn es)))

-- `array get arrayName ?pattern?`
abbrev pub get : List Text → Program
get args = with_words (codes "array get arrayName ?pattern?") (name_and_pattern args) pairs_listed

-- the list of the keys that a pattern takes, in that order
abbrev pub keys_listed : Text → Option Text → Program
keys_listed name pattern = reads
    (λ fs. of_elements (λ es. keys_of (taken pattern es)) (array_at fs name))
    (λ keys. gives (written_list keys))

-- `array names arrayName ?pattern?`
abbrev pub names : List Text → Program
names args = with_words (codes "array names arrayName ?pattern?") (name_and_pattern args)
    keys_listed

-- ## Changes

-- the elements whose keys a pattern takes are unset, or the array where there is no pattern
abbrev pub unsets : Text → Option Text → Program
unsets name pattern = look
    (λ n. chain_becomes n.own (after_unset_elements n.own.chain name pattern) (done (ok [])))

-- `array unset arrayName ?pattern?`
abbrev pub unset : List Text → Program
unset args = with_words (codes "array unset arrayName ?pattern?") (name_and_pattern args) unsets

-- the elements whose keys and values stand in turn
abbrev pub in_pairs : List Text → Elements
in_pairs (key ∷ value ∷ rest) = (key, value) ∷ in_pairs rest
in_pairs _ = []

-- elements are set, all of them or none; with none of them the array is made all the same
abbrev pub sets_elements : Text → Elements → Program
sets_elements name es = look
    (λ n. chain_becomes n.own (after_set_elements n.own.chain name es) (done (ok [])))

-- the elements of a list of keys and values in turn are set
abbrev pub sets_list : Text → Text → Program
sets_list name list = or_fails fault_message (list_of list)
    (λ words. either (is_odd words) (fails missing_value) (sets_elements name (in_pairs words)))

-- `array set arrayName list`: the name is looked up before the list is read
abbrev pub set : List Text → Program
set (name ∷ list ∷ []) = reads (λ fs. is_found (array_at fs name)) (λ found. sets_list name list)
set _ = fails (wrong_args (codes "array set arrayName list"))

-- ## Subcommands

abbrev pub chosen : Text → List Text → Program
chosen word args =
    either (bytes_eq word (codes "exists")) (exists args)
    (either (bytes_eq word (codes "get")) (get args)
    (either (bytes_eq word (codes "names")) (names args)
    (either (bytes_eq word (codes "set")) (set args)
    (either (bytes_eq word (codes "size")) (size args)
    (either (bytes_eq word (codes "unset")) (unset args)
    (fails (unknown_subcommand word)))))))

-- `array subcommand ?arg ...?`
abbrev pub array : List Text → Program
array [] = fails (wrong_args (codes "array subcommand ?arg ...?"))
array (word ∷ args) = chosen word args
