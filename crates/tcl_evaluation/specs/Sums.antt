-- What comes of sums that are counted, and of calls whose words are at hand.
use Rattle.std.specs.Prelude.{◌≡◌, ◌∷◌, [], List, Bool, Some}
use Rattle.tcl_core.specs.Paths.{Text, Path}
use Rattle.tcl_core.specs.Runs.{Ending}
use Rattle.tcl_core.specs.Trees.{Node}
use Rattle.tcl_interpreter.specs.declared.builtin.Builtin.{Builtin}
use Rattle.tcl_interpreter.specs.declared.command.Command.{Command}
use Rattle.tcl_interpreter.specs.declared.command.Command.TheVariants as command
use Rattle.tcl_language.specs.Scripts.{words}
use Rattle.tcl_run.specs.Language.{language}
use Rattle.tcl_parser.specs.Words.{Reading, WordRead}
use Rattle.tcl_prepared.specs.Views.{literal_word}
use Rattle.tcl_run.specs.Runs.{IsAt, IsThere, Proceeds, Ways}
use Rattle.tcl_text.specs.declared.integer.Integers.{Integers}
use Rattle.tcl_tree.specs.Own.{Own}
use Rattle.tcl_tree.specs.TreeOf.{tree_of}
use Rattle.tcl_tree.specs.declared.tree.Place.{Place}
use Rattle.tcl_tree.specs.declared.tree.Tree.{Tree as Table}
use Rattle.tcl_evaluation.specs.Hands.{AllEnd, IsCounted, IsNamed}
use Rattle.tcl_evaluation.specs.Scripts.{read_so}

-- each sum or answer that is at hand there is evaluated so far, to the end that its result has
abbrev pub Sums : {S : Type 0} → Ways S → Table → S → Place → Table → S → (Text → Ending) → Type 0
Sums ways old o place new z end = (p : Path) (style : Integers) (n : Node Own) →
    IsThere old place p style → tree_of old p ≡ Some n → (script : Reading) (text : Text) →
    IsCounted style n script text →
    Proceeds ways (language style) (tree_of old) o p (read_so script) (tree_of new) z (end text)

-- a command that the word names goes so far, from its step on, with these arguments
abbrev pub CallsNamed : {S : Type 0} → Ways S → Table → S → Place → Command → Text → List Text →
    Table → S → Ending → Type 0
CallsNamed ways old o place named word args new z e = (p : Path) (style : Integers)
    (n : Node Own) → IsAt old place p style → tree_of old p ≡ Some n → IsNamed n word named →
    Proceeds ways (language style) (tree_of old) o p (words [] (word ∷ args)) (tree_of new) z e

-- and so does a built-in one, by whatever word it is called
abbrev pub CallsBuiltin : {S : Type 0} → Ways S → Table → S → Place → Builtin → List Text →
    Table → S → Ending → Type 0
CallsBuiltin ways old o place builtin args new z e =
    (word : Text) → CallsNamed ways old o place (command.Builtin builtin) word args new z e

-- and so does each command whose words end so
abbrev pub CallsAtHand : {S : Type 0} → Ways S → Table → S → Place → Command → Text → Bool →
    List Text → Table → S → Ending → Type 0
CallsAtHand ways old o place named word sums args new z e = (p : Path) (style : Integers)
    (n : Node Own) → IsAt old place p style → tree_of old p ≡ Some n → IsNamed n word named →
    (ws : List WordRead) → AllEnd style n ws sums (word ∷ args) →
    Proceeds ways (language style) (tree_of old) o p (words ws []) (tree_of new) z e

-- and so does a built-in one whose words end so, by whatever word it is called
abbrev pub CallsBuiltinAtHand : {S : Type 0} → Ways S → Table → S → Place → Builtin → Bool →
    List Text → Table → S → Ending → Type 0
CallsBuiltinAtHand ways old o place builtin sums args new z e = (word : Text) →
    CallsAtHand ways old o place (command.Builtin builtin) word sums args new z e

-- and so does the command that a literal names in the interpreter, whose other words end so
abbrev pub CallsOnHand : {S : Type 0} → Ways S → Table → S → Place → Text → Bool → List Text →
    Table → S → Ending → Type 0
CallsOnHand ways old o place name sums args new z e = (p : Path) (style : Integers)
    (n : Node Own) → IsAt old place p style → tree_of old p ≡ Some n → (ws : List WordRead) →
    AllEnd style n ws sums args →
    Proceeds ways (language style) (tree_of old) o p (words (literal_word name ∷ ws) [])
    (tree_of new) z e
