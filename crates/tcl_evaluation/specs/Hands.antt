-- Words, expressions and commands that are at hand in an interpreter: what they come to is known
-- without an evaluation.
use Rattle.std.specs.Prelude.{◌≡◌, ◌⊎◌, Bool, true, false, ℤ, List, [], ◌∷◌, ◌++◌, Option}
use Rattle.std.specs.Prelude.{Some, None, Ok}
use Rattle.std.specs.Fmt.{signed_decimal}
use Rattle.tcl_commands.specs.Named.{builtin_of, words_of}
use Rattle.tcl_commands.specs.Entries as entries
use Rattle.tcl_commands.specs.declared.entries.EntryChange.{EntryChange}
use Rattle.tcl_commands.specs.declared.named.VariableChange.{VariableChange}
use Rattle.tcl_core.specs.Endings.{ok}
use Rattle.tcl_core.specs.Paths.{Text, Path}
use Rattle.tcl_core.specs.Programs.Prog.{done}
use Rattle.tcl_core.specs.Trees.{Node}
use Rattle.tcl_expr.specs.declared.tree.ExprTree.{ExprTree}
use Rattle.tcl_frames.specs.Chain.{read}
use Rattle.tcl_frames.specs.Places.{Levels}
use Rattle.tcl_interpreter.specs.declared.builtin.Builtin.{Builtin}
use Rattle.tcl_interpreter.specs.declared.builtin.Builtin.TheVariants.{Expr}
use Rattle.tcl_interpreter.specs.declared.command.Command.{Command}
use Rattle.tcl_interpreter.specs.declared.command.Command.TheVariants as command
use Rattle.tcl_language.specs.Instructions.{fits}
use Rattle.tcl_language.specs.Scripts.{element_text}
use Rattle.tcl_language.specs.Table.{builtin}
use Rattle.tcl_language.specs.Words.{concat}
use Rattle.tcl_expression_evaluation.specs.AtHand.{IsNumberAtHand}
use Rattle.tcl_parser.specs.Reading.{read_script}
use Rattle.tcl_parser.specs.Words.{WordRead, Reading}
use Rattle.tcl_parser.specs.declared.script.Part.{Part}
use Rattle.tcl_parser.specs.declared.script.Part.TheVariants.{Literal, Variable, Script}
use Rattle.tcl_parser.specs.declared.script.Part.TheVariants.{Element, EndElement}
use Rattle.tcl_prepared.specs.Views.{literal_word}
use Rattle.tcl_text.specs.declared.integer.Integers.{Integers}
use Rattle.tcl_tree.specs.Own.{Own}
use Rattle.tcl_tree.specs.TreeOf.{tree_of, marks_of, Names}
use Rattle.tcl_tree.specs.declared.tree.Place.{Place}
use Rattle.tcl_tree.specs.declared.tree.Tree.{Tree as Table}
use Rattle.tcl_value.specs.Texts.{AllWithin}
use Rattle.tcl_calls.specs.Expressions.{IsKept}
use Rattle.tcl_calls.specs.Found.{found}

-- ## Words

-- the part stands for the text: it is that text, or a variable that holds it
abbrev pub PartStands : Levels → Part → Text → Type 0
PartStands frames (Literal more) text = more ≡ text
PartStands frames (Variable name) text = read frames name ≡ Ok text
PartStands frames other text = Prim.⊥

-- what the part stands for comes behind a text
abbrev pub PartAdds : Levels → Part → Text → Text → Type 0
PartAdds frames part before after = (text : Text) × (after ≡ before ++ text) ×
    PartStands frames part text

-- the parts stand, one behind the other, for the text
abbrev pub PartsStand : Levels → List Part → Text → Type 0
PartsStand frames [] text = text ≡ []
PartsStand frames (part ∷ parts) text = (first : Text) × (rest : Text) × (text ≡ first ++ rest) ×
    PartStands frames part first × PartsStand frames parts rest

-- The parts are those of one element of an array, which holds the text, and its key is a text or a
-- variable.
pub record ElementStands (frames : Levels) (parts : List Part) (text : Text) : Type 0 where
  pub array : Text
  pub part : Part
  pub key : Text
  pub are : parts ≡ Element array ∷ part ∷ EndElement ∷ []
  pub stands : PartStands frames part key
  pub short : fits key ≡ true
  pub holds : read frames (element_text array key) ≡ Ok text

-- the parts are texts and variables, or an element of an array, and stand for the text
abbrev pub WordStands : Levels → List Part → Text → Type 0
WordStands frames parts text = PartsStand frames parts text ⊎ ElementStands frames parts text

-- the word isn't spread, and its parts stand for the text
pub record StandsFor (frames : Levels) (word : WordRead) (text : Text) : Type 0 where
  pub single : word.expand ≡ false
  pub short : fits text ≡ true
  pub by : WordStands frames word.parts text

-- and so where its parts are texts and variables
pub record StandsPlainly (frames : Levels) (word : WordRead) (text : Text) : Type 0 where
  pub single : word.expand ≡ false
  pub short : fits text ≡ true
  pub by : PartsStand frames word.parts text

-- each word stands for the text at its place
abbrev pub AllStand : Levels → List WordRead → List Text → Type 0
AllStand frames [] [] = Unit {0}
AllStand frames [] (t ∷ texts) = Prim.⊥
AllStand frames (w ∷ words) [] = Prim.⊥
AllStand frames (w ∷ words) (t ∷ texts) = StandsFor frames w t × AllStand frames words texts

-- ## Commands

-- a word names a command in the interpreter
abbrev pub IsNamed : Node Own → Text → Command → Type 0
IsNamed n word named = found n word ≡ Ok named

-- ## Sums: scripts that are one `expr` of numbers at hand

-- The script is one command of two words that stand for themselves: the first names `expr`, and the
-- second is an expression of numbers at hand, which comes to the text.
pub record IsSum (style : Integers) (n : Node Own) (script : Reading) (text : Text) : Type 0 where
  pub word : Text
  pub argument : Text
  pub is : script ≡ record {
    commands = (literal_word word ∷ literal_word argument ∷ []) ∷ [];
    fault = None;
  }
  pub within : AllWithin (word ∷ argument ∷ [])
  pub named : IsNamed n word (command.Builtin Expr)
  pub short : fits (concat (argument ∷ [])) ≡ true
  pub kept : ExprTree
  pub is_kept : IsKept style (concat (argument ∷ [])) kept
  pub number : ℤ
  pub at_hand : IsNumberAtHand n.own.chain.frames style kept.nodes.items number
  pub comes : text ≡ signed_decimal number

-- and so in the interpreter that a place names
abbrev pub IsSumIn : Table → Place → Reading → Text → Type 0
IsSumIn t place script text = (p : Path) (n : Node Own) → Names t place p → tree_of t p ≡ Some n →
    IsSum (marks_of t).integers n script text

-- ## Answers: scripts that are one command, which ends at once with a text

-- a built-in command with these words does nothing but end with the text
abbrev pub IsAnswer : Integers → Builtin → List Text → Text → Type 0
IsAnswer style called args text = builtin style called args ≡ done (ok text)

-- The script is one command: a word that stands for itself names a built-in one, which with what
-- the other words stand for ends with the text.
pub record IsAnswered (style : Integers) (n : Node Own) (script : Reading) (text : Text) :
    Type 0 where
  pub word : Text
  pub called : Builtin
  pub rest : List WordRead
  pub args : List Text
  pub is : script ≡ record {
    commands = (literal_word word ∷ rest) ∷ [];
    fault = None;
  }
  pub short : fits word ≡ true
  pub named : IsNamed n word (command.Builtin called)
  pub stand : AllStand n.own.chain.frames rest args
  pub answer : IsAnswer style called args text

-- and so in the interpreter that a place names
abbrev pub IsAnsweredIn : Table → Place → Reading → Text → Type 0
IsAnsweredIn t place script text = (p : Path) (n : Node Own) → Names t place p →
    tree_of t p ≡ Some n → IsAnswered (marks_of t).integers n script text

-- ## Scripts in brackets of which only a level and a step are left to count

-- the script is a sum or an answer, which comes to the text
abbrev pub IsCounted : Integers → Node Own → Reading → Text → Type 0
IsCounted style n script text = IsSum style n script text ⊎ IsAnswered style n script text

-- and so in the interpreter that a place names
abbrev pub IsCountedIn : Table → Place → Reading → Text → Type 0
IsCountedIn t place script text = (p : Path) (n : Node Own) → Names t place p →
    tree_of t p ≡ Some n → IsCounted (marks_of t).integers n script text

-- the word is a script in brackets that is a sum or an answer, which comes to the text
abbrev pub IsCountedWord : Integers → Node Own → WordRead → Text → Type 0
IsCountedWord style n word text = (word.expand ≡ false) × (fits text ≡ true) × (inner : Text) ×
    (word.parts ≡ Script inner ∷ []) × IsCounted style n (read_script inner) text

-- The word isn't spread, and it stands for the text, as one that is at hand or as the result of a
-- sum or an answer in brackets.
abbrev pub EndsAs : Integers → Node Own → WordRead → Bool → Text → Type 0
EndsAs style n word false text = StandsFor n.own.chain.frames word text
EndsAs style n word true text = IsCountedWord style n word text

-- and so in the interpreter that a place names
abbrev pub EndsIn : Table → Place → WordRead → Bool → Text → Type 0
EndsIn t place word sums text = (p : Path) (n : Node Own) → Names t place p →
    tree_of t p ≡ Some n → EndsAs (marks_of t).integers n word sums text

-- the interpreter that a place names has the own part that it had
abbrev pub KeepsOwn : Table → Table → Place → Type 0
KeepsOwn old new place = (p : Path) (n : Node Own) → Names old place p → tree_of old p ≡ Some n →
    (m : Node Own) × (tree_of new p ≡ Some m) × (m.own ≡ n.own)

-- ## The words of calls

-- Each word stands for the text at its place, but that one is a sum or an answer in brackets where
-- it is told.
abbrev pub AllEnd : Integers → Node Own → List WordRead → Bool → List Text → Type 0
AllEnd style n [] sums [] = sums ≡ false
AllEnd style n [] sums (t ∷ texts) = Prim.⊥
AllEnd style n (w ∷ words) sums [] = Prim.⊥
AllEnd style n (w ∷ words) sums (t ∷ texts) =
    (StandsFor n.own.chain.frames w t × AllEnd style n words sums texts) ⊎
    ((sums ≡ true) × IsCountedWord style n w t × AllStand n.own.chain.frames words texts)

-- whether one of two is told, unless both are
abbrev pub one_of : Bool → Bool → Option Bool
one_of true true = None
one_of true false = Some true
one_of false other = Some other

-- ## Changes of variables

-- These are the words of a command that makes a change of the variable of a name, in the
-- interpreter that a place names, and each stands for its text.
abbrev pub IsChangeIn : Table → Place → List WordRead → Text → VariableChange → Bool → Type 0
IsChangeIn t place ws name change sums = (word : Text) × ((p : Path) (n : Node Own) →
    Names t place p → tree_of t p ≡ Some n → IsNamed n word (command.Builtin (builtin_of change)) ×
    AllEnd (marks_of t).integers n ws sums (word ∷ name ∷ words_of change))

-- ## Changes of entries

-- The word names a command that makes a change of an entry of what the variable of a name holds, in
-- the interpreter that a place names, and each word behind it stands for its text.
abbrev pub IsEntryChangeIn : Table → Place → Text → List WordRead → Text → EntryChange → Bool →
    Type 0
IsEntryChangeIn t place word ws name change sums = (p : Path) (n : Node Own) → Names t place p →
    tree_of t p ≡ Some n → IsNamed n word (command.Builtin (entries.builtin_of change)) ×
    AllEnd (marks_of t).integers n ws sums (entries.words_of name change)
