-- Scripts in brackets: how long those are that stand in a script that was read.
use Rattle.std.specs.Prelude.{◌≡◌, ℕ, suc, ◌<◌, max, List, [], ◌∷◌, length}
use Rattle.tcl_parser.specs.Words.{WordRead, Reading}
use Rattle.tcl_parser.specs.Reading.{read_script}
use Rattle.tcl_parser.specs.declared.script.Part.{Part}
use Rattle.tcl_parser.specs.declared.script.Part.TheVariants.{Literal, Variable, Element}
use Rattle.tcl_parser.specs.declared.script.Part.TheVariants.{EndElement, Script}

-- how heavy a part is: a script in brackets by its length
abbrev pub part_weight : Part → ℕ
part_weight (Literal t) = 0
part_weight (Variable x) = 0
part_weight (Element x) = 0
part_weight EndElement = 0
part_weight (Script t) = suc (length t)

-- how heavy the heaviest of several things is
abbrev pub heaviest : {A : Type 0} → (A → ℕ) → List A → ℕ
heaviest w [] = 0
heaviest w (x ∷ xs) = max (w x) (heaviest w xs)

-- and so a word's parts, a command's words, and commands
abbrev pub parts_weight : List Part → ℕ
parts_weight ps = heaviest part_weight ps

abbrev pub word_weight : WordRead → ℕ
word_weight w = parts_weight w.parts

abbrev pub words_weight : List WordRead → ℕ
words_weight ws = heaviest word_weight ws

abbrev pub commands_weight : List (List WordRead) → ℕ
commands_weight cs = heaviest words_weight cs

-- a script
abbrev pub weight : Reading → ℕ
weight r = commands_weight r.commands

-- a text and what it was read as, with shorter texts in its brackets
pub record IsBracket (t : List ℕ) (r : Reading) : Type 0 where
  pub reads : r ≡ read_script t
  pub below : weight r < length t
