-- What a script, a command and a word mean.
use Rattle.std.specs.Prelude.{Bool, true, false, List, [], ◌∷◌, ◌++◌, Option, Some, None, codes}
use Rattle.tcl_core.specs.Paths.{Text}
use Rattle.tcl_core.specs.Endings.{ok}
use Rattle.tcl_core.specs.Programs.Act.{Charge}
use Rattle.tcl_core.specs.Programs.Wrap.{Deeper}
use Rattle.tcl_core.specs.Programs.Prog.{done, act, go, inside}
use Rattle.tcl_frames.specs.Chain.{read}
use Rattle.tcl_parser.specs.declared.fault.Fault.{Fault}
use Rattle.tcl_parser.specs.declared.script.Part.{Part}
use Rattle.tcl_parser.specs.declared.script.Part.TheVariants as part
use Rattle.tcl_parser.specs.Words.{WordRead}
use Rattle.tcl_parser.specs.Reading.{read_script}
use Rattle.tcl_parser.specs.Faults.{message_of}
use Rattle.tcl_text.specs.Lists.{list_of}
use Rattle.tcl_text.specs.Writing.{fault_message}
use Rattle.tcl_language.specs.Instructions.{Open, Program, fails, grown, on_ok, or_fails, look}
use Rattle.tcl_language.specs.Instructions.Instr.{Script, Commands, Words, Parts, Call}
use Rattle.tcl_language.specs.Faults.{frame_message}

-- `a(k)`
abbrev pub element_text : Text → Text → Text
element_text name key = name ++ codes "(" ++ key ++ codes ")"

-- on with what a variable holds
abbrev pub reads : Text → (Text → Program) → Program
reads name k = look (λ n. or_fails frame_message (read n.own.chain.frames name) k)

-- on with the words that the text of a word stands for: `{*}` makes its elements words
abbrev pub spread : Bool → Text → (List Text → Program) → Program
spread true text k = or_fails fault_message (list_of text) k
spread false text k = k (text ∷ [])

-- A script is read whole, and runs one level deeper.
abbrev pub script : Text → Program
script text = inside Deeper (Commands (read_script text).commands (read_script text).fault []) done

-- After its last command comes its fault, which is the error; else its result is the last
-- command's.
abbrev pub over : Option Fault → Text → Program
over None last = done (ok last)
over (Some fault) last = fails (message_of fault)

-- The first command that isn't ok ends it.
abbrev pub commands : List (List WordRead) → Option Fault → Text → Program
commands [] fault last = over fault last
commands (words ∷ rest) fault last = go (Words words [])
    (on_ok (λ text. go (Commands rest fault text) done))

-- A command makes its step once its words are there, and before its name is looked up. One that has
-- no words is none.
abbrev pub charged : List Text → Program
charged [] = done (ok [])
charged (word ∷ words) = act Charge (λ T. go (Call (word ∷ words)) done)

-- Words are substituted from the left.
abbrev pub words : List WordRead → List Text → Program
words [] before = charged before
words (word ∷ rest) before = go (Parts word.parts [] [])
    (on_ok (λ text. spread word.expand text (λ more. go (Words rest (before ++ more)) done)))

-- the value of the element whose key is there goes to the word's text before it
abbrev pub closed : List Open → Text → List Part → Program
closed [] key rest = done (ok key)
closed (element ∷ elements) key rest =
    reads (element_text element.name key)
    (λ value. grown (element.before ++ value) (λ all. go (Parts rest elements all) done))

-- The parts of a word are substituted from the left, once.
abbrev pub parts : List Part → List Open → Text → Program
parts [] elements before = done (ok before)
parts (part.Literal more ∷ rest) elements before = grown (before ++ more)
    (λ all. go (Parts rest elements all) done)
parts (part.Variable name ∷ rest) elements before = reads name
    (λ value. grown (before ++ value) (λ all. go (Parts rest elements all) done))
parts (part.Element name ∷ rest) elements before = go
    (Parts rest (record { name = name; before = before } ∷ elements) []) done
parts (part.EndElement ∷ rest) elements key = closed elements key rest
parts (part.Script text ∷ rest) elements before =
    go (Script text) (on_ok
    (λ value. grown (before ++ value) (λ all. go (Parts rest elements all) done)))
