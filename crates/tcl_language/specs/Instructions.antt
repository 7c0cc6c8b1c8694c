-- What can be going on inside an interpreter, and how its programs are put together.
use Rattle.std.specs.Prelude.{ℕ, zero, suc, ℤ, pos, negsuc, Bool, true, false, List, [], Option}
use Rattle.std.specs.Prelude.{Some, None, Result, Ok, Err, length, nat_le}
use Rattle.tcl_core.specs.Paths.{Text}
use Rattle.tcl_core.specs.Endings.{Completion, ok, error}
use Rattle.tcl_core.specs.Entries.{Entry}
use Rattle.tcl_core.specs.Trees.{Node}
use Rattle.tcl_core.specs.Programs.{Prog}
use Rattle.tcl_core.specs.Programs.Act.{Look, Change}
use Rattle.tcl_core.specs.Programs.Prog.{done, act}
use Rattle.tcl_frames.specs.Chain.{Chain}
use Rattle.tcl_parser.specs.declared.fault.Fault.{Fault}
use Rattle.tcl_parser.specs.declared.script.Part.{Part}
use Rattle.tcl_parser.specs.Words.{WordRead}
use Rattle.tcl_tree.specs.Own.{Own}
use Rattle.tcl_text.specs.Messages as messages

-- an element whose key is being substituted: its name, and the word's text before it
pub record Open : Type 0 where
  pub name : Text
  pub before : Text

-- the variables that a loop sets at each turn, and the elements that are left for them
pub record Walk : Type 0 where
  pub names : List Text
  pub left : List Text

-- What a handler of `try` handles: the completions of a code, or the errors whose errorcode begins
-- with these elements.
pub data Handles : Type 0 where
  of_code : (code : ℤ) → Handles
  of_errors : (pattern : List Text) → Handles

-- a handler: the list of the variables that it sets, which is read when it runs, and its script
pub record Handler : Type 0 where
  pub handles : Handles
  pub names : Text
  pub script : Text

pub data Instr : Type 0 where
  -- a script, one level deeper
  Script : (text : Text) → Instr
  -- the commands that are left of a script, with the fault after them, after one that gave a text
  Commands : (commands : List (List WordRead)) (fault : Option Fault) (last : Text) → Instr
  -- the words that are left of a command, after those that were substituted
  Words : (words : List WordRead) (before : List Text) → Instr
  -- the parts that are left of a word, within elements, after a text
  Parts : (parts : List Part) (elements : List Open) (before : Text) → Instr
  -- a command whose words are there and whose step is made
  Call : (words : List Text) → Instr
  -- the same, one level deeper
  Target : (words : List Text) → Instr
  -- a hidden command whose step is made, at level 0 where that is asked for, one level deeper; and
  -- then by itself
  Invoke : (is_global : Bool) (words : List Text) → Instr
  Hidden : (is_global : Bool) (words : List Text) → Instr
  -- the turns that are left of a loop over lists; and of one that keeps what its body gave, with
  -- what it gave before
  Foreach : (walks : List Walk) (body : Text) → Instr
  Lmap : (walks : List Walk) (body : Text) (made : List Text) → Instr
  -- an expression, whose value is wanted
  Expression : (text : Text) → Instr
  -- the turns that are left of a loop with a condition, and of one that has a script between two
  -- turns
  While : (test body : Text) → Instr
  For : (test next body : Text) → Instr
  -- a script whose completion its handlers are told of
  Handled : (body : Text) (handlers : List Handler) → Instr
  -- what another interpreter could ask for, asked by the interpreter itself
  Serve : (entry : Entry) → Instr

abbrev pub Program : Type 0
Program = Prog Own Instr

-- the limit of a text, in bytes
abbrev pub max_text : ℕ
max_text = 16777216

abbrev pub either : {A : Type 0} → Bool → A → A → A
either true a b = a
either false a b = b

abbrev pub fits : Text → Bool
fits text = nat_le (length text) max_text

abbrev pub too_long : Completion
too_long = error messages.too_long

-- an ordinary result, or that it is too long
abbrev pub gives : Text → Program
gives text = done (either (fits text) (ok text) too_long)

-- an error, or that its text is too long
abbrev pub fails : Text → Program
fails text = done (either (fits text) (error text) too_long)

-- on with a text, where it isn't too long
abbrev pub grown : Text → (Text → Program) → Program
grown text k = either (fits text) (k text) (done too_long)

-- on with the text of an ordinary completion; any other is the program's own
abbrev pub on_code : ℤ → (Text → Program) → Completion → Program
on_code (pos zero) k c = k c.text
on_code (pos (suc n)) k c = done c
on_code (negsuc n) k c = done c

abbrev pub on_ok : (Text → Program) → Completion → Program
on_ok k c = on_code c.code k c

-- on with what a reading gave, or the error that says why it gave none
abbrev pub or_fails : {A F : Type 0} → (F → Text) → Result A F → (A → Program) → Program
or_fails message (Ok a) k = k a
or_fails message (Err f) k = fails (message f)

-- on with the interpreter as it stands (a program runs only where one stands)
abbrev pub at_node : (Node Own → Program) → Option (Node Own) → Program
at_node k None = done (ok [])
at_node k (Some n) = k n

abbrev pub look : (Node Own → Program) → Program
look k = act Look (λ T. at_node k (T []))

-- the own part becomes this, and on
abbrev pub change : Own → Program → Program
change own k = act (Change own) (λ T. k)

abbrev pub with_chain : Own → Chain → Own
with_chain own chain = record own { chain = chain }
