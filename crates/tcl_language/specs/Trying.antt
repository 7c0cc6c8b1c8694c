-- `try`: which handler handles a completion, and what comes of it. (try(n))
use Rattle.std.specs.Ordering.{int_eq}
use Rattle.std.specs.Prelude.{ℤ, pos, suc, zero, Bool, true, false, ◌&&◌, List, [], ◌∷◌}
use Rattle.std.specs.Prelude.{Option, Some, None, Result, Ok, Err, codes}
use Rattle.std.specs.Str.{bytes_eq}
use Rattle.tcl_core.specs.Paths.{Text}
use Rattle.tcl_core.specs.Endings.{Completion}
use Rattle.tcl_core.specs.Programs.Prog.{done, go}
use Rattle.tcl_flow.specs.Returning.{code_of, options_message}
use Rattle.tcl_flow.specs.declared.returning.OptionsFault.TheVariants.{BadCode}
use Rattle.tcl_text.specs.declared.integer.Integers.{Integers}
use Rattle.tcl_text.specs.declared.list.ListFault.{ListFault}
use Rattle.tcl_text.specs.Lists.{list_of}
use Rattle.tcl_text.specs.Writing.{fault_message}
use Rattle.tcl_words.specs.Outcomes.{next}
use Rattle.tcl_language.specs.Control.{options_text}
use Rattle.tcl_language.specs.Expressions.{runs_last}
use Rattle.tcl_language.specs.Faults.{wrong_args}
use Rattle.tcl_language.specs.Instructions.{Handler, Handles, Program, either, fails, grown, on_ok}
use Rattle.tcl_language.specs.Instructions.{or_fails}
use Rattle.tcl_language.specs.Instructions.Handles.{of_code, of_errors}
use Rattle.tcl_language.specs.Instructions.Instr.{Script, Handled}
use Rattle.tcl_language.specs.Variables.{sets}

-- ## Which handler

-- a list begins with these elements
abbrev pub begins : List Text → List Text → Bool
begins [] xs = true
begins (p ∷ ps) [] = false
begins (p ∷ ps) (x ∷ xs) = bytes_eq p x && begins ps xs

-- a text that is no list begins with none
abbrev pub begins_read : List Text → Result (List Text) ListFault → Bool
begins_read pattern (Ok xs) = begins pattern xs
begins_read pattern (Err f) = false

abbrev pub is_error : ℤ → Bool
is_error (pos (suc zero)) = true
is_error n = false

-- whether such a handler handles a completion: one with its code, or an error whose errorcode
-- begins with its elements
abbrev pub is_handled : Completion → Handles → Bool
is_handled c (of_code code) = int_eq c.code code
is_handled c (of_errors pattern) = is_error c.code && begins_read pattern
    (list_of c.options.errorcode)

-- the first script that isn't `-`; where there is none, nothing
abbrev pub first_script : List Handler → Option Text
first_script [] = None
first_script (h ∷ hs) = either (bytes_eq h.script (codes "-")) (first_script hs) (Some h.script)

-- what was caught is kept in the variables of the first two of these names, and on
abbrev pub keeps : List Text → Completion → Program → Program
keeps [] c k = k
keeps (result ∷ []) c k = sets result c.text k
keeps (result ∷ options ∷ rest) c k = sets result c.text
    (grown (options_text c) (λ text. sets options text k))

-- The first handler that handles a completion sets its variables and runs its script; where none
-- does, the completion is what it was.
abbrev pub handled_by : Completion → List Handler → Program
handled_by c [] = done c
handled_by c (h ∷ hs) = either (is_handled c h.handles)
    (or_fails fault_message (list_of h.names)
    (λ xs. keeps xs c (runs_last (first_script (h ∷ hs)))))
    (handled_by c hs)

-- a body, and what its handlers make of its completion
abbrev pub handled : Text → List Handler → Program
handled body handlers = go (Script body) (λ c. handled_by c handlers)

-- ## Words

abbrev pub try_form : Text
try_form = codes "try body ?handler ...? ?finally script?"

-- the handlers behind a body, and a last script, if there is one
pub record Tried : Type 0 where
  pub handlers : List Handler
  pub last : Option Text

abbrev pub led_by : Handler → Tried → Tried
led_by h t = record { handlers = h ∷ t.handlers; last = t.last }

abbrev pub alone : Option Text → Tried
alone last = record { handlers = []; last = last }

abbrev pub code_or : Text → Option ℤ → Result Handles Text
code_or word (Some n) = Ok (of_code n)
code_or word None = Err (options_message (BadCode word))

abbrev pub pattern_or : Result (List Text) ListFault → Result Handles Text
pattern_or (Ok xs) = Ok (of_errors xs)
pattern_or (Err f) = Err (fault_message f)

-- what the first two words of a handler say
abbrev pub handles_of : Integers → Text → Text → Result Handles Text
handles_of style word what = either (bytes_eq word (codes "on"))
    (code_or what (code_of style what))
    (either (bytes_eq word (codes "trap")) (pattern_or (list_of what)) (Err (wrong_args try_form)))

-- handlers are read from the left
abbrev pub tried_of : Integers → List Text → Result Tried Text
tried_of style [] = Ok (alone None)
tried_of style (word ∷ []) = Err (wrong_args try_form)
tried_of style (word ∷ script ∷ []) = either (bytes_eq word (codes "finally"))
    (Ok (alone (Some script))) (Err (wrong_args try_form))
tried_of style (word ∷ a ∷ b ∷ []) = Err (wrong_args try_form)
tried_of style (word ∷ what ∷ names ∷ script ∷ words) =
    next (handles_of style word what) (λ handles.
    next (tried_of style words) (λ rest.
    Ok (led_by (record { handles = handles; names = names; script = script }) rest)))

-- A last script runs whatever the completion, of the body or of its handler, was; it takes its
-- place where it doesn't end ordinarily itself.
abbrev pub finishes : Text → List Handler → Option Text → Program
finishes body handlers None = go (Handled body handlers) done
finishes body handlers (Some last) = go (Handled body handlers)
    (λ c. go (Script last) (on_ok (λ text. done c)))

-- `try body ?handler ...? ?finally script?`: the words are read first. Stops and exits it is never
-- told of.
abbrev pub try_script : Integers → List Text → Program
try_script style [] = fails (wrong_args try_form)
try_script style (body ∷ words) = or_fails (λ message. message) (tried_of style words)
    (λ t. finishes body t.handlers t.last)
