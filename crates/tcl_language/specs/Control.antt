-- The commands that evaluate scripts in their own interpreter, and those that only end one.
use Rattle.std.specs.Prelude.{ℕ, zero, suc, ℤ, pos, negsuc, Bool, true, false, List, [], ◌∷◌, ◌++◌}
use Rattle.std.specs.Prelude.{Option, Some, None, Result, Ok, Err, codes, ◌&&◌}
use Rattle.std.specs.Fmt.{signed_decimal}
use Rattle.std.specs.Str.{bytes_eq}
use Rattle.tcl_core.specs.Paths.{Text}
use Rattle.tcl_core.specs.Endings.{Completion, ok, completion, leave_proc}
use Rattle.tcl_core.specs.Programs.Act.{Charge}
use Rattle.tcl_core.specs.Programs.Wrap.{Framed}
use Rattle.tcl_core.specs.Programs.Prog.{done, act, go, inside}
use Rattle.tcl_frames.specs.Chain.{Chain, after_set, set_aside, brought_back, pushed, popped}
use Rattle.tcl_frames.specs.declared.fault.FrameFault.{FrameFault}
use Rattle.tcl_flow.specs.Returning.{caught, shown, options_message}
use Rattle.tcl_flow.specs.OptionReading.{return_of}
use Rattle.tcl_text.specs.declared.integer.Integers.{Integers}
use Rattle.tcl_text.specs.Lists.{list_of}
use Rattle.tcl_text.specs.Writing.{written_list, fault_message}
use Rattle.tcl_tree.specs.Own.{Own}
use Rattle.tcl_tree.specs.Commands.{ProcedureView}
use Rattle.tcl_interpreter.specs.declared.parameter.Parameter.{Parameter}
use Rattle.tcl_language.specs.Instructions.{Walk, Program, either, fits, fails, gives, grown}
use Rattle.tcl_language.specs.Instructions.{or_fails, look, with_chain, too_long}
use Rattle.tcl_language.specs.Instructions.Instr.{Script, Foreach, Lmap}
use Rattle.tcl_language.specs.Faults.{wrong_args}
use Rattle.tcl_language.specs.Words.{concat, is_level}
use Rattle.tcl_language.specs.Variables.{sets, level, is_odd}

-- `eval arg ?arg ...?`
abbrev pub eval : List Text → Program
eval [] = fails (wrong_args (codes "eval arg ?arg ...?"))
eval (arg ∷ args) = grown (concat (arg ∷ args)) (λ text. go (Script text) done)

-- ## Levels

abbrev pub chain_or : Chain → Result Chain FrameFault → Chain
chain_or chain (Ok other) = other
chain_or chain (Err f) = chain

-- the own part while frames above a level are set aside, and after they are back
abbrev pub at_level : ℕ → Own → Own
at_level n own = with_chain own (chain_or own.chain (set_aside own.chain n))

abbrev pub level_over : Own → Own
level_over own = with_chain own (brought_back own.chain)

-- a script at a level: the frames above it are set aside, and come back however it ends
abbrev pub inner_script : ℕ → Own → Text → Program
inner_script n own text = inside (Framed (at_level n own) level_over) (Script text) done

abbrev pub script_at : List Text → ℕ → Program
script_at args n = grown (concat args) (λ text. look (λ node. inner_script n node.own text))

abbrev pub uplevel_words : Integers → Text → List Text → Bool → Program
uplevel_words style word rest true = level style word (script_at rest)
uplevel_words style word rest false = level style (codes "1") (script_at (word ∷ rest))

-- `uplevel ?level? arg ?arg ...?`: there is a level where two words or more begin with digits, or
-- `#` and digits
abbrev pub uplevel : Integers → List Text → Program
uplevel style [] = fails (wrong_args (codes "uplevel ?level? arg ?arg ...?"))
uplevel style (arg ∷ []) = level style (codes "1") (script_at (arg ∷ []))
uplevel style (word ∷ arg ∷ args) = uplevel_words style word (arg ∷ args) (is_level word)

-- ## Catching

-- the dictionary of a caught completion's options
abbrev pub options_text : Completion → Text
options_text c = written_list (shown (caught c))

abbrev pub code_text : Completion → Text
code_text c = signed_decimal c.code

-- `catch script ?resultVarName? ?optionVarName?` gives the code. Stops and exits it is never told
-- of.
abbrev pub catch : List Text → Program
catch (script ∷ []) = go (Script script) (λ c. done (ok (code_text c)))
catch (script ∷ result ∷ []) = go (Script script)
    (λ c. sets result c.text (done (ok (code_text c))))
catch (script ∷ result ∷ options ∷ []) =
    go (Script script) (λ c. sets result c.text
    (grown (options_text c) (λ text. sets options text (done (ok (code_text c))))))
catch _ = fails (wrong_args (codes "catch script ?resultVarName? ?optionVarName?"))

-- ## Ends

abbrev pub with_code : ℕ → Text → Program
with_code n text = done (completion (pos n) text)

-- `break` and `continue`
abbrev pub breaks : List Text → Program
breaks [] = with_code 3 []
breaks (x ∷ xs) = fails (wrong_args (codes "break"))

abbrev pub continues : List Text → Program
continues [] = with_code 4 []
continues (x ∷ xs) = fails (wrong_args (codes "continue"))

abbrev pub error_with : Text → Text → Program
error_with message errorcode = done
    (record {
      code = pos 1;
      text = message;
      options = record { code = pos 1; level = 0; errorcode = errorcode };
    })

-- `error message ?errorInfo? ?errorCode?`
abbrev pub error : List Text → Program
error (message ∷ []) = error_with message (codes "NONE")
error (message ∷ info ∷ []) = error_with message (codes "NONE")
error (message ∷ info ∷ errorcode ∷ []) = error_with message errorcode
error _ = fails (wrong_args (codes "error message ?errorInfo? ?errorCode?"))

-- `throw type message`: an error of this kind, which is not looked at
abbrev pub throw : List Text → Program
throw (kind ∷ message ∷ []) = error_with message kind
throw _ = fails (wrong_args (codes "throw type message"))

-- `return ?option value ...? ?result?`
abbrev pub returns : Integers → List Text → Program
returns style words = or_fails options_message (return_of style words) done

-- ## Loops

-- what a loop does after the body ended so: on, or it is over, or the body's end is its own
abbrev pub after_body : ℤ → Completion → Program → Program
after_body (pos zero) c more = more
after_body (pos (suc zero)) c more = done c
after_body (pos (suc (suc zero))) c more = done c
after_body (pos (suc (suc (suc zero)))) c more = done (ok [])
after_body (pos (suc (suc (suc (suc zero))))) c more = more
after_body (pos (suc (suc (suc (suc (suc n)))))) c more = done c
after_body (negsuc n) c more = done c

-- whether elements are left for a turn
abbrev pub is_empty : List Text → Bool
is_empty [] = true
is_empty (x ∷ xs) = false

abbrev pub is_over : List Walk → Bool
is_over [] = true
is_over (walk ∷ walks) = is_empty walk.left && is_over walks

-- the variables are set to the elements that come next, from the left; where none is left to the
-- empty text
abbrev pub sets_names : List Text → List Text → (List Text → Program) → Program
sets_names [] left k = k left
sets_names (name ∷ names) [] k = sets name [] (sets_names names [] k)
sets_names (name ∷ names) (x ∷ left) k = sets name x (sets_names names left k)

abbrev pub sets_walks : List Walk → (List Walk → Program) → Program
sets_walks [] k = k []
sets_walks (walk ∷ walks) k = sets_names walk.names walk.left
    (λ left. sets_walks walks (λ more. k (record { names = walk.names; left = left } ∷ more)))

-- A turn is counted before its variables are set.
abbrev pub foreach_turns : List Walk → Text → Program
foreach_turns walks body = either (is_over walks) (done (ok []))
    (act Charge (λ T. sets_walks walks
    (λ rest. go (Script body) (λ c. after_body c.code c (go (Foreach rest body) done)))))

-- the lists are read from the left; a list of no variables is refused
abbrev pub walk_of : Text → List Text → List Text → (Walk → Program) → Program
walk_of form [] left k = fails (wrong_args form)
walk_of form (name ∷ names) left k = k (record { names = name ∷ names; left = left })

abbrev pub walks_of : Text → List Text → List Walk → (List Walk → Text → Program) → Program
walks_of form (names ∷ elements ∷ rest) walks k =
    or_fails fault_message (list_of names)
    (λ xs. or_fails fault_message (list_of elements)
    (λ ys. walk_of form xs ys (λ walk. walks_of form rest (walks ++ walk ∷ []) k)))
walks_of form (body ∷ []) walks k = k walks body
walks_of form [] walks k = fails (wrong_args form)

-- on with the walks and the body that the words of a loop over lists are
abbrev pub loops : Text → List Text → (List Walk → Text → Program) → Program
loops form (names ∷ elements ∷ rest) k = either (is_odd rest)
    (walks_of form (names ∷ elements ∷ rest) [] k) (fails (wrong_args form))
loops form _ k = fails (wrong_args form)

abbrev pub foreach_form : Text
foreach_form = codes "foreach varList list ?varList list ...? command"

-- `foreach varList list ?varList list ...? command`
abbrev pub foreach : List Text → Program
foreach words = loops foreach_form words (λ walks body. go (Foreach walks body) done)

-- What a loop that keeps what its body gives does after the body ended so: an ordinary end's text
-- is kept, where the list isn't too long then; after a `continue` nothing is; a `break` gives what
-- is kept.
abbrev pub after_result : ℤ → Completion → List Text → (List Text → Program) → Program
after_result (pos zero) c made k = grown (written_list (made ++ c.text ∷ []))
    (λ text. k (made ++ c.text ∷ []))
after_result (pos (suc zero)) c made k = done c
after_result (pos (suc (suc zero))) c made k = done c
after_result (pos (suc (suc (suc zero)))) c made k = gives (written_list made)
after_result (pos (suc (suc (suc (suc zero))))) c made k = k made
after_result (pos (suc (suc (suc (suc (suc n)))))) c made k = done c
after_result (negsuc n) c made k = done c

abbrev pub lmap_turns : List Walk → Text → List Text → Program
lmap_turns walks body made = either (is_over walks) (gives (written_list made))
    (act Charge (λ T. sets_walks walks
    (λ rest. go (Script body)
    (λ c. after_result c.code c made (λ more. go (Lmap rest body more) done)))))

abbrev pub lmap_form : Text
lmap_form = codes "lmap varList list ?varList list ...? command"

-- `lmap varList list ?varList list ...? command`
abbrev pub lmap : List Text → Program
lmap words = loops lmap_form words (λ walks body. go (Lmap walks body []) done)

-- ## Procedures

-- a parameter in the form of its procedure
abbrev pub parameter_form : Text → Option Text → Text
parameter_form name None = name
parameter_form name (Some default) = codes "?" ++ name ++ codes "?"

abbrev pub by_default : Text → Option Text → Option (List (Text × Text)) →
    Option (List (Text × Text))
by_default name None rest = None
by_default name (Some default) None = None
by_default name (Some default) (Some rest) = Some ((name, default) ∷ rest)

-- whether a last parameter takes all words that are left
abbrev pub is_rest : Text → Bool
is_rest name = bytes_eq name (codes "args")

abbrev pub last_form : Parameter → Text
last_form p = either (is_rest p.name) (codes "?arg ...?") (parameter_form p.name p.default)

abbrev pub parameters_form : List Parameter → Text
parameters_form [] = []
parameters_form (p ∷ []) = 32 ∷ last_form p
parameters_form (p ∷ q ∷ ps) = 32 ∷ (parameter_form p.name p.default ++ parameters_form (q ∷ ps))

-- the form of a call of a procedure
abbrev pub proc_form : Text → List Parameter → Text
proc_form name ps = name ++ parameters_form ps

abbrev pub also : Text × Text → Option (List (Text × Text)) → Option (List (Text × Text))
also binding None = None
also binding (Some rest) = Some (binding ∷ rest)

-- a last parameter, where these words are left
abbrev pub last_bound : Bool → Parameter → List Text → Option (List (Text × Text))
last_bound true p words = Some ((p.name, written_list words) ∷ [])
last_bound false p (word ∷ []) = Some ((p.name, word) ∷ [])
last_bound false p (word ∷ more ∷ words) = None
last_bound false p [] = by_default p.name p.default (Some [])

-- What the parameters of a call are bound to, from the left: a word, or the default where none is
-- left. A last `args` takes the list of what is left. None where words are too few or too many.
abbrev pub bindings : List Parameter → List Text → Option (List (Text × Text))
bindings [] [] = Some []
bindings [] (word ∷ words) = None
bindings (p ∷ []) words = last_bound (is_rest p.name) p words
bindings (p ∷ q ∷ ps) (word ∷ words) = also (p.name, word) (bindings (q ∷ ps) words)
bindings (p ∷ q ∷ ps) [] = by_default p.name p.default (bindings (q ∷ ps) [])

-- the variables are set in the frame on top
abbrev pub bound : List (Text × Text) → Chain → Chain
bound [] chain = chain
bound (b ∷ bs) chain = bound bs (chain_or chain (after_set chain b.0 b.1))

abbrev pub fit_all : List (Text × Text) → Bool
fit_all [] = true
fit_all (b ∷ bs) = fits b.1 && fit_all bs

-- the own part in a call, and after it
abbrev pub in_frame : List Text → List (Text × Text) → Own → Own
in_frame words bs own = with_chain own (bound bs (pushed own.chain words))

abbrev pub out_of_frame : Own → Own
out_of_frame own = with_chain own (popped own.chain)

abbrev pub runs_body : ProcedureView → List Text → List (Text × Text) → Program
runs_body p words bs = look (λ n. inside (Framed (in_frame words bs n.own) out_of_frame)
    (Script p.body) (λ c. done (leave_proc c)))

abbrev pub call_bound : ProcedureView → Text → List Text → Option (List (Text × Text)) → Program
call_bound p name words None = fails (wrong_args (proc_form name p.parameters))
call_bound p name words (Some bs) = either (fit_all bs) (runs_body p words bs) (done too_long)

-- A call of a procedure binds its parameters in a frame of its own and runs the body that it had
-- when it was called.
abbrev pub procedure : ProcedureView → Text → List Text → Program
procedure p name args = call_bound p name (name ∷ args) (bindings p.parameters args)
