-- What `info` tells of procedures, of the names of commands, and of scripts.
use Rattle.std.specs.Prelude.{Bool, true, false, ◌&&◌, List, [], ◌∷◌, Option, Some, None, cond}
use Rattle.std.specs.Prelude.{Result, Ok, Err, codes}
use Rattle.std.specs.Str.{bytes_eq}
use Rattle.tcl_core.specs.Paths.{Text}
use Rattle.tcl_core.specs.Endings.{ok}
use Rattle.tcl_core.specs.Programs.Prog.{done}
use Rattle.tcl_frames.specs.Chain.{kept_if}
use Rattle.tcl_glob.specs.Patterns.{is_match}
use Rattle.tcl_parser.specs.Faults.{is_complete_with}
use Rattle.tcl_parser.specs.Reading.{read_script}
use Rattle.tcl_text.specs.Writing.{written_list}
use Rattle.tcl_tree.specs.Commands.{ProcedureView}
use Rattle.tcl_tree.specs.Own.{Own, CommandMap, command_in}
use Rattle.tcl_interpreter.specs.declared.command.Command.{Command}
use Rattle.tcl_interpreter.specs.declared.command.Command.TheVariants as command
use Rattle.tcl_interpreter.specs.declared.parameter.Parameter.{Parameter}
use Rattle.tcl_language.specs.Instructions.{Program, either, fails, gives, or_fails, look}
use Rattle.tcl_language.specs.Faults.{bad_name, no_procedure, wrong_args, unknown_subcommand}
use Rattle.tcl_language.specs.Naming.{command_name}
use Rattle.tcl_language.specs.Variables.{sets}

-- ## Procedures

abbrev pub procedure_in : Text → Option Command → Result ProcedureView Text
procedure_in word None = Err (no_procedure word)
procedure_in word (Some (command.Procedure p)) = Ok p
procedure_in word (Some (command.Builtin b)) = Err (no_procedure word)
procedure_in word (Some (command.Alias a)) = Err (no_procedure word)
procedure_in word (Some command.Child) = Err (no_procedure word)

abbrev pub procedure_kept : Own → Text → Option Text → Result ProcedureView Text
procedure_kept own word None = Err (bad_name word)
procedure_kept own word (Some plain) = procedure_in word (command_in own plain)

-- the procedure that a word names, or why it names none
abbrev pub procedure_of : Own → Text → Result ProcedureView Text
procedure_of own word = procedure_kept own word (command_name word)

-- on with it
abbrev pub with_procedure : Text → (ProcedureView → Program) → Program
with_procedure word k = look (λ n. or_fails (λ message. message) (procedure_of n.own word) k)

abbrev pub parameter_names : List Parameter → List Text
parameter_names [] = []
parameter_names (p ∷ ps) = p.name ∷ parameter_names ps

-- `info args procname`
abbrev pub args_of : List Text → Program
args_of (name ∷ []) = with_procedure name
    (λ p. gives (written_list (parameter_names p.parameters)))
args_of _ = fails (wrong_args (codes "info args procname"))

-- `info body procname`
abbrev pub body_of : List Text → Program
body_of (name ∷ []) = with_procedure name (λ p. done (ok p.body))
body_of _ = fails (wrong_args (codes "info body procname"))

-- the default of the parameter with a name, if there are such a parameter and such a default
abbrev pub default_in : Text → List Parameter → Option (Option Text)
default_in name [] = None
default_in name (p ∷ ps) = cond (bytes_eq name p.name) (Some p.default) (default_in name ps)

-- the variable is set to the default, or to the empty text where there is none
abbrev pub stores_default : Text → Text → Option (Option Text) → Program
stores_default name variable None = fails (bad_name name)
stores_default name variable (Some None) = sets variable [] (done (ok (codes "0")))
stores_default name variable (Some (Some text)) = sets variable text (done (ok (codes "1")))

-- `info default procname arg varname`
abbrev pub default_of : List Text → Program
default_of (name ∷ parameter ∷ variable ∷ []) = with_procedure name
    (λ p. stores_default parameter variable (default_in parameter p.parameters))
default_of _ = fails (wrong_args (codes "info default procname arg varname"))

-- ## Names of commands

abbrev pub is_procedure : Command → Bool
is_procedure (command.Builtin b) = false
is_procedure (command.Procedure p) = true
is_procedure (command.Alias a) = false
is_procedure command.Child = false

-- which names are listed: those of procedures alone, or all
abbrev pub is_listed : Bool → Command → Bool
is_listed true c = is_procedure c
is_listed false c = true

-- whether a pattern takes a name; where there is none, each is taken
abbrev pub is_taken : Option Text → Text → Bool
is_taken None name = true
is_taken (Some pattern) name = is_match false pattern name

-- the names of commands that are listed, in the order in which these were made
abbrev pub listed_names : Bool → Option Text → CommandMap → List Text
listed_names procedures pattern [] = []
listed_names procedures pattern (e ∷ es) = kept_if
    (is_listed procedures e.1 && is_taken pattern e.0) e.0 (listed_names procedures pattern es)

-- they are those of the commands that aren't hidden
abbrev pub listed : Bool → Option Text → Program
listed procedures pattern = look
    (λ n. gives (written_list (listed_names procedures pattern n.own.commands)))

-- `info commands|procs ?pattern?`
abbrev pub names : Bool → Text → List Text → Program
names procedures form [] = listed procedures None
names procedures form (pattern ∷ []) = listed procedures (Some pattern)
names procedures form _ = fails (wrong_args form)

-- ## Scripts

-- `info complete command`: nothing stands open at the end of it
abbrev pub complete : List Text → Program
complete (text ∷ []) = done (ok (either (is_complete_with (read_script text).fault) (codes "1")
    (codes "0")))
complete _ = fails (wrong_args (codes "info complete command"))

-- ## Subcommands

abbrev pub chosen : Text → List Text → Program
chosen word args =
    either (bytes_eq word (codes "args")) (args_of args)
    (either (bytes_eq word (codes "body")) (body_of args)
    (either (bytes_eq word (codes "default")) (default_of args)
    (either (bytes_eq word (codes "commands"))
    (names false (codes "info commands ?pattern?") args)
    (either (bytes_eq word (codes "procs")) (names true (codes "info procs ?pattern?") args)
    (either (bytes_eq word (codes "complete")) (complete args)
    (fails (unknown_subcommand word)))))))
