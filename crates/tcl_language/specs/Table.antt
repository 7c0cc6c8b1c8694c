-- What each instruction does, and what each entry.
use Rattle.std.specs.Prelude.{Bool, true, false, List, [], ◌∷◌, Option, Some, None}
use Rattle.std.specs.Str.{bytes_eq}
use Rattle.std.specs.Map.{lookup}
use Rattle.tcl_core.specs.Paths.{Text}
use Rattle.tcl_core.specs.Endings.{Completion, ok, settle}
use Rattle.tcl_core.specs.Entries.{Entry}
use Rattle.tcl_core.specs.Entries.Entry.{Eval, CallWords, InvokeHidden, SetAlias, ClearAlias, Hide}
use Rattle.tcl_core.specs.Entries.Entry.{Expose, SetCountLimit, SetDepthLimit, Create, Delete, Ask}
use Rattle.tcl_core.specs.Entries.Entry.{AskHost}
use Rattle.tcl_core.specs.Programs.Act.{Charge}
use Rattle.tcl_core.specs.Programs.Wrap.{Deeper, Framed}
use Rattle.tcl_core.specs.Programs.Prog.{done, act, go, inside}
use Rattle.tcl_text.specs.declared.integer.Integers.{Integers}
use Rattle.tcl_text.specs.Writing.{written_list}
use Rattle.tcl_interpreter.specs.declared.builtin.Builtin.{Builtin}
use Rattle.tcl_interpreter.specs.declared.builtin.Builtin.TheVariants as name
use Rattle.tcl_interpreter.specs.declared.command.Command.{Command}
use Rattle.tcl_interpreter.specs.declared.command.Command.TheVariants as command
use Rattle.tcl_language.specs.Instructions.{Instr, Program, fails, gives, look}
use Rattle.tcl_language.specs.Instructions.Instr.{Script, Commands, Words, Parts, Call, Target}
use Rattle.tcl_language.specs.Instructions.Instr.{Invoke, Hidden, Foreach, Lmap, Expression}
use Rattle.tcl_language.specs.Instructions.Instr.{While, For, Handled, Serve}
use Rattle.tcl_language.specs.Faults.{invalid_command, invalid_hidden, bad_name}
use Rattle.tcl_lists.specs.Lists.{lindex_of, linsert_of, llength_of, lrange_of, lrepeat_of}
use Rattle.tcl_lists.specs.Lists.{lreplace_of, lreverse_of}
use Rattle.tcl_lists.specs.Joining.{concat_of, join_of}
use Rattle.tcl_lists.specs.Splitting.{split_of}
use Rattle.tcl_lists.specs.Searching.{lsearch_of}
use Rattle.tcl_lists.specs.Computed.{lsort_of}
use Rattle.tcl_strings.specs.Subcommands.{string_of}
use Rattle.tcl_format.specs.Filling.{format_of}
use Rattle.tcl_language.specs.Arrays as arrays
use Rattle.tcl_language.specs.Scripts as scripts
use Rattle.tcl_language.specs.Data as collections
use Rattle.tcl_language.specs.Changes as changes
use Rattle.tcl_language.specs.Variables as variables
use Rattle.tcl_language.specs.Control as control
use Rattle.tcl_language.specs.Pairing as pairing
use Rattle.tcl_language.specs.Switching as switching
use Rattle.tcl_language.specs.Trying as trying
use Rattle.tcl_language.specs.Definitions as definitions
use Rattle.tcl_language.specs.Expressions as expressions
use Rattle.tcl_language.specs.Hosting as hosting
use Rattle.tcl_language.specs.Inspection as inspection
use Rattle.tcl_language.specs.Interpreters as interpreters
use Rattle.tcl_language.specs.Sourcing as sourcing
use Rattle.tcl_language.specs.Control.{at_level, level_over}
use Rattle.tcl_language.specs.Naming.{command_name}

-- the program of a built-in command with its arguments
abbrev pub builtin : Integers → Builtin → List Text → Program
builtin style name.Set args = variables.set args
builtin style name.Unset args = variables.unset args
builtin style name.Incr args = variables.incr style args
builtin style name.Append args = variables.append args
builtin style name.Array args = arrays.array args
builtin style name.Global args = variables.global args
builtin style name.Upvar args = variables.upvar style args
builtin style name.Uplevel args = control.uplevel style args
builtin style name.Eval args = control.eval args
builtin style name.Catch args = control.catch args
builtin style name.Try args = trying.try_script style args
builtin style name.Error args = control.error args
builtin style name.Return args = control.returns style args
builtin style name.Break args = control.breaks args
builtin style name.Continue args = control.continues args
builtin style name.Foreach args = control.foreach args
builtin style name.Lmap args = control.lmap args
builtin style name.Switch args = switching.switch args
builtin style name.Expr args = expressions.expr args
builtin style name.If args = expressions.if_first style args
builtin style name.While args = expressions.while_loop args
builtin style name.For args = expressions.for_loop args
builtin style name.List args = gives (written_list args)
builtin style name.Llength args = collections.answered (llength_of args)
builtin style name.Lindex args = collections.answered (lindex_of style args)
builtin style name.Lrange args = collections.answered (lrange_of style args)
builtin style name.Linsert args = collections.answered (linsert_of style args)
builtin style name.Lreplace args = collections.answered (lreplace_of style args)
builtin style name.Lrepeat args = collections.answered (lrepeat_of style args)
builtin style name.Lreverse args = collections.answered (lreverse_of args)
builtin style name.Concat args = collections.answered (concat_of args)
builtin style name.Join args = collections.answered (join_of args)
builtin style name.Split args = collections.answered (split_of args)
builtin style name.String args = collections.answered (string_of style args)
builtin style name.Format args = collections.answered (format_of style args)
builtin style name.Lappend args = collections.lappend args
builtin style name.Lassign args = collections.lassign args
builtin style name.Lset args = changes.lset style args
builtin style name.Lsearch args = collections.answered (lsearch_of args)
builtin style name.Lsort args = collections.answered (lsort_of style args)
builtin style name.Throw args = control.throw args
builtin style name.Dict args = pairing.dict style args
builtin style name.Info args = inspection.info style args
builtin style name.Proc args = definitions.proc args
builtin style name.Rename args = definitions.rename args
builtin style name.Interp args = interpreters.interp style args
builtin style name.Open args = hosting.open_file args
builtin style name.Close args = hosting.close args
builtin style name.Gets args = hosting.gets args
builtin style name.Puts args = hosting.puts args
builtin style name.Read args = hosting.read args
builtin style name.Eof args = hosting.eof args
builtin style name.Flush args = hosting.flush args
builtin style name.Source args = sourcing.source args
builtin style name.Exit args = hosting.exit_with style args

-- the name by which a child is kept, whose command was called so
abbrev pub child_name : Option Text → Text
child_name None = []
child_name (Some plain) = plain

abbrev pub dispatch : Integers → Text → List Text → (Text → Text) → Option Command → Program
dispatch style word args missing None = fails (missing word)
dispatch style word args missing (Some (command.Builtin b)) = builtin style b args
dispatch style word args missing (Some (command.Procedure p)) = control.procedure p word args
dispatch style word args missing (Some (command.Alias a)) = interpreters.call_alias a word args
dispatch style word args missing (Some command.Child) = interpreters.child style
    (child_name (command_name word)) args

-- on with the name by which a command is kept, or the error that no command has such a name
abbrev pub kept_name : Option Text → Text → (Text → Program) → Program
kept_name None word k = fails (bad_name word)
kept_name (Some plain) word k = k plain

-- A call looks the first word up among the commands; among these no hidden name is found.
abbrev pub called : Integers → List Text → Program
called style [] = done (ok [])
called style (word ∷ args) = kept_name (command_name word) word
    (λ plain. look (λ n. dispatch style word args invalid_command
    (lookup (bytes_eq plain) n.own.commands)))

-- and one of a hidden command among the hidden ones
abbrev pub invoked : Integers → List Text → Program
invoked style [] = done (ok [])
invoked style (word ∷ args) = look
    (λ n. dispatch style word args invalid_hidden (lookup (bytes_eq word) n.own.hidden))

-- no word is one empty word
abbrev pub some_words : List Text → List Text
some_words [] = [] ∷ []
some_words (word ∷ words) = word ∷ words

abbrev pub settled : Completion → Program
settled c = done (settle c)

-- a hidden command by itself: looked up at once, or within frames at level 0
abbrev pub hidden_at : Integers → Bool → List Text → Program
hidden_at style false words = invoked style words
hidden_at style true words = look (λ n. inside (Framed (at_level 0 n.own) level_over)
    (Hidden false words) done)

-- What another interpreter, or the outside, asks for. No interpreter does what only the host is
-- asked for.
abbrev pub serve : Integers → Entry → Program
serve style (Eval text) = go (Script text) settled
serve style (CallWords words) = act Charge (λ T. go (Target (some_words words)) done)
-- a hidden command is counted, then nested, then looked up; and settled
serve style (InvokeHidden is_global words) = act Charge
    (λ T. go (Invoke is_global (some_words words)) settled)
serve style (SetAlias name up down words) = interpreters.sets_alias name up down words
serve style (ClearAlias name) = interpreters.clears_alias name
serve style (Hide name hidden) = interpreters.hides name hidden
serve style (Expose hidden name) = interpreters.exposes hidden name
serve style (SetCountLimit limit) = interpreters.limits limit
serve style (SetDepthLimit limit) = interpreters.limits_depth limit
serve style (Create None safe) = look
    (λ n. interpreters.creates (interpreters.free_name n.own) safe)
serve style (Create (Some name) safe) = interpreters.creates name safe
serve style (Delete name) = interpreters.deletes name
serve style (Ask question) = interpreters.answers question
serve style (AskHost request) = fails interpreters.denied

abbrev pub program : Integers → Instr → Program
program style (Script text) = scripts.script text
program style (Commands commands fault last) = scripts.commands commands fault last
program style (Words words before) = scripts.words words before
program style (Parts parts elements before) = scripts.parts parts elements before
program style (Call words) = called style words
program style (Target words) = inside Deeper (Call words) done
program style (Invoke is_global words) = inside Deeper (Hidden is_global words) done
program style (Hidden is_global words) = hidden_at style is_global words
program style (Foreach walks body) = control.foreach_turns walks body
program style (Lmap walks body made) = control.lmap_turns walks body made
program style (Expression text) = expressions.expression style text
program style (While test body) = expressions.while_turns style test body
program style (For test next body) = expressions.for_turns style test next body
program style (Handled body handlers) = trying.handled body handlers
program style (Serve entry) = serve style entry
