-- `interp`, and a child's own command: what one interpreter asks of another. Paths are lists of
-- names downward from the one that asks.
use Rattle.std.specs.Prelude.{ℕ, zero, suc, ℤ, pos, negsuc, Bool, true, false, ◌&&◌, ◌||◌, List, []}
use Rattle.std.specs.Prelude.{◌∷◌, ◌++◌, Option, Some, None, is_some, not, codes, ◌-◌, ◌==◌, nat_le}
use Rattle.std.specs.Prelude.{length, drop, Result, Ok, Err}
use Rattle.std.specs.Fmt.{decimal}
use Rattle.std.specs.Option.{unwrap_or}
use Rattle.std.specs.Str.{bytes_eq}
use Rattle.std.specs.Map.{lookup}
use Rattle.tcl_core.specs.Paths.{Text, Path, together}
use Rattle.tcl_core.specs.Endings.{Completion, ok, error}
use Rattle.tcl_core.specs.Entries.{Entry, Question, Said}
use Rattle.tcl_core.specs.Entries.Entry.{Eval, CallWords, InvokeHidden, SetAlias, ClearAlias, Hide}
use Rattle.tcl_core.specs.Entries.Entry.{Expose, SetCountLimit, SetDepthLimit, Create, Delete, Ask}
use Rattle.tcl_core.specs.Entries.Question.{Exists, IsSafe, Aliases, AliasOf, Hidden as HiddenNames}
use Rattle.tcl_core.specs.Entries.Question.{Slaves, CountLimitOf, DepthLimitOf}
use Rattle.tcl_core.specs.Entries.Said.{Finished, Told, Missed}
use Rattle.tcl_core.specs.Trees.{Node}
use Rattle.tcl_core.specs.Programs.{most_steps}
use Rattle.tcl_core.specs.Programs.Act.{Look, Make, Drop, Limit, LimitDepth}
use Rattle.tcl_core.specs.Programs.Prog.{done, act, go, call}
use Rattle.tcl_text.specs.declared.integer.Integers.{Integers}
use Rattle.tcl_text.specs.Lists.{list_of}
use Rattle.tcl_text.specs.Writing.{written_list, fault_message}
use Rattle.tcl_text.specs.Messages as messages
use Rattle.tcl_tree.specs.Own.{Own, CommandMap, command_in, new_own, with_new_child}
use Rattle.tcl_tree.specs.Own.{without_old_child}
use Rattle.tcl_tree.specs.Commands.{AliasView}
use Rattle.tcl_language.specs.Naming.{Named, command_name, named, cleared, hidden_as, exposed_as}
use Rattle.tcl_interpreter.specs.declared.refusal.TreeError.{TreeError}
use Rattle.tcl_interpreter.specs.declared.refusal.TreeError.TheVariants as refusal
use Rattle.tcl_interpreter.specs.declared.command.Command.{Command}
use Rattle.tcl_interpreter.specs.declared.command.Command.TheVariants as command
use Rattle.tcl_language.specs.Instructions.{Program, either, fails, fits, gives, grown, or_fails}
use Rattle.tcl_language.specs.Instructions.{look, change, too_long}
use Rattle.tcl_language.specs.Instructions.Instr.{Serve}
use Rattle.tcl_frames.specs.Messages.{quoted}
use Rattle.tcl_language.specs.Faults.{wrong_args, lost_alias, bad_name, invalid_command}
use Rattle.tcl_language.specs.Faults.{invalid_hidden, unknown_subcommand}
use Rattle.tcl_language.specs.Names.{is_name}
use Rattle.tcl_language.specs.Variables.{integer}
use Rattle.tcl_language.specs.Words.{concat}

abbrev pub no_interpreter : Text → Text
no_interpreter x = quoted (codes "could not find interpreter ") x []

-- what an entry from outside is told whose path finds nobody: the path is shown as a list
abbrev pub nobody_at : Path → Completion
nobody_at path = either (fits (no_interpreter (written_list path)))
    (error (no_interpreter (written_list path))) too_long

abbrev pub in_use : Text → Text
in_use x = quoted (codes "interpreter ") x (codes " is in use")

abbrev pub already_exists : Text → Text
already_exists x = 34 ∷ (x ++ codes "\" already exists")

abbrev pub bad_option : Text → Text
bad_option x = quoted (codes "bad option ") x []

abbrev pub bad_count : Text → Text
bad_count x = quoted (codes "bad count ") x []

abbrev pub denied : Text
denied = messages.denied

-- ## Asking

-- on with the completion; nothing else answers such a call (where nobody is there, that is the
-- call's own)
abbrev pub finished : (Completion → Program) → Said → Program
finished k (Finished c) = k c
finished k (Told reply) = done (ok [])
finished k Missed = done (ok [])

-- what is asked of the interpreter at a path: of itself at the empty one, and else of one below
abbrev pub asks_at : Path → Entry → (Completion → Program) → Program
asks_at [] entry k = go (Serve entry) k
asks_at (name ∷ path) entry k = call (Some 0) (name ∷ path) entry (error (no_interpreter []))
    (finished k)

abbrev pub where_it_stands : Text → (Node Own → Program) → Option (Node Own) → Program
where_it_stands text k None = fails (no_interpreter text)
where_it_stands text k (Some n) = k n

-- on with the path that a text is, and the interpreter there
abbrev pub at_path : Text → (Path → Node Own → Program) → Program
at_path text k = or_fails fault_message (list_of text)
    (λ path. act Look (λ T. where_it_stands text (k path) (T path)))

abbrev pub asks : Text → Entry → Program
asks text entry = at_path text (λ path n. asks_at path entry done)

-- An alias calls its target with its own words and then those of the call. Its code passes
-- unchanged.
abbrev pub call_alias : AliasView → Text → List Text → Program
call_alias a word args = call (Some a.up) a.down (CallWords (a.words ++ args))
    (either (fits (lost_alias word)) (error (lost_alias word)) too_long) (finished done)

-- on, unless the interpreter that asks is safe
abbrev pub permitted : Program → Program
permitted k = look (λ n. either n.safe (fails denied) k)

-- ## What an interpreter does where it is asked

abbrev pub most_children : ℕ
most_children = 256

abbrev pub makes : Text → Bool → Own → Program
makes name safe own = change (with_new_child name own)
    (act (Make name (new_own safe) safe) (λ T. done (ok [])))

abbrev pub creates_new : Text → Bool → Node Own → Program
creates_new name safe n =
    either (is_name name)
    (either (is_some (lookup (bytes_eq name) n.own.commands)) (fails (already_exists name))
    (either (nat_le most_children (length n.own.children)) (fails messages.too_many)
    (makes name (safe || n.safe) n.own)))
    (fails (bad_name name))

-- A child is made, safe where that is asked for or its parent is safe. No other child has its name,
-- which isn't empty, has no two colons side by side and isn't that of a command, and there are
-- fewer than 256 children.
abbrev pub creates : Text → Bool → Program
creates name safe = look (λ n. act Look
    (λ T. either (is_some (T (name ∷ []))) (fails (already_exists name)) (creates_new name safe n)))

abbrev pub numbered : ℕ → Text
numbered n = codes "interp" ++ decimal n

-- the least number from n on that no command's name has, among so many
abbrev pub least_free : ℕ → ℕ → CommandMap → ℕ
least_free zero n commands = n
least_free (suc turns) n commands = either (is_some (lookup (bytes_eq (numbered n)) commands))
    (least_free turns (suc n) commands) n

-- the name of a child that is given none
abbrev pub free_name : Own → Text
free_name own = numbered (least_free (length own.commands) 0 own.commands)

abbrev pub drops : Text → Own → Option (Node Own) → Program
drops name own None = fails (no_interpreter (written_list (name ∷ [])))
drops name own (Some child) = change (without_old_child name own)
    (act (Drop name) (λ T. done (ok [])))

-- A child is dropped, with all below it, also where an evaluation is in progress in it.
abbrev pub deletes : Text → Program
deletes name = look (λ n. act Look (λ T. drops name n.own (T (name ∷ []))))

abbrev pub limit_text : Option ℕ → Text
limit_text None = []
limit_text (Some n) = decimal n

-- so many steps can be counted
abbrev pub is_count_limit : Option ℕ → Bool
is_count_limit limit = nat_le (unwrap_or limit 0) most_steps

-- No interpreter's limit of steps is set in the root of its tree, nor the root's limit of depth. No
-- limit of steps is past what can be counted.
abbrev pub limits : Option ℕ → Program
limits limit = look (λ n. either n.root (fails denied)
    (either (is_count_limit limit) (act (Limit limit) (λ T. done (ok [])))
    (fails (bad_count (limit_text limit)))))

abbrev pub is_depth_limit : ℕ → Bool
is_depth_limit n = nat_le 1 n && nat_le n 1000

abbrev pub limits_depth : ℕ → Program
limits_depth limit = look (λ n. either n.root (fails denied)
    (either (is_depth_limit limit) (act (LimitDepth limit) (λ T. done (ok (decimal limit))))
    (fails messages.bad_depth_limit)))

abbrev pub alias_only : Text → Command → List Text → List Text
alias_only name (command.Alias a) names = name ∷ names
alias_only name (command.Builtin b) names = names
alias_only name (command.Procedure p) names = names
alias_only name command.Child names = names

-- the names of the aliases, and all names
abbrev pub aliases_in : CommandMap → List Text
aliases_in [] = []
aliases_in (e ∷ es) = alias_only e.0 e.1 (aliases_in es)

abbrev pub names_in : CommandMap → List Text
names_in [] = []
names_in (e ∷ es) = e.0 ∷ names_in es

-- the target command of an alias and its words; nothing where the name is no alias
abbrev pub alias_words : Option Command → List Text
alias_words None = []
alias_words (Some (command.Alias a)) = a.words
alias_words (Some (command.Builtin b)) = []
alias_words (Some (command.Procedure p)) = []
alias_words (Some command.Child) = []

abbrev pub bit : Bool → Text
bit true = codes "1"
bit false = codes "0"

-- the words of the alias that is kept by a name, or the error that no command has such a name
abbrev pub alias_kept : Option Text → Text → Own → Result Text Text
alias_kept None word own = Err (bad_name word)
alias_kept (Some plain) word own = Ok (written_list (alias_words (command_in own plain)))

-- what is answered to a question, or the error that it is
abbrev pub answer : Question → Node Own → Result Text Text
answer Exists n = Ok (bit true)
answer IsSafe n = Ok (bit n.safe)
answer Aliases n = Ok (written_list (aliases_in n.own.commands))
answer (AliasOf name) n = alias_kept (command_name name) name n.own
answer HiddenNames n = Ok (written_list (names_in n.own.hidden))
answer Slaves n = Ok (written_list n.own.children)
answer CountLimitOf n = Ok (written_list (codes "-value" ∷ limit_text n.limit ∷ []))
answer DepthLimitOf n = Ok (decimal n.depth_limit)

abbrev pub answers : Question → Program
answers question = look (λ n. or_fails (λ message. message) (answer question n) gives)

-- ## What is done to an interpreter's commands

abbrev pub refusal_text : TreeError → Text → Text
refusal_text refusal.BadName x = bad_name x
refusal_text refusal.Exists x = already_exists x
refusal_text refusal.NoCommand x = invalid_command x
refusal_text refusal.NoHidden x = invalid_hidden x
refusal_text e x = denied

abbrev pub refused_text : TreeError × Text → Text
refused_text e = refusal_text e.0 e.1

-- the own part becomes what it is named to be, and on
abbrev pub renaming : Program → (Own → Named) → Program
renaming k f = look (λ n. or_fails refused_text (f n.own) (λ own. change own k))

abbrev pub done_so : Program
done_so = done (ok [])

abbrev pub sets_alias : Text → ℕ → List Text → List Text → Program
sets_alias name up down words = renaming done_so
    (λ own. named own name (command.Alias (record { up = up; down = down; words = words })))

abbrev pub clears_alias : Text → Program
clears_alias name = renaming done_so (λ own. cleared own name)

abbrev pub hides : Text → Text → Program
hides name hidden = renaming done_so (λ own. hidden_as own name hidden)

abbrev pub exposes : Text → Text → Program
exposes hidden name = renaming done_so (λ own. exposed_as own hidden name)

-- ## Hiding

-- what only a trusted interpreter asks for, of itself or of one below
abbrev pub asks_trusted : Text → Entry → Program
asks_trusted text entry = permitted (asks text entry)

-- `interp hide path cmd ?hiddenName?`
abbrev pub hide : List Text → Program
hide (text ∷ name ∷ []) = asks_trusted text (Hide name name)
hide (text ∷ name ∷ hidden ∷ []) = asks_trusted text (Hide name hidden)
hide _ = fails (wrong_args (codes "interp hide path cmd ?hiddenName?"))

-- `interp expose path hiddenName ?cmd?`
abbrev pub expose : List Text → Program
expose (text ∷ hidden ∷ []) = asks_trusted text (Expose hidden hidden)
expose (text ∷ hidden ∷ name ∷ []) = asks_trusted text (Expose hidden name)
expose _ = fails (wrong_args (codes "interp expose path hiddenName ?cmd?"))

abbrev pub invoke_form : Text
invoke_form = codes "interp invokehidden path ?-global? hiddenName ?arg ...?"

abbrev pub is_global : Text → Bool
is_global word = bytes_eq word (codes "-global")

abbrev pub is_option : Text → Bool
is_option [] = false
is_option (c ∷ cs) = c == 45

-- a hidden command and its words, after the options
abbrev pub invoked_as : Text → Text → Bool → List Text → Program
invoked_as text form global [] = fails (wrong_args form)
invoked_as text form global (name ∷ args) =
    either (is_option name && not global)
    (either (is_global name) (invoked_as text form true args) (fails (bad_option name)))
    (asks_trusted text (InvokeHidden global (name ∷ args)))

-- `interp invokehidden path ?-global? hiddenName ?arg ...?`
abbrev pub invoke_hidden : List Text → Program
invoke_hidden (text ∷ word ∷ args) = invoked_as text invoke_form false (word ∷ args)
invoke_hidden _ = fails (wrong_args invoke_form)

-- ## `interp create ?-safe? ?--? ?path?`

abbrev pub code_is_ok : ℤ → Bool
code_is_ok (pos zero) = true
code_is_ok (pos (suc n)) = false
code_is_ok (negsuc n) = false

abbrev pub with_text : Text → Completion → Program
with_text text c = either (code_is_ok c.code) (done (ok text)) (done c)

abbrev pub before_last : Text → List Text → List Text × Text
before_last x [] = ([], x)
before_last x (y ∷ ys) = (x ∷ (before_last y ys).0, (before_last y ys).1)

-- the child that a path names: its last name, in the interpreter at the names before it
abbrev pub makes_at : Text → Bool → List Text × Text → Program
makes_at text safe p = act Look
    (λ T. where_it_stands text (λ n. asks_at p.0 (Create (Some p.1) safe) (with_text text)) (T p.0))

abbrev pub makes_named : Text → Bool → List Text → Program
makes_named text safe [] = fails (bad_name [])
makes_named text safe (x ∷ xs) = makes_at text safe (before_last x xs)

abbrev pub create_form : Text
create_form = codes "interp create ?-safe? ?--? ?path?"

abbrev pub create_path : Bool → List Text → Program
create_path safe [] = look (λ n. asks_at [] (Create (Some (free_name n.own)) safe)
    (with_text (free_name n.own)))
create_path safe (text ∷ []) = or_fails fault_message (list_of text) (makes_named text safe)
create_path safe (x ∷ y ∷ rest) = fails (wrong_args create_form)

abbrev pub create_options : Bool → List Text → Program
create_options safe [] = create_path safe []
create_options safe (word ∷ words) =
    either (is_option word)
    (either (bytes_eq word (codes "--")) (create_path safe words)
    (either (bytes_eq word (codes "-safe")) (create_options true words) (fails (bad_option word))))
    (create_path safe (word ∷ words))

-- ## `interp delete ?path ...?`

abbrev pub after_delete : Program → Completion → Program
after_delete more c = either (code_is_ok c.code) more (done c)

abbrev pub deletes_at : List Text × Text → Program → Program
deletes_at p more = asks_at p.0 (Delete p.1) (after_delete more)

abbrev pub deletes_named : Text → List Text → Program → Program
deletes_named text [] more = fails (in_use text)
deletes_named text (x ∷ xs) more = deletes_at (before_last x xs) more

abbrev pub delete : List Text → Program
delete [] = done (ok [])
delete (text ∷ texts) = at_path text (λ path n. deletes_named text path (delete texts))

-- ## Aliases

-- a name is given, or taken away
abbrev pub alias_path : Text → Text → Text → Text → List Text → Program
alias_path source name target word args =
    at_path source (λ path n. or_fails fault_message (list_of target) (λ goal.
    asks_at path (SetAlias name (length path - together path goal) (drop (together path goal) goal)
    (word ∷ args)) (with_text name)))

abbrev pub alias_form : Text
alias_form = codes "interp alias srcPath srcCmd ?targetPath? ?targetCmd? ?arg ...?"

-- `interp alias srcPath srcCmd ?targetPath? ?targetCmd? ?arg ...?`
abbrev pub alias : List Text → Program
alias (source ∷ name ∷ []) = asks source (Ask (AliasOf name))
alias (source ∷ name ∷ [] ∷ []) = asks source (ClearAlias name)
alias (source ∷ name ∷ (c ∷ cs) ∷ []) = fails (wrong_args alias_form)
alias (source ∷ name ∷ target ∷ word ∷ args) = alias_path source name target word args
alias _ = fails (wrong_args alias_form)

-- ## Questions

abbrev pub question : Text → Question → List Text → Program
question form q [] = asks [] (Ask q)
question form q (text ∷ []) = asks text (Ask q)
question form q (x ∷ y ∷ rest) = fails (wrong_args form)

abbrev pub exists_at : Path → Option (Node Own) → Program
exists_at path None = done (ok (bit false))
exists_at path (Some n) = asks_at path (Ask Exists) done

-- a path that leads nowhere is an answer here
abbrev pub exists : List Text → Program
exists [] = asks [] (Ask Exists)
exists (text ∷ []) = or_fails fault_message (list_of text)
    (λ path. act Look (λ T. exists_at path (T path)))
exists (x ∷ y ∷ rest) = fails (wrong_args (codes "interp exists ?path?"))

-- ## Limits

abbrev pub limit_form : Text
limit_form = codes "interp limit path commands ?-value n?"

-- no interpreter sets its own limit of steps
abbrev pub below_itself : List Text → Program → Program
below_itself [] k = fails denied
below_itself (x ∷ xs) k = k

abbrev pub limit_number : Text → ℤ → (ℕ → Program) → Program
limit_number text (pos n) k = k n
limit_number text (negsuc n) k = fails (bad_count text)

-- the empty text is no limit
abbrev pub limit_value : Integers → Text → (Option ℕ → Program) → Program
limit_value style [] k = k None
limit_value style (c ∷ cs) k = integer style (c ∷ cs)
    (λ z. limit_number (c ∷ cs) z (λ n. k (Some n)))

abbrev pub sets_limit : Integers → Text → Text → Program
sets_limit style text value = permitted
    (or_fails fault_message (list_of text) (λ path. below_itself path
    (act Look (λ T. where_it_stands text
    (λ n. limit_value style value (λ limit. asks_at path (SetCountLimit limit) done))
    (T path)))))

abbrev pub commands_only : Text → Program → Program
commands_only word k = either (bytes_eq word (codes "commands")) k (fails (bad_option word))

abbrev pub value_only : Text → Program → Program
value_only word k = either (bytes_eq word (codes "-value")) k (fails (bad_option word))

-- `interp limit path commands ?-value n?`
abbrev pub limit : Integers → List Text → Program
limit style (text ∷ word ∷ []) = commands_only word (asks text (Ask CountLimitOf))
limit style (text ∷ word ∷ option ∷ value ∷ []) = commands_only word
    (value_only option (sets_limit style text value))
limit style _ = fails (wrong_args limit_form)

abbrev pub depth_number : ℤ → (ℕ → Program) → Program
depth_number (pos n) k = k n
depth_number (negsuc n) k = fails messages.bad_depth_limit

abbrev pub unless_root : List Text → Program → Program
unless_root [] k = look (λ n. either n.root (fails denied) k)
unless_root (x ∷ xs) k = k

abbrev pub sets_depth_limit : Integers → Text → Text → Program
sets_depth_limit style text value = permitted
    (or_fails fault_message (list_of text) (λ path. unless_root path
    (act Look (λ T. where_it_stands text
    (λ n. integer style value (λ z. depth_number z
    (λ limit. asks_at path (SetDepthLimit limit) done))) (T path)))))

-- `interp recursionlimit path ?n?`
abbrev pub recursion_limit : Integers → List Text → Program
recursion_limit style (text ∷ []) = asks text (Ask DepthLimitOf)
recursion_limit style (text ∷ value ∷ []) = sets_depth_limit style text value
recursion_limit style _ = fails (wrong_args (codes "interp recursionlimit path ?n?"))

-- ## Evaluation

-- `interp eval path arg ?arg ...?`
abbrev pub eval : List Text → Program
eval (text ∷ arg ∷ args) = at_path text
    (λ path n. grown (concat (arg ∷ args)) (λ script. asks_at path (Eval script) done))
eval _ = fails (wrong_args (codes "interp eval path arg ?arg ...?"))

-- ## The two commands

abbrev pub subcommand : Integers → Text → List Text → Program
subcommand style word args =
    either (bytes_eq word (codes "create")) (create_options false args)
    (either (bytes_eq word (codes "delete")) (delete args)
    (either (bytes_eq word (codes "eval")) (eval args)
    (either (bytes_eq word (codes "alias")) (alias args)
    (either (bytes_eq word (codes "aliases"))
    (question (codes "interp aliases ?path?") Aliases args)
    (either (bytes_eq word (codes "exists")) (exists args)
    (either (bytes_eq word (codes "hidden"))
    (question (codes "interp hidden ?path?") HiddenNames args)
    (either (bytes_eq word (codes "issafe")) (question (codes "interp issafe ?path?") IsSafe args)
    (either (bytes_eq word (codes "slaves")) (question (codes "interp slaves ?path?") Slaves args)
    (either (bytes_eq word (codes "children"))
    (question (codes "interp children ?path?") Slaves args)
    (either (bytes_eq word (codes "limit")) (limit style args)
    (either (bytes_eq word (codes "recursionlimit")) (recursion_limit style args)
    (either (bytes_eq word (codes "hide")) (hide args)
    (either (bytes_eq word (codes "expose")) (expose args)
    (either (bytes_eq word (codes "invokehidden")) (invoke_hidden args)
    (fails (unknown_subcommand word))))))))))))))))

-- `interp subcommand ?arg ...?`
abbrev pub interp : Integers → List Text → Program
interp style [] = fails (wrong_args (codes "interp subcommand ?arg ...?"))
interp style (word ∷ args) = subcommand style word args

-- what a child's own command is called with, as `interp` would be with its path in front
abbrev pub child_form : Text → Text → Text
child_form name form = name ++ 32 ∷ form

abbrev pub child_eval : Text → List Text → Program
child_eval name [] = fails (wrong_args (child_form name (codes "eval arg ?arg ...?")))
child_eval name (arg ∷ args) = grown (concat (arg ∷ args))
    (λ script. asks_at (name ∷ []) (Eval script) done)

-- The target of an alias that a child is given so is in the interpreter that asks, one level above
-- the child.
abbrev pub child_alias : Text → List Text → Program
child_alias name (source ∷ []) = asks_at (name ∷ []) (Ask (AliasOf source)) done
child_alias name (source ∷ [] ∷ []) = asks_at (name ∷ []) (ClearAlias source) done
child_alias name (source ∷ word ∷ args) = asks_at (name ∷ []) (SetAlias source 1 [] (word ∷ args))
    (with_text source)
child_alias name [] = fails (wrong_args
    (child_form name (codes "alias srcCmd ?targetCmd? ?arg ...?")))

abbrev pub child_question : Text → Text → Question → List Text → Program
child_question name form q [] = asks_at (name ∷ []) (Ask q) done
child_question name form q (x ∷ xs) = fails (wrong_args (child_form name form))

abbrev pub child_limit : Integers → Text → List Text → Program
child_limit style name (word ∷ []) = commands_only word
    (asks_at (name ∷ []) (Ask CountLimitOf) done)
child_limit style name (word ∷ option ∷ value ∷ []) =
    commands_only word (value_only option
    (permitted (limit_value style value
    (λ limit. asks_at (name ∷ []) (SetCountLimit limit) done))))
child_limit style name _ = fails (wrong_args (child_form name (codes "limit commands ?-value n?")))

abbrev pub child_recursion_limit : Integers → Text → List Text → Program
child_recursion_limit style name [] = asks_at (name ∷ []) (Ask DepthLimitOf) done
child_recursion_limit style name (value ∷ []) =
    permitted (integer style value
    (λ z. depth_number z (λ limit. asks_at (name ∷ []) (SetDepthLimit limit) done)))
child_recursion_limit style name _ = fails
    (wrong_args (child_form name (codes "recursionlimit ?n?")))

-- the path of a child, as a text
abbrev pub child_path : Text → Text
child_path name = written_list (name ∷ [])

abbrev pub child_hide : Text → List Text → Program
child_hide name (x ∷ []) = asks_trusted (child_path name) (Hide x x)
child_hide name (x ∷ hidden ∷ []) = asks_trusted (child_path name) (Hide x hidden)
child_hide name _ = fails (wrong_args (child_form name (codes "hide cmd ?hiddenName?")))

abbrev pub child_expose : Text → List Text → Program
child_expose name (hidden ∷ []) = asks_trusted (child_path name) (Expose hidden hidden)
child_expose name (hidden ∷ x ∷ []) = asks_trusted (child_path name) (Expose hidden x)
child_expose name _ = fails (wrong_args (child_form name (codes "expose hiddenName ?cmd?")))

abbrev pub child_invoke_hidden : Text → List Text → Program
child_invoke_hidden name args = invoked_as (child_path name)
    (child_form name (codes "invokehidden ?-global? hiddenName ?arg ...?")) false args

abbrev pub child_subcommand : Integers → Text → Text → List Text → Program
child_subcommand style name word args =
    either (bytes_eq word (codes "eval")) (child_eval name args)
    (either (bytes_eq word (codes "alias")) (child_alias name args)
    (either (bytes_eq word (codes "aliases")) (child_question name (codes "aliases") Aliases args)
    (either (bytes_eq word (codes "hidden")) (child_question name (codes "hidden") HiddenNames args)
    (either (bytes_eq word (codes "issafe")) (child_question name (codes "issafe") IsSafe args)
    (either (bytes_eq word (codes "limit")) (child_limit style name args)
    (either (bytes_eq word (codes "recursionlimit")) (child_recursion_limit style name args)
    (either (bytes_eq word (codes "hide")) (child_hide name args)
    (either (bytes_eq word (codes "expose")) (child_expose name args)
    (either (bytes_eq word (codes "invokehidden")) (child_invoke_hidden name args)
    (fails (unknown_subcommand word)))))))))))

-- `NAME subcommand ?arg ...?`
abbrev pub child : Integers → Text → List Text → Program
child style name [] = fails (wrong_args (child_form name (codes "subcommand ?arg ...?")))
child style name (word ∷ args) = child_subcommand style name word args
