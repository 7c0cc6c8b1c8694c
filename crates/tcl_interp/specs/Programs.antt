-- The programs of the subcommands that `interp` and a child's own command have both: one for each,
-- whichever of the two it is called by.
use Rattle.std.specs.Prelude.{◌≡◌, Bool, false, List, [], ◌∷◌, ◌-◌, codes, length, drop}
use Rattle.tcl_core.specs.Entries.{Entry, Question}
use Rattle.tcl_core.specs.Entries.Entry.{Ask, ClearAlias, Eval, Expose, Hide, InvokeHidden}
use Rattle.tcl_core.specs.Entries.Entry.{SetAlias, SetCountLimit, SetDepthLimit}
use Rattle.tcl_core.specs.Entries.Question.{AliasOf, Aliases, CountLimitOf, DepthLimitOf, Hidden}
use Rattle.tcl_core.specs.Entries.Question.{IsSafe}
use Rattle.tcl_core.specs.Paths.{Text, Path, together}
use Rattle.tcl_core.specs.Programs.Act.{Look}
use Rattle.tcl_core.specs.Programs.Prog.{done, act}
use Rattle.tcl_language.specs.Faults.{wrong_args}
use Rattle.tcl_language.specs.Instructions.{Program, fails, grown, or_fails}
use Rattle.tcl_language.specs.Interpreters.{alias_form, alias_path, asks_at, asks_trusted}
use Rattle.tcl_language.specs.Interpreters.{below_itself, commands_only, depth_number, invoke_form}
use Rattle.tcl_language.specs.Interpreters.{invoked_as, limit_form, limit_value, permitted}
use Rattle.tcl_language.specs.Interpreters.{unless_root, value_only, where_it_stands, with_text}
use Rattle.tcl_language.specs.Variables.{integer}
use Rattle.tcl_language.specs.Words.{concat}
use Rattle.tcl_text.specs.Lists.{list_of}
use Rattle.tcl_text.specs.Writing.{fault_message}
use Rattle.tcl_text.specs.declared.integer.Integers.{Integers}
use Rattle.tcl_interp.specs.Subcommands.{child_program_of, path_program_of}
use Rattle.tcl_interp.specs.Subjects.{About, asks_of, form_of, on_child, on_itself, on_path}
use Rattle.tcl_interp.specs.Subjects.{path_text, reached, split_path}
use Rattle.tcl_interp.specs.declared.hiding.Hiding.{Hiding}
use Rattle.tcl_interp.specs.declared.hiding.Hiding.TheVariants as how
use Rattle.tcl_interp.specs.declared.limits.LimitOf.{LimitOf}
use Rattle.tcl_interp.specs.declared.limits.LimitOf.TheVariants.{Steps, Depth}
use Rattle.tcl_interp.specs.declared.subcommand.Subcommand.{Subcommand}
use Rattle.tcl_interp.specs.declared.subcommand.Subcommand.TheVariants as sub

-- ## Evaluation

abbrev pub eval_forms : About → Text
eval_forms about = form_of about (codes "interp eval path arg ?arg ...?")
    (codes "eval arg ?arg ...?")

-- the words behind the path are a script
abbrev pub evaluates : List Text → Path → Program
evaluates args path = grown (concat args) (λ script. asks_at path (Eval script) done)

abbrev pub evals : About → List Text → Program
evals about [] = fails (wrong_args (eval_forms about))
evals about (arg ∷ args) = reached about (evaluates (arg ∷ args))

-- ## Aliases

-- A name of the interpreter at a path stands for a command of the one at the path of the goal.
abbrev pub given : Path → Path → Text → List Text → Program
given path goal name words = asks_at path
    (SetAlias name (length path - together path goal) (drop (together path goal) goal) words)
    (with_text name)

-- The target of an alias that a child is given so is in the interpreter that asks.
abbrev pub gives_alias : About → Text → Text → List Text → Program
gives_alias on_itself name target [] = fails (wrong_args alias_form)
gives_alias on_itself name target (word ∷ words) = alias_path [] name target word words
gives_alias (on_path source) name target [] = fails (wrong_args alias_form)
gives_alias (on_path source) name target (word ∷ words) = alias_path source name target word words
gives_alias (on_child child) name word words = given (child ∷ []) [] name (word ∷ words)

abbrev pub aliases : About → List Text → Program
aliases about [] = fails (wrong_args (form_of about alias_form
    (codes "alias srcCmd ?targetCmd? ?arg ...?")))
aliases about (name ∷ []) = asks_of about (Ask (AliasOf name))
aliases about (name ∷ [] ∷ []) = asks_of about (ClearAlias name)
aliases about (name ∷ target ∷ words) = gives_alias about name target words

-- ## Questions

abbrev pub questions : About → Text → Text → Question → List Text → Program
questions about form own q [] = asks_of about (Ask q)
questions about form own q (x ∷ xs) = fails (wrong_args (form_of about form own))

-- ## Limits

-- on with what sets a limit to what a word is
abbrev pub to_limit : Integers → LimitOf → Text → (Entry → Program) → Program
to_limit style Steps value k = limit_value style value (λ limit. k (SetCountLimit limit))
to_limit style Depth value k = integer style value
    (λ z. depth_number z (λ limit. k (SetDepthLimit limit)))

-- on, where a limit may be set at a path
abbrev pub allowed : LimitOf → Path → Program → Program
allowed Steps path k = below_itself path k
allowed Depth path k = unless_root path k

-- on with the path at which a limit may be set
abbrev pub settable_at : LimitOf → Text → (Path → Program) → Program
settable_at limit text k = or_fails fault_message (list_of text) (λ path. allowed limit path
    (act Look (λ T. where_it_stands text (λ n. k path) (T path))))

abbrev pub settable : LimitOf → About → (Path → Program) → Program
settable limit on_itself k = settable_at limit [] k
settable limit (on_path text) k = settable_at limit text k
settable limit (on_child name) k = k (name ∷ [])

abbrev pub sets : Integers → LimitOf → About → Text → Program
sets style limit about value = permitted (settable limit about
    (λ path. to_limit style limit value (λ entry. asks_at path entry done)))

abbrev pub limits : Integers → About → List Text → Program
limits style about (word ∷ []) = commands_only word (asks_of about (Ask CountLimitOf))
limits style about (word ∷ option ∷ value ∷ []) = commands_only word
    (value_only option (sets style Steps about value))
limits style about _ = fails (wrong_args (form_of about limit_form
    (codes "limit commands ?-value n?")))

abbrev pub depth_form : Text
depth_form = codes "interp recursionlimit path ?n?"

abbrev pub depth_of : About → Program
depth_of on_itself = fails (wrong_args depth_form)
depth_of (on_path text) = asks_of (on_path text) (Ask DepthLimitOf)
depth_of (on_child name) = asks_of (on_child name) (Ask DepthLimitOf)

abbrev pub depths : Integers → About → List Text → Program
depths style about [] = depth_of about
depths style about (value ∷ []) = sets style Depth about value
depths style about (x ∷ y ∷ rest) = fails (wrong_args (form_of about depth_form
    (codes "recursionlimit ?n?")))

-- ## Hiding

-- what is asked for, by the two names in the order of the words
abbrev pub hiding_entry : Hiding → Text → Text → Entry
hiding_entry how.Hide from to = Hide from to
hiding_entry how.Expose from to = Expose from to

abbrev pub hiding_forms : Hiding → About → Text
hiding_forms how.Hide about = form_of about (codes "interp hide path cmd ?hiddenName?")
    (codes "hide cmd ?hiddenName?")
hiding_forms how.Expose about = form_of about (codes "interp expose path hiddenName ?cmd?")
    (codes "expose hiddenName ?cmd?")

-- One word is the name that the command has and the one that it gets.
abbrev pub hides_or_exposes : Hiding → About → List Text → Program
hides_or_exposes h about (name ∷ []) = asks_trusted (path_text about) (hiding_entry h name name)
hides_or_exposes h about (from ∷ to ∷ []) = asks_trusted (path_text about) (hiding_entry h from to)
hides_or_exposes h about _ = fails (wrong_args (hiding_forms h about))

abbrev pub invoke_forms : About → Text
invoke_forms about = form_of about invoke_form
    (codes "invokehidden ?-global? hiddenName ?arg ...?")

abbrev pub invokes : About → List Text → Program
invokes about args = invoked_as (path_text about) (invoke_forms about) false args

-- a hidden command is called with these words, where no more options are read
abbrev pub called_with : About → Bool → List Text → Program
called_with about global [] = fails (wrong_args (invoke_forms about))
called_with about global (name ∷ args) = asks_trusted (path_text about)
    (InvokeHidden global (name ∷ args))

-- ## The program of each

abbrev pub program_of : Integers → Subcommand → About → List Text → Program
program_of style sub.Eval about args = evals about args
program_of style sub.Alias about args = aliases about args
program_of style sub.Aliases about args = questions about (codes "interp aliases ?path?")
    (codes "aliases") Aliases args
program_of style sub.Hidden about args = questions about (codes "interp hidden ?path?")
    (codes "hidden") Hidden args
program_of style sub.IsSafe about args = questions about (codes "interp issafe ?path?")
    (codes "issafe") IsSafe args
program_of style sub.Limit about args = limits style about args
program_of style sub.RecursionLimit about args = depths style about args
program_of style sub.Hide about args = hides_or_exposes how.Hide about args
program_of style sub.Expose about args = hides_or_exposes how.Expose about args
program_of style sub.InvokeHidden about args = invokes about args

-- It is what `interp` does, whose words begin with a path.
abbrev pub IsInterps : Type 0
IsInterps = (style : Integers) (s : Subcommand) (args : List Text) →
    path_program_of style s args ≡ program_of style s (split_path args).0 (split_path args).1

-- It is what a child's own command does.
abbrev pub IsChilds : Type 0
IsChilds = (style : Integers) (s : Subcommand) (name : Text) (args : List Text) →
    child_program_of style name s args ≡ program_of style s (on_child name) args
