-- The subcommands by their names, and what each comes to.
use Rattle.std.specs.Prelude.{if◌then◌else◌, Bool, true, false, List, Some, None, codes}
use Rattle.std.specs.declared.option.Option.{Option}
use Rattle.std.specs.Str.{bytes_eq}
use Rattle.tcl_core.specs.Entries.Question.{Aliases, Hidden, IsSafe, Slaves}
use Rattle.tcl_core.specs.Paths.{Text}
use Rattle.tcl_language.specs.Faults.{unknown_subcommand}
use Rattle.tcl_language.specs.Instructions.{Program, fails}
use Rattle.tcl_language.specs.Interpreters as interpreters
use Rattle.tcl_text.specs.declared.integer.Integers.{Integers}
use Rattle.tcl_interp.specs.declared.subcommand.Subcommand.{Subcommand}
use Rattle.tcl_interp.specs.declared.subcommand.Subcommand.TheVariants as sub
use Rattle.tcl_interp.specs.declared.subcommand.TreeSubcommand.{TreeSubcommand}
use Rattle.tcl_interp.specs.declared.subcommand.TreeSubcommand.TheVariants as tree
use Rattle.tcl_interp.specs.declared.subcommand.InterpSubcommand.{InterpSubcommand}
use Rattle.tcl_interp.specs.declared.subcommand.InterpSubcommand.TheVariants as interp

abbrev pub or_else : {A : Type 0} → Option A → Option A → Option A
or_else (Some a) b = Some a
or_else None b = b

abbrev pub making_of : Text → Option InterpSubcommand
making_of word =
    if bytes_eq word (codes "create") then Some (interp.Tree tree.Create)
    else (if bytes_eq word (codes "delete") then Some (interp.Tree tree.Delete)
    else (if bytes_eq word (codes "eval") then Some (interp.Shared sub.Eval)
    else (if bytes_eq word (codes "alias") then Some (interp.Shared sub.Alias)
    else (if bytes_eq word (codes "aliases") then Some (interp.Shared sub.Aliases)
    else None))))

abbrev pub asking_of : Text → Option InterpSubcommand
asking_of word =
    if bytes_eq word (codes "exists") then Some (interp.Tree tree.Exists)
    else (if bytes_eq word (codes "hidden") then Some (interp.Shared sub.Hidden)
    else (if bytes_eq word (codes "issafe") then Some (interp.Shared sub.IsSafe)
    else (if bytes_eq word (codes "slaves") then Some (interp.Tree tree.Slaves)
    else (if bytes_eq word (codes "children") then Some (interp.Tree tree.Children)
    else None))))

abbrev pub changing_of : Text → Option InterpSubcommand
changing_of word =
    if bytes_eq word (codes "limit") then Some (interp.Shared sub.Limit)
    else (if bytes_eq word (codes "recursionlimit") then Some (interp.Shared sub.RecursionLimit)
    else (if bytes_eq word (codes "hide") then Some (interp.Shared sub.Hide)
    else (if bytes_eq word (codes "expose") then Some (interp.Shared sub.Expose)
    else (if bytes_eq word (codes "invokehidden") then Some (interp.Shared sub.InvokeHidden)
    else None))))

-- the subcommand of `interp` that a word names
abbrev pub interp_subcommand_of : Text → Option InterpSubcommand
interp_subcommand_of word = or_else (making_of word) (or_else (asking_of word) (changing_of word))

-- the program of each that `interp` alone has
abbrev pub tree_program_of : TreeSubcommand → List Text → Program
tree_program_of tree.Create args = interpreters.create_options false args
tree_program_of tree.Delete args = interpreters.delete args
tree_program_of tree.Exists args = interpreters.exists args
tree_program_of tree.Slaves args = interpreters.question (codes "interp slaves ?path?") Slaves args
tree_program_of tree.Children args = interpreters.question (codes "interp children ?path?") Slaves
    args

-- of each that both commands have, with the words that `interp` has behind it
abbrev pub path_program_of : Integers → Subcommand → List Text → Program
path_program_of style sub.Eval args = interpreters.eval args
path_program_of style sub.Alias args = interpreters.alias args
path_program_of style sub.Aliases args = interpreters.question (codes "interp aliases ?path?")
    Aliases args
path_program_of style sub.Hidden args = interpreters.question (codes "interp hidden ?path?") Hidden
    args
path_program_of style sub.IsSafe args = interpreters.question (codes "interp issafe ?path?") IsSafe
    args
path_program_of style sub.Limit args = interpreters.limit style args
path_program_of style sub.RecursionLimit args = interpreters.recursion_limit style args
path_program_of style sub.Hide args = interpreters.hide args
path_program_of style sub.Expose args = interpreters.expose args
path_program_of style sub.InvokeHidden args = interpreters.invoke_hidden args

abbrev pub interp_program_of : Integers → InterpSubcommand → List Text → Program
interp_program_of style (interp.Tree t) args = tree_program_of t args
interp_program_of style (interp.Shared s) args = path_program_of style s args

-- and of a word that names none
abbrev pub interp_program_named : Integers → Option InterpSubcommand → Text → List Text → Program
interp_program_named style None word args = fails (unknown_subcommand word)
interp_program_named style (Some s) word args = interp_program_of style s args

abbrev pub talk_of : Text → Option Subcommand
talk_of word =
    if bytes_eq word (codes "eval") then Some sub.Eval
    else (if bytes_eq word (codes "alias") then Some sub.Alias
    else (if bytes_eq word (codes "aliases") then Some sub.Aliases
    else (if bytes_eq word (codes "hidden") then Some sub.Hidden
    else (if bytes_eq word (codes "issafe") then Some sub.IsSafe
    else None))))

abbrev pub rule_of : Text → Option Subcommand
rule_of word =
    if bytes_eq word (codes "limit") then Some sub.Limit
    else (if bytes_eq word (codes "recursionlimit") then Some sub.RecursionLimit
    else (if bytes_eq word (codes "hide") then Some sub.Hide
    else (if bytes_eq word (codes "expose") then Some sub.Expose
    else (if bytes_eq word (codes "invokehidden") then Some sub.InvokeHidden
    else None))))

-- the subcommand of a child's own command that a word names
abbrev pub subcommand_of : Text → Option Subcommand
subcommand_of word = or_else (talk_of word) (rule_of word)

-- the program of each, with the words that a child's own command has behind it
abbrev pub child_program_of : Integers → Text → Subcommand → List Text → Program
child_program_of style name sub.Eval args = interpreters.child_eval name args
child_program_of style name sub.Alias args = interpreters.child_alias name args
child_program_of style name sub.Aliases args = interpreters.child_question name (codes "aliases")
    Aliases args
child_program_of style name sub.Hidden args = interpreters.child_question name (codes "hidden")
    Hidden args
child_program_of style name sub.IsSafe args = interpreters.child_question name (codes "issafe")
    IsSafe args
child_program_of style name sub.Limit args = interpreters.child_limit style name args
child_program_of style name sub.RecursionLimit args = interpreters.child_recursion_limit style
    name args
child_program_of style name sub.Hide args = interpreters.child_hide name args
child_program_of style name sub.Expose args = interpreters.child_expose name args
child_program_of style name sub.InvokeHidden args = interpreters.child_invoke_hidden name args

abbrev pub child_program_named : Integers → Text → Option Subcommand → Text → List Text → Program
child_program_named style name None word args = fails (unknown_subcommand word)
child_program_named style name (Some s) word args = child_program_of style name s args

-- whether a subcommand evaluates no script and calls no command
abbrev pub evaluates_nothing : Subcommand → Bool
evaluates_nothing sub.Eval = false
evaluates_nothing sub.InvokeHidden = false
evaluates_nothing s = true
