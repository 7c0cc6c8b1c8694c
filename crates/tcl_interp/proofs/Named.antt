-- `interp` and a child's own command go by the names of their subcommands.
use Rattle.std.proofs.Common.{◌≡◌, Bool, true, false, if◌then◌else◌, List, Option, Some, None, refl}
use Rattle.std.specs.Prelude.{codes}
use Rattle.std.specs.Str.{bytes_eq}
use Rattle.tcl_core.specs.Entries.Question.{Aliases, Hidden, IsSafe, Slaves}
use Rattle.tcl_core.specs.Paths.{Text}
use Rattle.tcl_language.specs.Faults.{unknown_subcommand}
use Rattle.tcl_language.specs.Instructions.{Program, either, fails}
use Rattle.tcl_language.specs.Interpreters as interpreters
use Rattle.tcl_text.specs.declared.integer.Integers.{Integers}
use Rattle.tcl_interp.specs.Subcommands.{or_else, asking_of, changing_of, interp_subcommand_of, interp_program_named, subcommand_of, child_program_named}
use Rattle.tcl_interp.specs.declared.subcommand.InterpSubcommand.{InterpSubcommand}
use Rattle.tcl_interp.specs.declared.subcommand.InterpSubcommand.TheVariants.{Tree, Shared}
use Rattle.tcl_interp.specs.declared.subcommand.Subcommand.TheVariants as sub
use Rattle.tcl_interp.specs.declared.subcommand.TreeSubcommand.TheVariants as tree

making : (style : Integers) (word : Text) (args : List Text) (a b c d e : Bool) (rest : Program) (o : Option InterpSubcommand) → rest ≡ interp_program_named style o word args →
    either a (interpreters.create_options false args) (either b (interpreters.delete args) (either c (interpreters.eval args) (either d (interpreters.alias args) (either e (interpreters.question (codes "interp aliases ?path?") Aliases args) rest))))
    ≡ interp_program_named style (or_else (if a then Some (Tree tree.Create) else (if b then Some (Tree tree.Delete) else (if c then Some (Shared sub.Eval) else (if d then Some (Shared sub.Alias) else (if e then Some (Shared sub.Aliases) else None))))) o) word args
making style word args true b c d e rest o h = refl
making style word args false true c d e rest o h = refl
making style word args false false true d e rest o h = refl
making style word args false false false true e rest o h = refl
making style word args false false false false true rest o h = refl
making style word args false false false false false rest o h = h

asking : (style : Integers) (word : Text) (args : List Text) (a b c d e : Bool) (rest : Program) (o : Option InterpSubcommand) → rest ≡ interp_program_named style o word args →
    either a (interpreters.exists args) (either b (interpreters.question (codes "interp hidden ?path?") Hidden args) (either c (interpreters.question (codes "interp issafe ?path?") IsSafe args) (either d (interpreters.question (codes "interp slaves ?path?") Slaves args) (either e (interpreters.question (codes "interp children ?path?") Slaves args) rest))))
    ≡ interp_program_named style (or_else (if a then Some (Tree tree.Exists) else (if b then Some (Shared sub.Hidden) else (if c then Some (Shared sub.IsSafe) else (if d then Some (Tree tree.Slaves) else (if e then Some (Tree tree.Children) else None))))) o) word args
asking style word args true b c d e rest o h = refl
asking style word args false true c d e rest o h = refl
asking style word args false false true d e rest o h = refl
asking style word args false false false true e rest o h = refl
asking style word args false false false false true rest o h = refl
asking style word args false false false false false rest o h = h

changing : (style : Integers) (word : Text) (args : List Text) (a b c d e : Bool) →
    either a (interpreters.limit style args) (either b (interpreters.recursion_limit style args) (either c (interpreters.hide args) (either d (interpreters.expose args) (either e (interpreters.invoke_hidden args) (fails (unknown_subcommand word))))))
    ≡ interp_program_named style (if a then Some (Shared sub.Limit) else (if b then Some (Shared sub.RecursionLimit) else (if c then Some (Shared sub.Hide) else (if d then Some (Shared sub.Expose) else (if e then Some (Shared sub.InvokeHidden) else None))))) word args
changing style word args true b c d e = refl
changing style word args false true c d e = refl
changing style word args false false true d e = refl
changing style word args false false false true e = refl
changing style word args false false false false true = refl
changing style word args false false false false false = refl

-- what `interp` does with a word and those behind it is the program of the subcommand that the word names
pub by_name : (style : Integers) (word : Text) (args : List Text) → interpreters.subcommand style word args ≡ interp_program_named style (interp_subcommand_of word) word args
by_name style word args =
    making style word args (bytes_eq word (codes "create")) (bytes_eq word (codes "delete")) (bytes_eq word (codes "eval")) (bytes_eq word (codes "alias")) (bytes_eq word (codes "aliases")) _ (or_else (asking_of word) (changing_of word))
    (asking style word args (bytes_eq word (codes "exists")) (bytes_eq word (codes "hidden")) (bytes_eq word (codes "issafe")) (bytes_eq word (codes "slaves")) (bytes_eq word (codes "children")) _ (changing_of word)
    (changing style word args (bytes_eq word (codes "limit")) (bytes_eq word (codes "recursionlimit")) (bytes_eq word (codes "hide")) (bytes_eq word (codes "expose")) (bytes_eq word (codes "invokehidden"))))

-- ## A child's own command

-- the same for any answers to the ten tests
by_tests : (style : Integers) (name word : Text) (args : List Text) (a b c d e f g h i j : Bool) →
    either a (interpreters.child_eval name args)
    (either b (interpreters.child_alias name args)
    (either c (interpreters.child_question name (codes "aliases") Aliases args)
    (either d (interpreters.child_question name (codes "hidden") Hidden args)
    (either e (interpreters.child_question name (codes "issafe") IsSafe args)
    (either f (interpreters.child_limit style name args)
    (either g (interpreters.child_recursion_limit style name args)
    (either h (interpreters.child_hide name args)
    (either i (interpreters.child_expose name args)
    (either j (interpreters.child_invoke_hidden name args)
    (fails (unknown_subcommand word)))))))))))
    ≡ child_program_named style name (or_else
    (if a then Some sub.Eval else (if b then Some sub.Alias else (if c then Some sub.Aliases else (if d then Some sub.Hidden else (if e then Some sub.IsSafe else None)))))
    (if f then Some sub.Limit else (if g then Some sub.RecursionLimit else (if h then Some sub.Hide else (if i then Some sub.Expose else (if j then Some sub.InvokeHidden else None)))))) word args
by_tests style name word args true b c d e f g h i j = refl
by_tests style name word args false true c d e f g h i j = refl
by_tests style name word args false false true d e f g h i j = refl
by_tests style name word args false false false true e f g h i j = refl
by_tests style name word args false false false false true f g h i j = refl
by_tests style name word args false false false false false true g h i j = refl
by_tests style name word args false false false false false false true h i j = refl
by_tests style name word args false false false false false false false true i j = refl
by_tests style name word args false false false false false false false false true j = refl
by_tests style name word args false false false false false false false false false true = refl
by_tests style name word args false false false false false false false false false false = refl

-- and what a child's own command does
pub child_by_name : (style : Integers) (name word : Text) (args : List Text) → interpreters.child_subcommand style name word args ≡ child_program_named style name (subcommand_of word) word args
child_by_name style name word args = by_tests style name word args (bytes_eq word (codes "eval")) (bytes_eq word (codes "alias")) (bytes_eq word (codes "aliases")) (bytes_eq word (codes "hidden")) (bytes_eq word (codes "issafe"))
    (bytes_eq word (codes "limit")) (bytes_eq word (codes "recursionlimit")) (bytes_eq word (codes "hide")) (bytes_eq word (codes "expose")) (bytes_eq word (codes "invokehidden"))
