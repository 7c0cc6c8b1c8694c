-- What a script finds: a fresh tree, and the variables argv0, argv and argc.
use Rattle.std.specs.Prelude.{◌≡◌, ℕ, Bool, true, false, List, [], ◌∷◌, ◌++◌, length, codes}
use Rattle.std.specs.Bool.{MatchBool}
use Rattle.std.specs.Fmt.{decimal}
use Rattle.tcl_text.specs.Writing.{written_list}
use Rattle.tcl_tree.specs.Changes.{Makes}
use Rattle.tcl_tree.specs.TreeOf.{tree_of, marks_of, alone, new_root}
use Rattle.tcl_tree.specs.declared.tree.Tree.{Tree}
use Rattle.tcl_shell.specs.declared.options.Options.{Options}

-- the path of the interpreter in which the script runs: the root, or a child
abbrev pub path_of : Bool → List (List ℕ)
path_of true = codes "main" ∷ []
path_of false = []

-- The tree is a root alone, or one with a safe child; integer texts are read in the style that was
-- asked for.
pub record Begins (o : Options) (t : Tree) : Type 0 where
  pub tree : MatchBool o.is_safe (Makes (alone new_root) (tree_of t) [] (codes "main") true)
      (tree_of t ≡ alone new_root)
  pub marks : marks_of t ≡ record { integers = o.integers; broken = false }

-- the command by which a variable is set
abbrev pub set_command : List ℕ → List ℕ → List ℕ
set_command name value = written_list (codes "set" ∷ name ∷ value ∷ [])

-- the three commands: the file's name, or `-`; the arguments as a list; and how many they are
abbrev pub setting_of : List ℕ → List (List ℕ) → List ℕ
setting_of file arguments = set_command (codes "argv0") file ++ codes "\n" ++ set_command
    (codes "argv") (written_list arguments) ++ codes "\n" ++ set_command (codes "argc")
    (decimal (length arguments))
