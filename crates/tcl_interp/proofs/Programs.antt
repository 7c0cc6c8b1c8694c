-- The program of a subcommand that both commands have is that of each of them.
use Rattle.std.proofs.Common.{◌≡◌, List, [], ◌∷◌, refl}
use Rattle.std.specs.Prelude.{codes}
use Rattle.tcl_core.specs.Entries.{Question}
use Rattle.tcl_core.specs.Paths.{Text}
use Rattle.tcl_language.specs.Interpreters as interpreters
use Rattle.tcl_text.specs.declared.integer.Integers.{Integers}
use Rattle.tcl_interp.specs.Programs.{IsChilds, IsInterps, aliases, depths, evals, hides_or_exposes, invokes, limits, questions}
use Rattle.tcl_interp.specs.Subjects.{on_child, split_path}
use Rattle.tcl_interp.specs.declared.hiding.Hiding.TheVariants as how
use Rattle.tcl_interp.specs.declared.subcommand.Subcommand.TheVariants as sub

-- ## `interp`

pub question_split : (form own : Text) (q : Question) (args : List Text) → interpreters.question form q args ≡ questions (split_path args).0 form own q (split_path args).1
question_split form own q [] = refl
question_split form own q (text ∷ []) = refl
question_split form own q (text ∷ x ∷ rest) = refl

eval_split : (args : List Text) → interpreters.eval args ≡ evals (split_path args).0 (split_path args).1
eval_split [] = refl
eval_split (text ∷ []) = refl
eval_split (text ∷ x ∷ rest) = refl

alias_split : (args : List Text) → interpreters.alias args ≡ aliases (split_path args).0 (split_path args).1
alias_split [] = refl
alias_split (source ∷ []) = refl
alias_split (source ∷ name ∷ []) = refl
alias_split (source ∷ name ∷ [] ∷ []) = refl
alias_split (source ∷ name ∷ (c ∷ cs) ∷ []) = refl
alias_split (source ∷ name ∷ [] ∷ word ∷ rest) = refl
alias_split (source ∷ name ∷ (c ∷ cs) ∷ word ∷ rest) = refl

limit_split : (style : Integers) (args : List Text) → interpreters.limit style args ≡ limits style (split_path args).0 (split_path args).1
limit_split style [] = refl
limit_split style (text ∷ []) = refl
limit_split style (text ∷ x ∷ []) = refl
limit_split style (text ∷ x ∷ y ∷ []) = refl
limit_split style (text ∷ x ∷ y ∷ z ∷ []) = refl
limit_split style (text ∷ x ∷ y ∷ z ∷ v ∷ rest) = refl

depth_split : (style : Integers) (args : List Text) → interpreters.recursion_limit style args ≡ depths style (split_path args).0 (split_path args).1
depth_split style [] = refl
depth_split style (text ∷ []) = refl
depth_split style (text ∷ x ∷ []) = refl
depth_split style (text ∷ x ∷ y ∷ rest) = refl

hide_split : (args : List Text) → interpreters.hide args ≡ hides_or_exposes how.Hide (split_path args).0 (split_path args).1
hide_split [] = refl
hide_split (text ∷ []) = refl
hide_split (text ∷ x ∷ []) = refl
hide_split (text ∷ x ∷ y ∷ []) = refl
hide_split (text ∷ x ∷ y ∷ z ∷ rest) = refl

expose_split : (args : List Text) → interpreters.expose args ≡ hides_or_exposes how.Expose (split_path args).0 (split_path args).1
expose_split [] = refl
expose_split (text ∷ []) = refl
expose_split (text ∷ x ∷ []) = refl
expose_split (text ∷ x ∷ y ∷ []) = refl
expose_split (text ∷ x ∷ y ∷ z ∷ rest) = refl

invoke_split : (args : List Text) → interpreters.invoke_hidden args ≡ invokes (split_path args).0 (split_path args).1
invoke_split [] = refl
invoke_split (text ∷ []) = refl
invoke_split (text ∷ x ∷ rest) = refl

pub interps : IsInterps
interps style sub.Eval args = eval_split args
interps style sub.Alias args = alias_split args
interps style sub.Aliases args = question_split (codes "interp aliases ?path?") (codes "aliases") _ args
interps style sub.Hidden args = question_split (codes "interp hidden ?path?") (codes "hidden") _ args
interps style sub.IsSafe args = question_split (codes "interp issafe ?path?") (codes "issafe") _ args
interps style sub.Limit args = limit_split style args
interps style sub.RecursionLimit args = depth_split style args
interps style sub.Hide args = hide_split args
interps style sub.Expose args = expose_split args
interps style sub.InvokeHidden args = invoke_split args

-- ## A child's own command

child_asked : (name form path : Text) (q : Question) (args : List Text) → interpreters.child_question name form q args ≡ questions (on_child name) path form q args
child_asked name form path q [] = refl
child_asked name form path q (x ∷ rest) = refl

child_evals : (name : Text) (args : List Text) → interpreters.child_eval name args ≡ evals (on_child name) args
child_evals name [] = refl
child_evals name (x ∷ rest) = refl

child_aliases : (name : Text) (args : List Text) → interpreters.child_alias name args ≡ aliases (on_child name) args
child_aliases name [] = refl
child_aliases name (x ∷ []) = refl
child_aliases name (x ∷ [] ∷ []) = refl
child_aliases name (x ∷ (c ∷ cs) ∷ []) = refl
child_aliases name (x ∷ [] ∷ word ∷ rest) = refl
child_aliases name (x ∷ (c ∷ cs) ∷ word ∷ rest) = refl

child_limits : (style : Integers) (name : Text) (args : List Text) → interpreters.child_limit style name args ≡ limits style (on_child name) args
child_limits style name [] = refl
child_limits style name (x ∷ []) = refl
child_limits style name (x ∷ y ∷ []) = refl
child_limits style name (x ∷ y ∷ z ∷ []) = refl
child_limits style name (x ∷ y ∷ z ∷ v ∷ rest) = refl

child_depths : (style : Integers) (name : Text) (args : List Text) → interpreters.child_recursion_limit style name args ≡ depths style (on_child name) args
child_depths style name [] = refl
child_depths style name (x ∷ []) = refl
child_depths style name (x ∷ y ∷ rest) = refl

child_hides : (name : Text) (args : List Text) → interpreters.child_hide name args ≡ hides_or_exposes how.Hide (on_child name) args
child_hides name [] = refl
child_hides name (x ∷ []) = refl
child_hides name (x ∷ y ∷ []) = refl
child_hides name (x ∷ y ∷ z ∷ rest) = refl

child_exposes : (name : Text) (args : List Text) → interpreters.child_expose name args ≡ hides_or_exposes how.Expose (on_child name) args
child_exposes name [] = refl
child_exposes name (x ∷ []) = refl
child_exposes name (x ∷ y ∷ []) = refl
child_exposes name (x ∷ y ∷ z ∷ rest) = refl

pub childs : IsChilds
childs style sub.Eval name args = child_evals name args
childs style sub.Alias name args = child_aliases name args
childs style sub.Aliases name args = child_asked name (codes "aliases") (codes "interp aliases ?path?") _ args
childs style sub.Hidden name args = child_asked name (codes "hidden") (codes "interp hidden ?path?") _ args
childs style sub.IsSafe name args = child_asked name (codes "issafe") (codes "interp issafe ?path?") _ args
childs style sub.Limit name args = child_limits style name args
childs style sub.RecursionLimit name args = child_depths style name args
childs style sub.Hide name args = child_hides name args
childs style sub.Expose name args = child_exposes name args
childs style sub.InvokeHidden name args = refl
