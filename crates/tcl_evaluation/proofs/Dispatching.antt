-- What the words of `interp` and of a child's own command come to, by the subcommand that the first of them names.
use Rattle.std.proofs.Common.{◌≡◌, ◌≤◌, List, [], ◌∷◌, length, Option, Some, None, refl, ◌∙◌, sym, ap, arith}
use Rattle.tcl_core.specs.Paths.{Text}
use Rattle.tcl_language.specs.Faults.{wrong_args, unknown_subcommand}
use Rattle.tcl_language.specs.Instructions.{fails}
use Rattle.tcl_language.specs.Interpreters.{interp, subcommand, child, child_subcommand}
use Rattle.tcl_text.specs.declared.integer.Integers.{Integers}
use Rattle.tcl_interp.specs.Programs.{eval_forms, evals, evaluates, program_of}
use Rattle.tcl_interp.specs.Subcommands.{child_program_named, interp_program_of, interp_program_named}
use Rattle.tcl_interp.specs.Subjects.{About, on_child, reached, split_path}
use Rattle.tcl_interp.specs.declared.subcommand.InterpSubcommand.{InterpSubcommand}
use Rattle.tcl_interp.specs.declared.subcommand.InterpSubcommand.TheVariants.{Shared}
use Rattle.tcl_interp.specs.declared.subcommand.Subcommand.{Subcommand}
use Rattle.tcl_interp.proofs.Programs.{interps, childs}

-- ## interp

-- what is known of a word by which a subcommand was looked up
abbrev Finds : Text → Option InterpSubcommand → Type 0
Finds text found = (style : Integers) (args : List Text) → subcommand style text args ≡ interp_program_named style found text args

named_is : (style : Integers) (args : List Text) (word text : Text) (rest : List Text) (found : Option InterpSubcommand) → args ≡ word ∷ rest → text ≡ word → Finds text found → interp style args ≡ interp_program_named style found text rest
named_is style args word text rest found is same finds = ap (interp style) is ∙ ap (λ (w : Text). subcommand style w rest) (sym same) ∙ finds style rest

pub interp_known : (style : Integers) (args : List Text) (word text : Text) (rest : List Text) (found : Option InterpSubcommand) (s : InterpSubcommand) → args ≡ word ∷ rest → text ≡ word → Finds text found → found ≡ Some s → interp style args ≡ interp_program_of style s rest
interp_known style args word text rest found s is same finds known = named_is style args word text rest found is same finds ∙ ap (λ (x : Option InterpSubcommand). interp_program_named style x text rest) known

pub interp_shared : (style : Integers) (args : List Text) (word text : Text) (rest : List Text) (found : Option InterpSubcommand) (s : Subcommand) (a : About) (words : List Text) → args ≡ word ∷ rest → text ≡ word → Finds text found → found ≡ Some (Shared s) → split_path rest ≡ (a, words) → interp style args ≡ program_of style s a words
interp_shared style args word text rest found s a words is same finds known split =
    interp_known style args word text rest found (Shared s) is same finds known ∙ interps style s rest ∙ ap (λ (x : About × List Text). program_of style s x.0 x.1) split

pub interp_unknown : (style : Integers) (args : List Text) (word text : Text) (rest : List Text) (found : Option InterpSubcommand) → args ≡ word ∷ rest → text ≡ word → Finds text found → found ≡ None → interp style args ≡ fails (unknown_subcommand text)
interp_unknown style args word text rest found is same finds unknown = named_is style args word text rest found is same finds ∙ ap (λ (x : Option InterpSubcommand). interp_program_named style x text rest) unknown

-- ## A child's command

abbrev FindsOwn : Text → Option Subcommand → Type 0
FindsOwn text found = (style : Integers) (name : Text) (args : List Text) → child_subcommand style name text args ≡ child_program_named style name found text args

own_is : (style : Integers) (name : Text) (args : List Text) (word text : Text) (rest : List Text) (found : Option Subcommand) → args ≡ word ∷ rest → text ≡ word → FindsOwn text found → child style name args ≡ child_program_named style name found text rest
own_is style name args word text rest found is same finds = ap (child style name) is ∙ ap (λ (w : Text). child_subcommand style name w rest) (sym same) ∙ finds style name rest

pub child_known : (style : Integers) (name : Text) (args : List Text) (word text : Text) (rest : List Text) (found : Option Subcommand) (s : Subcommand) → args ≡ word ∷ rest → text ≡ word → FindsOwn text found → found ≡ Some s → child style name args ≡ program_of style s (on_child name) rest
child_known style name args word text rest found s is same finds known = own_is style name args word text rest found is same finds ∙ ap (λ (x : Option Subcommand). child_program_named style name x text rest) known ∙ childs style s name rest

pub child_unknown : (style : Integers) (name : Text) (args : List Text) (word text : Text) (rest : List Text) (found : Option Subcommand) → args ≡ word ∷ rest → text ≡ word → FindsOwn text found → found ≡ None → child style name args ≡ fails (unknown_subcommand text)
child_unknown style name args word text rest found is same finds unknown = own_is style name args word text rest found is same finds ∙ ap (λ (x : Option Subcommand). child_program_named style name x text rest) unknown

-- ## Evaluation

pub evals_none : (a : About) (args : List Text) → length args ≡ 0 → evals a args ≡ fails (wrong_args (eval_forms a))
evals_none a [] h = refl
evals_none a (x ∷ xs) h = absurd (omega (arith, h))

pub evals_some : (a : About) (args : List Text) → 1 ≤ length args → evals a args ≡ reached a (evaluates args)
evals_some a [] h = absurd (omega arith)
evals_some a (x ∷ xs) h = refl
