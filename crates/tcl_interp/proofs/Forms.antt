-- The forms of commands, and the last name of a path.
use Rattle.std.proofs.Common.{◌≡◌, ◌⊎◌, inl, inr, ◌<◌, ◌≤◌, ◌-◌, Bool, true, false, List, [], ◌∷◌, ◌++◌, length, take, drop, get_or, Some, None, refl, sym, ◌∙◌, ap, subst, arith}
use Rattle.std.specs.Prelude.{codes}
use Rattle.std.proofs.Math.Seq.{take-length}
use Rattle.tcl_core.specs.Endings.{ok}
use Rattle.tcl_core.specs.Endings.Reply.{Completed}
use Rattle.tcl_core.specs.Entries.{Question}
use Rattle.tcl_core.specs.Entries.Entry.{Ask, SetAlias}
use Rattle.tcl_core.specs.Entries.Question.{DepthLimitOf, Exists}
use Rattle.tcl_core.specs.Paths.{Text, Path, together}
use Rattle.tcl_core.specs.Programs.Act.{Look}
use Rattle.tcl_core.specs.Programs.Prog.{done, act}
use Rattle.tcl_core.specs.Trees.{Node}
use Rattle.tcl_language.specs.Definitions as definitions
use Rattle.tcl_language.specs.Faults as faults
use Rattle.tcl_language.specs.Instructions.{Program, either, fails}
use Rattle.tcl_language.specs.Interpreters as interpreters
use Rattle.tcl_language.specs.Interpreters.{asks_at, bit, done_so, renaming}
use Rattle.tcl_language.specs.Naming as language
use Rattle.tcl_run.proofs.Steady.{stands}
use Rattle.tcl_text.specs.declared.integer.Integers.{Integers}
use Rattle.tcl_tree.specs.Commands.{AliasView}
use Rattle.tcl_tree.specs.Own.{Own}
use Rattle.tcl_tree.specs.Reaching.{Leads as Leads_to}
use Rattle.tcl_tree.specs.TreeOf.{tree_of, Names}
use Rattle.tcl_tree.specs.declared.tree.Tree.{Tree as Table}
use Rattle.tcl_tree.specs.declared.tree.Place.{Place as TablePlace}
use Rattle.tcl_tree.specs.declared.tree.places.Reach.TheVariants as reach
use Rattle.tcl_tree.proofs.CoreLemmas.{tree_there}
use Rattle.tcl_calls.specs.Looking.{GetsTo, GetsToEnd, looked}
use Rattle.tcl_calls.proofs.Looks.{is_program, looks_here}
use Rattle.tcl_calls.proofs.Reached.{there_below, gone_below}
use Rattle.tcl_interp.specs.Programs.{aliases, depth_form, depth_of, depths, given, gives_alias, hides_or_exposes, hiding_forms, limits, questions}
use Rattle.tcl_interp.specs.declared.hiding.Hiding.{Hiding}
use Rattle.tcl_interp.specs.Subjects.{About, asks_of, form_of, on_child, on_itself, on_path}

-- ## The last name of a path

before_is : (x : Text) (ys : List Text) (d : Text) → interpreters.before_last x ys ≡ (take (length ys) (x ∷ ys), get_or (x ∷ ys) (length ys) d)
before_is x [] d = refl
before_is x (y ∷ ys) d = ap (λ (p : List Text × Text). (x ∷ p.0, p.1)) (before_is y ys d)

before_of : (x : Text) (xs : List Text) (name : Text) → name ≡ get_or (x ∷ xs) (length (x ∷ xs) - 1) name → interpreters.before_last x xs ≡ (take (length (x ∷ xs) - 1) (x ∷ xs), name)
before_of x xs name e =
    let same : length (x ∷ xs) - 1 ≡ length xs = omega arith in
    let last : get_or (x ∷ xs) (length xs) name ≡ name = ap (λ m. get_or (x ∷ xs) m name) (sym same) ∙ sym e in
    before_is x xs name ∙ (λ i. (take (sym same i) (x ∷ xs), last i))

pub last_made : (text : Text) (safe : Bool) (path : List Text) (name : Text) → 1 ≤ length path → name ≡ get_or path (length path - 1) name → interpreters.makes_named text safe path ≡ interpreters.makes_at text safe (take (length path - 1) path, name)
last_made text safe [] name h e = absurd (omega arith)
last_made text safe (x ∷ xs) name h e = ap (interpreters.makes_at text safe) (before_of x xs name e)

pub none_made : (text : Text) (safe : Bool) (path : List Text) → length path < 1 → interpreters.makes_named text safe path ≡ fails (faults.bad_name [])
none_made text safe [] h = refl
none_made text safe (x ∷ xs) h = absurd (omega arith)

pub last_deleted : (text : Text) (path : List Text) (name : Text) (more : Program) → 1 ≤ length path → name ≡ get_or path (length path - 1) name → interpreters.deletes_named text path more ≡ interpreters.deletes_at (take (length path - 1) path, name) more
last_deleted text [] name more h e = absurd (omega arith)
last_deleted text (x ∷ xs) name more h e = ap (λ (p : List Text × Text). interpreters.deletes_at p more) (before_of x xs name e)

pub none_deleted : (text : Text) (path : List Text) (more : Program) → length path < 1 → interpreters.deletes_named text path more ≡ fails (interpreters.in_use text)
none_deleted text [] more h = refl
none_deleted text (x ∷ xs) more h = absurd (omega arith)

-- ## Numbers of words

pub exists_asked : (args : List Text) → (length args < 1) ⊎ (2 ≤ length args) → interpreters.exists args ≡ interpreters.question (codes "interp exists ?path?") Exists args
exists_asked [] h = refl
exists_asked (x ∷ []) (inl h) = absurd (omega arith)
exists_asked (x ∷ []) (inr h) = absurd (omega arith)
exists_asked (x ∷ y ∷ rest) h = refl

pub create_wrong : (safe : Bool) (args : List Text) → 2 ≤ length args → interpreters.create_path safe args ≡ fails (faults.wrong_args interpreters.create_form)
create_wrong safe [] h = absurd (omega arith)
create_wrong safe (x ∷ []) h = absurd (omega arith)
create_wrong safe (x ∷ y ∷ rest) h = refl

pub create_none : (safe : Bool) (args : List Text) → length args < 1 → args ≡ []
create_none safe [] h = refl
create_none safe (x ∷ xs) h = absurd (omega arith)

pub rename_wrong : (args : List Text) → (length args < 2) ⊎ (3 ≤ length args) → definitions.rename args ≡ fails (faults.wrong_args (codes "rename oldName newName"))
rename_wrong [] h = refl
rename_wrong (x ∷ []) h = refl
rename_wrong (x ∷ [] ∷ []) (inl h) = absurd (omega arith)
rename_wrong (x ∷ [] ∷ []) (inr h) = absurd (omega arith)
rename_wrong (x ∷ (c ∷ cs) ∷ []) (inl h) = absurd (omega arith)
rename_wrong (x ∷ (c ∷ cs) ∷ []) (inr h) = absurd (omega arith)
rename_wrong (x ∷ [] ∷ z ∷ rest) h = refl
rename_wrong (x ∷ (c ∷ cs) ∷ z ∷ rest) h = refl

pub renamed_away : (old new : Text) → new ≡ [] → definitions.rename (old ∷ new ∷ []) ≡ definitions.takes_away old
renamed_away old new e = ap (λ (x : Text). definitions.rename (old ∷ x ∷ [])) e

pub renamed_other : (old new : Text) → (new ≡ [] → Prim.⊥) → definitions.rename (old ∷ new ∷ []) ≡ renaming done_so (λ own. language.renamed own old new)
renamed_other old [] other = absurd (other refl)
renamed_other old (c ∷ cs) other = refl

-- ## Whether an interpreter is there

pub exists_goes : (t : Table) (place there : TablePlace) (path : Path) → ((p : Path) → Names t place p → Leads_to t p 0 path (reach.There there)) →
    GetsTo t place (λ style. act Look (λ T. interpreters.exists_at path (T path))) (λ style. asks_at path (Ask Exists) done)
exists_goes t place there path leads = λ p style at.
    let n = stands (tree_of t (p ++ path)) (tree_there t (p ++ path) _ (there_below t place there path leads p at.names)) in
    looked (is_program (tree_of t) p _ _ (ap (interpreters.exists_at path) n.1))

pub exists_not : (t : Table) (place : TablePlace) (path : Path) (text : Text) → ((p : Path) → Names t place p → Leads_to t p 0 path reach.Missing) → text ≡ bit false →
    GetsToEnd t place (λ style. act Look (λ T. interpreters.exists_at path (T path))) (Completed (ok text))
exists_not t place path text leads e = λ p style at. record {
  completion = ok (bit false);
  way = looked (is_program (tree_of t) p _ _ (ap (interpreters.exists_at path) (gone_below t place path leads p at.names)));
  end = ap (λ (x : Text). Completed (ok x)) e;
}

-- ## A child without a name

pub unnamed_goes : (t : Table) (place : TablePlace) (safe : Bool) (name : Text) → ((p : Path) (n : Node Own) → Names t place p → tree_of t p ≡ Some n → name ≡ interpreters.free_name n.own) →
    GetsTo t place (λ style. interpreters.create_path safe []) (λ style. asks_at [] (Rattle.tcl_core.specs.Entries.Entry.Create (Some name) safe) (interpreters.with_text name))
unnamed_goes t place safe name free = λ p style at.
    let n = stands (tree_of t p) (tree_there t p _ at.names) in
    looks_here (tree_of t) p n.0 (λ m. asks_at [] (Rattle.tcl_core.specs.Entries.Entry.Create (Some (interpreters.free_name m.own)) safe) (interpreters.with_text (interpreters.free_name m.own))) _ n.1
    (is_program (tree_of t) p _ _ (ap (λ (x : Text). asks_at [] (Rattle.tcl_core.specs.Entries.Entry.Create (Some x) safe) (interpreters.with_text x)) (sym (free p n.0 at.names n.1))))

-- ## A command that is taken away

abbrev pub away : Text → Node Own → Program
away name n = either (definitions.child_named n.own (language.command_name name)) (definitions.deletes_child (language.command_name name)) (renaming done_so (λ own. language.removed own name))

pub removed_goes : (t : Table) (place : TablePlace) (name : Text) → ((p : Path) (n : Node Own) → Names t place p → tree_of t p ≡ Some n → false ≡ definitions.child_named n.own (language.command_name name)) →
    GetsTo t place (λ style. definitions.takes_away name) (λ style. renaming done_so (λ own. language.removed own name))
removed_goes t place name own = λ p style at.
    let n = stands (tree_of t p) (tree_there t p _ at.names) in
    looks_here (tree_of t) p n.0 (away name) _ n.1
    (is_program (tree_of t) p _ _ (ap (λ b. either b (definitions.deletes_child (language.command_name name)) (renaming done_so (λ own. language.removed own name))) (sym (own p n.0 at.names n.1))))

pub child_goes : (t : Table) (place : TablePlace) (name kept : Text) → ((p : Path) (n : Node Own) → Names t place p → tree_of t p ≡ Some n → true ≡ definitions.child_named n.own (language.command_name name)) → language.command_name name ≡ Some kept →
    GetsTo t place (λ style. definitions.takes_away name) (λ style. definitions.deletes_child (Some kept))
child_goes t place name kept child is = λ p style at.
    let n = stands (tree_of t p) (tree_there t p _ at.names) in
    looks_here (tree_of t) p n.0 (away name) _ n.1
    (is_program (tree_of t) p _ _ (ap (λ b. either b (definitions.deletes_child (language.command_name name)) (renaming done_so (λ own. language.removed own name))) (sym (child p n.0 at.names n.1)) ∙ ap definitions.deletes_child is))

-- a child has a name
pub child_is_named : (t : Table) (place : TablePlace) (name : Text) → (p : Path) → Names t place p → ((p : Path) (n : Node Own) → Names t place p → tree_of t p ≡ Some n → true ≡ definitions.child_named n.own (language.command_name name)) → language.command_name name ≡ None → Prim.⊥
child_is_named t place name p at child none =
    let n = stands (tree_of t p) (tree_there t p _ at) in
    let clash : true ≡ false = child p n.0 at n.1 ∙ ap (definitions.child_named n.0.own) none in cc

-- ## Subcommands that both commands have

-- what is asked with no word behind it
pub asked_alone : (a : About) (form own : Text) (q : Question) (args : List Text) → length args ≡ 0 → questions a form own q args ≡ asks_of a (Ask q)
asked_alone a form own q [] h = refl
asked_alone a form own q (x ∷ xs) h = absurd (omega (arith, h))

pub asked_wrongly : (a : About) (form own : Text) (q : Question) (args : List Text) → 1 ≤ length args → questions a form own q args ≡ fails (faults.wrong_args (form_of a form own))
asked_wrongly a form own q [] h = absurd (omega arith)
asked_wrongly a form own q (x ∷ xs) h = refl

pub limit_wrong : (style : Integers) (a : About) (args : List Text) → (length args < 1) ⊎ ((length args ≡ 2) ⊎ (4 ≤ length args)) → limits style a args ≡ fails (faults.wrong_args (form_of a interpreters.limit_form (codes "limit commands ?-value n?")))
limit_wrong style a [] h = refl
limit_wrong style a (x ∷ []) (inl h) = absurd (omega arith)
limit_wrong style a (x ∷ []) (inr (inl h)) = absurd (omega arith)
limit_wrong style a (x ∷ []) (inr (inr h)) = absurd (omega arith)
limit_wrong style a (x ∷ y ∷ []) h = refl
limit_wrong style a (x ∷ y ∷ z ∷ []) (inl h) = absurd (omega arith)
limit_wrong style a (x ∷ y ∷ z ∷ []) (inr (inl h)) = absurd (omega arith)
limit_wrong style a (x ∷ y ∷ z ∷ []) (inr (inr h)) = absurd (omega arith)
limit_wrong style a (x ∷ y ∷ z ∷ v ∷ rest) h = refl

pub depth_of_path : (a : About) (text : Text) → a ≡ on_path text → depth_of a ≡ asks_of a (Ask DepthLimitOf)
depth_of_path a text e = subst (λ (x : About). depth_of x ≡ asks_of x (Ask DepthLimitOf)) (sym e) refl

pub depth_of_child : (a : About) (name : Text) → a ≡ on_child name → depth_of a ≡ asks_of a (Ask DepthLimitOf)
depth_of_child a name e = subst (λ (x : About). depth_of x ≡ asks_of x (Ask DepthLimitOf)) (sym e) refl

pub depth_wrong : (style : Integers) (a : About) (args : List Text) → 2 ≤ length args → depths style a args ≡ fails (faults.wrong_args (form_of a depth_form (codes "recursionlimit ?n?")))
depth_wrong style a [] h = absurd (omega arith)
depth_wrong style a (x ∷ []) h = absurd (omega arith)
depth_wrong style a (x ∷ y ∷ rest) h = refl

pub names_wrong : (h : Hiding) (a : About) (args : List Text) → (length args < 1) ⊎ (3 ≤ length args) → hides_or_exposes h a args ≡ fails (faults.wrong_args (hiding_forms h a))
names_wrong h a [] f = refl
names_wrong h a (x ∷ []) (inl f) = absurd (omega arith)
names_wrong h a (x ∷ []) (inr f) = absurd (omega arith)
names_wrong h a (x ∷ y ∷ []) (inl f) = absurd (omega arith)
names_wrong h a (x ∷ y ∷ []) (inr f) = absurd (omega arith)
names_wrong h a (x ∷ y ∷ z ∷ rest) f = refl

-- ## Aliases

pub alias_cleared : (a : About) (name target : Text) (words : List Text) → length words ≡ 0 → target ≡ [] → aliases a (name ∷ target ∷ words) ≡ aliases a (name ∷ [] ∷ [])
alias_cleared a name target [] h e = ap (λ (x : Text). aliases a (name ∷ x ∷ [])) e
alias_cleared a name target (w ∷ ws) h e = absurd (omega (arith, h))

-- an alias is given where words follow the target, or that isn't empty
pub alias_with : (a : About) (name target : Text) (words : List Text) → 1 ≤ length words → aliases a (name ∷ target ∷ words) ≡ gives_alias a name target words
alias_with a name target [] h = absurd (omega arith)
alias_with a name [] (w ∷ ws) h = refl
alias_with a name (c ∷ cs) (w ∷ ws) h = refl

pub alias_named : (a : About) (name target : Text) (words : List Text) → (target ≡ [] → Prim.⊥) → aliases a (name ∷ target ∷ words) ≡ gives_alias a name target words
alias_named a name [] words h = absurd (h refl)
alias_named a name (c ∷ cs) [] h = refl
alias_named a name (c ∷ cs) (w ∷ ws) h = refl

pub alias_many : (a : About) (args : List Text) (s t : Text) → 2 ≤ length args → s ≡ get_or args 0 s → t ≡ get_or args 1 t → aliases a args ≡ aliases a (s ∷ t ∷ take (length args - 2) (drop 2 args))
alias_many a [] s t h d e = absurd (omega arith)
alias_many a (x ∷ []) s t h d e = absurd (omega arith)
alias_many a (x ∷ y ∷ rest) s t h d e =
    let same : length (x ∷ y ∷ rest) - 2 ≡ length rest = omega arith in
    (λ i. aliases a (sym d i ∷ sym e i ∷ rest)) ∙ ap (λ (ws : List Text). aliases a (s ∷ t ∷ ws)) (sym (ap (λ m. take m rest) same ∙ take-length rest))

pub given_asked : (path goal : Path) (name x told : Text) (words own : List Text) (a : AliasView) → x ≡ name → told ≡ name → own ≡ words → a ≡ record { up = length path - together path goal; down = drop (together path goal) goal; words = own } →
    given path goal name words ≡ asks_at path (SetAlias x a.up a.down a.words) (interpreters.with_text told)
given_asked path goal name x told words own a en ed eo made =
    let is : a ≡ record { up = length path - together path goal; down = drop (together path goal) goal; words = words } = made ∙ (λ i. record { up = length path - together path goal; down = drop (together path goal) goal; words = eo i }) in
    (λ i. asks_at path (SetAlias (sym en i) (sym is i).up (sym is i).down (sym is i).words) (interpreters.with_text (sym ed i)))

itself_gives : (name target : Text) (words : List Text) → gives_alias on_itself name target words ≡ gives_alias (on_path []) name target words
itself_gives name target [] = refl
itself_gives name target (w ∷ ws) = refl

pub given_by_itself : (a : About) (text name target : Text) (words : List Text) → a ≡ on_itself → text ≡ [] → gives_alias a name target words ≡ gives_alias (on_path text) name target words
given_by_itself a text name target words e f = ap (λ (x : About). gives_alias x name target words) e ∙ itself_gives name target words ∙ ap (λ (x : Text). gives_alias (on_path x) name target words) (sym f)

pub given_by_child : (a : About) (child : Text) (path : Path) (name target : Text) (words : List Text) → a ≡ on_child child → path ≡ child ∷ [] → gives_alias a name target words ≡ given path [] name (target ∷ words)
given_by_child a child path name target words e f = ap (λ (x : About). gives_alias x name target words) e ∙ ap (λ (x : Path). given x [] name (target ∷ words)) (sym f)
