-- What the commands come to that link variables.
use Rattle.std.proofs.Common.{Some, ◌≡◌, ℕ, true, false, ◌<◌, ◌≤◌, List, [], ◌∷◌, length, length-drop, get_or, take, drop, refl, sym, ap, subst, ◌∙◌, arith}
use Rattle.std.specs.Prelude.{Result, Err, codes, ◌==◌, ◌-◌}
use Rattle.std.proofs.lemmas.Bool.Decides.{nat_tests}
use Rattle.std.proofs.lemmas.List.{take_all}
use Rattle.tcl_core.specs.Endings.{ok}
use Rattle.tcl_core.specs.Paths.{Path}
use Rattle.tcl_core.specs.Programs.Prog.{done}
use Rattle.tcl_core.specs.Trees.{Node}
use Rattle.tcl_frames.specs.Chain.{Chain}
use Rattle.tcl_frames.specs.Places.{current}
use Rattle.tcl_core.specs.Paths.{Text}
use Rattle.tcl_frames.specs.Chain.{after_link}
use Rattle.tcl_language.specs.Instructions.{either, look}
use Rattle.tcl_language.specs.Variables.{chain_becomes, global, global_all, is_odd, level, link_all, local_name, upvar, upvar_words}
use Rattle.tcl_run.specs.Ends.{Interrupts}
use Rattle.tcl_run.specs.declared.interruption.Interruption.{Interruption}
use Rattle.tcl_run.specs.Plain.{Acts}
use Rattle.tcl_text.specs.declared.integer.Integers.{Integers}
use Rattle.tcl_tree.specs.Own.{Own}
use Rattle.tcl_tree.specs.TreeOf.{tree_of, Names}
use Rattle.tcl_tree.specs.declared.tree.Tree.{Tree as Table}
use Rattle.tcl_tree.specs.declared.tree.Place.{Place as TablePlace}
use Rattle.tcl_frames.specs.Names.{name_of}
use Rattle.tcl_commands.specs.Steps.{Styled, EndsAt, Leads}
use Rattle.tcl_commands.proofs.Going.{acts_as, goes_acts, passed_acts}
use Rattle.tcl_commands.proofs.Looking.{acts_looking}

-- a link of a name before the links of the others
pub global_goes : (t u : Table) (place : TablePlace) (names : List Text) (name local : Text) (others : List Text) → names ≡ name ∷ others → local ≡ local_name name (name_of name) →
    ((rest : Styled) → Leads t place (λ style. look (λ n. chain_becomes n.own (after_link n.own.chain 0 name local) (rest style))) u rest) → Leads t place (λ style. global_all names) u (λ style. global_all others)
global_goes t u place names name local others e same leads =
    subst (λ (xs : List Text). Leads t place (λ style. global_all xs) u (λ style. global_all others)) (sym e)
    (subst (λ (x : Text). Leads t place (λ style. look (λ n. chain_becomes n.own (after_link n.own.chain 0 name x) (global_all others))) u (λ style. global_all others)) same (leads (λ style. global_all others)))

pub global_ends : (t u : Table) (place : TablePlace) (names : List Text) (name local : Text) (others : List Text) (i : Interruption) → names ≡ name ∷ others → local ≡ local_name name (name_of name) →
    ((rest : Styled) → Interrupts i (EndsAt t place (λ style. look (λ n. chain_becomes n.own (after_link n.own.chain 0 name local) (rest style))) (tree_of u))) → Interrupts i (EndsAt t place (λ style. global_all names) (tree_of u))
global_ends t u place names name local others i e same ends =
    subst (λ (xs : List Text). Interrupts i (EndsAt t place (λ style. global_all xs) (tree_of u))) (sym e)
    (subst (λ (x : Text). Interrupts i (EndsAt t place (λ style. look (λ n. chain_becomes n.own (after_link n.own.chain 0 name x) (global_all others))) (tree_of u))) same (ends (λ style. global_all others)))

-- ## Pairs of names

-- what stands behind the first ones
pub behind : {A : Type 0} (k : ℕ) (xs : List A) → take (length xs - k) (drop k xs) ≡ drop k xs
behind k xs = take_all (length xs - k) (drop k xs) (omega (arith, length-drop k xs))

pub one_front : {A : Type 0} (xs : List A) (x : A) → 1 ≤ length xs → x ≡ get_or xs 0 x → xs ≡ x ∷ take (length xs - 1) (drop 1 xs)
one_front [] x h e = absurd (omega arith)
one_front (a ∷ bs) x h e = ap (λ z. z ∷ bs) (sym e) ∙ ap (λ z. x ∷ z) (sym (behind 1 (a ∷ bs)))

pub two_front : {A : Type 0} (xs : List A) (x y : A) → 2 ≤ length xs → x ≡ get_or xs 0 x → y ≡ get_or xs 1 y → xs ≡ x ∷ y ∷ take (length xs - 2) (drop 2 xs)
two_front [] x y h e d = absurd (omega arith)
two_front (a ∷ []) x y h e d = absurd (omega arith)
two_front (a ∷ b ∷ cs) x y h e d = ap (λ z. z ∷ b ∷ cs) (sym e) ∙ ap (λ z. x ∷ z ∷ cs) (sym d) ∙ ap (λ z. x ∷ y ∷ z) (sym (behind 2 (a ∷ b ∷ cs)))

pub link_goes : (t u : Table) (place : TablePlace) (at : ℕ) (names : List Text) (other local : Text) (others : List Text) → names ≡ other ∷ local ∷ others →
    ((rest : Styled) → Leads t place (λ style. look (λ n. chain_becomes n.own (after_link n.own.chain at other local) (rest style))) u rest) → Leads t place (λ style. link_all at names) u (λ style. link_all at others)
link_goes t u place at names other local others e leads =
    subst (λ (xs : List Text). Leads t place (λ style. link_all at xs) u (λ style. link_all at others)) (sym e) (leads (λ style. link_all at others))

pub link_ends : (t u : Table) (place : TablePlace) (at : ℕ) (names : List Text) (other local : Text) (others : List Text) (i : Interruption) → names ≡ other ∷ local ∷ others →
    ((rest : Styled) → Interrupts i (EndsAt t place (λ style. look (λ n. chain_becomes n.own (after_link n.own.chain at other local) (rest style))) (tree_of u))) → Interrupts i (EndsAt t place (λ style. link_all at names) (tree_of u))
link_ends t u place at names other local others i e ends =
    subst (λ (xs : List Text). Interrupts i (EndsAt t place (λ style. link_all at xs) (tree_of u))) (sym e) (ends (λ style. link_all at others))

-- no pair is left
pub link_over : (at : ℕ) (names : List Text) → length names < 2 → link_all at names ≡ done (ok [])
link_over at [] h = refl
link_over at (x ∷ []) h = refl
link_over at (x ∷ y ∷ xs) h = absurd (omega arith)

-- ## `upvar`

pub upvar_plain : (style : Integers) (args : List Text) → 2 ≤ length args → is_odd args ≡ false → upvar style args ≡ level style (codes "1") (λ at. link_all at args)
upvar_plain style [] h e = absurd (omega arith)
upvar_plain style (x ∷ []) h e = absurd (omega arith)
upvar_plain style (x ∷ y ∷ xs) h e = ap (λ b. upvar_words style b (x ∷ y ∷ xs)) e

pub upvar_level : (style : Integers) (args : List Text) (word : Text) → 2 ≤ length args → is_odd args ≡ true → word ≡ get_or args 0 word → upvar style args ≡ level style word (λ at. link_all at (take (length args - 1) (drop 1 args)))
upvar_level style [] word h e d = absurd (omega arith)
upvar_level style (x ∷ []) word h e d = absurd (omega arith)
upvar_level style (x ∷ y ∷ xs) word h e d = ap (λ b. upvar_words style b (x ∷ y ∷ xs)) e ∙ ap (λ w. level style w (λ at. link_all at (y ∷ xs))) (sym d)
    ∙ ap (λ (ps : List Text). level style word (λ at. link_all at ps)) (sym (behind 1 (x ∷ y ∷ xs)))

module _ (t u : Table) (place : TablePlace) (args : List Text) (word : Text) (pairs : List Text) (result : Result Text Interruption) (is : (style : Integers) → upvar style args ≡ level style word (λ at. link_all at pairs)) where
  pub upvar_acts : (at : ℕ) → ((rest : ℕ → Styled) → Leads t place (λ style. level style word (λ n. rest n style)) t (rest at)) → Acts t place (λ style. link_all at pairs) u result → Acts t place (λ style. upvar style args) u result
  upvar_acts at leads acts = acts_as t u place (λ style. upvar style args) (λ style. level style word (λ n. link_all n pairs)) result is
      (goes_acts t t u place (λ style. level style word (λ n. link_all n pairs)) (λ style. link_all at pairs) result (leads (λ n style. link_all n pairs)) acts)

  pub upvar_fails : (i y : Interruption) → result ≡ Err y → y ≡ i → ((rest : ℕ → Styled) → Interrupts i (EndsAt t place (λ style. level style word (λ n. rest n style)) (tree_of u))) → Acts t place (λ style. upvar style args) u result
  upvar_fails i y e same ends = acts_as t u place (λ style. upvar style args) (λ style. level style word (λ n. link_all n pairs)) result is
      (passed_acts t u place (λ style. level style word (λ n. link_all n pairs)) i y result e same (ends (λ n style. link_all n pairs)))

-- ## `global`

pub global_acts : (t u : Table) (place : TablePlace) (names : List Text) (chain : Chain) (result : Result Text Interruption) → (current chain.frames ≡ 0 → ⊥) →
    ((p : Path) (n : Node Own) → Names t place p → tree_of t p ≡ Some n → chain ≡ n.own.chain) → Acts t place (λ style. global_all names) u result → Acts t place (λ style. global names) u result
global_acts t u place names chain result inner same acts = acts_looking t u place (λ n. either (current n.own.chain.frames == 0) (done (ok [])) (global_all names)) (global_all names) result
    (λ p n at there. ap (λ b. either b (done (ok [])) (global_all names)) (ap (λ (c : Chain). current c.frames == 0) (sym (same p n at there)) ∙ not_zero (current chain.frames) inner)) acts
  where
    not_zero : (n : ℕ) → (n ≡ 0 → ⊥) → (n == 0) ≡ false
    not_zero n h = grind (arith, nat_tests)
