-- How ends are told on.
use Rattle.std.proofs.Common.{◌≡◌, ℕ, suc, ◌≤◌, ◌==◌, true, false, List, [], ◌∷◌, ◌++◌, length, Some, None, refl, sym, ◌∙◌, subst, arith}
use Rattle.std.specs.Prelude.{Result, Ok, Err}
use Rattle.std.proofs.lemmas.Bool.Decides.{nat_tests}
use Rattle.std.proofs.lemmas.Option.{same_Some}
use Rattle.tcl_core.specs.Endings.{Reply, error}
use Rattle.tcl_core.specs.Endings.Reply.{Completed}
use Rattle.tcl_core.specs.Entries.{Entry}
use Rattle.tcl_core.specs.Paths.{Path, rise_to}
use Rattle.tcl_core.specs.Trees.{depth_of}
use Rattle.tcl_language.specs.Instructions.{Program}
use Rattle.tcl_language.specs.Interpreters.{asks_at, no_interpreter}
use Rattle.tcl_run.specs.Language.{language}
use Rattle.tcl_language.specs.Table.{serve}
use Rattle.tcl_run.specs.Ends.{IfEnded, Interrupts, failing}
use Rattle.tcl_run.specs.Entering.{entry_of}
use Rattle.tcl_run.specs.Outsides.{Going, Enters, Misses}
use Rattle.tcl_run.specs.Plain.{Acts, Does}
use Rattle.tcl_run.specs.Runs.{Comes, EvaluatesAt, IsAt, IsThere, IsSteady}
use Rattle.tcl_run.specs.declared.entry.OwnEntry.{OwnEntry}
use Rattle.tcl_run.specs.declared.interruption.Interruption.{Interruption}
use Rattle.tcl_run.specs.declared.interruption.Interruption.TheVariants as interruption
use Rattle.tcl_run.proofs.Endings.{IfEnded-more, IfEnded-both}
use Rattle.tcl_run.proofs.Plain.{does_comes}
use Rattle.tcl_run.proofs.Steady.{stands, steady_holds}
use Rattle.tcl_text.specs.declared.integer.Integers.{Integers}
use Rattle.tcl_tree.specs.Reaching.{Leads as Reached}
use Rattle.tcl_tree.specs.Gone.{Holds}
use Rattle.tcl_tree.specs.TreeOf.{tree_of, Names}
use Rattle.tcl_tree.specs.declared.tree.Tree.{Tree as Table}
use Rattle.tcl_tree.specs.declared.tree.Place.{Place as TablePlace}
use Rattle.tcl_tree.specs.declared.tree.places.Reach.TheVariants as reach
use Rattle.tcl_tree.proofs.CoreLemmas.{tree_there}
use Rattle.tcl_calls.specs.Carrying.{ComesBack, EndedBy}
use Rattle.tcl_calls.specs.Asking.{Asks, AsksBelow, GoesOn, asks_below}
use Rattle.tcl_calls.proofs.Asked.{rise_zero, serve_goes, call_goes, lost_goes}
use Rattle.tcl_calls.proofs.Reached.{there_below}

-- what is said of an end wherever the interpreter is that runs
abbrev pub AtEach : Table → TablePlace → (Path → Integers → Reply → Type 0) → Reply → Type 0
AtEach t place Q e = (p : Path) (style : Integers) → IsAt t place p style → Q p style e

pub Interrupts-each : (i : Interruption) (t : Table) (place : TablePlace) (Q : Path → Integers → Reply → Type 0) → ((p : Path) (style : Integers) → IsAt t place p style → Interrupts i (Q p style)) → Interrupts i (AtEach t place Q)
Interrupts-each interruption.Memory t place Q f = tt
Interrupts-each (interruption.Completed c) t place Q f = f
Interrupts-each (interruption.Stopped s) t place Q f = f
Interrupts-each (interruption.Exited n) t place Q f = f
Interrupts-each (interruption.Cut c) t place Q f = f

pub IfEnded-each : (r : Result (List ℕ) Interruption) (t : Table) (place : TablePlace) (Q : Path → Integers → Reply → Type 0) → ((p : Path) (style : Integers) → IsAt t place p style → IfEnded r (Q p style)) → IfEnded r (AtEach t place Q)
IfEnded-each (Ok text) t place Q f = f
IfEnded-each (Err i) t place Q f = Interrupts-each i t place Q f

-- what is known of an end is known of how it ended
pub ended_by : (ended : Result (List ℕ) Interruption) (s : Reply) (P : Reply → Type 0) → EndedBy ended s → IfEnded ended P → P s
ended_by (Ok text) s P e h = subst P (sym e) h
ended_by (Err interruption.Memory) s P e h = elim e [ ]
ended_by (Err (interruption.Completed c)) s P e h = subst P (sym e) h
ended_by (Err (interruption.Stopped x)) s P e h = subst P (sym e) h
ended_by (Err (interruption.Exited n)) s P e h = subst P (sym e) h
ended_by (Err (interruption.Cut c)) s P e h = subst P (sym e) h

-- what is done by itself comes, and the outside is told nothing
pub acts_at : {S : Type 0} (goes : Going S) (old new : Table) (o : S) (place : TablePlace) (program : Integers → Program) (ended : Result (List ℕ) Interruption) → Acts old place program new ended → EvaluatesAt goes old o place program new o ended
acts_at goes old new o place program ended acts = IfEnded-more ended (λ s. (q : Path) (z : Integers) → IsThere old place q z → Does (program z) (tree_of old) q (tree_of new) s)
    (λ s. (q : Path) (z : Integers) → IsThere old place q z → Comes goes (language z) (tree_of old) o q (program z) (tree_of new) o s) (λ s d q z at. does_comes (program z) o (d q z at)) acts

pub serves : {S : Type 0} (goes : Going S) (old new : Table) (o : S) (place : TablePlace) (entry own : OwnEntry) (ended : Result (List ℕ) Interruption) → entry ≡ own → Acts old place (λ style. serve style (entry_of own)) new ended →
    EvaluatesAt goes old o place (λ style. serve style (entry_of entry)) new o ended
serves goes old new o place entry own ended is acts = subst (λ (e : OwnEntry). EvaluatesAt goes old o place (λ style. serve style (entry_of e)) new o ended) (sym is) (acts_at goes old new o place (λ style. serve style (entry_of own)) ended acts)

pub is_empty_path : (path : Path) → (length path == 0) ≡ true → path ≡ []
is_empty_path [] e = refl
is_empty_path (x ∷ path) e = let d : (suc (length path) == 0) ≡ false = grind (arith, nat_tests) in let f : false ≡ true = sym d ∙ e in cc

pub is_some_path : (path : Path) → (length path == 0) ≡ false → 1 ≤ length path
is_some_path [] e = let d : (0 == 0) ≡ true = grind (arith, nat_tests) in let f : true ≡ false = sym d ∙ e in cc
is_some_path (x ∷ path) e = omega arith

-- ## What an interpreter asks of itself

pub asks_itself : {S : Type 0} (goes : Going S) (old new : Table) (o z : S) (place : TablePlace) (path : Path) (entry : Entry) (result : Result (List ℕ) Interruption) → path ≡ [] →
    EvaluatesAt goes old o place (λ style. serve style entry) new z result → Asks goes old o place path entry new z result
asks_itself goes old new o z place path entry result none runs = IfEnded-more result (λ s. (q : Path) (y : Integers) → IsThere old place q y → Comes goes (language y) (tree_of old) o q (serve y entry) (tree_of new) z s)
    (λ e. (p : Path) (style : Integers) → IsAt old place p style → GoesOn goes style (tree_of old) o p (asks_at path entry) (tree_of new) z e)
    (λ e d p style at. subst (λ (x : Path). GoesOn goes style (tree_of old) o p (asks_at x entry) (tree_of new) z e) (sym none)
    (serve_goes goes style entry e (d p style (record { names = at.names; style_is = at.style_is })))) runs

-- and of another
pub asks_another : {S : Type 0} (goes : Going S) (old new : Table) (o z : S) (place : TablePlace) (path : Path) (entry : Entry) (result : Result (List ℕ) Interruption) → 1 ≤ length path → AsksBelow goes old o place path entry new z result → Asks goes old o place path entry new z result
asks_another goes old new o z place [] entry result some asks = absurd (omega arith)
asks_another goes old new o z place (x ∷ path) entry result some asks = asks

module _ {S : Type 0} (goes : Going S) (old new : Table) (o : S) (place : TablePlace) (path : Path) (entry : Entry) (result : Result (List ℕ) Interruption) where
  -- where somebody stands, whose program came to that end, of which the outside was told
  pub asks_there : (u v w : S) (there : TablePlace) (ended : Result (List ℕ) Interruption) → ((p : Path) → Names old place p → Reached old p 0 path (reach.There there)) →
      ((p a : Path) → Names old place p → rise_to (Some 0) p ≡ Some a → Enters goes (tree_of old) o p 0 a path entry u) →
      EvaluatesAt goes old u there (λ style. serve style entry) new v ended →
      IfEnded result (λ r. (p a : Path) (d : ℕ) → Holds new place p d → rise_to (Some 0) p ≡ Some a → ComesBack goes (tree_of new) v p d 0 a path ended r w) → IsSteady old new → AsksBelow goes old o place path entry new w result
  asks_there u v w there ended leads enters runs comes steady = IfEnded-more result (λ r. (p a : Path) (d : ℕ) → Holds new place p d → rise_to (Some 0) p ≡ Some a → ComesBack goes (tree_of new) v p d 0 a path ended r w)
      (λ e. (p : Path) (style : Integers) → IsAt old place p style → GoesOn goes style (tree_of old) o p (asks_below path entry) (tree_of new) w e)
      (λ r back p style at.
      let named : Names old there (p ++ path) = there_below old place there path leads p at.names in
      let m = stands (tree_of old (p ++ path)) (tree_there old (p ++ path) _ named) in
      let told = back p p (depth_of (tree_of old p)) (steady_holds old new place p steady at.names at.running) (rise_zero p) in
      call_goes goes style p 0 path entry (error (no_interpreter [])) p r (rise_zero p) m.1 (enters p p at.names (rise_zero p))
      (ended_by ended told.reply (λ s. (q : Path) (z : Integers) → IsThere old there q z → Comes goes (language z) (tree_of old) u q (serve z entry) (tree_of new) v s) told.ended_so runs (p ++ path) style (record { names = named; style_is = at.style_is }))
      told.told_so told.returns) comes

  -- and where nobody does
  pub asks_nobody : (u : S) → ((p : Path) → Names old place p → Reached old p 0 path reach.Missing) → new ≡ old → IfEnded result (λ e. e ≡ Completed (failing (no_interpreter []))) →
      IfEnded result (λ e. (p a : Path) → Names old place p → rise_to (Some 0) p ≡ Some a → Misses goes (tree_of old) o p 0 path entry e u) → AsksBelow goes old o place path entry new u result
  asks_nobody u leads same told misses = IfEnded-both result (λ e. e ≡ Completed (failing (no_interpreter []))) (λ e. (p a : Path) → Names old place p → rise_to (Some 0) p ≡ Some a → Misses goes (tree_of old) o p 0 path entry e u)
      (λ e. (p : Path) (style : Integers) → IsAt old place p style → GoesOn goes style (tree_of old) o p (asks_below path entry) (tree_of new) u e)
      (λ e f miss p style at.
      let lead = leads p at.names in
      let here : lead.0 ≡ p = same_Some _ _ (sym lead.1 ∙ rise_zero p) in
      let gone : tree_of old (p ++ path) ≡ None = subst (λ (a : Path). tree_of old (a ++ path) ≡ None) here lead.2 in
      subst (λ (t : Table). GoesOn goes style (tree_of old) o p (asks_below path entry) (tree_of t) u e) (sym same)
      (lost_goes goes style (tree_of old) o u p 0 path entry (error (no_interpreter [])) p e (rise_zero p) gone f (miss p p at.names (rise_zero p)))) told misses
