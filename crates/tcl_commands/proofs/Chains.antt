-- What changes of a chain of frames come to.
use Rattle.std.proofs.Common.{◌≡◌, Bool, true, false, Some, refl, sym, ap, subst, ◌∙◌}
use Rattle.std.specs.Prelude.{Result, Ok, Err, MatchResult}
use Rattle.tcl_core.specs.Endings.{Reply}
use Rattle.tcl_core.specs.Paths.{Path, Text}
use Rattle.tcl_core.specs.Trees.{Tree, Node, effect}
use Rattle.tcl_core.specs.Trees.What.{Changed}
use Rattle.tcl_frames.specs.Chain.{Chain, after_unset}
use Rattle.tcl_language.specs.Faults.{frame_message}
use Rattle.tcl_language.specs.Instructions.{Program, change, look, with_chain}
use Rattle.tcl_language.specs.Variables.{chain_becomes, unset_left}
use Rattle.tcl_run.specs.Ends.{Interrupts, IsFailure}
use Rattle.tcl_run.specs.Plain.{Does}
use Rattle.tcl_run.specs.Runs.{IsLevel}
use Rattle.tcl_run.specs.declared.interruption.Interruption.{Interruption}
use Rattle.tcl_run.specs.declared.interruption.Interruption.TheVariants as interruption
use Rattle.tcl_run.proofs.Endings.{Interrupts-more}
use Rattle.tcl_run.proofs.Plain.{does_look, does_fail, does_change}
use Rattle.tcl_run.proofs.Steady.{stands, changed_same, changed_level}
use Rattle.tcl_tree.specs.LendingTree.{HasFrames}
use Rattle.tcl_tree.specs.Own.{Own}
use Rattle.tcl_tree.specs.TreeOf.{tree_of, Names}
use Rattle.tcl_tree.specs.declared.tree.Tree.{Tree as Table}
use Rattle.tcl_tree.specs.declared.tree.Place.{Place as TablePlace}
use Rattle.tcl_tree.proofs.CoreLemmas.{tree_there}
use Rattle.tcl_frames.specs.Faults.{Refuses}
use Rattle.tcl_frames.specs.declared.fault.FrameError.{FrameError}
use Rattle.tcl_frames.specs.declared.fault.FrameError.TheVariants as frame_error
use Rattle.tcl_frames.specs.declared.fault.FrameFault.{FrameFault}
use Rattle.tcl_frames.specs.declared.fault.FrameFault.TheVariants as fault
use Rattle.tcl_commands.specs.Reading.{is_bad_name, Left, LeavesSet}
use Rattle.tcl_commands.specs.Steps.{Styled, EndsAt, Leads, Steps}
use Rattle.tcl_commands.proofs.Going.{leads_by, ends_as}

-- what is said of an interruption for each value is said of it for all of them
Interrupts-all : {A : Type 0} (i : Interruption) (P : A → Reply → Type 0) (Q : Reply → Type 0) → ((a : A) → Interrupts i (P a)) → ((r : Reply) → ((a : A) → P a r) → Q r) → Interrupts i Q
Interrupts-all interruption.Memory P Q f g = tt
Interrupts-all (interruption.Completed c) P Q f g = g _ f
Interrupts-all (interruption.Stopped s) P Q f g = g _ f
Interrupts-all (interruption.Exited n) P Q f g = g _ f
Interrupts-all (interruption.Cut c) P Q f g = g _ f

refused_is : (r : Result Chain FrameFault) (f : FrameFault) → Refuses (frame_error.Fault f) r → r ≡ Err f
refused_is (Ok x) f h = elim h [ ]
refused_is (Err g) f h = ap Err (sym h)

-- a chain was lent, and the interpreter has the one that was left
pub record Held (t u : Table) (place : TablePlace) (chain next : Chain) : Type 0 where
  pub level : IsLevel t u
  pub lent : (p : Path) (n : Node Own) → Names t place p → tree_of t p ≡ Some n → chain ≡ n.own.chain
  pub left : (p : Path) → Names t place p → HasFrames t u p next

pub held_of : (t u : Table) (place : TablePlace) (chain next : Chain) → (p : Path) × Names t place p → ((p : Path) → Names t place p → HasFrames t u p next) →
    ((p : Path) (n : Node Own) → Names t place p → tree_of t p ≡ Some n → chain ≡ n.own.chain) → Held t u place chain next
held_of t u place chain next at left lent =
    let n = stands (tree_of t at.0) (tree_there t at.0 _ at.1) in
    let here = left at.0 at.1 in
    record { level = changed_level t u at.0 (with_chain n.0.own next) here.marks here.keys here.held (here.tree n.0 n.1); lent = lent; left = left }

-- a chain that was left as it was
pub kept : (t u : Table) (place : TablePlace) (chain next : Chain) (p : Path) (n : Node Own) → Held t u place chain next → next ≡ chain → Names t place p → tree_of t p ≡ Some n → tree_of u ≡ tree_of t
kept t u place chain next p n held same at there =
    (held.left p at).tree n there ∙ ap (λ (c : Chain). effect p (Changed (with_chain n.own c)) (tree_of t)) (same ∙ held.lent p n at there) ∙ changed_same (tree_of t) p n there

module _ (t u : Table) (place : TablePlace) (chain next : Chain) (held : Held t u place chain next) where
  pub chain_goes : (given : Chain → Result Chain FrameFault) → given chain ≡ Ok next → (rest : Styled) → Leads t place (λ style. look (λ n. chain_becomes n.own (given n.own.chain) (rest style))) u rest
  chain_goes given made rest = leads_by t u place (λ style. look (λ n. chain_becomes n.own (given n.own.chain) (rest style))) rest held.level (λ p style V r at d.
      let n = stands (tree_of t p) (tree_there t p _ at.names) in
      let is : given n.0.own.chain ≡ Ok next = ap given (sym (held.lent p n.0 at.names n.1)) ∙ made in
      does_look (tree_of t) V p r n.0 (λ m. chain_becomes m.own (given m.own.chain) (rest style)) n.1
      (subst (λ (g : Result Chain FrameFault). Does (chain_becomes n.0.own g (rest style)) (tree_of t) p V r) (sym is)
      (does_change (tree_of t) (tree_of u) V p r n.0 (with_chain n.0.own next) (rest style) n.1 ((held.left p at.names).tree n.0 n.1) d)))

  pub chain_fails : (given : Chain → Result Chain FrameFault) (i : Interruption) → next ≡ chain → Interrupts i (IsFailure frame_message (given chain)) → (rest : Styled) →
      Interrupts i (EndsAt t place (λ style. look (λ n. chain_becomes n.own (given n.own.chain) (rest style))) (tree_of u))
  chain_fails given i same refused rest = Interrupts-more i _ _ (λ r f p style at.
      let n = stands (tree_of t p) (tree_there t p _ at.names) in
      ends_as (look (λ m. chain_becomes m.own (given m.own.chain) (rest style))) (tree_of t) (tree_of u) (tree_of t) p r (kept t u place chain next p n.0 held same at.names n.1)
      (does_look (tree_of t) (tree_of t) p r n.0 (λ m. chain_becomes m.own (given m.own.chain) (rest style)) n.1
      (does_fail (tree_of t) p frame_message (given n.0.own.chain) (λ c. change (with_chain n.0.own c) (rest style)) r
      (subst (λ (c : Chain). IsFailure frame_message (given c) r) (held.lent p n.0 at.names n.1) f)))) refused

  -- ## Unsetting

  pub unset_goes : (hides : Bool) (name : Text) → after_unset chain name ≡ Ok next → (rest : Styled) → Leads t place (λ style. look (λ n. unset_left hides n.own (rest style) (after_unset n.own.chain name))) u rest
  unset_goes hides name made rest = leads_by t u place (λ style. look (λ n. unset_left hides n.own (rest style) (after_unset n.own.chain name))) rest held.level (λ p style V r at d.
      let n = stands (tree_of t p) (tree_there t p _ at.names) in
      let is : after_unset n.0.own.chain name ≡ Ok next = ap (λ (c : Chain). after_unset c name) (sym (held.lent p n.0 at.names n.1)) ∙ made in
      does_look (tree_of t) V p r n.0 (λ m. unset_left hides m.own (rest style) (after_unset m.own.chain name)) n.1
      (subst (λ (g : Result Chain FrameFault). Does (unset_left hides n.0.own (rest style) g) (tree_of t) p V r) (sym is)
      (does_change (tree_of t) (tree_of u) V p r n.0 (with_chain n.0.own next) (rest style) n.1 ((held.left p at.names).tree n.0 n.1) d)))

  -- what a refusal comes to
  unset_by : (hides : Bool) (own : Own) (f : FrameFault) (result : Result (Unit {0}) Interruption) (k : Program) (T : Tree Own) (p : Path) → Left hides (is_bad_name f) f result →
      MatchResult result (λ done. unset_left hides own k (Err f) ≡ k) (λ i. Interrupts i (λ e. Does (unset_left hides own k (Err f)) T p T e))
  unset_by true own (fault.BadName x) (Ok d) k T p h = elim h [ ]
  unset_by true own (fault.NoVariable v x) (Ok d) k T p h = refl
  unset_by true own (fault.IsArray v x) (Ok d) k T p h = refl
  unset_by true own (fault.NotArray v x) (Ok d) k T p h = refl
  unset_by true own (fault.NoElement v x) (Ok d) k T p h = refl
  unset_by true own (fault.BadLevel m) (Ok d) k T p h = refl
  unset_by true own (fault.Exists x) (Ok d) k T p h = refl
  unset_by true own fault.Itself (Ok d) k T p h = refl
  unset_by false own f (Ok d) k T p h = elim h [ ]
  unset_by true own (fault.BadName x) (Err i) k T p h = Interrupts-more i _ _ (λ r e. (refl, e)) h
  unset_by true own (fault.NoVariable v x) (Err i) k T p h = elim h [ ]
  unset_by true own (fault.IsArray v x) (Err i) k T p h = elim h [ ]
  unset_by true own (fault.NotArray v x) (Err i) k T p h = elim h [ ]
  unset_by true own (fault.NoElement v x) (Err i) k T p h = elim h [ ]
  unset_by true own (fault.BadLevel m) (Err i) k T p h = elim h [ ]
  unset_by true own (fault.Exists x) (Err i) k T p h = elim h [ ]
  unset_by true own fault.Itself (Err i) k T p h = elim h [ ]
  unset_by false own (fault.BadName x) (Err i) k T p h = Interrupts-more i _ _ (λ r e. (refl, e)) h
  unset_by false own (fault.NoVariable v x) (Err i) k T p h = Interrupts-more i _ _ (λ r e. (refl, e)) h
  unset_by false own (fault.IsArray v x) (Err i) k T p h = Interrupts-more i _ _ (λ r e. (refl, e)) h
  unset_by false own (fault.NotArray v x) (Err i) k T p h = Interrupts-more i _ _ (λ r e. (refl, e)) h
  unset_by false own (fault.NoElement v x) (Err i) k T p h = Interrupts-more i _ _ (λ r e. (refl, e)) h
  unset_by false own (fault.BadLevel m) (Err i) k T p h = Interrupts-more i _ _ (λ r e. (refl, e)) h
  unset_by false own (fault.Exists x) (Err i) k T p h = Interrupts-more i _ _ (λ r e. (refl, e)) h
  unset_by false own fault.Itself (Err i) k T p h = Interrupts-more i _ _ (λ r e. (refl, e)) h

  pub unset_ends : (hides : Bool) (name : Text) (error : FrameError) (result : Result (Unit {0}) Interruption) → next ≡ chain → Refuses error (after_unset chain name) → LeavesSet hides error result →
      Steps t place (λ rest style. look (λ n. unset_left hides n.own (rest style) (after_unset n.own.chain name))) u result
  unset_ends hides name frame_error.Memory result same refused leaves = λ rest.
      subst (λ (x : Result (Unit {0}) Interruption). MatchResult x (λ done. Leads t place (λ style. look (λ n. unset_left hides n.own (rest style) (after_unset n.own.chain name))) u rest)
      (λ i. Interrupts i (EndsAt t place (λ style. look (λ n. unset_left hides n.own (rest style) (after_unset n.own.chain name))) (tree_of u)))) (sym leaves) tt
  unset_ends hides name (frame_error.Fault f) (Ok d) same refused leaves = λ rest. leads_by t u place (λ style. look (λ n. unset_left hides n.own (rest style) (after_unset n.own.chain name))) rest held.level (λ p style V r at d2.
      let n = stands (tree_of t p) (tree_there t p _ at.names) in
      let is : after_unset n.0.own.chain name ≡ Err f = ap (λ (c : Chain). after_unset c name) (sym (held.lent p n.0 at.names n.1)) ∙ refused_is (after_unset chain name) f refused in
      does_look (tree_of t) V p r n.0 (λ m. unset_left hides m.own (rest style) (after_unset m.own.chain name)) n.1
      (subst (λ (x : Program). Does x (tree_of t) p V r) (sym (ap (unset_left hides n.0.own (rest style)) is ∙ unset_by hides n.0.own f (Ok d) (rest style) (tree_of t) p leaves))
      (subst (λ (X : Tree Own). Does (rest style) X p V r) (kept t u place chain next p n.0 held same at.names n.1) d2)))
  unset_ends hides name (frame_error.Fault f) (Err i) same refused leaves = λ rest. ends_told rest (λ own k T p. unset_by hides own f (Err i) k T p leaves)
    where
      ends_told : (rest : Styled) → ((own : Own) (k : Program) (T : Tree Own) (p : Path) → Interrupts i (λ e. Does (unset_left hides own k (Err f)) T p T e)) →
          Interrupts i (EndsAt t place (λ style. look (λ n. unset_left hides n.own (rest style) (after_unset n.own.chain name))) (tree_of u))
      ends_told rest g = Interrupts-all i (λ (x : Own × Program × Tree Own × Path) e. Does (unset_left hides x.0 x.1 (Err f)) x.2 x.3 x.2 e) (EndsAt t place (λ style. look (λ n. unset_left hides n.own (rest style) (after_unset n.own.chain name))) (tree_of u))
          (λ x. g x.0 x.1 x.2 x.3) (λ r h p style at.
          let n = stands (tree_of t p) (tree_there t p _ at.names) in
          let is : after_unset n.0.own.chain name ≡ Err f = ap (λ (c : Chain). after_unset c name) (sym (held.lent p n.0 at.names n.1)) ∙ refused_is (after_unset chain name) f refused in
          ends_as (look (λ m. unset_left hides m.own (rest style) (after_unset m.own.chain name))) (tree_of t) (tree_of u) (tree_of t) p r (kept t u place chain next p n.0 held same at.names n.1)
          (does_look (tree_of t) (tree_of t) p r n.0 (λ m. unset_left hides m.own (rest style) (after_unset m.own.chain name)) n.1
          (subst (λ (g2 : Result Chain FrameFault). Does (unset_left hides n.0.own (rest style) g2) (tree_of t) p (tree_of t) r) (sym is) (h (n.0.own, rest style, tree_of t, p)))))
