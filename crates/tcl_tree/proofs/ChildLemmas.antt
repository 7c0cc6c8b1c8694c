-- What is made and deleted, in the words of the core.
use Rattle.std.proofs.Common.{◌≡◌, Bool, true, false, cond, [], ◌∷◌, ◌++◌, refl, sym, ◌∙◌, ap, inl, inr, Option, Some, None}
use Rattle.std.specs.Prelude.{◌≢◌, is_some}
use Rattle.std.specs.Option.{option_map}
use Rattle.tcl_core.specs.Paths.{strip}
use Rattle.tcl_core.specs.Trees as core
use Rattle.tcl_core.specs.Trees.{on_node, at_end, where_some, effect, with_own}
use Rattle.tcl_core.specs.Trees.What.{Changed, Made, Dropped}
use Rattle.tcl_core.specs.Programs.{either}
use Rattle.tcl_core.proofs.PathLaws.{strip-sound, strip_own}
use Rattle.tcl_interpreter.specs.Paths.{Text, Path, is_above, with_node}
use Rattle.tcl_interpreter.specs.Own.{Own, with_new_child, without_old_child}
use Rattle.tcl_tree.specs.Nodes.{NodeView, with_child, without_child, grown, deleted}
use Rattle.tcl_interpreter.proofs.PathLemmas.{path_cases}
use Rattle.tcl_tree.proofs.CoreLemmas.{above_is}

append_none : (p : Path) → p ++ [] ≡ p
append_none [] = refl
append_none (x ∷ p) = ap (λ r. x ∷ r) (append_none p)

-- a value that is put at a place is a change of the node there
node_at_is : (g : Option NodeView → Option NodeView) (f : Path → Option NodeView) (p q : Path) → with_node f p (g (f p)) q ≡ on_node p g f q
unfolding with_node
node_at_is g f p q = elim (path_cases q p) [
  | inl w ↦
      ap (λ b. cond b (g (f p)) (f q)) w.1
      ∙ sym (ap (λ o. at_end o g (f q)) (ap (strip p) (w.0 ∙ sym (append_none p)) ∙ strip_own p []) ∙ ap (λ r. g (f r)) w.0)
  | inr w ↦ ap (λ b. cond b (g (f p)) (f q)) w.1 ∙ sym (by (strip p q) refl w.0)
]
  where
    by : (o : Option Path) → strip p q ≡ o → q ≢ p → at_end o g (f q) ≡ f q
    by None e n = refl
    by (Some []) e n = absurd (n (strip-sound p q [] e ∙ append_none p))
    by (Some (x ∷ xs)) e n = refl

-- the own part of the node at p is written
parent_is : (f : Path → Option NodeView) (p : Path) (u : NodeView) → f p ≡ Some u → (change : NodeView → NodeView) (o : Own) → change u ≡ record u { own = o }
    → with_node f p (option_map change (f p)) ≡ on_node p (with_own o) f
parent_is f p u here change o e = λ i q.
    (ap (λ x. with_node f p x q) (ap (option_map change) here ∙ ap Some e ∙ sym (ap (with_own o) here)) ∙ node_at_is (with_own o) f p q) i

pub made_is : (f g : Path → Option NodeView) (p : Path) (n : Text) (v : NodeView) (o : Own) (s : Bool) → v ≡ core.fresh o s → ((q : Path) → g q ≡ grown f p n v q)
    → (u : NodeView) → f p ≡ Some u → g ≡ effect (p ++ n ∷ []) (Made o s) (effect p (Changed (with_new_child n u.own)) f)
unfolding grown
made_is f g p n v o s is done u here = λ i q.
    (done q
    ∙ (λ j. with_node (parent_is f p u here (with_child n) (with_new_child n u.own) refl j) (p ++ n ∷ []) (Some (is j)) q)
    ∙ node_at_is (λ x. Some (core.fresh o s)) (on_node p (with_own (with_new_child n u.own)) f) (p ++ n ∷ []) q) i

below_is : (c q : Path) (x : Option NodeView) → cond (is_above c q) None x ≡ where_some (strip c q) (λ y. None) x
below_is c q x = by (strip c q) (is_above c q) (above_is c q)
  where
    by : (o : Option Path) (b : Bool) → b ≡ is_some o → cond b None x ≡ where_some o (λ y. None) x
    by None true e = let z : true ≡ false = e in cc
    by None false e = refl
    by (Some a) true e = refl
    by (Some a) false e = let z : false ≡ true = e in cc

pub dropped_is : (f g : Path → Option NodeView) (p : Path) (n : Text) → ((q : Path) → g q ≡ deleted f p n q)
    → (u : NodeView) → f p ≡ Some u → g ≡ effect (p ++ n ∷ []) Dropped (effect p (Changed (without_old_child n u.own)) f)
unfolding deleted
dropped_is f g p n done u here = λ i q.
    (done q
    ∙ ap (λ (h : Path → Option NodeView). cond (is_above (p ++ n ∷ []) q) None (h q)) (parent_is f p u here (without_child n) (without_old_child n u.own) refl)
    ∙ below_is (p ++ n ∷ []) q (on_node p (with_own (without_old_child n u.own)) f q)) i

pub either_parent : (a : Bool) → either a true ≡ true
either_parent true = refl
either_parent false = refl
