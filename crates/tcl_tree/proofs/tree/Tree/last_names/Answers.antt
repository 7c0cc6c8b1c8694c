use Rattle.std.proofs.Common.{◌≡◌, ◌++◌, ◌∷◌, [], List, ℕ, Some, None, ◌+◌, ◌≤◌, length, reverse, sym, ap, ◌∙◌, arith, subst}
use Rattle.std.proofs.lemmas.List.{length-reverse}
use Rattle.slab.specs.Slab.{get}
use Rattle.tcl_core.specs.Paths.{falls}
use Rattle.tcl_tree.specs.Nodes.{follow}
use Rattle.tcl_interpreter.specs.Paths.{Path, ancestor}
use Rattle.tcl_interpreter.proofs.PathLemmas.{ancestor_itself}
use Rattle.tcl_tree.proofs.StepLemmas.{climb_up, climb_end, climb_name, leads_somewhere}
use Rattle.tcl_interpreter.proofs.LastNames.{falls_behind, falls_all}
use Rattle.tcl_tree.proofs.FallLemmas.{one_more, nothing_above, stood_climbs, stood_ends, stood_somewhere}
use Rattle.tcl_tree.specs.Gone.{held_of}
use Rattle.tcl_tree.specs.Held.{StoodAt}
use Rattle.tcl_tree.proofs.tree.Tree.last_names.Goals.{else-climb-test, then-climb-test+in_default, then-climb-test+in-Some+in_default-parent}
use Rattle.tcl_tree.proofs.tree.Tree.last_names.Goals as goal

pub climb-init : goal.climb-init
climb-init c =
    let none : c.new-names.result.items ≡ [] = c.new-names.ensures.items in
    record {
      count = ap length none;
      leads = λ p lead. record {
        short = omega arith;
        at = ap (follow (get c.args.self.now.nodes) c.args.self.now.root) (ancestor_itself p) ∙ lead;
        names = ap (λ (xs : Path). ancestor p 0 ++ reverse xs) none ∙ Rattle.std.proofs.Common.append-nil (ancestor p 0) ∙ ancestor_itself p;
      };
      stood = λ p w. record {
        short = omega arith;
        at = subst (λ (x : Path). StoodAt (held_of c.args.self.now) c.args.place.key x) (sym (ancestor_itself p)) w;
        names = ap (λ (xs : Path). ancestor p 0 ++ reverse xs) none ∙ Rattle.std.proofs.Common.append-nil (ancestor p 0) ∙ ancestor_itself p;
      };
    }

pub climb-preserved : goal.climb-preserved
climb-preserved c =
    let items = c.in_ok-push.ensures.items in
    let name = c.in_ok-clone.ensures.cases in
    record {
      count = ap length items ∙ Rattle.std.proofs.Common.length-append c.climb.names.items _ ∙ ap (λ n. n + 1) c.climb.invariant.count;
      leads = λ p lead.
          let i = c.climb.invariant.leads p lead in
          let up = climb_up _ _ c.args.self.now.sound p _ _ _ _ i.short i.at (sym c.in-Some.ensures) c.in-Some-parent.is in
          let last = climb_name _ _ c.args.self.now.sound p _ _ _ _ i.short i.at (sym c.in-Some.ensures) c.in-Some-parent.is in
          record {
            short = let w = up.within in omega arith;
            at = up.leads;
            names = ap (λ (xs : Path). ancestor p (c.climb.counter + 1) ++ reverse xs) (items ∙ ap (λ (x : List ℕ). c.climb.names.items ++ x ∷ []) name)
                ∙ one_more p (ancestor p (c.climb.counter + 1)) (ancestor p c.climb.counter) c.in-Some.node.now.name c.climb.names.items i.names last;
          };
      stood = λ p w.
          let i = c.climb.invariant.stood p w in
          let up = stood_climbs (get c.args.self.now.nodes) p _ _ _ _ i.short i.at (sym c.in-Some.ensures) c.in-Some-parent.is in
          record {
            short = let l = up.0 in omega arith;
            at = up.1;
            names = ap (λ (xs : Path). ancestor p (c.climb.counter + 1) ++ reverse xs) (items ∙ ap (λ (x : List ℕ). c.climb.names.items ++ x ∷ []) name)
                ∙ one_more p (ancestor p (c.climb.counter + 1)) (ancestor p c.climb.counter) c.in-Some.node.now.name c.climb.names.items i.names up.2;
          };
    }

pub returns-clause-named : goal.returns-clause-named
returns-clause-named c = λ p lead.
    let i = c.climb.invariant.leads p lead in
    let counted : length (reverse c.climb.names.items) ≡ c.climb.counter = length-reverse c.climb.names.items ∙ c.climb.invariant.count in
    c.reverse.ensures.items ∙ elim c.climb-test.branch [
      | else-climb-test w ↦
          let end = c.climb.auto.counter-end in
          let all : c.climb.counter ≡ c.args.most = let f = w.climb-test.false in omega arith in
          sym (falls_behind c.args.most (ancestor p c.climb.counter) (reverse c.climb.names.items) (counted ∙ all)) ∙ ap (falls c.args.most) i.names
      | then-climb-test+in_default w ↦ absurd (leads_somewhere _ _ c.args.self.now.sound _ _ i.at (sym w.in_default.ensures))
      | then-climb-test+in-Some+in_default-parent w ↦
          let top = climb_end _ _ c.args.self.now.sound p _ _ _ i.short i.at (sym w.in-Some.ensures) w.in_default-parent.is in
          let whole : reverse c.climb.names.items ≡ p = ap (λ (xs : Path). xs ++ reverse c.climb.names.items) (sym (nothing_above p c.climb.counter top)) ∙ i.names in
          let less = w.climb-test.true in
          whole ∙ sym (falls_all c.args.most p (omega arith))
    ]

pub returns-clause-stood : goal.returns-clause-stood
returns-clause-stood c = λ p lead.
    let i = c.climb.invariant.stood p lead in
    let counted : length (reverse c.climb.names.items) ≡ c.climb.counter = length-reverse c.climb.names.items ∙ c.climb.invariant.count in
    c.reverse.ensures.items ∙ elim c.climb-test.branch [
      | else-climb-test w ↦
          let end = c.climb.auto.counter-end in
          let all : c.climb.counter ≡ c.args.most = let f = w.climb-test.false in omega arith in
          sym (falls_behind c.args.most (ancestor p c.climb.counter) (reverse c.climb.names.items) (counted ∙ all)) ∙ ap (falls c.args.most) i.names
      | then-climb-test+in_default w ↦ absurd (stood_somewhere (get c.args.self.now.nodes) _ _ i.at (sym w.in_default.ensures))
      | then-climb-test+in-Some+in_default-parent w ↦
          let top = stood_ends (get c.args.self.now.nodes) p _ _ _ i.short i.at (sym w.in-Some.ensures) w.in_default-parent.is in
          let whole : reverse c.climb.names.items ≡ p = ap (λ (xs : Path). xs ++ reverse c.climb.names.items) (sym (nothing_above p c.climb.counter top)) ∙ i.names in
          let less = w.climb-test.true in
          whole ∙ sym (falls_all c.args.most p (omega arith))
    ]
