use Rattle.std.proofs.Common.{◌≡◌, Some, refl, sym, ◌∙◌, ap, [], ◌∷◌, ◌++◌, append_assoc, append-nil, inl, inr}
use Rattle.std.proofs.lemmas.Option.{same_Some}
use Rattle.slab.specs.Slab.{get}
use Rattle.tcl_tree.specs.Nodes.{follow}
use Rattle.tcl_interpreter.specs.Paths.{Path, Text}
use Rattle.tcl_tree.specs.TreeOf.{tree_of}
use Rattle.tcl_interpreter.proofs.PathLemmas.{ends_cases}
use Rattle.tcl_tree.proofs.MakeLemmas.{deleted_all, pruned_below, outside_apart}
use Rattle.tcl_tree.proofs.ChildLemmas.{dropped_is}
use Rattle.tcl_tree.specs.TreeOf.{key_of}
use Rattle.tcl_tree.specs.Gone.{held_of}
use Rattle.tcl_tree.proofs.PartingLemmas.{parting_first, parting_more, parting_last}
use Rattle.tcl_tree.proofs.tree.Tree.fell.Goals as goal

-- the last name of a path below a name
split : (p : Path) (n : Text) (rest more : Path) → (x : Path) × (m : Text) × (((p ++ n ∷ []) ++ rest) ++ more ≡ x ++ m ∷ [])
split p n rest more = elim (ends_cases (rest ++ more)) [
  | inl none ↦ (p, n, append_assoc (p ++ n ∷ []) rest more ∙ ap (λ r. (p ++ n ∷ []) ++ r) none ∙ append-nil (p ++ n ∷ []))
  | inr w ↦ ((p ++ n ∷ []) ++ w.front, w.last, append_assoc (p ++ n ∷ []) rest more ∙ ap (λ r. (p ++ n ∷ []) ++ r) w.is ∙ sym (append_assoc (p ++ n ∷ []) w.front (w.last ∷ [])))
]

pub prune-at-requires-clause-there : goal.prune-at-requires-clause-there
prune-at-requires-clause-there c =
    let i = c.prune.invariant.at c.requires.0 c.requires.1 c.requires.2 in
    let d = c.deepest-leaf.ensures.leads _ i.at in
    let s = split c.requires.0 c.requires.1 i.rest d.0 in
    (s.0, s.1, ap (follow (get c.prune.self.nodes) c.prune.self.root) (sym s.2) ∙ d.1)

pub returns-then-leaf-top-clause-dropped : goal.returns-then-leaf-top-clause-dropped
returns-then-leaf-top-clause-dropped c = λ p n lead.
    let i = c.prune.invariant.at p n lead in
    let leads = i.top ∙ ap Some (sym c.if-leaf-top.true) in
    dropped_is (tree_of c.args.self.now) _ p n
    (λ q. c.prune-at.ensures.tree p n leads q ∙ deleted_all (get c.prune.self.nodes) c.prune.self.root (tree_of c.args.self.now) p n _ leads c.deepest-leaf.ensures.leaf i.same q)

pub returns-then-leaf-top-clause-keys : goal.returns-then-leaf-top-clause-keys
returns-then-leaf-top-clause-keys c = λ p n lead q k outside e.
    let i = c.prune.invariant.at p n lead in
    let now = i.keys q k outside e in
    c.prune-at.ensures.keys q k now (outside_apart _ _ c.prune.self.sound (p ++ n ∷ []) [] q k _ (ap (follow (get c.prune.self.nodes) c.prune.self.root) (append-nil (p ++ n ∷ [])) ∙ i.top ∙ ap Some (sym c.if-leaf-top.true)) outside now)

pub prune-init : goal.prune-init
prune-init c = record {
  marks = refl;
  at = λ p n lead. record {
    top = lead;
    rest = [];
    at = ap (follow (get c.args.self.now.nodes) c.args.self.now.root) (append-nil (p ++ n ∷ [])) ∙ lead;
    same = λ q outside. refl;
    keys = λ q k outside e. e;
    parting = parting_first (held_of c.args.self.now) (key_of c.args.self.now) (p ++ n ∷ []);
  };
}

pub returns-then-leaf-top-clause-parts : goal.returns-then-leaf-top-clause-parts
returns-then-leaf-top-clause-parts c = λ p n lead.
    let i = c.prune.invariant.at p n lead in
    let leads = i.top ∙ ap Some (sym c.if-leaf-top.true) in
    parting_last c.prune.self (held_of c.args.self.now) (key_of c.args.self.now) (p ++ n ∷ []) _ leads c.deepest-leaf.ensures.leaf (held_of c.prune-at.new.self) c.prune-at.ensures.parted c.prune-at.ensures.others i.parting

pub prune-preserved : goal.prune-preserved
prune-preserved c = record {
  marks = c.prune-at.ensures.marks ∙ c.prune.invariant.marks;
  at = λ p n lead.
      let i = c.prune.invariant.at p n lead in
      let d = c.deepest-leaf.ensures.leads _ i.at in
      let P = p ++ n ∷ [] in
      elim (ends_cases (i.rest ++ d.0)) [
        | inl none ↦
            let same : P ≡ (P ++ i.rest) ++ d.0 = sym (append_assoc P i.rest d.0 ∙ ap (λ r. P ++ r) none ∙ append-nil P) in
            absurd (c.if-leaf-top.false (sym (same_Some _ _ (sym i.top ∙ ap (follow (get c.prune.self.nodes) c.prune.self.root) same ∙ d.1))))
        | inr w ↦
            let is : (P ++ i.rest) ++ d.0 ≡ (P ++ w.front) ++ w.last ∷ [] = append_assoc P i.rest d.0 ∙ ap (λ r. P ++ r) w.is ∙ sym (append_assoc P w.front (w.last ∷ [])) in
            let leads = ap (follow (get c.prune.self.nodes) c.prune.self.root) (sym is) ∙ d.1 in
            record {
              top = c.prune-at.ensures.keys P _ i.top (λ e. c.if-leaf-top.false (sym e));
              rest = w.front;
              at = c.prune-at.ensures.parent (P ++ w.front) w.last leads;
              same = λ q outside. c.prune-at.ensures.tree (P ++ w.front) w.last leads q ∙ pruned_below (tree_of c.prune.self) (tree_of c.args.self.now) P w.front w.last i.same q outside;
              parting =
                  let down = ap (follow (get c.prune.self.nodes) c.prune.self.root) (sym (append_assoc P i.rest d.0)) ∙ d.1 in
                  parting_more c.prune.self (held_of c.args.self.now) (key_of c.args.self.now) P _ (i.rest ++ d.0) down (held_of c.prune-at.new.self) (key_of c.prune-at.new.self) c.prune-at.ensures.keys c.prune-at.ensures.before c.prune-at.ensures.parted c.prune-at.ensures.others i.parting;
              keys = λ q k outside e.
                  let now = i.keys q k outside e in
                  c.prune-at.ensures.keys q k now (outside_apart _ _ c.prune.self.sound P (i.rest ++ d.0) q k _ (ap (follow (get c.prune.self.nodes) c.prune.self.root) (sym (append_assoc P i.rest d.0)) ∙ d.1) outside now);
            }
      ];
}
