use Rattle.std.proofs.Common.{◌≡◌, ◌<◌, ◌++◌, ◌∷◌, [], ℕ, List, sym, ap, ◌∙◌, subst}
use Rattle.slab.specs.Slab.{Slab, get}
use Rattle.tcl_tree.specs.Copying.{Adds, IsWalk, IsWhole, left_of}
use Rattle.tcl_interpreter.specs.declared.node.Node.{Node}
use Rattle.tcl_tree.proofs.StepLemmas.{leads_somewhere, vacant_slots, at_some, at_none}
use Rattle.tcl_tree.proofs.CopyLemmas.{less_listed, walk_first, walk_like, walk_popped, walk_more, walk_less, walk_done}
use Rattle.tcl_tree.proofs.tree.Tree.subtable.Goals as goal

abbrev Pairs : Type 0
Pairs = List (ℕ × ℕ)

pub unreachable-requires : goal.unreachable-requires
unreachable-requires c = leads_somewhere _ _ c.args.self.now.sound _ _ c.requires.1 (sym c.in_default.ensures)

pub walk-init : goal.walk-init
walk-init c =
    let u = c.in_ok-root.ensures.updates in
    subst (λ (xs : Pairs). IsWalk (get c.args.self.now.nodes) (get c.insert.new.self) c.args.top c.in_ok-root.root xs)
    (sym (c.in_ok-push.ensures.items ∙ ap (λ (xs : Pairs). xs ++ (c.args.top, c.in_ok-root.root) ∷ []) c.new-open.ensures.items))
    (walk_first (get c.args.self.now.nodes) c.args.self.now.root c.args.self.now.sound c.insert.new.self c.args.top c.in_ok-root.root _ _ _ (sym c.in-Some.ensures) u.changed
    (λ k other. u.others k other ∙ vacant_slots c.new-nodes.result c.new-nodes.ensures.empty k) c.in_ok-first.ensures)

pub copy_child-requires : goal.copy_child-requires
copy_child-requires c = walk_like (get c.args.self.now.nodes) (get c.walk.nodes) c.args.top c.in_ok-root.root c.in-Some-pop.key c.in-Some-pop.twin c.pop.new.self.items
    (subst (λ (xs : Pairs). IsWalk (get c.args.self.now.nodes) (get c.walk.nodes) c.args.top c.in_ok-root.root xs) c.in-Some-pop.ensures.items c.walk.invariant)

pub walk-smaller-in_ok-push-3 : goal.walk-smaller-in_ok-push-3
walk-smaller-in_ok-push-3 c =
    let h = get c.args.self.now.nodes in
    let was = c.in-Some-pop.ensures.items in
    let now = c.in_ok-push-3.ensures.items ∙ ap (λ (xs : Pairs). xs ++ c.in-Some-2.next ∷ []) c.in_ok-push-2.ensures.items in
    let w = subst (λ (xs : Pairs). IsWalk h (get c.walk.nodes) c.args.top c.in_ok-root.root xs) was c.walk.invariant in
    let a : Adds h c.walk.nodes c.copy_child.new.nodes c.in-Some-pop.key c.in-Some-pop.twin c.in-Some-2.next.0 c.in-Some-2.next.1 =
    at_some c.in_ok-next.field-0 (λ (p : ℕ × ℕ). Adds h c.walk.nodes c.copy_child.new.nodes c.in-Some-pop.key c.in-Some-pop.twin p.0 p.1) c.in-Some-2.next c.in-Some-2.is c.in_ok-next.ensures.some in
    subst (λ (xs : Pairs). left_of h (get c.copy_child.new.nodes) xs < left_of h (get c.walk.nodes) c.walk.open.items) (sym now)
    (subst (λ (xs : Pairs). left_of h (get c.copy_child.new.nodes) ((c.pop.new.self.items ++ (c.in-Some-pop.key, c.in-Some-pop.twin) ∷ []) ++ c.in-Some-2.next ∷ []) < left_of h (get c.walk.nodes) xs) (sym was)
    (walk_less h c.args.self.now.root c.args.self.now.sound c.args.self.now.guarded c.args.self.now.ordered c.walk.nodes c.copy_child.new.nodes c.args.top c.in_ok-root.root c.in-Some-pop.key c.in-Some-pop.twin c.in-Some-2.next.0 c.in-Some-2.next.1 c.pop.new.self.items w a))

pub walk-preserved-in_ok-push-3 : goal.walk-preserved-in_ok-push-3
walk-preserved-in_ok-push-3 c =
    let h = get c.args.self.now.nodes in
    let now = c.in_ok-push-3.ensures.items ∙ ap (λ (xs : Pairs). xs ++ c.in-Some-2.next ∷ []) c.in_ok-push-2.ensures.items in
    let w = subst (λ (xs : Pairs). IsWalk h (get c.walk.nodes) c.args.top c.in_ok-root.root xs) c.in-Some-pop.ensures.items c.walk.invariant in
    let a : Adds h c.walk.nodes c.copy_child.new.nodes c.in-Some-pop.key c.in-Some-pop.twin c.in-Some-2.next.0 c.in-Some-2.next.1 =
    at_some c.in_ok-next.field-0 (λ (p : ℕ × ℕ). Adds h c.walk.nodes c.copy_child.new.nodes c.in-Some-pop.key c.in-Some-pop.twin p.0 p.1) c.in-Some-2.next c.in-Some-2.is c.in_ok-next.ensures.some in
    subst (λ (xs : Pairs). IsWalk h (get c.copy_child.new.nodes) c.args.top c.in_ok-root.root xs) (sym now)
    (walk_more h c.args.self.now.root c.args.self.now.sound c.args.self.now.guarded c.args.self.now.ordered c.walk.nodes c.copy_child.new.nodes c.args.top c.in_ok-root.root c.in-Some-pop.key c.in-Some-pop.twin c.in-Some-2.next.0 c.in-Some-2.next.1 c.pop.new.self.items w a)

pub walk-smaller : goal.walk-smaller
walk-smaller c =
    let h = get c.args.self.now.nodes in
    let same = at_none c.in_ok-next.field-0 (c.copy_child.new.nodes ≡ c.walk.nodes) c.in_default-2.is c.in_ok-next.ensures.same in
    subst (λ (n : Slab Node). left_of h (get n) c.pop.new.self.items < left_of h (get c.walk.nodes) c.walk.open.items) (sym same)
    (subst (λ (xs : Pairs). left_of h (get c.walk.nodes) c.pop.new.self.items < left_of h (get c.walk.nodes) xs) (sym c.in-Some-pop.ensures.items)
    (less_listed h (get c.walk.nodes) c.pop.new.self.items (c.in-Some-pop.key, c.in-Some-pop.twin)))

pub walk-preserved : goal.walk-preserved
walk-preserved c =
    let h = get c.args.self.now.nodes in
    let same = at_none c.in_ok-next.field-0 (c.copy_child.new.nodes ≡ c.walk.nodes) c.in_default-2.is c.in_ok-next.ensures.same in
    let all = at_none c.in_ok-next.field-0 (IsWhole h (get c.walk.nodes) c.in-Some-pop.key c.in-Some-pop.twin) c.in_default-2.is c.in_ok-next.ensures.none in
    let w = subst (λ (xs : Pairs). IsWalk h (get c.walk.nodes) c.args.top c.in_ok-root.root xs) c.in-Some-pop.ensures.items c.walk.invariant in
    subst (λ (n : Slab Node). IsWalk h (get n) c.args.top c.in_ok-root.root c.pop.new.self.items) (sym same)
    (walk_popped h (get c.walk.nodes) c.args.top c.in_ok-root.root c.in-Some-pop.key c.in-Some-pop.twin c.pop.new.self.items w all)

pub returns : goal.returns
returns c = walk_done (get c.args.self.now.nodes) (get c.walk.nodes) c.args.top c.in_ok-root.root c.walk.open.items (sym c.walk.open.ok.0 ∙ c.in_default-pop.ensures.cases.0) c.walk.invariant
