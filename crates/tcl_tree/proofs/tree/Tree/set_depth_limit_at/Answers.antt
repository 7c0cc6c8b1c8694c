use Rattle.std.proofs.Common.{sym, refl, ap, inl, inr, arith}
use Rattle.std.specs.Prelude.{is_some}
use Rattle.tcl_tree.specs.Nodes.{view_of}
use Rattle.tcl_tree.proofs.StepLemmas.{tree_some, sound_write, guarded_write, follow_write, held_write, leads_somewhere}
use Rattle.tcl_tree.proofs.OwnLemmas.{depth_write}
use Rattle.tcl_tree.proofs.DepthLemmas.{ordered_write}
use Rattle.tcl_tree.proofs.tree.Tree.set_depth_limit_at.Goals as goal

pub unreachable-requires : goal.unreachable-requires
unreachable-requires c = leads_somewhere _ _ c.args.self.now.sound _ _ c.requires.1 (sym c.in_default.ensures)

pub returns-then-node-clause-refused : goal.returns-then-node-clause-refused
returns-then-node-clause-refused c = λ p at. (view_of c.in-Some.node.now, tree_some _ _ _ _ _ at (sym c.in-Some.ensures), c.if-node.true)

pub returns-then-limit-eq0-clause-refused : goal.returns-then-limit-eq0-clause-refused
returns-then-limit-eq0-clause-refused c = λ p at. (ap is_some (tree_some _ _ _ _ _ at (sym c.in-Some.ensures)), inl c.if-limit-eq0.true)

pub returns-then-limit-gt-MOST_DEPTH-clause-refused : goal.returns-then-limit-gt-MOST_DEPTH-clause-refused
returns-then-limit-gt-MOST_DEPTH-clause-refused c = λ p at. (ap is_some (tree_some _ _ _ _ _ at (sym c.in-Some.ensures)), inr c.if-limit-gt-MOST_DEPTH.true)

pub invariant_of-self : goal.invariant_of-self
invariant_of-self c = record {
  sound = sound_write c.args.self.now.nodes _ c.args.self.now.sound c.requires.0 _ c.requires.1 _ _ (sym c.in-Some-get_mut.ensures.value) (record { parent = refl; name = refl; level = refl; children = refl; safe = refl; gone = refl });
  guarded = guarded_write c.args.self.now.nodes _ c.args.self.now.sound c.requires.0 _ c.requires.1 _ _ (sym c.in-Some-get_mut.ensures.value) (record { parent = refl; name = refl; level = refl; children = refl; safe = refl; gone = refl }) c.args.self.now.guarded;
  ordered = ordered_write c.args.self.now.nodes _ _ _ (sym c.in-Some-get_mut.ensures.value) (record { parent = refl; name = refl; level = refl; children = refl; safe = refl; gone = refl }) refl _ c.args.self.now.ordered;
}

pub returns-clause-keys : goal.returns-clause-keys
returns-clause-keys c = follow_write c.args.self.now.nodes _ c.args.self.now.sound c.requires.0 _ c.requires.1 _ _ (sym c.in-Some-get_mut.ensures.value) (record { parent = refl; name = refl; level = refl; children = refl; safe = refl; gone = refl })

pub returns-clause-may : goal.returns-clause-may
returns-clause-may c = λ p at. record {
  target = view_of c.in-Some.node.now;
  there = tree_some _ _ _ _ _ at (sym c.in-Some.ensures);
  below_root = c.if-node.false;
  least = let z = c.if-limit-eq0.false in omega arith;
  most = c.if-limit-gt-MOST_DEPTH.false;
}

pub returns-clause-limited : goal.returns-clause-limited
returns-clause-limited c = λ p at. depth_write c.args.self.now.nodes _ c.args.self.now.sound p _ at _ _ (sym c.in-Some-get_mut.ensures.value) (record { parent = refl; name = refl; level = refl; children = refl; safe = refl; gone = refl }) c.args.limit refl

pub returns-then-node-clause-order : goal.returns-then-node-clause-order
returns-then-node-clause-order c = λ p at. (view_of c.in-Some.node.now, tree_some _ _ _ _ _ at (sym c.in-Some.ensures), c.if-node.true)

pub returns-then-limit-eq0-clause-order : goal.returns-then-limit-eq0-clause-order
returns-then-limit-eq0-clause-order c = λ p at. (view_of c.in-Some.node.now, tree_some _ _ _ _ _ at (sym c.in-Some.ensures), c.if-node.false, inl c.if-limit-eq0.true)

pub returns-then-limit-gt-MOST_DEPTH-clause-order : goal.returns-then-limit-gt-MOST_DEPTH-clause-order
returns-then-limit-gt-MOST_DEPTH-clause-order c = λ p at. (view_of c.in-Some.node.now, tree_some _ _ _ _ _ at (sym c.in-Some.ensures), c.if-node.false, inr c.if-limit-gt-MOST_DEPTH.true)

pub returns-clause-held : goal.returns-clause-held
returns-clause-held c = held_write c.args.self.now.nodes _ _ _ (sym c.in-Some-get_mut.ensures.value) (record { parent = refl; name = refl; level = refl; children = refl; safe = refl; gone = refl }) refl
