use Rattle.std.proofs.Common.{rules, ◌≡◌, sym, []}
use Rattle.tcl_interpreter.specs.declared.node.Node.{Node}
use Rattle.tcl_tree.proofs.HeldLemmas.{follow_stands}
use Rattle.tcl_tree.proofs.StepLemmas.{leads_somewhere, at_some}
use Rattle.tcl_tree.proofs.MakeLemmas.{no_parent_is_root, parent_there, parent_apart}
use Rattle.tcl_tree.proofs.PartingLemmas.{sound_detached, guarded_detached, ordered_detached, keys_detached, before_detached, parent_detached, tree_detached, here_detached, others_detached, fewer_stand}
use Rattle.tcl_tree.proofs.tree.Tree.prune.Goals as goal

pub unreachable-requires : goal.unreachable-requires
unreachable-requires c = leads_somewhere _ _ c.args.self.now.sound _ _ c.requires.there.2 (sym c.in_default.ensures)

pub unreachable-requires-in_default-parent : goal.unreachable-requires-in_default-parent
unreachable-requires-in_default-parent c = no_parent_is_root _ _ c.args.self.now.sound c.requires.there.0 c.requires.there.1 _ _ c.requires.there.2 (sym c.in-Some.ensures) c.in_default-parent.is

pub detach-requires-clause-parent : goal.detach-requires-clause-parent
detach-requires-clause-parent c = parent_there _ _ c.args.self.now.ordered _ _ _ (sym c.in-Some.ensures) c.in-Some-parent.is

pub detach-requires-clause-apart : goal.detach-requires-clause-apart
detach-requires-clause-apart c = parent_apart _ _ c.args.self.now.ordered _ _ _ (sym c.in-Some.ensures) c.in-Some-parent.is

pub invariant_of-self : goal.invariant_of-self
invariant_of-self c =
    let is = sym c.in-Some.ensures in
    let leaf = at_some _ (λ (node : Node). node.children.entries ≡ []) _ is c.requires.leaf in
    let stands = follow_stands _ _ c.args.self.now.sound c.args.self.now.ordered _ _ c.requires.there.2 in
    let apart = parent_apart _ _ c.args.self.now.ordered _ _ _ is c.in-Some-parent.is in
    record {
      sound = sound_detached c.args.self.now.nodes c.detach.new.nodes _ c.args.self.now.sound c.args.self.now.ordered _ _ _ (c.detach.ensures _ is) is c.in-Some-parent.is leaf stands apart;
      guarded = guarded_detached c.args.self.now.nodes c.detach.new.nodes _ c.args.self.now.sound c.args.self.now.ordered _ _ _ (c.detach.ensures _ is) is c.in-Some-parent.is leaf stands apart c.args.self.now.guarded;
      ordered = ordered_detached c.args.self.now.nodes c.detach.new.nodes _ c.args.self.now.sound c.args.self.now.ordered _ _ _ (c.detach.ensures _ is) is c.in-Some-parent.is leaf stands apart;
    }

pub returns-clause-tree : goal.returns-clause-tree
returns-clause-tree c =
    let is = sym c.in-Some.ensures in
    let leaf = at_some _ (λ (node : Node). node.children.entries ≡ []) _ is c.requires.leaf in
    let stands = follow_stands _ _ c.args.self.now.sound c.args.self.now.ordered _ _ c.requires.there.2 in
    let apart = parent_apart _ _ c.args.self.now.ordered _ _ _ is c.in-Some-parent.is in
    λ p n leads q. tree_detached c.args.self.now.nodes c.detach.new.nodes _ c.args.self.now.sound c.args.self.now.ordered _ _ _ (c.detach.ensures _ is) is c.in-Some-parent.is leaf stands apart p n leads q

pub returns-clause-parent : goal.returns-clause-parent
returns-clause-parent c =
    let is = sym c.in-Some.ensures in
    let leaf = at_some _ (λ (node : Node). node.children.entries ≡ []) _ is c.requires.leaf in
    let stands = follow_stands _ _ c.args.self.now.sound c.args.self.now.ordered _ _ c.requires.there.2 in
    let apart = parent_apart _ _ c.args.self.now.ordered _ _ _ is c.in-Some-parent.is in
    λ p n leads. parent_detached c.args.self.now.nodes c.detach.new.nodes _ c.args.self.now.sound c.args.self.now.ordered _ _ _ (c.detach.ensures _ is) is c.in-Some-parent.is leaf stands apart p n leads

pub returns-clause-keys : goal.returns-clause-keys
returns-clause-keys c =
    let is = sym c.in-Some.ensures in
    let leaf = at_some _ (λ (node : Node). node.children.entries ≡ []) _ is c.requires.leaf in
    let stands = follow_stands _ _ c.args.self.now.sound c.args.self.now.ordered _ _ c.requires.there.2 in
    let apart = parent_apart _ _ c.args.self.now.ordered _ _ _ is c.in-Some-parent.is in
    keys_detached c.args.self.now.nodes c.detach.new.nodes _ c.args.self.now.sound c.args.self.now.ordered _ _ _ (c.detach.ensures _ is) is c.in-Some-parent.is leaf stands apart

pub returns-clause-before : goal.returns-clause-before
returns-clause-before c =
    let is = sym c.in-Some.ensures in
    let leaf = at_some _ (λ (node : Node). node.children.entries ≡ []) _ is c.requires.leaf in
    let stands = follow_stands _ _ c.args.self.now.sound c.args.self.now.ordered _ _ c.requires.there.2 in
    let apart = parent_apart _ _ c.args.self.now.ordered _ _ _ is c.in-Some-parent.is in
    before_detached c.args.self.now.nodes c.detach.new.nodes _ c.args.self.now.sound c.args.self.now.ordered _ _ _ (c.detach.ensures _ is) is c.in-Some-parent.is leaf stands apart

pub returns-clause-parted : goal.returns-clause-parted
returns-clause-parted c =
    let is = sym c.in-Some.ensures in
    let leaf = at_some _ (λ (node : Node). node.children.entries ≡ []) _ is c.requires.leaf in
    let stands = follow_stands _ _ c.args.self.now.sound c.args.self.now.ordered _ _ c.requires.there.2 in
    let apart = parent_apart _ _ c.args.self.now.ordered _ _ _ is c.in-Some-parent.is in
    here_detached c.args.self.now.nodes c.detach.new.nodes _ c.args.self.now.sound c.args.self.now.ordered _ _ _ (c.detach.ensures _ is) is c.in-Some-parent.is leaf stands apart

pub returns-clause-others : goal.returns-clause-others
returns-clause-others c =
    let is = sym c.in-Some.ensures in
    let leaf = at_some _ (λ (node : Node). node.children.entries ≡ []) _ is c.requires.leaf in
    let stands = follow_stands _ _ c.args.self.now.sound c.args.self.now.ordered _ _ c.requires.there.2 in
    let apart = parent_apart _ _ c.args.self.now.ordered _ _ _ is c.in-Some-parent.is in
    others_detached c.args.self.now.nodes c.detach.new.nodes _ c.args.self.now.sound c.args.self.now.ordered _ _ _ (c.detach.ensures _ is) is c.in-Some-parent.is leaf stands apart

pub returns-clause-fewer : goal.returns-clause-fewer
returns-clause-fewer c =
    let is = sym c.in-Some.ensures in
    let leaf = at_some _ (λ (node : Node). node.children.entries ≡ []) _ is c.requires.leaf in
    let stands = follow_stands _ _ c.args.self.now.sound c.args.self.now.ordered _ _ c.requires.there.2 in
    let apart = parent_apart _ _ c.args.self.now.ordered _ _ _ is c.in-Some-parent.is in
    fewer_stand c.args.self.now.nodes c.detach.new.nodes _ c.args.self.now.sound c.args.self.now.ordered _ _ _ (c.detach.ensures _ is) is c.in-Some-parent.is leaf stands apart (search rules)
