use Rattle.std.proofs.Common.{sym}
use Rattle.tcl_tree.proofs.StepLemmas.{sound_write, guarded_write, follow_write, held_write, leads_somewhere}
use Rattle.tcl_tree.proofs.NamingLemmas.{state_place, named_depth, named_write, unnamed_write, refused_naming, ok_map, err_map, err_then}
use Rattle.tcl_tree.proofs.DepthLemmas.{ordered_write}
use Rattle.tcl_tree.proofs.tree.Tree.name_at.Goals as goal

pub invariant_of-self : goal.invariant_of-self
invariant_of-self c = record {
  sound = sound_write c.args.self.now.nodes _ c.args.self.now.sound c.requires.0 _ c.requires.1 _ _ (sym c.in-Some.ensures.value) (state_place _ _ c.name.ensures.safe);
  guarded = guarded_write c.args.self.now.nodes _ c.args.self.now.sound c.requires.0 _ c.requires.1 _ _ (sym c.in-Some.ensures.value) (state_place _ _ c.name.ensures.safe) c.args.self.now.guarded;
  ordered = ordered_write c.args.self.now.nodes _ _ _ (sym c.in-Some.ensures.value) (state_place _ _ c.name.ensures.safe) (named_depth c.name.result _ _ _ c.name.ensures.done c.name.ensures.refused) _ c.args.self.now.ordered;
}

pub unreachable-requires : goal.unreachable-requires
unreachable-requires c = leads_somewhere _ _ c.args.self.now.sound _ _ c.requires.1 (sym c.in-None.ensures.value)

pub returns-clause-done : goal.returns-clause-done
returns-clause-done c = ok_map c.name.result c.name.ensures.done (λ h p at.
    named_write c.args.self.now.nodes _ c.args.self.now.sound p _ at _ _ (sym c.in-Some.ensures.value) c.name.ensures.safe _ h)

pub returns-clause-refused : goal.returns-clause-refused
returns-clause-refused c = err_map c.name.result c.name.ensures.refused (λ e h p at. refused_naming _ _ p _ at _ _ (sym c.in-Some.ensures.value) _ e h)

pub returns-clause-unchanged : goal.returns-clause-unchanged
returns-clause-unchanged c = err_then c.name.result c.name.ensures.refused (λ e h.
    unnamed_write c.args.self.now.nodes _ c.args.self.now.sound c.requires.0 _ c.requires.1 _ _ (sym c.in-Some.ensures.value) c.name.ensures.safe h.same)

pub returns-clause-keys : goal.returns-clause-keys
returns-clause-keys c = follow_write c.args.self.now.nodes _ c.args.self.now.sound c.requires.0 _ c.requires.1 _ _ (sym c.in-Some.ensures.value) (state_place _ _ c.name.ensures.safe)

pub returns-clause-held : goal.returns-clause-held
returns-clause-held c = held_write c.args.self.now.nodes _ _ _ (sym c.in-Some.ensures.value) (state_place _ _ c.name.ensures.safe) (named_depth c.name.result _ _ _ c.name.ensures.done c.name.ensures.refused)
