use Rattle.std.proofs.Common.{sym, refl}
use Rattle.tcl_tree.proofs.StepLemmas.{sound_write, guarded_write, follow_write, held_write, leads_somewhere}
use Rattle.tcl_tree.proofs.OwnLemmas.{limit_write}
use Rattle.tcl_tree.proofs.DepthLemmas.{ordered_write}
use Rattle.tcl_tree.proofs.tree.Tree.set_limit_at.Goals as goal

pub invariant_of-self : goal.invariant_of-self
invariant_of-self c = record {
  sound = sound_write c.args.self.now.nodes _ c.args.self.now.sound c.requires.0 _ c.requires.1 _ _ (sym c.in-Some.ensures.value) (record { parent = refl; name = refl; level = refl; children = refl; safe = refl; gone = refl });
  guarded = guarded_write c.args.self.now.nodes _ c.args.self.now.sound c.requires.0 _ c.requires.1 _ _ (sym c.in-Some.ensures.value) (record { parent = refl; name = refl; level = refl; children = refl; safe = refl; gone = refl }) c.args.self.now.guarded;
  ordered = ordered_write c.args.self.now.nodes _ _ _ (sym c.in-Some.ensures.value) (record { parent = refl; name = refl; level = refl; children = refl; safe = refl; gone = refl }) refl _ c.args.self.now.ordered;
}

pub unreachable-requires : goal.unreachable-requires
unreachable-requires c = leads_somewhere _ _ c.args.self.now.sound _ _ c.requires.1 (sym c.in-None.ensures.value)

pub returns-clause-keys : goal.returns-clause-keys
returns-clause-keys c = follow_write c.args.self.now.nodes _ c.args.self.now.sound c.requires.0 _ c.requires.1 _ _ (sym c.in-Some.ensures.value) (record { parent = refl; name = refl; level = refl; children = refl; safe = refl; gone = refl })

pub returns-clause-limited : goal.returns-clause-limited
returns-clause-limited c = λ p at. limit_write c.args.self.now.nodes _ c.args.self.now.sound p _ at _ _ (sym c.in-Some.ensures.value) (record { parent = refl; name = refl; level = refl; children = refl; safe = refl; gone = refl }) c.args.limit refl

pub returns-clause-held : goal.returns-clause-held
returns-clause-held c = held_write c.args.self.now.nodes _ _ _ (sym c.in-Some.ensures.value) (record { parent = refl; name = refl; level = refl; children = refl; safe = refl; gone = refl }) refl
