use Rattle.std.proofs.Common.{◌<◌, ◌≤◌, ℕ, refl, sym, subst, inr, ◌++◌}
use Rattle.std.proofs.lemmas.Result.{err_from_is_err_and}
use Rattle.tcl_core.specs.Programs.{most_steps}
use Rattle.tcl_tree.proofs.HeapLemmas.{tree-none}
use Rattle.tcl_tree.proofs.StepLemmas.{tree_vacant, sound_write, guarded_write, follow_write, held_write}
use Rattle.tcl_tree.proofs.CoreLemmas.{tree_there}
use Rattle.tcl_tree.proofs.OwnLemmas.{limit_write, empty_path, no_empty_path}
use Rattle.tcl_tree.proofs.FormLemmas.{untrusted_limit, first_limit}
use Rattle.tcl_tree.proofs.DepthLemmas.{ordered_write}
use Rattle.tcl_tree.proofs.tree.Tree.set_limit.Goals as goal

pub returns-in_err-asking-clause-refused : goal.returns-in_err-asking-clause-refused
returns-in_err-asking-clause-refused c =
    let p = err_from_is_err_and c.from_residual.result c.from_residual.ensures.1 in
    rw (p.1, p.2) (untrusted_limit _ _ c.args.path.now c.args.down.now c.args.limit c.in_err-asking.ensures.refused)

pub returns-in_default-clause-refused : goal.returns-in_default-clause-refused
returns-in_default-clause-refused c = inr (tree-none _ _ _ (sym (c.in_default.ensures c.args.path.now c.in_ok-asking.ensures.key)))

pub invariant_of-self : goal.invariant_of-self
invariant_of-self c = record {
  sound = sound_write c.args.self.now.nodes _ c.args.self.now.sound (c.args.path.now ++ c.args.down.now) _ (sym (c.in-Some.ensures c.args.path.now c.in_ok-asking.ensures.key)) _ _ (sym c.in-Some-get_mut.ensures.value) (record { parent = refl; name = refl; level = refl; children = refl; safe = refl; gone = refl });
  guarded = guarded_write c.args.self.now.nodes _ c.args.self.now.sound (c.args.path.now ++ c.args.down.now) _ (sym (c.in-Some.ensures c.args.path.now c.in_ok-asking.ensures.key)) _ _ (sym c.in-Some-get_mut.ensures.value) (record { parent = refl; name = refl; level = refl; children = refl; safe = refl; gone = refl }) c.args.self.now.guarded;
  ordered = ordered_write c.args.self.now.nodes _ _ _ (sym c.in-Some-get_mut.ensures.value) (record { parent = refl; name = refl; level = refl; children = refl; safe = refl; gone = refl }) refl _ c.args.self.now.ordered;
}

pub returns-in-Some-get_mut-clause-keys : goal.returns-in-Some-get_mut-clause-keys
returns-in-Some-get_mut-clause-keys c = follow_write c.args.self.now.nodes _ c.args.self.now.sound (c.args.path.now ++ c.args.down.now) _ (sym (c.in-Some.ensures c.args.path.now c.in_ok-asking.ensures.key)) _ _ (sym c.in-Some-get_mut.ensures.value) (record { parent = refl; name = refl; level = refl; children = refl; safe = refl; gone = refl })

pub returns-in-None-clause-refused : goal.returns-in-None-clause-refused
returns-in-None-clause-refused c = inr (tree_vacant _ _ (c.args.path.now ++ c.args.down.now) _ (sym (c.in-Some.ensures c.args.path.now c.in_ok-asking.ensures.key)) (sym c.in-None.ensures.value))

pub returns-then-is_empty-clause-refused : goal.returns-then-is_empty-clause-refused
returns-then-is_empty-clause-refused c = (c.in_ok-asking.ensures.trusted.asker, c.in_ok-asking.ensures.trusted.here, inr (empty_path c.args.down.now _ c.is_empty.ensures c.if-is_empty.true))

pub returns-then-unwrap_or-gt-MOST_STEPS-clause-refused : goal.returns-then-unwrap_or-gt-MOST_STEPS-clause-refused
returns-then-unwrap_or-gt-MOST_STEPS-clause-refused c = (
  tree_there c.args.self.now (c.args.path.now ++ c.args.down.now) _ (sym (c.in-Some.ensures c.args.path.now c.in_ok-asking.ensures.key)),
  subst (λ (n : ℕ). most_steps < n) c.unwrap_or.ensures c.if-unwrap_or-gt-MOST_STEPS.true,
)

pub returns-in-Some-get_mut-clause-may : goal.returns-in-Some-get_mut-clause-may
returns-in-Some-get_mut-clause-may c = record {
  asker = c.in_ok-asking.ensures.trusted.asker;
  here = c.in_ok-asking.ensures.trusted.here;
  trusted = c.in_ok-asking.ensures.trusted.trusted;
  other = no_empty_path c.args.down.now _ c.is_empty.ensures c.if-is_empty.false;
  there = tree_there c.args.self.now (c.args.path.now ++ c.args.down.now) _ (sym (c.in-Some.ensures c.args.path.now c.in_ok-asking.ensures.key));
  fits = subst (λ (n : ℕ). n ≤ most_steps) c.unwrap_or.ensures c.if-unwrap_or-gt-MOST_STEPS.false;
}

pub returns-in-Some-get_mut-clause-limited : goal.returns-in-Some-get_mut-clause-limited
returns-in-Some-get_mut-clause-limited c = limit_write c.args.self.now.nodes _ c.args.self.now.sound (c.args.path.now ++ c.args.down.now) _ (sym (c.in-Some.ensures c.args.path.now c.in_ok-asking.ensures.key)) _ _ (sym c.in-Some-get_mut.ensures.value) (record { parent = refl; name = refl; level = refl; children = refl; safe = refl; gone = refl }) c.args.limit refl

pub returns-in_err-asking-clause-order : goal.returns-in_err-asking-clause-order
returns-in_err-asking-clause-order c =
    let p = err_from_is_err_and c.from_residual.result c.from_residual.ensures.1 in
    rw (p.1, p.2) (first_limit _ _ c.args.path.now c.args.down.now c.args.limit c.in_err-asking.ensures.refused)

pub returns-then-is_empty-clause-order : goal.returns-then-is_empty-clause-order
returns-then-is_empty-clause-order c = inr (c.in_ok-asking.ensures.trusted, empty_path c.args.down.now _ c.is_empty.ensures c.if-is_empty.true)

pub returns-in_default-clause-order : goal.returns-in_default-clause-order
returns-in_default-clause-order c = inr (
  c.in_ok-asking.ensures.trusted,
  no_empty_path c.args.down.now _ c.is_empty.ensures c.if-is_empty.false,
  tree-none _ _ _ (sym (c.in_default.ensures c.args.path.now c.in_ok-asking.ensures.key)),
)

pub returns-then-unwrap_or-gt-MOST_STEPS-clause-order : goal.returns-then-unwrap_or-gt-MOST_STEPS-clause-order
returns-then-unwrap_or-gt-MOST_STEPS-clause-order c = (
  c.in_ok-asking.ensures.trusted,
  no_empty_path c.args.down.now _ c.is_empty.ensures c.if-is_empty.false,
  tree_there c.args.self.now (c.args.path.now ++ c.args.down.now) _ (sym (c.in-Some.ensures c.args.path.now c.in_ok-asking.ensures.key)),
  subst (λ (n : ℕ). most_steps < n) c.unwrap_or.ensures c.if-unwrap_or-gt-MOST_STEPS.true,
)

pub returns-in-None-clause-order : goal.returns-in-None-clause-order
returns-in-None-clause-order c = inr (
  c.in_ok-asking.ensures.trusted,
  no_empty_path c.args.down.now _ c.is_empty.ensures c.if-is_empty.false,
  tree_vacant _ _ (c.args.path.now ++ c.args.down.now) _ (sym (c.in-Some.ensures c.args.path.now c.in_ok-asking.ensures.key)) (sym c.in-None.ensures.value),
)

pub returns-in-Some-get_mut-clause-held : goal.returns-in-Some-get_mut-clause-held
returns-in-Some-get_mut-clause-held c = held_write c.args.self.now.nodes _ _ _ (sym c.in-Some-get_mut.ensures.value) (record { parent = refl; name = refl; level = refl; children = refl; safe = refl; gone = refl }) refl
