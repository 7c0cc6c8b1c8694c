use Rattle.std.proofs.Common.{arith, ap, sym, ◌∙◌, drop, ◌∷◌, ◌+◌, ◌++◌, []}
use Rattle.std.proofs.lemmas.List.{drop_more}
use Rattle.tcl_lists.specs.Nested.{value_or_empty, value_changed}
use Rattle.tcl_lists.specs.Steps.{raised}
use Rattle.tcl_lists.specs.declared.step.Step.TheVariants.{Entry}
use Rattle.tcl_lists.proofs.Levels.{further, value_down}
use Rattle.tcl_lists.proofs.nested.value_changed.Goals as goal

pub path-preserved : goal.path-preserved
path-preserved c =
    let item = c.key-item.result in
    let rest = drop (c.path.key-index + 1) c.args.path.now in
    let cut = drop_more c.args.path.now c.path.key-index item (omega arith) ∙ ap (λ x. x ∷ rest) (sym c.key-item.is) in
    let found = c.in_ok-dict.ensures.found in
    further (value_changed c.args.path.now c.args.value c.args.own) (value_changed (item ∷ rest) c.args.value c.path.at) (value_changed rest c.args.value c.or_empty-at.result)
    c.path.steps.items c.push.new.self.items (Entry c.in_ok-dict.dict item)
    (c.path.invariant ∙ ap (λ p. raised c.path.steps.items (value_changed p c.args.value c.path.at)) cut)
    (value_down item rest c.args.value c.path.at c.or_empty-at.result c.in_ok-dict.dict found.0 (c.or_empty-at.ensures ∙ ap value_or_empty found.1))
    (c.in_ok-push.ensures.items ∙ ap (λ k. c.path.steps.items ++ Entry c.in_ok-dict.dict k ∷ []) c.in_ok-clone.ensures.cases)
