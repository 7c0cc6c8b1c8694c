use Rattle.std.proofs.Common.{arith, ap, sym, ◌∙◌, drop, ◌∷◌, ◌+◌}
use Rattle.std.proofs.lemmas.List.{drop_more}
use Rattle.tcl_lists.specs.Nested.{element_changed}
use Rattle.tcl_lists.specs.Steps.{raised}
use Rattle.tcl_lists.specs.declared.step.Step.TheVariants.{Element}
use Rattle.tcl_lists.proofs.Levels.{further, element_down}
use Rattle.tcl_lists.proofs.nested.element_changed.Goals as goal

pub path-preserved : goal.path-preserved
path-preserved c =
    let item = c.index-item.result in
    let rest = drop (c.path.index-index + 1) c.args.path.now in
    let cut = drop_more c.args.path.now c.path.index-index item (omega arith) ∙ ap (λ x. x ∷ rest) (sym c.index-item.is) in
    let found = c.in_ok-list.ensures.found in
    further (element_changed c.args.style c.args.path.now c.args.value c.args.own) (element_changed c.args.style (item ∷ rest) c.args.value c.path.at) (element_changed c.args.style rest c.args.value c.in_ok-list.inner)
    c.path.steps.items c.push.new.self.items (Element c.in_ok-list.list c.in_ok-list.place)
    (c.path.invariant ∙ ap (λ p. raised c.path.steps.items (element_changed c.args.style p c.args.value c.path.at)) cut)
    (element_down c.args.style item rest c.args.value c.path.at c.in_ok-list.inner c.in_ok-list.list c.in_ok-list.place found.0 found.1 found.2)
    c.in_ok-push.ensures.items
