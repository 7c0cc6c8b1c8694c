use Rattle.std.proofs.Common.{◌≡◌, None, sym, ◌∙◌, ap}
use Rattle.std.specs.Prelude.{◌≢◌, is_some}
use Rattle.slab.specs.Slab.{get}
use Rattle.slab.proofs.SlabLemmas.{Updates-with_value}
use Rattle.tcl_interpreter.specs.declared.node.Node.{Node}
use Rattle.tcl_interpreter.proofs.steps.attach.Goals as goal

pub returns-in-Some : goal.returns-in-Some
returns-in-Some c =
    let u = c.insert_reserved-key.ensures.updates in
    let up_is = sym c.in-Some.ensures.value in
    let apart : c.args.parent ≢ c.insert_reserved-key.result = λ e.
    let x : is_some (get c.args.nodes.now c.args.parent) ≡ is_some {T = Node} None = ap is_some (ap (get c.args.nodes.now) e ∙ c.insert_reserved-key.ensures.was_vacant) in
    let y = c.requires.there in cc in
    let before = sym (u.others c.args.parent apart) ∙ up_is in
    let wrote = Updates-with_value c.insert_reserved-key.new.self c.args.parent c.add_child.new.up (ap is_some up_is) in
    record {
      key = c.insert_reserved-key.result;
      was = c.insert_reserved-key.ensures.was_vacant;
      here = wrote.others c.insert_reserved-key.result (λ e. apart (sym e)) ∙ u.changed;
      old = c.in-Some.up.now;
      old_is = before;
      new = c.add_child.new.up;
      new_is = wrote.changed;
      parent = c.add_child.ensures.parent;
      name = c.add_child.ensures.name;
      level = c.add_child.ensures.level;
      stands = c.add_child.ensures.gone;
      view = c.add_child.ensures.view;
      gets = c.add_child.ensures.gets;
      others = λ k a b. wrote.others k a ∙ u.others k b;
    }
