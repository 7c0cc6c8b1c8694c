use Rattle.std.proofs.Common.{◌+◌, ◌≤◌, sym, ◌∙◌, ap, subst}
use Rattle.std.specs.Prelude.{is_some}
use Rattle.slab.proofs.SlabLemmas.{Updates-with_value}
use Rattle.tcl_interpreter.proofs.TableLemmas.{len_kept}
use Rattle.tcl_interpreter.proofs.steps.take_out.Goals as goal

pub returns-in-Some-clause-detached : goal.returns-in-Some-clause-detached
returns-in-Some-clause-detached c =
    let u = c.remove-node.ensures.updates in
    let up_is = sym c.in-Some.ensures.value in
    let wrote = Updates-with_value c.remove-node.new.self c.args.parent c.remove_child.new.up (ap is_some up_is) in
    record {
      gone = wrote.others c.args.key (λ e. c.requires.apart (sym e)) ∙ u.changed;
      old = c.in-Some.up.now;
      old_is = sym (u.others c.args.parent c.requires.apart) ∙ up_is;
      new = c.remove_child.new.up;
      new_is = wrote.changed;
      parent = c.remove_child.ensures.parent;
      name = c.remove_child.ensures.name;
      level = c.remove_child.ensures.level;
      stands = c.remove_child.ensures.gone;
      view = c.remove_child.ensures.view;
      gets = c.remove_child.ensures.gets;
      others = λ k a b. wrote.others k a ∙ u.others k b;
    }

pub returns-in-Some-clause-room : goal.returns-in-Some-clause-room
returns-in-Some-clause-room c =
    subst (λ n. n + 1 ≤ c.remove-node.new.self.capacity) (sym (len_kept c.remove-node.new.self c.args.parent c.in-Some.up.now c.remove_child.new.up (sym c.in-Some.ensures.value))) c.remove-node.ensures.room
