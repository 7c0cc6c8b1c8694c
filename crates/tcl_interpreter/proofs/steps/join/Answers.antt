use Rattle.std.proofs.Common.{◌≡◌, None, sym, ◌∙◌, ap}
use Rattle.std.specs.Prelude.{◌≢◌, is_some}
use Rattle.slab.specs.Slab.{get}
use Rattle.slab.proofs.SlabLemmas.{Updates-with_value}
use Rattle.tcl_interpreter.specs.declared.node.Node.{Node}
use Rattle.tcl_interpreter.specs.declared.node.State.{State}
use Rattle.tcl_interpreter.proofs.steps.join.Goals as goal

pub returns : goal.returns
returns c =
    let u = c.in_ok-key.ensures.updates in
    let up_is = sym c.in-Some.ensures.value in
    let apart : c.args.parent ≢ c.in_ok-key.key = λ e.
    let x : is_some (get c.args.nodes.now c.args.parent) ≡ is_some {T = Node} None = ap is_some (ap (get c.args.nodes.now) e ∙ c.in_ok-key.ensures.was_vacant) in
    let y = c.requires.there in cc in
    let before = sym (u.others c.args.parent apart) ∙ up_is in
    let wrote = Updates-with_value c.insert.new.self c.args.parent c.add_key.new.up (ap is_some up_is) in
    let e = c.in_ok-add_key-in-Some.ensures in
    record {
      joined = (
        record {
          was = c.in_ok-key.ensures.was_vacant;
          here = wrote.others c.in_ok-key.key (λ e. apart (sym e)) ∙ u.changed;
          old = c.in-Some.up.now;
          old_is = before;
          new = c.add_key.new.up;
          new_is = wrote.changed;
          parent = e.parent;
          name = e.name;
          level = e.level;
          stands = e.gone;
          safe = ap (λ (s : State). s.safe) e.state;
          depth = ap (λ (s : State). s.depth) e.state;
          names = e.names;
          gets = e.gets;
          others = λ k a b. wrote.others k a ∙ u.others k b;
        },
        e.state,
      );
    }
