use Rattle.std.proofs.Common.{◌≡◌, ◌++◌, ◌-◌, Some, length, drop, sym, ◌∙◌, subst}
use Rattle.tcl_core.specs.Paths.{rise}
use Rattle.tcl_interpreter.specs.Paths.{Path}
use Rattle.tcl_interpreter.specs.Commands.{AliasView}
use Rattle.tcl_interpreter.proofs.AliasLemmas.{way_leads, whole_rest}
use Rattle.tcl_interpreter.proofs.Outcomes.{if_ok_map}
use Rattle.tcl_interpreter.proofs.alias.Alias.between.Goals as goal

pub returns-clause-leads : goal.returns-clause-leads
returns-clause-leads c = if_ok_map c.new.result c.new.ensures (λ made is a.
    let down : c.in_ok-down.down.items ≡ drop c.in_common-common.result c.args.to.now =
    c.in_ok-down.ensures.items_if_clones_equal (λ x y h. h) ∙ whole_rest c.args.to.now c.in_common-common.result in
    let view : record { up = length c.args.from.now - c.in_common-common.result; down = drop c.in_common-common.result c.args.to.now; words = c.args.words.items } ≡ made =
    (λ i. record { up = length c.args.from.now - c.in_common-common.result; down = sym down i; words = c.args.words.items }) ∙ sym is in
    subst (λ (m : AliasView). (b : Path) × (rise m.up (a ++ c.args.from.now) ≡ Some b) × (b ++ m.down ≡ a ++ c.args.to.now)) view
    (way_leads c.args.from.now c.args.to.now a c.in_common-common.result c.in_common-common.ensures.names c.in_common-common.ensures.these))
