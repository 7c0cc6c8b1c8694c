use Rattle.std.proofs.Common.{◌∙◌, ap, sym, subst}
use Rattle.std.specs.List.{list_all}
use Rattle.tcl_value.specs.Plain.{is_plain_element, ArePlain}
use Rattle.tcl_value.proofs.Plain.{plain_elements}
use Rattle.tcl_value.proofs.items.Items.is_plain.Goals as goal

pub returns : goal.returns
returns c h =
    let xs = c.self.inside.elements.items in
    subst ArePlain c.self.view_is (plain_elements xs c.self.invariant.elements (ap (list_all is_plain_element) (sym c.deref.ensures.value) ∙ sym c.are_plain.ensures ∙ h))
