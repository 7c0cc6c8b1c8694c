use Rattle.std.proofs.Common.{ap, sym, ◌∙◌}
use Rattle.tcl_value.specs.Reading.{list_of}
use Rattle.tcl_value.specs.Forms.{form_text}
use Rattle.tcl_value.proofs.Laws.{list_of-write}
use Rattle.tcl_value.proofs.Changed.{set_at, set_refused_at}
use Rattle.tcl_value.proofs.value.Value.set_at.Goals as goal

pub returns-in-List-clause-set : goal.returns-in-List-clause-set
returns-in-List-clause-set c =
    set_at c.set_shared.result c.args.self.now c.in-List.items.value c.set_shared.new.items.value c.args.index c.args.value _
    (ap list_of (sym c.self.view_is ∙ ap form_text c.in-List.is) ∙ list_of-write c.in-List.items.value)
    c.in_ok-element.ensures.text c.set_shared.ensures.set c.set_shared.ensures.within

pub returns-in-List-clause-refused : goal.returns-in-List-clause-refused
returns-in-List-clause-refused c =
    set_refused_at c.set_shared.result c.args.self.now c.in-List.items.value c.args.index c.args.value _
    (ap list_of (sym c.self.view_is ∙ ap form_text c.in-List.is) ∙ list_of-write c.in-List.items.value)
    c.in_ok-element.ensures.text c.set_shared.ensures.refused
