use Rattle.std.proofs.Common.{ap, sym, ◌∙◌}
use Rattle.tcl_value.specs.Reading.{list_of}
use Rattle.tcl_value.specs.Forms.{form_text}
use Rattle.tcl_value.proofs.Laws.{list_of-write}
use Rattle.tcl_value.proofs.Changed.{set_at, told_done}
use Rattle.tcl_value.proofs.value.Value.replace_at.Goals as goal

pub returns-in-List-clause-set : goal.returns-in-List-clause-set
returns-in-List-clause-set c =
    told_done _ c.set_shared.result c.is_ok.result c.is_ok.ensures.value
    (set_at c.set_shared.result c.args.self.now c.in-List.items.value c.set_shared.new.items.value c.args.place c.args.value.now _
    (ap list_of (sym c.self.view_is ∙ ap form_text c.in-List.is) ∙ list_of-write c.in-List.items.value)
    c.in-Ok.ensures.text c.set_shared.ensures.set c.set_shared.ensures.within)
