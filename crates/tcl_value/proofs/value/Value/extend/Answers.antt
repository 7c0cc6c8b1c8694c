use Rattle.std.proofs.Common.{ap, sym, ◌∙◌}
use Rattle.tcl_value.specs.Reading.{list_of}
use Rattle.tcl_value.specs.Forms.{form_text}
use Rattle.tcl_value.proofs.Laws.{list_of-write}
use Rattle.tcl_value.proofs.Extended.{extended_at, extension_refused_at}
use Rattle.tcl_value.proofs.value.Value.extend.Goals as goal

pub returns-in-List-clause-extended : goal.returns-in-List-clause-extended
returns-in-List-clause-extended c =
    extended_at c.extend_shared.result c.args.self.now c.in-List.items.value c.extend_shared.new.items.value c.args.values.now _
    (ap list_of (sym c.self.view_is ∙ ap form_text c.in-List.is) ∙ list_of-write c.in-List.items.value)
    c.in_ok-elements.ensures.texts c.extend_shared.ensures.extended c.extend_shared.ensures.within

pub returns-in-List-clause-refused : goal.returns-in-List-clause-refused
returns-in-List-clause-refused c =
    extension_refused_at c.extend_shared.result c.args.self.now c.in-List.items.value c.args.values.now _
    (ap list_of (sym c.self.view_is ∙ ap form_text c.in-List.is) ∙ list_of-write c.in-List.items.value)
    c.in_ok-elements.ensures.texts c.extend_shared.ensures.refused
