use Rattle.std.proofs.Common.{ap, sym, ◌∙◌}
use Rattle.tcl_value.specs.Reading.{list_of}
use Rattle.tcl_value.specs.Forms.{form_text}
use Rattle.tcl_value.proofs.Laws.{list_of-write}
use Rattle.tcl_value.proofs.Changed.{pushed_at, refused_at}
use Rattle.tcl_value.proofs.value.Value.push.Goals as goal

pub returns-in-List-clause-pushed : goal.returns-in-List-clause-pushed
returns-in-List-clause-pushed c =
    pushed_at c.push_shared.result c.args.self.now c.in-List.items.value c.push_shared.new.items.value c.args.value _
    (ap list_of (sym c.self.view_is ∙ ap form_text c.in-List.is) ∙ list_of-write c.in-List.items.value)
    c.in_ok-element.ensures.text c.push_shared.ensures.pushed c.push_shared.ensures.within

pub returns-in-List-clause-refused : goal.returns-in-List-clause-refused
returns-in-List-clause-refused c =
    refused_at c.push_shared.result c.args.self.now c.in-List.items.value c.args.value _
    (ap list_of (sym c.self.view_is ∙ ap form_text c.in-List.is) ∙ list_of-write c.in-List.items.value)
    c.in_ok-element.ensures.text c.push_shared.ensures.refused
