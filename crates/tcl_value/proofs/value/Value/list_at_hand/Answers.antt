use Rattle.std.proofs.Common.{◌∙◌, ap, sym, Ok}
use Rattle.tcl_value.specs.Reading.{list_of}
use Rattle.tcl_value.specs.Forms.{form_text}
use Rattle.tcl_value.proofs.Laws.{list_of-write}
use Rattle.tcl_value.proofs.value.Value.list_at_hand.Goals as goal

pub returns-in_ok-clone-in-List : goal.returns-in_ok-clone-in-List
returns-in_ok-clone-in-List c =
    ap list_of (sym c.self.view_is ∙ ap form_text c.in-List.is)
    ∙ list_of-write _
    ∙ ap (λ l. Ok l) (sym c.in_ok-clone-in-List.ensures.cases ∙ sym c.from_items.ensures)
