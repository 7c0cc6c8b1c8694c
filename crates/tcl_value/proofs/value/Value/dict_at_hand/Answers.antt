use Rattle.std.proofs.Common.{◌∙◌, ap, sym, subst, Ok, ◌≡◌, []}
use Rattle.tcl_value.specs.Texts.{flat}
use Rattle.tcl_value.specs.Forms.{form_text}
use Rattle.tcl_value.specs.Dicts.{Pairs, dict_of, put_all}
use Rattle.tcl_value.proofs.Dicted.{dict_of-write}
use Rattle.tcl_value.proofs.value.Value.dict_at_hand.Goals as goal

pub returns-in_ok-clone-in-Dict : goal.returns-in_ok-clone-in-Dict
returns-in_ok-clone-in-Dict c =
    ap dict_of (sym c.self.view_is ∙ ap form_text c.in-Dict.is)
    ∙ dict_of-write _ (subst (λ (z : Pairs). put_all [] (flat z) ≡ z) c.deref.ensures c.reads_back.ensures)
    ∙ ap (λ d. Ok d) (sym c.in_ok-clone-in-Dict.ensures.cases ∙ sym c.from_entries.ensures)
