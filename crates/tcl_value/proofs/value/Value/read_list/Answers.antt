use Rattle.std.proofs.Common.{◌∙◌, ap, sym, Ok, [], ◌∷◌, w64, FitsSigned, subst}
use Rattle.std.specs.Fmt.{signed_decimal}
use Rattle.std.proofs.lemmas.Int.{to_z-of_z}
use Rattle.tcl_value.specs.Reading.{list_of}
use Rattle.tcl_value.specs.Forms.{form_text, IsForm}
use Rattle.tcl_value.specs.Texts.{flat}
use Rattle.tcl_value.proofs.Laws.{list_of-write, list_of-number}
use Rattle.tcl_value.proofs.value.Value.read_list.Goals as goal

pub returns-in_ok-new-in-Empty : goal.returns-in_ok-new-in-Empty
returns-in_ok-new-in-Empty c =
    ap list_of (sym c.self.view_is ∙ ap form_text c.in-Empty.is) ∙ list_of-write [] ∙ ap (λ l. Ok l) (sym c.in_ok-new-in-Empty.ensures)

pub returns-in_ok-of_number-in-Number : goal.returns-in_ok-of_number-in-Number
returns-in_ok-of_number-in-Number c =
    let fits : FitsSigned w64 c.in-Number.n = subst IsForm c.in-Number.is c.self.invariant in
    ap list_of (sym c.self.view_is ∙ ap form_text c.in-Number.is)
    ∙ list_of-number c.in-Number.n fits
    ∙ ap (λ z. Ok (signed_decimal z ∷ [])) (sym (to_z-of_z w64 c.in-Number.n fits))
    ∙ ap (λ l. Ok l) (sym c.in_ok-of_number-in-Number.ensures)

pub returns-in_ok-clone-in-List : goal.returns-in_ok-clone-in-List
returns-in_ok-clone-in-List c =
    ap list_of (sym c.self.view_is ∙ ap form_text c.in-List.is)
    ∙ list_of-write _
    ∙ ap (λ l. Ok l) (sym c.in_ok-clone-in-List.ensures.cases ∙ sym c.from_items.ensures)

pub returns-in_ok-of_entries-in-Dict : goal.returns-in_ok-of_entries-in-Dict
returns-in_ok-of_entries-in-Dict c =
    ap list_of (sym c.self.view_is ∙ ap form_text c.in-Dict.is)
    ∙ list_of-write _
    ∙ ap (λ es. Ok (flat es)) (sym c.deref-in-Dict.ensures) ∙ ap (λ l. Ok l) (sym c.in_ok-of_entries-in-Dict.ensures)
