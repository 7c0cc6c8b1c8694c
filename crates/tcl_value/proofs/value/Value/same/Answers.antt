use Rattle.std.proofs.Common.{◌∙◌, sym, ap}
use Rattle.tcl_value.specs.Writing.{write}
use Rattle.tcl_value.specs.Texts.{flat}
use Rattle.tcl_value.specs.Forms.{form_text}
use Rattle.tcl_value.proofs.Falling.{write_same, flat_same, turned, between}
use Rattle.tcl_value.proofs.value.Value.same.Goals as goal

pub returns-in-List-List : goal.returns-in-List-List
returns-in-List-List c =
    let a = c.deref-in-List-List.result.now in
    let b = c.deref-in-List-List-2.result.now in
    between (write a) (write b) c.args.self.now c.args.other.now (write_same a b c.same.ensures)
    (sym c.self.view_is ∙ ap form_text c.in-List-List.is-0 ∙ ap write (sym c.deref-in-List-List.ensures)) (sym c.other.view_is ∙ ap form_text c.in-List-List.is-1 ∙ ap write (sym c.deref-in-List-List-2.ensures))

pub returns-in-List-Dict : goal.returns-in-List-Dict
returns-in-List-Dict c =
    let a = c.deref-in-List-Dict.result.now in
    let b = c.deref-in-List-Dict-2.result.now in
    between (write a) (write (flat b)) c.args.self.now c.args.other.now (write_same a (flat b) c.same_entries.ensures)
    (sym c.self.view_is ∙ ap form_text c.in-List-Dict.is-0 ∙ ap write (sym c.deref-in-List-Dict.ensures)) (sym c.other.view_is ∙ ap form_text c.in-List-Dict.is-1 ∙ ap (λ es. write (flat es)) (sym c.deref-in-List-Dict-2.ensures))

pub returns-in-Dict-List : goal.returns-in-Dict-List
returns-in-Dict-List c =
    let a = c.deref-in-Dict-List.result.now in
    let b = c.deref-in-Dict-List-2.result.now in
    between (write (flat b)) (write a) c.args.self.now c.args.other.now (turned (write a) (write (flat b)) (write_same a (flat b) c.same_entries-in-Dict-List.ensures))
    (sym c.self.view_is ∙ ap form_text c.in-Dict-List.is-0 ∙ ap (λ es. write (flat es)) (sym c.deref-in-Dict-List-2.ensures)) (sym c.other.view_is ∙ ap form_text c.in-Dict-List.is-1 ∙ ap write (sym c.deref-in-Dict-List.ensures))

pub returns-in-Dict-Dict : goal.returns-in-Dict-Dict
returns-in-Dict-Dict c =
    let a = c.deref-in-Dict-Dict.result.now in
    let b = c.deref-in-Dict-Dict-2.result.now in
    between (write (flat a)) (write (flat b)) c.args.self.now c.args.other.now (write_same (flat a) (flat b) (flat_same a b c.same-in-Dict-Dict.ensures))
    (sym c.self.view_is ∙ ap form_text c.in-Dict-Dict.is-0 ∙ ap (λ es. write (flat es)) (sym c.deref-in-Dict-Dict.ensures)) (sym c.other.view_is ∙ ap form_text c.in-Dict-Dict.is-1 ∙ ap (λ es. write (flat es)) (sym c.deref-in-Dict-Dict-2.ensures))
