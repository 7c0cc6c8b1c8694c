use Rattle.std.proofs.Common.{◌∙◌, ap, sym, subst, Ok, ◌≡◌, []}
use Rattle.tcl_value.specs.Texts.{flat, element_text}
use Rattle.tcl_value.specs.Forms.{form_text}
use Rattle.tcl_value.specs.Dicts.{Pairs, dict_of, put, put_all}
use Rattle.tcl_value.proofs.Dicted.{dict_of-write, dict_changed_at, dict_refused_at, put_same, refused_same}
use Rattle.tcl_value.proofs.value.Value.set_key.Goals as goal

reads : (c : goal.After-put_shared) → dict_of c.args.self.now ≡ Ok c.in-Dict.entries.value
reads c =
    ap dict_of (sym c.self.view_is ∙ ap form_text c.in-Dict.is)
    ∙ dict_of-write c.in-Dict.entries.value (subst (λ (z : Pairs). put_all [] (flat z) ≡ z) c.deref.ensures c.reads_back.ensures)

pub returns-in-Dict-clause-set : goal.returns-in-Dict-clause-set
returns-in-Dict-clause-set c =
    dict_changed_at c.put_shared.result c.args.self.now c.in-Dict.entries.value c.put_shared.new.entries.value (λ z. put z c.args.key.now c.args.value) (reads c)
    (put_same c.put_shared.result c.in-Dict.entries.value c.put_shared.new.entries.value c.args.key.now c.args.value c.in_ok-key.key (element_text c.in_ok-element.element) c.in_ok-key.ensures.text c.in_ok-element.ensures.text c.put_shared.ensures.set)
    c.put_shared.ensures.within

pub returns-in-Dict-clause-refused : goal.returns-in-Dict-clause-refused
returns-in-Dict-clause-refused c =
    dict_refused_at c.put_shared.result c.args.self.now c.in-Dict.entries.value (λ z. put z c.args.key.now c.args.value) (reads c)
    (refused_same c.put_shared.result c.in-Dict.entries.value c.args.key.now c.args.value c.in_ok-key.key (element_text c.in_ok-element.element) c.in_ok-key.ensures.text c.in_ok-element.ensures.text c.put_shared.ensures.refused)
