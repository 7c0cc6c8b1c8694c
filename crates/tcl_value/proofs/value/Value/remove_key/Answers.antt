use Rattle.std.proofs.Common.{◌∙◌, ap, sym, subst, Ok, ◌≡◌, []}
use Rattle.tcl_value.specs.Texts.{flat}
use Rattle.tcl_value.specs.Forms.{form_text}
use Rattle.tcl_value.specs.Dicts.{Pairs, dict_of, without, put_all}
use Rattle.tcl_value.proofs.Dicted.{dict_of-write, dict_changed_at, dict_refused_at}
use Rattle.tcl_value.proofs.value.Value.remove_key.Goals as goal

reads : (c : goal.After-remove_shared) → dict_of c.args.self.now ≡ Ok c.in-Dict.entries.value
reads c =
    ap dict_of (sym c.self.view_is ∙ ap form_text c.in-Dict.is)
    ∙ dict_of-write c.in-Dict.entries.value (subst (λ (z : Pairs). put_all [] (flat z) ≡ z) c.deref.ensures c.reads_back.ensures)

pub returns-in-Dict-clause-removed : goal.returns-in-Dict-clause-removed
returns-in-Dict-clause-removed c =
    dict_changed_at c.remove_shared.result c.args.self.now c.in-Dict.entries.value c.remove_shared.new.entries.value (λ z. without z c.args.key.now) (reads c) c.remove_shared.ensures.removed c.remove_shared.ensures.within

pub returns-in-Dict-clause-refused : goal.returns-in-Dict-clause-refused
returns-in-Dict-clause-refused c =
    dict_refused_at c.remove_shared.result c.args.self.now c.in-Dict.entries.value (λ z. without z c.args.key.now) (reads c) c.remove_shared.ensures.refused
