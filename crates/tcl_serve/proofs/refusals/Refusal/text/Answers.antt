use Rattle.std.proofs.Common.{ℕ, List, codes, subst, sym, ◌∙◌, ap}
use Rattle.std.specs.Prelude.{◌≡◌, IfOk}
use Rattle.std.specs.String.{string_bytes}
use Rattle.tcl_serve.specs.Refusals.{about, text_of}
use Rattle.tcl_serve.specs.declared.refusals.Refusal.{Refusal}
use Rattle.tcl_serve.proofs.refusals.Refusal.text.Goals as goal

pub returns-in-OutOfRange : goal.returns-in-OutOfRange
returns-in-OutOfRange c =
    subst (λ (r : Refusal). IfOk c.about-in-OutOfRange.result (λ text. string_bytes text ≡ text_of r)) (sym c.in-OutOfRange.is)
    (subst (λ (name : List ℕ). IfOk c.about-in-OutOfRange.result (λ text. string_bytes text ≡ about (codes "the field ") name (codes " is out of range"))) c.name-in-OutOfRange.ensures c.about-in-OutOfRange.ensures)
