use Rattle.std.proofs.Common.{◌≡◌, ◌∙◌, Bool, Ok, Option, None, Some, refl, sym, ap}
use Rattle.std.specs.Prelude.{is_ok, is_some, ok_or}
use Rattle.tcl_text.specs.Booleans.{boolean_of}
use Rattle.tcl_text.specs.declared.boolean.BooleanFault.TheVariants.{NotBoolean}
use Rattle.tcl_strings.specs.Kinds.{fits_kind}
use Rattle.tcl_strings.proofs.kinds.fits_kind.Goals as goal

-- there is a value where there is no fault
ok_some : (o : Option Bool) → is_ok (ok_or o NotBoolean) ≡ is_some o
ok_some None = refl
ok_some (Some b) = refl

pub returns-in-Boolean : goal.returns-in-Boolean
returns-in-Boolean c =
    ap Ok (ap (λ k. fits_kind c.args.style k c.args.text.now) c.in-Boolean.is
    ∙ sym (c.is_ok-in-Boolean.ensures.value ∙ ap is_ok c.read_bool.ensures ∙ ok_some (boolean_of c.args.style c.args.text.now)))
