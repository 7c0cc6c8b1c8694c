use Rattle.std.proofs.Common.{arith, ◌≡◌, ℕ, IfOk, IfErr, ◌∙◌, ap, sym, subst, ◌≤◌, Ok, Err}
use Rattle.std.specs.declared.result.Result.{Result}
use Rattle.tcl_lists.specs.Nested.{Refuses}
use Rattle.tcl_lists.specs.declared.fault.NestedFault.{NestedFault}
use Rattle.tcl_lists.specs.declared.fault.NestedFault.TheVariants.{BadIndex}
use Rattle.tcl_lists.proofs.Named.{last_same, named_ok, named_err}
use Rattle.tcl_lists.proofs.nested.place_among.Goals as goal

pub returns-in-Ok-clause-found : goal.returns-in-Ok-clause-found
returns-in-Ok-clause-found c =
    let few : c.args.count ≤ 16777216 = omega (arith, c.if-count-gt-MOST_BYTES.false) in
    let named = named_ok c.args.style c.args.count _ c.as_str.result.now c.args.index.now c.in-Ok.place (last_same c.last_place.result c.args.count few c.last_place.ensures) (c.as_str.ensures ∙ c.in_ok-text.ensures) c.in-Ok.ensures in
    subst (λ (o : Result ℕ NestedFault). IfOk c.place_or_fault-in-Ok.result (λ n. o ≡ Ok n)) (sym named) c.place_or_fault-in-Ok.ensures.found

pub returns-in-Ok-clause-refused : goal.returns-in-Ok-clause-refused
returns-in-Ok-clause-refused c =
    let few : c.args.count ≤ 16777216 = omega (arith, c.if-count-gt-MOST_BYTES.false) in
    let named = named_ok c.args.style c.args.count _ c.as_str.result.now c.args.index.now c.in-Ok.place (last_same c.last_place.result c.args.count few c.last_place.ensures) (c.as_str.ensures ∙ c.in_ok-text.ensures) c.in-Ok.ensures in
    subst (λ (o : Result ℕ NestedFault). IfErr c.place_or_fault-in-Ok.result (λ e. Refuses e o)) (sym named) c.place_or_fault-in-Ok.ensures.refused

pub returns-in-Err-clause-refused : goal.returns-in-Err-clause-refused
returns-in-Err-clause-refused c =
    let few : c.args.count ≤ 16777216 = omega (arith, c.if-count-gt-MOST_BYTES.false) in
    named_err c.args.style c.args.count _ c.as_str.result.now c.args.index.now c.in-Err.field-0 (last_same c.last_place.result c.args.count few c.last_place.ensures) (c.as_str.ensures ∙ c.in_ok-text.ensures) c.in-Err.ensures
    ∙ ap (λ t. Err (BadIndex t)) (sym c.in_ok-text.ensures)
