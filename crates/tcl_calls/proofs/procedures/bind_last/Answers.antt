use Rattle.std.proofs.Common.{◌≡◌, ◌++◌, ◌∷◌, [], Some, sym, ap, ◌∙◌}
use Rattle.std.proofs.lemmas.Result.{err_from_is_err_and}
use Rattle.tcl_language.specs.Control.{last_bound, is_rest, fit_all}
use Rattle.tcl_language.specs.Instructions.{fits}
use Rattle.tcl_run.proofs.Endings.{at_err}
use Rattle.tcl_calls.specs.Procedures.{pairs_of, joined}
use Rattle.tcl_calls.proofs.Binding.{pairs_more, fit_more, too_long_joined}
use Rattle.tcl_calls.proofs.procedures.bind_last.Goals as goal

pub returns-in_err-value-clause-refused : goal.returns-in_err-value-clause-refused
returns-in_err-value-clause-refused c =
    let p = err_from_is_err_and c.from_residual.result c.from_residual.ensures.1 in
    at_err c.from_residual.result c.in_err-value.field-0.0 p.0 _ _ p.1 p.2 c.in_err-value.ensures.refused
    (λ e h. too_long_joined (pairs_of c.args.made.items) (last_bound (is_rest c.args.parameter.now.name) c.args.parameter.now c.args.left.now) e c.requires h)

pub returns-clause-bound : goal.returns-clause-bound
returns-clause-bound c =
    let name = c.in_ok-clone.ensures.cases in
    let value = c.known_short.ensures.same in
    let made : pairs_of c.push.new.self.items ≡ pairs_of c.args.made.items ++ (c.args.parameter.now.name, c.in-Some.value) ∷ [] =
    ap pairs_of c.in_ok-push.ensures.items ∙ pairs_more c.args.made.items _ ∙ (λ i. pairs_of c.args.made.items ++ (name i, value i) ∷ []) in
    let given : last_bound (is_rest c.args.parameter.now.name) c.args.parameter.now c.args.left.now ≡ Some ((c.args.parameter.now.name, c.in-Some.value) ∷ []) = rw c.in-Some.is at c.in_ok-value.ensures.bound in (
      ap (joined (pairs_of c.args.made.items)) given ∙ ap Some (sym made),
      ap fit_all (ap pairs_of c.in_ok-push.ensures.items ∙ pairs_more c.args.made.items _) ∙ fit_more (pairs_of c.args.made.items) _ c.requires (ap fits value ∙ c.known_short.ensures.short),
    )
