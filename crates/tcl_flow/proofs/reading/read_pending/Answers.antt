use Rattle.std.proofs.Common.{ap, sym, ◌∙◌}
use Rattle.tcl_flow.proofs.Options.{given_one, opened_one, smaller_one, smaller_opened, none_pending, refused_by}
use Rattle.std.proofs.lemmas.Result.{err_from_is_err_and}
use Rattle.tcl_flow.proofs.reading.read_pending.Goals as goal
use Rattle.tcl_flow.proofs.reading.read_pending.Goals.{in-Some-2+in_ok-push_entries, in_default-2}

pub returns-in_err-dict-clause-refused : goal.returns-in_err-dict-clause-refused
returns-in_err-dict-clause-refused c =
    let p = err_from_is_err_and c.from_residual.result c.from_residual.ensures.1 in
    let r = refused_by _ _ _ _ _ _ _ c.args.pending.items _ c.in-Some.ensures.items c.options.invariant.0 c.in_err-dict.ensures.refused in
    rw (p.1, p.2) r

pub options-smaller : goal.options-smaller
options-smaller c =
    let items = c.in-Some.ensures.items in
    elim c.match-branch-2.branch [
      | in-Some-2+in_ok-push_entries w ↦
          let g = rw w.in-Some-2.is at c.in_ok-dict.ensures.given in
          let now = ap (λ p. p.items) w.pending-is ∙ w.in_ok-push_entries.ensures in
          smaller_opened _ _ _ _ _ _ _ _ _ items g now
      | in_default-2 w ↦ smaller_one _ _ _ _ _ items (ap (λ p. p.items) w.pending-is)
    ]

pub options-preserved : goal.options-preserved
options-preserved c =
    let items = c.in-Some.ensures.items in
    let small = c.in_ok-dict.ensures.small c.options.invariant.1 in
    elim c.match-branch-2.branch [
      | in-Some-2+in_ok-push_entries w ↦
          let g = rw w.in-Some-2.is at c.in_ok-dict.ensures.given in
          let now = ap (λ p. p.items) w.pending-is ∙ w.in_ok-push_entries.ensures in
          (λ r h. c.options.invariant.0 r (opened_one _ _ _ _ _ _ _ _ _ r items g now h), small)
      | in_default-2 w ↦
          let g = rw w.in_default-2.is at c.in_ok-dict.ensures.given in
          (λ r h. c.options.invariant.0 r (given_one _ _ _ _ _ _ _ _ r items g (ap (λ p. p.items) w.pending-is) h), small)
    ]

pub returns-clause-given : goal.returns-clause-given
returns-clause-given c = c.options.invariant.0 _ (none_pending _ c.options.pending.items _ (sym c.options.pending.ok.0 ∙ c.in_default.ensures.cases.0))
