use Rattle.std.proofs.Common.{◌≡◌, ◌-◌, [], Bool, get_or, sym, ◌∙◌, ap, subst, arith}
use Rattle.std.specs.Prelude.{IfOk}
use Rattle.tcl_language.specs.Switching.{is_fit}
use Rattle.tcl_calls.specs.Switching.{manner_of}
use Rattle.tcl_calls.proofs.Choosing.{element_is, takes_before}
use Rattle.tcl_calls.proofs.switching.takes_at.Goals as goal

pub returns : goal.returns
returns c =
    let fits = is_fit (manner_of c.args.manner) c.args.string.now in
    let pattern = element_is c.args.pairs.now c.args.index c.in_ok-pattern.pattern (omega (arith, c.requires)) c.in_ok-pattern.ensures in
    let more = takes_before fits (get_or c.args.pairs.now c.args.index []) c.args.pairs.now c.args.index c.requires (λ h. c.if-len-index-eq2.false (ap (λ n. n - c.args.index) c.len.ensures ∙ h)) in
    subst (λ (b : Bool). IfOk c.fits.result (λ taken. taken ≡ b)) (ap fits pattern ∙ sym more) c.fits.ensures
