use Rattle.std.proofs.Common.{Bool, List, length, sym, subst, arith}
use Rattle.std.specs.Prelude.{IfOk, ◌≡◌}
use Rattle.tcl_core.specs.Paths.{Text}
use Rattle.tcl_language.specs.Switching.{is_fit, takes}
use Rattle.tcl_text.proofs.Emptiness.{some_is, zero_is}
use Rattle.tcl_text.proofs.Items.{no_item}
use Rattle.tcl_calls.specs.Switching.{manner_of}
use Rattle.tcl_calls.proofs.Choosing.{takes_more}
use Rattle.tcl_calls.proofs.switching.takes.Goals as goal

pub returns-then-is_empty : goal.returns-then-is_empty
returns-then-is_empty c =
    let zero = zero_is (length c.args.pairs.now) c.is_empty.result c.is_empty.ensures c.if-is_empty.true in
    let none = no_item c.args.pairs.now (omega (arith, zero)) in
    subst (λ (ws : List Text). IfOk c.takes_last.result (λ taken. taken ≡ takes (is_fit (manner_of c.args.manner) c.args.string.now) c.args.pattern.now ws)) (sym none) c.takes_last.ensures

pub returns : goal.returns
returns c =
    let some = some_is (length c.args.pairs.now) c.is_empty.result c.is_empty.ensures c.if-is_empty.false in
    subst (λ (b : Bool). IfOk c.fits.result (λ taken. taken ≡ b)) (sym (takes_more (is_fit (manner_of c.args.manner) c.args.string.now) c.args.pattern.now c.args.pairs.now some)) c.fits.ensures
