use Rattle.std.proofs.Common.{◌≡◌, rules, true, false, [], Bool, sym, subst, arith}
use Rattle.std.specs.Prelude.{IfOk, codes}
use Rattle.std.specs.Str.{bytes_eq}
use Rattle.tcl_language.specs.Switching.{is_fit}
use Rattle.tcl_calls.specs.Switching.{manner_of}
use Rattle.tcl_calls.proofs.Choosing.{takes_last}
use Rattle.tcl_calls.proofs.switching.takes_last.Goals as goal

pub returns-then-is_text : goal.returns-then-is_text
returns-then-is_text c =
    let same : bytes_eq c.args.pattern.now (codes "default") ≡ true = search rules in
    sym (takes_last (is_fit (manner_of c.args.manner) c.args.string.now) c.args.pattern.now [] true (omega arith) same)

pub returns : goal.returns
returns c =
    let other : bytes_eq c.args.pattern.now (codes "default") ≡ false = search rules in
    subst (λ (b : Bool). IfOk c.fits.result (λ taken. taken ≡ b)) (sym (takes_last (is_fit (manner_of c.args.manner) c.args.string.now) c.args.pattern.now [] false (omega arith) other)) c.fits.ensures
