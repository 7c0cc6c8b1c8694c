use Rattle.std.proofs.Common.{◌≡◌, rules, false}
use Rattle.std.specs.Prelude.{codes}
use Rattle.std.specs.Str.{bytes_eq}
use Rattle.tcl_calls.specs.Switching.{manner_of}
use Rattle.tcl_calls.proofs.Choosing.{other_is}
use Rattle.tcl_calls.proofs.switching.option_word.Goals as goal

pub returns-in_default : goal.returns-in_default
returns-in_default c =
    let a : bytes_eq c.args.word.now (codes "--") ≡ false = search rules in
    let b : bytes_eq c.args.word.now (codes "-exact") ≡ false = search rules in
    let d : bytes_eq c.args.word.now (codes "-glob") ≡ false = search rules in
    let e : bytes_eq c.args.word.now (codes "-nocase") ≡ false = search rules in
    other_is c.other_word.result c.args.word.now (manner_of c.args.manner) c.other_word.ensures a b d e
