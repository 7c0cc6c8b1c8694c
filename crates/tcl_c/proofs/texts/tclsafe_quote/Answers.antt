use Rattle.std.proofs.Common.{rules, ℤ, w32, subst, sym}
use Rattle.std.proofs.lemmas.Int.{to_z-of_z}
use Rattle.tcl_c.specs.Written.{WritesLength}
use Rattle.tcl_c.proofs.texts.tclsafe_quote.Goals as goal

pub returns : goal.returns
returns c =
    let back = to_z-of_z w32 c.write_length.result (search rules) in
    (c.write_quoted.result, c.write_quoted.ensures, subst (λ (n : ℤ). WritesLength c.write_quoted.result c.args.length.now n c.write_length.new.length) (sym back) c.write_length.ensures)
