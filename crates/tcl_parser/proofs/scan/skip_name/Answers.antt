use Rattle.std.proofs.Common.{◌∙◌, false, sym, subst}
use Rattle.tcl_parser.specs.Texts.{EndsWith}
use Rattle.tcl_parser.proofs.NameLemmas.{EndsWith-after_name}
use Rattle.tcl_parser.proofs.scan.skip_name.Goals as goal

pub returns-clause-ends : goal.returns-clause-ends
returns-clause-ends c =
    let s = c.args.text.now in
    let is = sym c.name.invariant.1 ∙ c.in_default.ensures.none in
    subst (EndsWith s) is (EndsWith-after_name false s)
