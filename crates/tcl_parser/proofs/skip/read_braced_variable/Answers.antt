use Rattle.std.proofs.Common.{ap, sym, ◌∙◌}
use Rattle.tcl_parser.specs.Reading.{braced_variable}
use Rattle.tcl_parser.proofs.RunLemmas.{no_close_brace}
use Rattle.tcl_parser.proofs.skip.read_braced_variable.Goals as goal

pub returns-in-None : goal.returns-in-None
returns-in-None c =
    let none = no_close_brace c.args.text.now _ c.split_run.ensures.rest c.in-None.ensures in
    ap (braced_variable c.args.indexes c.args.text.now) (sym c.split_run.ensures.rest ∙ none)
