use Rattle.tcl_calls.proofs.Looks.{list_found}
use Rattle.tcl_calls.proofs.looking.names_of.Goals as goal

pub returns : goal.returns
returns c = list_found c.args.tree.now c.args.place (λ names. names.items) c.in_ok-text.field-0 c.args.word.now c.read_path.result c.in_ok-text.ensures c.read_path.ensures.read c.read_path.ensures.refused
