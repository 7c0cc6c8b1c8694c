use Rattle.std.proofs.Common.{◌∙◌, ap}
use Rattle.tcl_value.specs.Reading.{list_of}
use Rattle.tcl_value.proofs.Laws.{list_of-write}
use Rattle.tcl_value.proofs.value.Value.from_one.Goals as goal

pub of_list-read-requires : goal.of_list-read-requires
of_list-read-requires c = ap list_of (c.in_ok-text.ensures ∙ c.in_ok-write.ensures) ∙ list_of-write c.args.list
