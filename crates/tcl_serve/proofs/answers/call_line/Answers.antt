use Rattle.serde_json.specs.Written.{compact_text, has_float}
use Rattle.std.proofs.Common.{ap, ◌∙◌}
use Rattle.tcl_serve.proofs.Written.{call_object-plain}
use Rattle.tcl_serve.proofs.answers.call_line.Goals as goal

pub returns : goal.returns
returns c = c.in_ok-line.ensures.text (ap has_float c.in_ok-object.ensures ∙ call_object-plain c.args.call.now) ∙ ap compact_text c.in_ok-object.ensures
