use Rattle.std.proofs.Common.{◌∙◌, ap}
use Rattle.std.specs.Str.{chars}
use Rattle.tcl_strings.proofs.SingleBytes.{single_stands, single_none}
use Rattle.tcl_strings.proofs.spans.skip_bytes.Goals as goal

pub returns-then-start-text : goal.returns-then-start-text
returns-then-start-text c = single_none c.args.text.now c.args.start c.requires c.if-start-text.true

pub range_from-requires : goal.range_from-requires
range_from-requires c = λ _. (single_stands c.args.text.now c.args.start c.utf8.text c.requires c.if-start-text.false).cut

pub returns : goal.returns
returns c = ap chars c.range_from.ensures.value ∙ (single_stands c.args.text.now c.args.start c.utf8.text c.requires c.if-start-text.false).rest
