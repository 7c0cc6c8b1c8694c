use Rattle.tcl_strings.proofs.SingleBytes.{single_stands, single_front}
use Rattle.tcl_strings.proofs.spans.first_bytes.Goals as goal

pub range-requires-clause-end_boundary : goal.range-requires-clause-end_boundary
range-requires-clause-end_boundary c = (single_stands c.args.text.now c.args.end c.utf8.text c.requires c.if-end-text.false).cut

pub returns-clause-front : goal.returns-clause-front
returns-clause-front c = (single_front c.args.text.now c.range.result.now c.args.end c.utf8.text c.requires c.if-end-text.false c.range.ensures.value).0

pub returns-clause-single : goal.returns-clause-single
returns-clause-single c = (single_front c.args.text.now c.range.result.now c.args.end c.utf8.text c.requires c.if-end-text.false c.range.ensures.value).1
