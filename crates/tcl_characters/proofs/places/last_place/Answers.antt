use Rattle.tcl_characters.proofs.ByteLemmas.{last_of_empty, last_before}
use Rattle.tcl_characters.proofs.places.last_place.Goals as goal

pub returns-then-is_empty : goal.returns-then-is_empty
returns-then-is_empty c = last_of_empty c.args.needle.now c.args.text.now c.args.end c.is_empty.result c.is_empty.ensures c.if-is_empty.true

pub returns : goal.returns
returns c = last_before c.args.needle.now c.args.text.now c.first_characters.result.now c.args.end c.last_within.result c.is_empty.result c.utf8.needle c.is_empty.ensures c.if-is_empty.false c.first_characters.ensures c.last_within.ensures
