use Rattle.std.proofs.Common.{Some, arith, ap, length, length-drop}
use Rattle.std.specs.Str.{chars}
use Rattle.tcl_characters.proofs.ByteLemmas.{first_of_empty, first_behind, characters_le_bytes}
use Rattle.tcl_characters.proofs.places.first_place.Goals as goal

pub returns-then-is_empty : goal.returns-then-is_empty
returns-then-is_empty c = first_of_empty c.args.needle.now c.args.text.now c.args.start c.is_empty.result c.is_empty.ensures c.if-is_empty.true

pub overflow_add-result : goal.overflow_add-result
overflow_add-result c =
    let within = c.in_ok-place.ensures.within in
    let sizes = ap length c.skip_characters.ensures.rest in
    let rest = length-drop c.args.start (chars c.args.text.now) in
    let bytes = characters_le_bytes c.args.text.now c.utf8.text in
    omega arith

pub returns : goal.returns
returns c = first_behind c.args.needle.now c.args.text.now c.skip_characters.result.now c.args.start (Some c.in_ok-place.place) c.is_empty.result c.utf8.needle c.is_empty.ensures c.if-is_empty.false c.skip_characters.ensures.rest (c.in_ok-place.ensures.place c.args.start)
