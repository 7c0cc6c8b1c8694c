use Rattle.std.proofs.Common.{◌∙◌, ap, sym, Ok, arith, rules}
use Rattle.std.proofs.lemmas.Result.{err_from_is_err_and}
use Rattle.tcl_parser.specs.Pieces.{turn_of}
use Rattle.tcl_parser.proofs.SkipLemmas.{parts_fault, parts_next, part_falls}
use Rattle.tcl_parser.proofs.ReadLemmas.{parts_added, parts_done, joined_fault}
use Rattle.tcl_parser.proofs.reader.read_parts.Goals as goal

pub returns-in_err-after : goal.returns-in_err-after
returns-in_err-after c =
    let p = err_from_is_err_and c.from_residual.result c.from_residual.ensures.1 in
    let i = c.parts.invariant in
    rw (p.1, p.2) (joined_fault _ _ (sym i.ended ∙ parts_fault 0 c.args.quoted c.parts.indexes c.parts.rest.now _ c.in_err-after.ensures))

pub returns-in-Over : goal.returns-in-Over
returns-in-Over c =
    let i = c.parts.invariant in
    let is = c.in_ok-after.ensures ∙ ap (λ x. Ok (turn_of x)) c.in-Over.is in
    parts_done 0 c.args.quoted c.parts.indexes c.parts.rest.now c.in-Over.after.now _ _ _ _ is c.in_ok-push_literal-in-Over.ensures i.ended i.parts

pub parts-smaller : goal.parts-smaller
parts-smaller c =
    let is = c.in_ok-after.ensures ∙ ap (λ x. Ok (turn_of x)) c.in-Part.is in
    (part_falls 0 c.args.quoted c.parts.indexes c.in-Part.deeper c.parts.rest.now c.in-Part.after.now _ is).0

pub parts-preserved : goal.parts-preserved
parts-preserved c =
    let i = c.parts.invariant in
    let is = c.in_ok-after.ensures ∙ ap (λ x. Ok (turn_of x)) c.in-Part.is in
    let falls = part_falls 0 c.args.quoted c.parts.indexes c.in-Part.deeper c.parts.rest.now c.in-Part.after.now _ is in
    record {
      utf8 = search rules;
      ended = sym (ap (λ x. x.ended) (parts_next 0 c.args.quoted c.parts.indexes c.in-Part.deeper c.parts.rest.now c.in-Part.after.now _ is)) ∙ i.ended;
      parts = parts_added 0 c.args.quoted c.parts.indexes c.in-Part.deeper c.parts.rest.now c.in-Part.after.now _ _ _ _ _ _ is c.in_ok-add-in-Part.ensures i.parts;
      room = omega (arith, falls.1, i.room);
    }
