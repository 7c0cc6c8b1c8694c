use Rattle.std.proofs.Common.{◌≡◌, ◌∙◌, ap, true, Ok, arith, rules}
use Rattle.std.proofs.lemmas.Result.{err_from_is_err_and}
use Rattle.std.proofs.lemmas.Bool.Decides.{nat_tests}
use Rattle.tcl_parser.specs.Pieces.{turn_of}
use Rattle.tcl_parser.proofs.EndLemmas.{EndsWith-trans}
use Rattle.tcl_parser.proofs.SkipLemmas.{part_falls}
use Rattle.tcl_expr.proofs.Substitutions.{turn_over, turn_fault, turn_last, turn_more, turn_ends}
use Rattle.tcl_expr.proofs.operand.skip_substitution.Goals as goal

pub returns-in_err-after-clause-rest : goal.returns-in_err-after-clause-rest
returns-in_err-after-clause-rest c =
    let p = err_from_is_err_and c.from_residual.result c.from_residual.ensures.1 in
    rw (p.1, p.2) (turn_fault c.parts.indexes c.parts.rest.now _ _ c.parts.invariant.reads c.in_err-after.ensures)

pub returns-in-Over-clause-rest : goal.returns-in-Over-clause-rest
returns-in-Over-clause-rest c =
    let is = c.in_ok-after.ensures ∙ ap (λ x. Ok (turn_of x)) c.in-Over.is in
    turn_over c.parts.indexes c.parts.rest.now _ _ c.parts.invariant.reads is

pub returns-in-Over-clause-ends : goal.returns-in-Over-clause-ends
returns-in-Over-clause-ends c =
    let is = c.in_ok-after.ensures ∙ ap (λ x. Ok (turn_of x)) c.in-Over.is in
    EndsWith-trans c.args.text.now c.parts.rest.now _ c.parts.invariant.ends (turn_ends c.parts.indexes c.parts.rest.now _ is)

pub returns-in-Part-default-eq0-default-clause-rest : goal.returns-in-Part-default-eq0-default-clause-rest
returns-in-Part-default-eq0-default-clause-rest c =
    let is = c.in_ok-after.ensures ∙ ap (λ x. Ok (turn_of x)) c.in-Part-default-eq0-default.is in
    let none : c.in-Part-default-eq0-default.field-1 ≡ 0 = grind (arith, nat_tests) in
    turn_last c.parts.indexes c.in-Part-default-eq0-default.field-1 c.parts.rest.now _ _ _ c.parts.invariant.reads is none

pub returns-in-Part-default-eq0-default-clause-ends : goal.returns-in-Part-default-eq0-default-clause-ends
returns-in-Part-default-eq0-default-clause-ends c =
    let is = c.in_ok-after.ensures ∙ ap (λ x. Ok (turn_of x)) c.in-Part-default-eq0-default.is in
    EndsWith-trans c.args.text.now c.parts.rest.now _ c.parts.invariant.ends (turn_ends c.parts.indexes c.parts.rest.now _ is).0

pub parts-smaller : goal.parts-smaller
parts-smaller c =
    let is = c.in_ok-after.ensures ∙ ap (λ x. Ok (turn_of x)) c.in-Part.is in
    (part_falls 0 true c.parts.indexes c.in-Part.deeper c.parts.rest.now c.in-Part.after.now _ is).0

pub parts-preserved : goal.parts-preserved
parts-preserved c =
    let i = c.parts.invariant in
    let is = c.in_ok-after.ensures ∙ ap (λ x. Ok (turn_of x)) c.in-Part.is in
    let falls = part_falls 0 true c.parts.indexes c.in-Part.deeper c.parts.rest.now c.in-Part.after.now _ is in
    let some : c.in-Part.deeper ≡ 0 → Prim.⊥ = grind (arith, nat_tests) in
    record {
      utf8 = search rules;
      reads = turn_more c.parts.indexes c.in-Part.deeper c.parts.rest.now c.in-Part.after.now _ _ i.reads falls.0 is some;
      ends = EndsWith-trans c.args.text.now c.parts.rest.now c.in-Part.after.now i.ends (turn_ends c.parts.indexes c.parts.rest.now _ is).0;
      room = omega (arith, falls.1, i.room);
    }
