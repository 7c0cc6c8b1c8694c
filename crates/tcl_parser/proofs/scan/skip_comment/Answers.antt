use Rattle.std.proofs.Common.{true, ◌∙◌, length, sym, arith, ap}
use Rattle.tcl_parser.specs.declared.scan.Run.TheVariants.{Comment}
use Rattle.tcl_parser.specs.Reading.{after_gap}
use Rattle.tcl_parser.proofs.RunLemmas.{after_run_len}
use Rattle.tcl_parser.proofs.GapLemmas.{comment_step, comment_ends, comment_text_ends, after_ascii_len}
use Rattle.tcl_parser.proofs.scan.skip_comment.Goals as goal

pub returns-in_default-clause-rest : goal.returns-in_default-clause-rest
returns-in_default-clause-rest c = sym c.comment.invariant.1 ∙ comment_text_ends _ _ c.split_run.ensures.rest c.in_default.ensures.split

pub returns-then-byte-eq10-clause-rest : goal.returns-then-byte-eq10-clause-rest
returns-then-byte-eq10-clause-rest c = sym c.comment.invariant.1 ∙ comment_ends _ _ _ _ c.split_run.ensures.rest c.in-Some.ensures.split c.if-byte-eq10.true

pub comment-preserved : goal.comment-preserved
comment-preserved c =
    let step = comment_step _ _ _ _ c.split_run.ensures.rest c.in-Some.ensures.split c.if-byte-eq10.false in
    let run_len = after_run_len Comment c.comment.rest.now c.split_run.result.1.now c.split_run.ensures.rest in (
      c.skip_ascii-rest.utf8,
      ap (after_gap true) c.skip_ascii-rest.ensures ∙ sym step ∙ c.comment.invariant.1,
      omega (arith, ap length c.skip_ascii-rest.ensures, after_ascii_len c.in-Some.after.now, ap length c.in-Some.ensures.split, c.comment.invariant.2),
    )
