use Rattle.std.proofs.Common.{◌≡◌, ◌||◌, ◌∙◌, true, sym}
use Rattle.std.proofs.lemmas.Bool.{or_left, or_right, or_from}
use Rattle.tcl_parser.specs.Characters.{is_white, is_separator}
use Rattle.tcl_parser.proofs.GapLemmas.{gap_goes_on, gap_comment, gap_line, gap_stops_end, gap_stops_plain, gap_stops_lone}
use Rattle.tcl_parser.proofs.scan.strip_gap.Goals as goal
use Rattle.tcl_parser.proofs.scan.strip_gap.Goals.{then-is_white-via-then-is_white, then-is_white-via-else-is_white+then-is_separator}

pub returns-in_err-first-clause-none : goal.returns-in_err-first-clause-none
returns-in_err-first-clause-none c = rw c.from_residual.ensures (gap_stops_end _ c.in_err-first.ensures.split)

pub returns-then-is_white-clause-on : goal.returns-then-is_white-clause-on
returns-then-is_white-clause-on c =
    let b = c.in_ok-first.first in
    let between : (is_white b || is_separator b) ≡ true = elim c.then-is_white.branch [
      | then-is_white-via-then-is_white w ↦ or_left (is_white b) (is_separator b) (sym c.is_white.ensures ∙ w.if-is_white.true)
      | then-is_white-via-else-is_white+then-is_separator w ↦ or_right (is_white b) (is_separator b) (sym w.is_separator.ensures ∙ w.if-is_separator.true)
    ] in
    gap_goes_on _ _ _ c.in_ok-first.ensures.split between

pub returns-then-first-eq35-clause-on : goal.returns-then-first-eq35-clause-on
returns-then-first-eq35-clause-on c = gap_comment _ _ _ c.in_ok-first.ensures.split c.if-first-eq35.true ∙ c.skip_comment.ensures.rest

pub returns-then-first-ne92-clause-none : goal.returns-then-first-ne92-clause-none
returns-then-first-ne92-clause-none c =
    gap_stops_plain _ _ _ c.in_ok-first.ensures.split (or_from _ _ (sym c.is_white.ensures ∙ c.if-is_white.false) (sym c.is_separator.ensures ∙ c.if-is_separator.false)) c.if-first-eq35.false c.if-first-ne92.true

pub returns-in_err-after-clause-none : goal.returns-in_err-after-clause-none
returns-in_err-after-clause-none c = rw c.from_residual-in_err-after.ensures (gap_stops_lone _ _ _ c.in_ok-first.ensures.split c.if-first-ne92.false c.in_err-after.ensures)

pub returns-clause-on : goal.returns-clause-on
returns-clause-on c = gap_line _ _ _ _ c.in_ok-first.ensures.split c.if-first-ne92.false c.in_ok-after.ensures
