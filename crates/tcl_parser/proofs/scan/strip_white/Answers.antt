use Rattle.std.proofs.Common.{◌∙◌, sym}
use Rattle.tcl_parser.proofs.GapLemmas.{white_goes_on, white_line, white_stops_end, white_stops_plain, white_stops_lone}
use Rattle.tcl_parser.proofs.scan.strip_white.Goals as goal

pub returns-in_err-first-clause-none : goal.returns-in_err-first-clause-none
returns-in_err-first-clause-none c = rw c.from_residual.ensures (white_stops_end _ (c.in_err-first.ensures.split))

pub returns-then-is_white-clause-on : goal.returns-then-is_white-clause-on
returns-then-is_white-clause-on c = white_goes_on _ _ _ c.in_ok-first.ensures.split (sym c.is_white.ensures ∙ c.if-is_white.true)

pub returns-then-first-ne92-clause-none : goal.returns-then-first-ne92-clause-none
returns-then-first-ne92-clause-none c = white_stops_plain _ _ _ c.in_ok-first.ensures.split (sym c.is_white.ensures ∙ c.if-is_white.false) c.if-first-ne92.true

pub returns-in_err-after-clause-none : goal.returns-in_err-after-clause-none
returns-in_err-after-clause-none c = rw c.from_residual-in_err-after.ensures (white_stops_lone _ _ _ c.in_ok-first.ensures.split c.if-first-ne92.false (c.in_err-after.ensures))

pub returns-clause-on : goal.returns-clause-on
returns-clause-on c = white_line _ _ _ _ c.in_ok-first.ensures.split c.if-first-ne92.false c.in_ok-after.ensures
