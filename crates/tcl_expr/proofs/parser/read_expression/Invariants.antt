use denote.Text.{Utf8}
use denote.Shadow.{shadow}
use Rattle.std.proofs.Common.{◌≤◌, length}
use Rattle.tcl_expr.specs.Expressions.{expression_of}
use Rattle.tcl_expr.proofs.Readings.{ReadsOn}
use Rattle.tcl_expr.proofs.parser.read_expression.Given as goal

abbrev pub invariant-tokens : goal.invariant-tokens
invariant-tokens l = record {
  utf8 : shadow (Utf8 l.rest);
  within : length l.rest ≤ length l.text;
  reads : ReadsOn l.style l.left l.minus l.rest l.parser.nodes.items l.parser.pending.items l.parser.depth l.mode (expression_of l.style l.text);
}

abbrev pub decreases-tokens : goal.decreases-tokens
decreases-tokens l = l.left
