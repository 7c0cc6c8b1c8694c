use denote.Text.{Utf8}
use denote.Shadow.{shadow}
use Rattle.std.proofs.Common.{◌≡◌, ◌<◌, ◌+◌, ◌≤◌, ℕ, length}
use Rattle.tcl_parser.specs.Texts.{EndsWith}
use Rattle.tcl_expr.specs.Tokens.{after_parts, after_substitution}
use Rattle.tcl_expr.proofs.operand.skip_substitution.Given as goal

abbrev pub invariant-parts : goal.invariant-parts
invariant-parts l = record {
  utf8 : shadow (Utf8 l.rest);
  reads : (n : ℕ) × (length l.rest < n) × (after_parts n (l.indexes, l.rest) ≡ after_substitution l.text);
  ends : EndsWith l.text l.rest;
  room : l.indexes + length l.rest ≤ length l.text;
}

abbrev pub decreases-parts : goal.decreases-parts
decreases-parts l = length l.rest
