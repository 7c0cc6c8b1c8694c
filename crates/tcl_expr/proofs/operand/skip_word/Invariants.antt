use denote.Text.{Utf8}
use denote.Shadow.{shadow}
use Rattle.std.proofs.Common.{◌≡◌, length}
use Rattle.tcl_expr.specs.Tokens.{after_word}
use Rattle.tcl_expr.proofs.operand.skip_word.Given as goal

abbrev pub invariant-word : goal.invariant-word
invariant-word l = shadow (Utf8 l.rest) × (after_word l.rest ≡ after_word l.text)

abbrev pub decreases-word : goal.decreases-word
decreases-word l = length l.rest
