use Rattle.std.proofs.Common.{◌≡◌, ℕ, pos, length, ap, ◌∙◌, subst}
use Rattle.std.specs.Fmt.{signed_decimal}
use Rattle.std.specs.Prelude.{IfOk}
use Rattle.std.specs.Str.{chars}
use Rattle.tcl_core.specs.Paths.{Text}
use Rattle.tcl_calls.proofs.replies.length_of.Goals as goal

pub returns : goal.returns
returns c =
    subst (λ (n : ℕ). IfOk c.count_value.result (λ count. count ≡ signed_decimal (pos n))) (c.characters_of.ensures ∙ ap (λ (x : Text). length (chars x)) c.in_ok-text.ensures) c.count_value.ensures
