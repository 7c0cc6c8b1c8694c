use Rattle.std.proofs.Common.{◌<◌, ◌≤◌, ◌⊎◌, inl, inr, List, [], ◌∷◌, length, ap, arith}
use Rattle.tcl_core.specs.Paths.{Text}
use Rattle.tcl_language.specs.Switching.{among, behind_options}
use Rattle.tcl_text.proofs.Items.{one_item}
use Rattle.tcl_calls.specs.Switching.{manner_of}
use Rattle.tcl_calls.proofs.Choosing.{behind_rest, gave_as}
use Rattle.tcl_calls.proofs.switching.among_words.Goals.{in_default-via-then-pairs-lt1, in_default-via-else-pairs-lt1+else-pairs-lt2}
use Rattle.tcl_calls.proofs.switching.among_words.Goals as goal

pub returns-in-len1 : goal.returns-in-len1
returns-in-len1 c =
    let is = one_item c.args.pairs.now c.elements-item.result c.in-len1.len_at_least c.in-len1.len_below c.elements-item.is in
    gave_as (behind_options (manner_of c.args.manner) (c.args.string.now ∷ c.args.pairs.now)) (behind_options (manner_of c.args.manner) (c.args.string.now ∷ c.elements-item.result ∷ [])) c.among_elements.result
    (ap (λ (ws : List Text). behind_options (manner_of c.args.manner) (c.args.string.now ∷ ws)) is) c.among_elements.ensures

pub returns-in_default : goal.returns-in_default
returns-in_default c =
    let other : (length c.args.pairs.now < 1) ⊎ (2 ≤ length c.args.pairs.now) = elim c.in_default.branch [
      | in_default-via-then-pairs-lt1 w ↦ inl (grind arith)
      | in_default-via-else-pairs-lt1+else-pairs-lt2 w ↦ inr (grind arith)
    ] in
    gave_as (behind_options (manner_of c.args.manner) (c.args.string.now ∷ c.args.pairs.now)) (among (manner_of c.args.manner) c.args.string.now c.args.pairs.now) c.among.result
    (behind_rest (manner_of c.args.manner) c.args.string.now c.args.pairs.now other) c.among.ensures
