use Rattle.std.proofs.Common.{◌-◌, List, ◌∷◌, take, drop, length, sym, ap, subst}
use Rattle.tcl_core.specs.Paths.{Text}
use Rattle.tcl_language.specs.Switching.{behind_options}
use Rattle.tcl_run.specs.Ends.{IsFailure, itself}
use Rattle.tcl_run.proofs.Endings.{Interrupts-more}
use Rattle.tcl_text.proofs.Items.{no_item}
use Rattle.tcl_calls.specs.Switching.{manner_of}
use Rattle.tcl_calls.proofs.Branching.{split}
use Rattle.tcl_calls.proofs.Choosing.{gave_as}
use Rattle.tcl_calls.proofs.switching.behind_options.Goals as goal

pub returns-in_default : goal.returns-in_default
returns-in_default c =
    Interrupts-more c.wrong_args.result _ _ (λ e h. subst (λ (ws : List Text). IsFailure itself (behind_options (manner_of c.args.manner) ws) e) (sym (no_item c.args.words.now c.in_default.len_below)) h) c.wrong_args.ensures

pub returns : goal.returns
returns c =
    let rest = take (length c.args.words.now - 1) (drop 1 c.args.words.now) in
    gave_as (behind_options (manner_of c.args.manner) c.args.words.now) (behind_options (manner_of c.args.manner) (c.string-item.result ∷ rest)) c.among_words.result
    (ap (behind_options (manner_of c.args.manner)) (split c.args.words.now c.string-item.result c.in-len1-up.len_at_least c.string-item.is)) c.among_words.ensures
