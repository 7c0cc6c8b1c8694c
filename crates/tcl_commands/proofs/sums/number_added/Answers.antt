use Rattle.std.proofs.Common.{rules, ◌∙◌, ap, sym, FitsSigned, w64}
use Rattle.std.specs.Prelude.{Ok}
use Rattle.std.proofs.lemmas.Int.{to_z-of_z}
use Rattle.tcl_commands.specs.Sums.{added_words, increment}
use Rattle.tcl_commands.proofs.Raising.{number_is_added}
use Rattle.tcl_commands.proofs.sums.number_added.Goals as goal

pub returns-in-Some : goal.returns-in-Some
returns-in-Some c = λ style.
    let fits : FitsSigned w64 c.in-Some.n = search rules in
    ap (λ by. increment style (added_words by)) c.in-Some.is ∙ number_is_added style c.in-Some.n fits ∙ ap (λ z. Ok z) (sym (to_z-of_z w64 c.in-Some.n fits))
