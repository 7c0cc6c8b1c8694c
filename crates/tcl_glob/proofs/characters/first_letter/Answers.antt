use Rattle.std.proofs.Common.{◌≡◌, ◌∙◌, sym, ap, cond}
use Rattle.std.specs.Char.{to_ascii_lowercase}
use Rattle.tcl_glob.proofs.Letters.{found_letter, behind_first}
use Rattle.tcl_glob.proofs.characters.first_letter.Goals as goal
use Rattle.tcl_glob.proofs.characters.first_letter.Goals.{then-nocase, else-nocase}

pub returns-clause-letters : goal.returns-clause-letters
returns-clause-letters c =
    let first = c.in_ok-first.first in
    let steps = c.in_ok-first.ensures.steps.0 in
    let letter : c.if-nocase.letter ≡ cond c.args.nocase (to_ascii_lowercase first) first =
    elim c.if-nocase.branch [
      | then-nocase w ↦ w.letter-is ∙ w.to_ascii_lowercase-letter.ensures.value ∙ sym (ap (λ t. cond t (to_ascii_lowercase first) first) w.if-nocase.true)
      | else-nocase w ↦ w.letter-is ∙ sym (ap (λ t. cond t (to_ascii_lowercase first) first) w.if-nocase.false)
    ] in
    found_letter c.args.nocase c.args.text.now _ _ c.as_str.result.now first c.if-nocase.letter c.utf8.text c.chars-characters.ensures.rest c.as_str.ensures steps letter

pub returns-clause-characters : goal.returns-clause-characters
returns-clause-characters c = behind_first c.args.text.now _ _ c.as_str.result.now c.in_ok-first.first c.utf8.text c.chars-characters.ensures.rest c.as_str.ensures c.in_ok-first.ensures.steps.0
