use Rattle.std.proofs.Common.{◌++◌, ◌∷◌, [], ◌∙◌, sym, ap, flat_map}
use Rattle.tcl_text.specs.Writing.{escaped_byte, hash_mark, written}
use Rattle.tcl_text.proofs.Pushes.{written_plain, written_braced, written_escaped}
use Rattle.tcl_text.proofs.Comparing.{eq_means, means_same, behind_means, never_means}
use Rattle.tcl_text.proofs.list_comparing.is_written.Goals as goal

pub returns-in-Plain : goal.returns-in-Plain
returns-in-Plain c =
    let w = written_plain c.args.first c.args.element.now (sym c.in-Plain.ensures) in
    means_same c.args.text.now c.as_bytes.result.now (written c.args.first c.args.element.now) (eq_means c.eq.result c.args.text.now c.as_bytes.result.now c.eq.ensures) (w ∙ sym c.as_bytes.ensures.value)

pub returns-in-Braced : goal.returns-in-Braced
returns-in-Braced c =
    let w = written_braced c.args.first c.args.element.now (sym c.in-Braced.ensures) in
    means_same c.args.text.now (123 ∷ (c.as_bytes-in-Braced.result.now ++ 125 ∷ [])) (written c.args.first c.args.element.now) c.is_braced.ensures (w ∙ ap (λ x. 123 ∷ (x ++ 125 ∷ [])) (sym c.as_bytes-in-Braced.ensures.value))

pub returns-in-Some : goal.returns-in-Some
returns-in-Some c =
    let w = written_escaped c.args.first c.args.element.now (sym c.in-Escaped.ensures) in
    behind_means c.args.text.now (hash_mark c.is_comment.result) c.in-Some.rest.now (flat_map escaped_byte c.as_bytes-in-Some.result.now) (written c.args.first c.args.element.now)
    c.in-Some.ensures c.is_escaped.ensures
    (w ∙ ap (λ b. hash_mark b ++ flat_map escaped_byte c.args.element.now) (sym c.is_comment.ensures) ∙ ap (λ x. hash_mark c.is_comment.result ++ flat_map escaped_byte x) (sym c.as_bytes-in-Some.ensures.value))

pub returns-in-None : goal.returns-in-None
returns-in-None c =
    let w = written_escaped c.args.first c.args.element.now (sym c.in-Escaped.ensures) in
    never_means c.args.text.now (hash_mark c.is_comment.result) (flat_map escaped_byte c.args.element.now) (written c.args.first c.args.element.now) c.in-None.ensures (w ∙ ap (λ b. hash_mark b ++ flat_map escaped_byte c.args.element.now) (sym c.is_comment.ensures))
