use Rattle.std.proofs.Common.{◌∙◌, sym, ap, length}
use Rattle.tcl_text.specs.Writing.{hash_mark}
use Rattle.tcl_text.proofs.Pushes.{plain_len, braced_len, marked_len}
use Rattle.tcl_text.proofs.list_writing.written_len.Goals as goal

pub returns-in-Plain : goal.returns-in-Plain
returns-in-Plain c = plain_len c.args.first c.args.element.now (sym c.in-Plain.ensures)

pub returns-in-Braced : goal.returns-in-Braced
returns-in-Braced c = braced_len c.args.first c.args.element.now (sym c.in-Braced.ensures)

pub returns-in-Escaped : goal.returns-in-Escaped
returns-in-Escaped c =
    marked_len c.args.first c.args.element.now c.hash_mark_len.result c.count_special.result (sym c.in-Escaped.ensures) (c.hash_mark_len.ensures ∙ ap (λ z. length (hash_mark z)) c.is_comment.ensures) c.count_special.ensures.count
