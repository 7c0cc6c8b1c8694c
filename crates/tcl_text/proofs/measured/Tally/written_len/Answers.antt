use Rattle.std.proofs.Common.{◌∙◌, ◌+◌, ap, length}
use Rattle.tcl_text.specs.Writing.{hash_mark}
use Rattle.tcl_text.proofs.Measures.{form_is, special_is}
use Rattle.tcl_text.proofs.Pushes.{plain_len, braced_len, marked_len}
use Rattle.tcl_text.proofs.measured.Tally.written_len.Goals as goal

pub returns-in-Plain : goal.returns-in-Plain
returns-in-Plain c = λ first x t l k. l ∙ plain_len first x (form_is first x c.args.self c.args.len c.args.comment _ t l k c.in-Plain.ensures)

pub returns-in-Braced : goal.returns-in-Braced
returns-in-Braced c = λ first x t l k. ap (λ n. n + 2) l ∙ braced_len first x (form_is first x c.args.self c.args.len c.args.comment _ t l k c.in-Braced.ensures)

pub returns-in-Escaped : goal.returns-in-Escaped
returns-in-Escaped c = λ first x t l k.
    ap (λ n. c.hash_mark_len.result + n + c.args.self.special) l
    ∙ marked_len first x c.hash_mark_len.result c.args.self.special (form_is first x c.args.self c.args.len c.args.comment _ t l k c.in-Escaped.ensures) (c.hash_mark_len.ensures ∙ ap (λ z. length (hash_mark z)) k) (special_is x c.args.self t)
