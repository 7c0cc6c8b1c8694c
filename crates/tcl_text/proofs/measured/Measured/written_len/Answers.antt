use Rattle.std.proofs.Common.{◌≡◌, ◌∙◌, ap, arith, length}
use Rattle.tcl_text.specs.Writing.{is_comment, written}
use Rattle.tcl_text.proofs.Measures.{written_few}
use Rattle.tcl_text.proofs.measured.Measured.written_len.Goals as goal

pub overflow_cast-result : goal.overflow_cast-result
overflow_cast-result c =
    let x = c.self.inside.text in
    let len : c.written_len.result ≡ length (written c.args.first x) = c.written_len.ensures c.args.first x c.self.invariant c.len.ensures (c.is_comment-comment.ensures ∙ ap (is_comment c.args.first) c.as_str.ensures) in
    omega (arith, len, written_few c.args.first x (omega (arith, ap length c.as_str.ensures)))
