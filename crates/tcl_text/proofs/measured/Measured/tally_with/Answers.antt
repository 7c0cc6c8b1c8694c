use Rattle.std.proofs.Common.{◌∙◌, ◌++◌, sym, ap, arith, length}
use Rattle.tcl_text.specs.Measuring.{tally_with, tally_of}
use Rattle.tcl_text.proofs.Measures.{nothing, room_of, tally_more}
use Rattle.tcl_text.proofs.measured.Measured.tally_with.Goals as goal

pub with_text-requires : goal.with_text-requires
with_text-requires c = room_of c.self.inside.text c.args.more.now c.self.inside.tally c.self.invariant (omega (arith, ap length c.as_str-text.ensures)) (omega arith)

pub returns : goal.returns
returns c = c.with_text.ensures ∙ ap (λ t. tally_with t c.args.more.now) c.self.invariant ∙ sym (tally_more nothing c.self.inside.text c.args.more.now) ∙ ap (λ x. tally_of (x ++ c.args.more.now)) c.self.view_is
