use Rattle.std.proofs.Common.{arith, rules, ap, ◌∙◌, w64, FitsSigned}
use Rattle.std.proofs.lemmas.Int.{to_z-of_z}
use Rattle.tcl_text.specs.Indexes.{place}
use Rattle.tcl_text.proofs.Items.{one_item}
use Rattle.tcl_lists.proofs.AtHand.{lone_told}
use Rattle.tcl_lists.proofs.changing.put_at_number.Goals as goal

pub returns-clause-changed : goal.returns-clause-changed
returns-clause-changed c =
    let fits : FitsSigned w64 c.in-Some.number = search rules in
    lone_told c.replace_at.result c.args.words.now c.args.old.now c.index-item.result c.args.new.now c.replace_at.new.self c.in-Some.number c.in-At.at
    (one_item c.args.words.now c.index-item.result (omega (arith, c.in-len1.len_at_least)) (omega (arith, c.in-len1.len_below)) c.index-item.is)
    c.in-Some.ensures.list c.in-Some.ensures.integer (c.in-At.ensures ∙ ap place (to_z-of_z w64 c.in-Some.number fits)) c.replace_at.ensures.set
