use Rattle.std.proofs.Common.{arith, ap, ◌∙◌, sym, ◌*◌, ◌+◌, get_or}
use Rattle.tcl_value.specs.Texts.{element_text}
use Rattle.tcl_value.proofs.Removed.{put_take, put_whole}
use Rattle.tcl_value.proofs.entries.Entries.read.Goals as goal

pub pairs-preserved : goal.pairs-preserved
pairs-preserved c =
    let key = c.in_ok-key.ensures.text in
    let value = c.in_ok-value.ensures.cases.text in
    put_take c.put_any.new.self c.pairs.entries c.args.items.now c.pairs.pair c.in_ok-key.key (element_text c.in_ok-value.value)
    (omega (arith, c.len-pair-end.ensures))
    (key ∙ c.get.ensures.text ∙ ap (λ z. get_or c.args.items.now (2 * c.pairs.pair) z) (sym key))
    (value ∙ c.get-in-pairs.ensures.text ∙ ap (λ z. get_or c.args.items.now (2 * c.pairs.pair + 1) z) (sym value))
    c.pairs.invariant
    c.in_ok-put_any.ensures.put

pub returns : goal.returns
returns c = put_whole c.pairs.entries c.args.items.now c.pairs.pair (omega (arith, c.len-pair-end.ensures)) (omega (arith, c.len-pair-end.ensures)) c.pairs.invariant
