use Rattle.std.proofs.Common.{◌∙◌, ◌++◌, sym, ap, add-one}
use Rattle.tcl_characters.specs.Texts.{copies}
use Rattle.tcl_characters.proofs.Ends.{copies_more}
use Rattle.tcl_characters.proofs.copies.repeat.Goals as goal

pub copies-preserved : goal.copies-preserved
copies-preserved c =
    c.in_ok-push_str.ensures.bytes ∙ ap (λ t. t ++ c.args.text.now) c.copies.invariant ∙ copies_more c.copies.counter c.args.text.now ∙ ap (λ n. copies n c.args.text.now) (sym (add-one c.copies.counter))
