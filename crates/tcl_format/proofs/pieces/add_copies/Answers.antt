use Rattle.std.proofs.Common.{◌∙◌, [], ◌∷◌, ◌++◌, ap, append_assoc, sym, add-one}
use Rattle.std.specs.String.{string_bytes}
use Rattle.tcl_characters.specs.Texts.{copies}
use Rattle.tcl_characters.proofs.Ends.{copies_more}
use Rattle.tcl_format.proofs.pieces.add_copies.Goals as goal

pub copies-preserved : goal.copies-preserved
copies-preserved c =
    let one = c.args.letter ∷ [] in
    let old = string_bytes c.args.made.now in
    c.in_ok-push.ensures.bytes
    ∙ ap (λ t. string_bytes c.copies.made ++ t) (c.in_ok-push.ensures.ascii c.requires.ascii)
    ∙ ap (λ t. t ++ one) c.copies.invariant
    ∙ append_assoc old (copies c.copies.counter one) one
    ∙ ap (λ t. old ++ t) (copies_more c.copies.counter one ∙ ap (λ n. copies n one) (sym (add-one c.copies.counter)))
