use Rattle.std.proofs.Common.{◌+◌, ◌∷◌, ◌++◌, [], ◌∙◌, sym, ap, drop}
use Rattle.tcl_calls.specs.Listing.{first_of}
use Rattle.tcl_calls.proofs.Listed.{key_step}
use Rattle.tcl_calls.proofs.questions.push_key_at.Goals as goal

pub returns : goal.returns
returns g c =
    let es = c.args.map.now.entries in
    ap (λ xs. xs ++ first_of (drop (c.args.index + 1) es)) (c.in_ok-push-in-Some.ensures.items ∙ ap (λ x. c.args.names.now.items ++ x ∷ []) c.in_ok-clone-in-Some.ensures.cases)
    ∙ key_step es c.args.index (c.in-Some.name.now, c.in-Some.field-0-1.now) c.args.names.now.items (sym c.in-Some.ensures.entry)
