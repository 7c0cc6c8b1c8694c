use Rattle.std.proofs.Common.{◌∷◌, ◌<◌, IsFalse, IsTrue, nat_eq, get_or, length, ap, subst, arith}
use Rattle.std.specs.Str.{chars}
use Rattle.tcl_characters.proofs.SkipLemmas.{empty_unfit, lead_unfit, lead_edge}
use Rattle.tcl_characters.proofs.mapping.begins_with.Goals as goal

pub returns-in-empty-clause-unfit : goal.returns-in-empty-clause-unfit
returns-in-empty-clause-unfit c = λ _ rest _.
    empty_unfit c.args.key.now (chars (c.args.byte ∷ rest)) (omega (arith, ap length c.as_bytes.ensures.value, c.in-empty.len_below))

pub returns-in-len1-up-clause-unfit : goal.returns-in-len1-up-clause-unfit
returns-in-len1-up-clause-unfit c = λ differ rest u.
    let some : 0 < length c.args.key.now = omega (arith, ap length c.as_bytes.ensures.value, c.in-len1-up.len_at_least) in
    lead_unfit c.args.key.now rest c.args.byte c.utf8.key some (subst (λ t. IsFalse (nat_eq (get_or t 0 0) c.args.byte)) c.as_bytes.ensures.value differ) u

pub returns-in-len1-up-clause-edge : goal.returns-in-len1-up-clause-edge
returns-in-len1-up-clause-edge c = λ same.
    let some : 0 < length c.args.key.now = omega (arith, ap length c.as_bytes.ensures.value, c.in-len1-up.len_at_least) in
    lead_edge c.args.key.now c.args.byte c.utf8.key some (subst (λ t. IsTrue (nat_eq (get_or t 0 0) c.args.byte)) c.as_bytes.ensures.value same)
