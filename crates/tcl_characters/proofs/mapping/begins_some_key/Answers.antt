use Rattle.std.proofs.Common.{◌∷◌, false}
use Rattle.std.specs.Str.{chars}
use Rattle.tcl_characters.proofs.MapLemmas.{keys_step}
use Rattle.tcl_characters.proofs.mapping.begins_some_key.Goals as goal

pub keys-preserved : goal.keys-preserved
keys-preserved c = λ rest u.
    keys_step false c.args.mapping.now c.keys.left.now (chars (c.args.byte ∷ rest)) c.key-item.result c._new-item.result c.as_str.result.now c.in-len2-up.len_at_least c.key-item.is c._new-item.is c.as_str.ensures (c.begins_with.ensures.unfit c.if-begins_with.false rest u) (c.keys.invariant rest u)
