use Rattle.std.specs.Str.{chars}
use Rattle.tcl_characters.proofs.MapLemmas.{keys_step}
use Rattle.tcl_characters.proofs.mapping.fitting.Goals as goal

pub keys-preserved : goal.keys-preserved
keys-preserved c =
    keys_step c.args.nocase c.args.mapping.now c.keys.left.now (chars c.args.text.now) c.key-item.result c.new-item.result c.as_str.result.now c.in-len2-up.len_at_least c.key-item.is c.new-item.is c.as_str.ensures c.in_default-behind_some_key.ensures c.keys.invariant
