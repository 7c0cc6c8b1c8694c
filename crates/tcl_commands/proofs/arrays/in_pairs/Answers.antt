use Rattle.std.proofs.Common.{◌++◌, take, drop, length, ap, ◌∙◌}
use Rattle.std.specs.Prelude.{◌-◌}
use Rattle.tcl_language.specs.Arrays.{in_pairs}
use Rattle.tcl_frames.specs.VariableArrays.{Elements}
use Rattle.tcl_commands.proofs.ArrayEnds.{pairs_step}
use Rattle.tcl_commands.proofs.arrays.in_pairs.Goals as goal

pub pairs-preserved : goal.pairs-preserved
pairs-preserved c =
    let left = c.pairs.left.now in
    ap (λ (es : Elements). es ++ in_pairs (take (length left - 2) (drop 2 left))) c.in_ok-push_pair.ensures
    ∙ pairs_step c.pairs.pairs.items left c.key-item.result c.value-item.result (in_pairs c.args.words.now) c.in-len2-up.len_at_least c.key-item.is c.value-item.is c.pairs.invariant
