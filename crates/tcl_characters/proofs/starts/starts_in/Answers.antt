use Rattle.std.proofs.Common.{◌≡◌, ◌+◌, ◌-◌, length, take, drop, arith, rules}
use Rattle.tcl_characters.proofs.StartLemmas.{starts, starts-range, starts-rest}
use Rattle.tcl_characters.proofs.starts.starts_in.Goals as goal

pub whole-preserved : goal.whole-preserved
whole-preserved c =
    let at = c.whole.at in
    let block : c.starts_in_block.result ≡ starts (take (at + 64 - at) (drop at c.args.bytes.now)) = c.starts_in_block.ensures in
    (search rules, omega (arith, block, c.from-count.ensures, c.whole.invariant.1, starts-range c.args.bytes.now at 64))

pub returns : goal.returns
returns c =
    let at = c.whole.at in
    let last : c.starts_in_block-2.result ≡ starts (take (length c.args.bytes.now - at) (drop at c.args.bytes.now)) = c.starts_in_block-2.ensures in
    omega (arith, last, c.from.ensures, c.whole.invariant.1, starts-rest c.args.bytes.now at)
