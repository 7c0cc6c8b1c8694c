use Rattle.std.proofs.Common.{◌≡◌, ◌-◌, length, subst, arith, length-append, ap, IsCharBoundary}
use Rattle.std.proofs.lemmas.Str.{IsCharBoundary-at_seam}
use Rattle.tcl_parser.proofs.scan.before.Goals as goal

pub split_at-requires : goal.split_at-requires
split_at-requires c =
    let s = c.args.text.now in
    let rest = c.args.rest.now in
    let h = c.requires in
    let n : length h.front ≡ length s - length rest = omega (arith, ap length h.whole, length-append h.front rest) in
    subst (IsCharBoundary s) n (IsCharBoundary-at_seam s h.front rest h.whole c.utf8.rest)
