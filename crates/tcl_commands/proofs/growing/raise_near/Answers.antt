use Rattle.std.proofs.Common.{ℕ, List, subst}
use Rattle.std.specs.Prelude.{codes}
use Rattle.tcl_frames.specs.Chain.{Chain}
use Rattle.tcl_frames.proofs.FrameLemmas.{at_some}
use Rattle.tcl_commands.specs.Growing.{Grows}
use Rattle.tcl_commands.specs.Sums.{added_words, raised}
use Rattle.tcl_commands.proofs.Growths.{grows_lent}
use Rattle.tcl_commands.proofs.growing.raise_near.Goals as goal

pub returns-in-Some : goal.returns-in-Some
returns-in-Some c =
    let lent = c.scalar_mut_near in
    let new = c.raise_value.new.value in
    grows_lent c.args.frames.now (lent.follows.lender new) (codes "0") c.args.name.now c.in-Some.value.now new (raised c.args.style (added_words c.args.by)) c.raise_value.result
    c.in-Some.ensures.scalar (at_some lent.result c.in-Some.value c.in-Some.is (lent.follows.holds new)) c.raise_value.ensures

pub returns : goal.returns
returns c =
    subst (λ (x : List ℕ). Grows (codes "0") c.args.frames.now x (raised c.args.style (added_words c.args.by)) c.grow.new.frames c.grow.result) c.text.ensures
    (subst (λ (x : Chain). Grows (codes "0") x c.text.result.now (raised c.args.style (added_words c.args.by)) c.grow.new.frames c.grow.result) c.scalar_mut_near.follows.holds-at-none c.grow.ensures)
