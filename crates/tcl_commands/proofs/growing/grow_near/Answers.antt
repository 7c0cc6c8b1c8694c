use Rattle.std.proofs.Common.{ℕ, List, subst}
use Rattle.tcl_frames.specs.Chain.{Chain}
use Rattle.tcl_frames.proofs.FrameLemmas.{at_some}
use Rattle.tcl_commands.specs.Growing.{Grows}
use Rattle.tcl_commands.specs.GrowthKinds.{first_of, grown_by}
use Rattle.tcl_commands.proofs.Growths.{grows_lent}
use Rattle.tcl_commands.proofs.growing.grow_near.Goals as goal

pub returns-in-Some : goal.returns-in-Some
returns-in-Some c =
    let lent = c.scalar_mut_near in
    let new = c.grow_value.new.value in
    grows_lent c.args.frames.now (lent.follows.lender new) (first_of c.args.growth) c.args.name.now c.in-Some.value.now new (grown_by c.args.growth c.args.more.now) c.grow_value.result
    c.in-Some.ensures.scalar (at_some lent.result c.in-Some.value c.in-Some.is (lent.follows.holds new)) c.grow_value.ensures

pub returns : goal.returns
returns c =
    subst (λ (x : List ℕ). Grows (first_of c.args.growth) c.args.frames.now x (grown_by c.args.growth c.args.more.now) c.grow.new.frames c.grow.result) c.text.ensures
    (subst (λ (x : Chain). Grows (first_of c.args.growth) x c.text.result.now (grown_by c.args.growth c.args.more.now) c.grow.new.frames c.grow.result) c.scalar_mut_near.follows.holds-at-none c.grow.ensures)
