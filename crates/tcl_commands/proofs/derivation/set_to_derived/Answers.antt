use Rattle.std.proofs.Common.{ℕ, List, subst}
use Rattle.tcl_frames.specs.Chain.{Chain}
use Rattle.tcl_frames.proofs.FrameLemmas.{at_some}
use Rattle.tcl_commands.specs.Derived.{text_of}
use Rattle.tcl_commands.specs.Setting.{SetsTo}
use Rattle.tcl_commands.proofs.SetParts.{lent_sets}
use Rattle.tcl_commands.proofs.derivation.set_to_derived.Goals as goal

pub returns-in-Some : goal.returns-in-Some
returns-in-Some c =
    let lent = c.scalar_mut_near in
    let new = c.replace.new.value in
    lent_sets c.args.frames.now (lent.follows.lender new) c.args.name.now (text_of c.args.derived) new c.replace.result (at_some lent.result c.in-Some.value c.in-Some.is (lent.follows.holds new)) c.replace.ensures

pub returns : goal.returns
returns c =
    subst (λ (x : List ℕ). SetsTo c.args.frames.now c.args.name.now x c.set_value.new.frames c.set_value.result) c.in_ok-value.ensures
    (subst (λ (x : Chain). SetsTo x c.args.name.now c.in_ok-value.value c.set_value.new.frames c.set_value.result) c.scalar_mut_near.follows.holds-at-none c.set_value.ensures)
