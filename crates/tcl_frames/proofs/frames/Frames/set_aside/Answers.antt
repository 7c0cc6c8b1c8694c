use Rattle.std.proofs.Common.{◌<◌, ◌≤◌, length, sym, subst, arith, reverse}
use Rattle.tcl_frames.specs.Sound.{HasRoom}
use Rattle.tcl_frames.proofs.ChainLemmas.{sound_cut, cut_is, refuses_cut}
use Rattle.tcl_frames.proofs.frames.Frames.set_aside.Goals as goal

pub returns-then-level-len-clause-err : goal.returns-then-level-len-clause-err
returns-then-level-len-clause-err c =
    refuses_cut c.self.inside.frames.items c.self.inside.aside.items c.args.level c.args.self.now c.self.view_is (omega (arith, c.len.ensures, c.if-level-len.true, c.self.inside.frames.ok.0))

pub invariant_of-self-2 : goal.invariant_of-self-2
invariant_of-self-2 c =
    let fs = c.self.inside.frames.items in
    let below : c.args.level < length fs = omega (arith, c.len.ensures, c.if-level-len.false, c.self.inside.frames.ok.0) in
    let room : length fs ≤ c.self.inside.frames.cap = omega (arith, c.self.inside.frames.ok.0, c.self.inside.frames.ok.1) in
    let cut = sound_cut fs c.split_frames.new.frames.items c.in_ok-frames.frames.items c.self.inside.aside.items c.push_reserved.new.self.items c.reserve.new.self.items c.args.level c.self.inside.frames.cap
    c.in_ok-frames.ensures.kept c.in_ok-frames.ensures.taken c.push_reserved.ensures.items c.in_ok-reserve.ensures.items below room c.self.invariant in
    (cut.0, subst (λ n. HasRoom n (reverse c.push_reserved.new.self.items)) (sym c.in_ok-frames.ensures.room) cut.1)

pub returns-clause-ok : goal.returns-clause-ok
returns-clause-ok c =
    let fs = c.self.inside.frames.items in
    let below : c.args.level < length fs = omega (arith, c.len.ensures, c.if-level-len.false, c.self.inside.frames.ok.0) in
    cut_is fs c.split_frames.new.frames.items c.in_ok-frames.frames.items c.self.inside.aside.items c.push_reserved.new.self.items c.reserve.new.self.items c.args.level c.args.self.now
    c.in_ok-frames.ensures.kept c.in_ok-frames.ensures.taken c.push_reserved.ensures.items c.in_ok-reserve.ensures.items below c.self.view_is
