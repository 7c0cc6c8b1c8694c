use Rattle.std.proofs.Common.{sym, ◌∙◌}
use Rattle.tcl_frames.proofs.SameChains.{same_chains}
use Rattle.tcl_frames.proofs.frames.Frames.same.Goals as goal

pub returns-then-same_items : goal.returns-then-same_items
returns-then-same_items c =
    let fs = sym c.as_slice.ensures.value ∙ c.same_items.ensures.0 c.if-same_items.true ∙ c.as_slice-2.ensures.value in
    same_chains c.self.inside.frames.items c.other.inside.frames.items c.self.inside.aside.items c.other.inside.aside.items _ _ _ _ c.self.view_is c.other.view_is fs c.as_slice-then-same_items.ensures.value c.as_slice-then-same_items-2.ensures.value c.same_items-then-same_items.ensures
