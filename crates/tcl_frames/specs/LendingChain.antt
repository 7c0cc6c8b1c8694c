-- What is lent out of a chain.
use Rattle.std.specs.Prelude.{◌≡◌, ℕ, Option, Result, Ok, OnSome}
use Rattle.std.specs.Borrow.{LendsSo, LendsSoOk, MutBor, Fml}
use Rattle.tcl_frames.specs.Names.{Text}
use Rattle.tcl_frames.specs.Variables.{Part, part_of}
use Rattle.tcl_frames.specs.declared.frame.Change.TheVariants.{Assign}
use Rattle.tcl_frames.specs.declared.fault.FrameError.{FrameError}
use Rattle.tcl_frames.specs.Places.{end_of}
use Rattle.tcl_frames.specs.Chain.{Chain, with_frames, after_set}
use Rattle.tcl_frames.specs.Changes.{change_levels}
use Rattle.tcl_frames.specs.Reached.{start, over}
use Rattle.tcl_frames.specs.contracts.frames.Frames.{the_row}
use Rattle.tcl_value.specs.contracts.value.Value.{the_row as value_row}

-- once the borrow ends, the chain is as after a set of the value that was left, of a part of a name
-- at a level
abbrev pub LendsPartAt : MutBor Chain → ℕ → Text → Part → Text → Result (MutBor Text) FrameError →
    Fml
LendsPartAt s n b part x r = LendsSoOk the_row value_row s r
    (λ c w. with_frames s.now (change_levels (Assign w) s.now.frames (over (start n b) part) x)
    ≡ Ok c) (λ c. c ≡ s.now)

-- the same of where the links from a name at a level end
abbrev pub LendsEnd : MutBor Chain → ℕ → Text → Option Text → Text →
    Result (MutBor Text) FrameError → Fml
LendsEnd s n b key x r = LendsSoOk the_row value_row s r
    (λ c w. with_frames s.now (change_levels (Assign w) s.now.frames
    (end_of s.now.frames (over (start n b) (part_of key))) x) ≡ Ok c) (λ c. c ≡ s.now)

-- once the borrow ends, the chain is as after a set of the name to the value that was left
abbrev pub LendsSet : MutBor Chain → Text → Result (MutBor Text) FrameError → Fml
LendsSet s x r = LendsSoOk the_row value_row s r (λ c w. after_set s.now x w ≡ Ok c)
    (λ c. c ≡ s.now)

-- the same where the chain is as it was at `None`
abbrev pub LendsNear : MutBor Chain → Text → Option (MutBor Text) → Fml
LendsNear s x r = LendsSo the_row value_row s r (λ c w. OnSome r (after_set s.now x w ≡ Ok c))
    (λ c. c ≡ s.now)
