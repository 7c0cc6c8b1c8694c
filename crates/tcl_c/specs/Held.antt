-- What a sealed pointer owns.
use Rattle.std.specs.Prelude.{Option, Some, None}
use base.Fml.{Fml, ftrue}
use denote.RawPtr.{Ptr}
use Rattle.std.specs.Box.Ownership.{box_owns}
use Rattle.std_heap.specs.declared.Global.{Global}
use Rattle.std_heap.specs.contracts.GlobalAllocator.TheImpl.{ghosts}
use Rattle.tcl_c.specs.contracts.object.Kept.{the_row}

-- nothing, or a boxed object and the right to free it
abbrev pub held : Global → Ptr → Option (Unit {0}) → Fml
held alloc p None = ftrue
held alloc p (Some v) = box_owns (ghosts.dealloc_token alloc) the_row p v
