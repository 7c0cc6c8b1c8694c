-- What is lent out of a table.
use Rattle.std.specs.Prelude.{ℕ, Option}
use Rattle.std.specs.Borrow.{Lends, LendsIf, MutBor, Fml}
use Rattle.std.specs.Option.{option_map_or}
use Rattle.slab.specs.Slab as slab
use Rattle.slab.specs.Slab.{Slab}
use Rattle.slab.specs.contracts.Slab.{the_row as slab_row}
use Rattle.std.specs.contracts.alloc.Global.{the_row as global_row}
use Rattle.std.specs.contracts.impls.GlobalAllocator.TheImpl.{ghosts}
use Rattle.tcl_frames.specs.Chain.{Chain}
use Rattle.tcl_frames.specs.contracts.frames.Frames.{the_row as frames_row}
use Rattle.tcl_interpreter.specs.declared.node.Node.{Node}
use Rattle.tcl_interpreter.specs.contracts.node.Node.{the_row as node_row}

-- the node with other frames
abbrev pub with_frames : Node → Chain → Node
with_frames node chain = record node { state = record node.state { frames = chain } }

-- once the borrow ends, the node has the frames that were left
abbrev pub LendsFrames : MutBor Node → MutBor Chain → Fml
LendsFrames s r = Lends node_row frames_row s r (with_frames s.now)

-- the table with these frames at the node of the key
abbrev pub with_frames_at : Slab Node → ℕ → Chain → Slab Node
with_frames_at s key chain = option_map_or
    (λ node. slab.with_value s key (with_frames node chain)) (slab.get s key) s

-- the same for the node at a key
abbrev pub LendsFramesAt : MutBor (Slab Node) → ℕ → Option (MutBor Chain) → Fml
LendsFramesAt s key r = LendsIf (slab_row node_row global_row ghosts) frames_row s r
    (with_frames_at s.now key) s.now
