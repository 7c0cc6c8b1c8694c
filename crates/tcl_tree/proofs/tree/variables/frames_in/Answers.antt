use Rattle.std.proofs.Common.{◌≡◌, ◌≤◌, true, refl}
use Rattle.std.proofs.Math.Bool.{Bool-set}
use Rattle.std.proofs.Math.Bridge.{le_prop}
use Rattle.tcl_frames.specs.Chain.{Chain}
use Rattle.tcl_tree.specs.Lending.{with_frames}
use Rattle.tcl_interpreter.specs.Names.{have_plain_names}
use Rattle.tcl_interpreter.specs.declared.node.Node.{Node}
use Rattle.tcl_tree.proofs.tree.variables.frames_in.Goals as goal

-- whichever proofs the limits of its depth and the names of its commands have
same_frames : (node : Node) (w : Chain) (a : 1 ≤ node.state.depth_limit) (b : node.state.depth_limit ≤ 1000) (d : node.state.knows_plain_names ≡ true → have_plain_names node.state.commands.entries ≡ true)
    → record node { state = record node.state { frames = w; least = a; most = b; plain = d } } ≡ with_frames node w
same_frames node w a b d = λ i. record node { state = record node.state { frames = w; least = le_prop a node.state.least i; most = le_prop b node.state.most i; plain = λ known. Bool-set _ _ (d known) (node.state.plain known) i } }

pub returns : goal.returns
returns c = ((refl, λ w. same_frames c.args.node.now w _ _ _), record { writes_back = tt; value = refl })
