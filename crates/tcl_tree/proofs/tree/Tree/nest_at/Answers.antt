use Rattle.tcl_core.specs.Programs.{is_deep}
use Rattle.tcl_tree.specs.Nodes.{moved}
use Rattle.tcl_interpreter.specs.declared.node.Meter.TheVariants.{Levels, Back}
use Rattle.tcl_tree.proofs.CoreLemmas.{on_both, if_err, line_done, none_blocked, near_blocked}
use Rattle.std.proofs.Common.{◌≡◌, refl}
use Rattle.tcl_tree.proofs.NamingLemmas.{ok_map}
use Rattle.tcl_tree.proofs.tree.Tree.nest_at.Goals as goal

pub returns-clause-nested : goal.returns-clause-nested
returns-clause-nested c = on_both c.move_at.result c.move_at.ensures.room c.move_at.ensures.charged (λ room done p at. (none_blocked is_deep p _ (room p at), line_done (moved Levels) _ _ p (done p at)))

pub returns-clause-refused : goal.returns-clause-refused
returns-clause-refused c = if_err c.move_at.result c.move_at.ensures.full c.move_at.ensures.unchanged (λ n near same p at. (near_blocked is_deep p _ n (near p at), λ i q. same q i))

pub move_at-requires-clause-onward : goal.move_at-requires-clause-onward
move_at-requires-clause-onward c = λ e. let x : Levels ≡ Back = e in absurd (cc)

pub returns-clause-deeper : goal.returns-clause-deeper
returns-clause-deeper c = ok_map c.move_at.result c.move_at.ensures.deeper (λ h. h refl)
