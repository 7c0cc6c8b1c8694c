use Rattle.tcl_core.specs.Programs.{is_spent}
use Rattle.tcl_tree.specs.Nodes.{moved}
use Rattle.tcl_interpreter.specs.declared.node.Meter.TheVariants.{Steps, Back}
use Rattle.tcl_tree.proofs.CoreLemmas.{on_both, if_err, line_done, none_blocked, near_blocked}
use Rattle.std.proofs.Common.{◌≡◌, refl}
use Rattle.tcl_tree.proofs.tree.Tree.charge_at.Goals as goal

pub returns-clause-charged : goal.returns-clause-charged
returns-clause-charged c = on_both c.move_at.result c.move_at.ensures.room c.move_at.ensures.charged (λ room done p at. (none_blocked is_spent p _ (room p at), line_done (moved Steps) _ _ p (done p at)))

pub returns-clause-refused : goal.returns-clause-refused
returns-clause-refused c = if_err c.move_at.result c.move_at.ensures.full c.move_at.ensures.unchanged (λ n near same p at. (near_blocked is_spent p _ n (near p at), λ i q. same q i))

pub move_at-requires-clause-onward : goal.move_at-requires-clause-onward
move_at-requires-clause-onward c = λ e. let x : Steps ≡ Back = e in absurd (cc)

pub returns-clause-held : goal.returns-clause-held
returns-clause-held c = c.move_at.ensures.counted refl
