use Rattle.std.proofs.Common.{◌-◌, ◌≡◌, length, take, subst}
use Rattle.tcl_core.specs.Endings.Reply.{Completed}
use Rattle.tcl_core.specs.Paths.{Text}
use Rattle.tcl_language.specs.Interpreters as interpreters
use Rattle.tcl_run.specs.Ends.{Interrupts, failing}
use Rattle.tcl_calls.proofs.EntryTelling.{fails_told}
use Rattle.tcl_interp.proofs.Forms.{last_deleted, none_deleted}
use Rattle.tcl_interp.proofs.Stepping.{steps_as}
use Rattle.tcl_interp.proofs.deleting.delete_at.Goals as goal

pub returns-in-len1-up-clause-steps : goal.returns-in-len1-up-clause-steps
returns-in-len1-up-clause-steps g c = steps_as g.O.Outside.goes c.args.tree.now c.delete_below.new.tree c.args.outside.now c.delete_below.new.outside c.args.place
    (λ rest style. interpreters.deletes_at (take (length c.args.path.now - 1) c.args.path.now, c.name-item.result) (rest style)) (λ rest style. interpreters.deletes_named c.args.text.now c.args.path.now (rest style)) c.delete_below.result
    (λ rest style. last_deleted c.args.text.now c.args.path.now c.name-item.result (rest style) c.in-len1-up.len_at_least c.name-item.is) c.delete_below.ensures.steps

pub returns-in-empty-clause-steps : goal.returns-in-empty-clause-steps
returns-in-empty-clause-steps g c = λ rest. fails_told g.O.Outside.goes c.args.tree.now c.args.outside.now c.args.place (λ style. interpreters.deletes_named c.args.text.now c.args.path.now (rest style)) (interpreters.in_use c.args.text.now) c.in_use.result
    (λ style. none_deleted c.args.text.now c.args.path.now (rest style) c.in-empty.len_below)
    (subst (λ (x : Text). Interrupts c.in_use.result (λ e. e ≡ Completed (failing (interpreters.in_use x)))) c.as_str.ensures c.in_use.ensures)
