use Rattle.std.proofs.Common.{◌≡◌, subst}
use Rattle.tcl_core.specs.Paths.{Text}
use Rattle.tcl_language.specs.Interpreters.{already_exists}
use Rattle.tcl_tree.proofs.CoreLemmas.{tree_there}
use Rattle.tcl_calls.specs.Naming.{Tells, making_text}
use Rattle.tcl_run.specs.Ends.{Interrupts, failing}
use Rattle.tcl_core.specs.Endings.Reply.{Completed}
use Rattle.tcl_calls.proofs.Served.{create_taken, created, create_refused}
use Rattle.tcl_calls.proofs.Standing.{created_here, created_steady, unchanged_here, unchanged_steady}
use Rattle.tcl_calls.proofs.serving.create.Goals as goal

pub returns-in-Some-clause-acts : goal.returns-in-Some-clause-acts
returns-in-Some-clause-acts c = create_taken c.args.tree.now c.args.place c.args.name.now c.args.safe c.already_exists.result (λ p at. tree_there c.args.tree.now _ _ (c.in-Some.ensures.there p at))
    (subst (λ (x : Text). Interrupts c.already_exists.result (λ r. r ≡ Completed (failing (already_exists x)))) c.as_str.ensures c.already_exists.ensures)

pub returns-in-Ok-clause-acts : goal.returns-in-Ok-clause-acts
returns-in-Ok-clause-acts c = created c.args.tree.now c.create_at.new.self c.args.place c.args.name.now c.args.safe c.empty.result c.empty.ensures c.in-Ok.ensures.may c.in-Ok.ensures.made

pub returns-in-Ok-clause-steady : goal.returns-in-Ok-clause-steady
returns-in-Ok-clause-steady c = created_steady c.args.tree.now c.create_at.new.self c.args.place c.args.name.now c.args.safe c.in-Ok.ensures.marks c.in-Ok.ensures.gains c.requires c.in-Ok.ensures.may c.in-Ok.ensures.made

pub returns-in-Ok-clause-here : goal.returns-in-Ok-clause-here
returns-in-Ok-clause-here c = created_here c.args.tree.now c.create_at.new.self c.args.place c.args.name.now c.args.safe c.in-Ok.ensures.marks c.in-Ok.ensures.keys c.in-Ok.ensures.may c.in-Ok.ensures.made

pub returns-in-Err-clause-acts : goal.returns-in-Err-clause-acts
returns-in-Err-clause-acts c = create_refused c.args.tree.now c.create_at.new.self c.args.place c.args.name.now c.args.safe c.in_default.ensures.missing c.in-Err.ensures.unchanged c.in-Err.refusal c.making_failure.result c.requires c.in-Err.ensures.refused
    (subst (λ (x : Text). Tells c.in-Err.refusal (making_text c.in-Err.refusal x) c.making_failure.result) c.as_str-in-Err.ensures c.making_failure.ensures)

pub returns-in-Err-clause-steady : goal.returns-in-Err-clause-steady
returns-in-Err-clause-steady c = unchanged_steady c.args.tree.now c.create_at.new.self c.in-Err.ensures.marks c.in-Err.ensures.held c.in-Err.ensures.unchanged

pub returns-in-Err-clause-here : goal.returns-in-Err-clause-here
returns-in-Err-clause-here c = unchanged_here c.args.tree.now c.create_at.new.self c.args.place c.in-Err.ensures.marks c.in-Err.ensures.keys c.in-Err.ensures.unchanged
