use Rattle.std.proofs.Common.{sym, subst}
use Rattle.tcl_core.specs.Paths.{Text}
use Rattle.std.specs.Prelude.{Option}
use Rattle.tcl_core.specs.Entries.Entry.{Create}
use Rattle.tcl_language.specs.Table.{serve}
use Rattle.tcl_run.specs.Plain.{Acts}
use Rattle.tcl_calls.proofs.Served.{create_unnamed}
use Rattle.tcl_calls.proofs.serving.create_named.Goals as goal

pub returns-in-Some-clause-acts : goal.returns-in-Some-clause-acts
returns-in-Some-clause-acts c = subst (λ (o : Option Text). Acts c.args.tree.now c.args.place (λ style. serve style (Create o c.args.safe)) c.create.new.tree c.create.result) (sym c.in-Some.is) c.create.ensures.acts

pub returns-in_ok-name-in-None-clause-acts : goal.returns-in_ok-name-in-None-clause-acts
returns-in_ok-name-in-None-clause-acts c = subst (λ (o : Option Text). Acts c.args.tree.now c.args.place (λ style. serve style (Create o c.args.safe)) c.create-in-None.new.tree c.create-in-None.result) (sym c.in-None.is)
    (create_unnamed c.args.tree.now c.create-in-None.new.tree c.args.place c.in_ok-name-in-None.name c.args.safe c.create-in-None.result c.in_ok-name-in-None.ensures c.create-in-None.ensures.acts)
