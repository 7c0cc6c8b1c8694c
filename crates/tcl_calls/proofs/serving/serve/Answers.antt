use Rattle.std.proofs.Common.{sym, subst}
use Rattle.tcl_run.specs.declared.entry.OwnEntry.{OwnEntry}
use Rattle.tcl_run.specs.Entering.{entry_of}
use Rattle.tcl_run.specs.Runs.{EvaluatesAt}
use Rattle.tcl_run.proofs.Keeping.{level_loses, steady_loses}
use Rattle.tcl_run.proofs.Steady.{here-refl, level_here, level-refl}
use Rattle.tcl_language.specs.Table.{serve}
use Rattle.tcl_calls.proofs.Carried.{serves}
use Rattle.tcl_calls.proofs.serving.serve.Goals as goal

pub returns-in-SetAlias-clause-runs : goal.returns-in-SetAlias-clause-runs
returns-in-SetAlias-clause-runs g c = serves g.O.Outside.goes c.args.tree.now c.set_alias.new.tree c.args.outside.now c.args.place c.args.entry.now _ c.set_alias.result c.in-SetAlias.is c.set_alias.ensures.acts

pub returns-in-ClearAlias-clause-runs : goal.returns-in-ClearAlias-clause-runs
returns-in-ClearAlias-clause-runs g c = serves g.O.Outside.goes c.args.tree.now c.clear_alias.new.tree c.args.outside.now c.args.place c.args.entry.now _ c.clear_alias.result c.in-ClearAlias.is c.clear_alias.ensures.acts

pub returns-in-Hide-clause-runs : goal.returns-in-Hide-clause-runs
returns-in-Hide-clause-runs g c = serves g.O.Outside.goes c.args.tree.now c.hide.new.tree c.args.outside.now c.args.place c.args.entry.now _ c.hide.result c.in-Hide.is c.hide.ensures.acts

pub returns-in-Expose-clause-runs : goal.returns-in-Expose-clause-runs
returns-in-Expose-clause-runs g c = serves g.O.Outside.goes c.args.tree.now c.expose.new.tree c.args.outside.now c.args.place c.args.entry.now _ c.expose.result c.in-Expose.is c.expose.ensures.acts

pub returns-in-SetCountLimit-clause-runs : goal.returns-in-SetCountLimit-clause-runs
returns-in-SetCountLimit-clause-runs g c = serves g.O.Outside.goes c.args.tree.now c.limit_count.new.tree c.args.outside.now c.args.place c.args.entry.now _ c.limit_count.result c.in-SetCountLimit.is c.limit_count.ensures.acts

pub returns-in-SetDepthLimit-clause-runs : goal.returns-in-SetDepthLimit-clause-runs
returns-in-SetDepthLimit-clause-runs g c = serves g.O.Outside.goes c.args.tree.now c.limit_depth.new.tree c.args.outside.now c.args.place c.args.entry.now _ c.limit_depth.result c.in-SetDepthLimit.is c.limit_depth.ensures.acts

pub returns-in-Create-clause-runs : goal.returns-in-Create-clause-runs
returns-in-Create-clause-runs g c = serves g.O.Outside.goes c.args.tree.now c.create_named.new.tree c.args.outside.now c.args.place c.args.entry.now _ c.create_named.result c.in-Create.is c.create_named.ensures.acts

pub returns-in-Ask-clause-runs : goal.returns-in-Ask-clause-runs
returns-in-Ask-clause-runs g c = serves g.O.Outside.goes c.args.tree.now c.args.tree.now c.args.outside.now c.args.place c.args.entry.now _ c.answer.result c.in-Ask.is c.answer.ensures

pub returns-in-Delete-clause-runs : goal.returns-in-Delete-clause-runs
returns-in-Delete-clause-runs g c = subst (λ (e : OwnEntry). EvaluatesAt g.O.Outside.goes c.args.tree.now c.args.outside.now c.args.place (λ style. serve style (entry_of e)) c.delete.new.tree c.delete.new.outside c.delete.result) (sym c.in-Delete.is) c.delete.ensures.runs

pub returns-in-SetAlias-clause-keeps : goal.returns-in-SetAlias-clause-keeps
returns-in-SetAlias-clause-keeps g c = level_loses _ c.set_alias.ensures.level

pub returns-in-ClearAlias-clause-keeps : goal.returns-in-ClearAlias-clause-keeps
returns-in-ClearAlias-clause-keeps g c = level_loses _ c.clear_alias.ensures.level

pub returns-in-Hide-clause-keeps : goal.returns-in-Hide-clause-keeps
returns-in-Hide-clause-keeps g c = level_loses _ c.hide.ensures.level

pub returns-in-Expose-clause-keeps : goal.returns-in-Expose-clause-keeps
returns-in-Expose-clause-keeps g c = level_loses _ c.expose.ensures.level

pub returns-in-SetCountLimit-clause-keeps : goal.returns-in-SetCountLimit-clause-keeps
returns-in-SetCountLimit-clause-keeps g c = level_loses _ c.limit_count.ensures.level

pub returns-in-SetDepthLimit-clause-keeps : goal.returns-in-SetDepthLimit-clause-keeps
returns-in-SetDepthLimit-clause-keeps g c = steady_loses _ c.limit_depth.ensures.steady

pub returns-in-Create-clause-keeps : goal.returns-in-Create-clause-keeps
returns-in-Create-clause-keeps g c = steady_loses _ c.create_named.ensures.steady

pub returns-in-Ask-clause-keeps : goal.returns-in-Ask-clause-keeps
returns-in-Ask-clause-keeps g c = level_loses _ (level-refl c.args.tree.now)

pub returns-in-SetAlias-clause-here : goal.returns-in-SetAlias-clause-here
returns-in-SetAlias-clause-here g c = level_here c.args.tree.now c.set_alias.new.tree c.args.place c.set_alias.ensures.level

pub returns-in-ClearAlias-clause-here : goal.returns-in-ClearAlias-clause-here
returns-in-ClearAlias-clause-here g c = level_here c.args.tree.now c.clear_alias.new.tree c.args.place c.clear_alias.ensures.level

pub returns-in-Hide-clause-here : goal.returns-in-Hide-clause-here
returns-in-Hide-clause-here g c = level_here c.args.tree.now c.hide.new.tree c.args.place c.hide.ensures.level

pub returns-in-Expose-clause-here : goal.returns-in-Expose-clause-here
returns-in-Expose-clause-here g c = level_here c.args.tree.now c.expose.new.tree c.args.place c.expose.ensures.level

pub returns-in-SetCountLimit-clause-here : goal.returns-in-SetCountLimit-clause-here
returns-in-SetCountLimit-clause-here g c = level_here c.args.tree.now c.limit_count.new.tree c.args.place c.limit_count.ensures.level

pub returns-in-Ask-clause-here : goal.returns-in-Ask-clause-here
returns-in-Ask-clause-here g c = here-refl c.args.tree.now c.args.place
