use Rattle.std.proofs.Common.{◌∙◌, refl, sym}
use Rattle.tcl_eval.proofs.Starting.{at_none, counts_stay}
use Rattle.tcl_replay.proofs.OpenAnswers.{deletions, follows, follows_drop, records, runs}
use Rattle.tcl_replay.proofs.Before.{both_there}
use Rattle.tcl_replay.specs.OpenWatched.{ReactsToDrop}
use Rattle.tcl_replay.proofs.OpenRecorded as laws
use Rattle.tcl_replay.specs.Watched.{AsksTheHostNothing, CountStaysWithin, Reacts, ReactsSo, ReactsUntil, unwatchable}
use Rattle.tcl_replay.proofs.open_watching.open_watched.Goals as goal

pub returns-clause-runs : goal.returns-clause-runs
returns-clause-runs g c = runs g.O.Outside.goes g.O.Outside.loses c.args.tree.now c.args.outside c.args.path.now c.args.script.now c.args.limit c.args.watched.now c.watch.new.tree c.watch.result.0 c.watch.result.1 c.watch.ensures.watches

pub returns-clause-recorded : goal.returns-clause-recorded
returns-clause-recorded g c =
    let there = both_there c.args.tree.now c.args.path.now c.args.script.now c.args.limit c.args.watched.now (sym c.refusal_to_watch.ensures ∙ c.in_default.is) in
    records g.O.Outside.goes g.O.Outside.loses c.args.tree.now c.args.outside c.args.path.now c.args.script.now c.args.limit c.args.watched.now c.watch.new.tree c.watch.result.0 c.watch.result.1 there.0 there.1 c.watch.ensures.watches

pub returns-clause-given_up : goal.returns-clause-given_up
returns-clause-given_up g c = at_none (unwatchable c.args.tree.now c.args.path.now c.args.script.now c.args.limit c.args.watched.now) _ c.watch.ensures.watches.given_up

pub returns-clause-deleted : goal.returns-clause-deleted
returns-clause-deleted g c =
    let there = both_there c.args.tree.now c.args.path.now c.args.script.now c.args.limit c.args.watched.now (sym c.refusal_to_watch.ensures ∙ c.in_default.is) in
    deletions g.O.Outside.goes g.O.Outside.loses c.args.tree.now c.args.outside c.args.path.now c.args.script.now c.args.limit c.args.watched.now c.watch.new.tree c.watch.result.0 c.watch.result.1 there.0 there.1 c.watch.ensures.watches

pub returns-clause-reacts_to_drop : goal.returns-clause-reacts_to_drop
returns-clause-reacts_to_drop g c =
    let there = both_there c.args.tree.now c.args.path.now c.args.script.now c.args.limit c.args.watched.now (sym c.refusal_to_watch.ensures ∙ c.in_default.is) in
    follows_drop g.O.Outside.goes g.O.Outside.loses c.args.tree.now c.args.outside c.args.path.now c.args.script.now c.args.limit c.args.watched.now c.watch.new.tree c.watch.result.0 (λ r e. ReactsToDrop g.O.Outside.goes c.args.tree.now c.args.outside c.args.path.now c.args.script.now c.args.limit c.args.watched.now r c.watch.new.tree c.watch.result.0 e) c.watch.result.1 (deletions g.O.Outside.goes g.O.Outside.loses c.args.tree.now c.args.outside c.args.path.now c.args.script.now c.args.limit c.args.watched.now c.watch.new.tree c.watch.result.0 c.watch.result.1 there.0 there.1 c.watch.ensures.watches)
    (λ r e w. laws.reacts_to_drop g.O.Outside.goes c.args.tree.now c.args.outside c.args.path.now c.args.script.now c.args.limit c.args.watched.now r c.watch.new.tree c.watch.result.0 e w)

pub returns-clause-reacts : goal.returns-clause-reacts
returns-clause-reacts g c =
    let there = both_there c.args.tree.now c.args.path.now c.args.script.now c.args.limit c.args.watched.now (sym c.refusal_to_watch.ensures ∙ c.in_default.is) in
    follows g.O.Outside.goes g.O.Outside.loses c.args.tree.now c.args.outside c.args.path.now c.args.script.now c.args.limit c.args.watched.now c.watch.new.tree c.watch.result.0 (λ r. Reacts c.args.tree.now c.args.watched.now r.crossings c.watch.new.tree) c.watch.result.1 (records g.O.Outside.goes g.O.Outside.loses c.args.tree.now c.args.outside c.args.path.now c.args.script.now c.args.limit c.args.watched.now c.watch.new.tree c.watch.result.0 c.watch.result.1 there.0 there.1 c.watch.ensures.watches)
    (λ r e w. laws.reacts g.O.Outside.goes c.args.tree.now c.args.outside c.args.path.now c.args.script.now c.args.limit c.args.watched.now r c.watch.new.tree c.watch.result.0 e w)

pub returns-clause-reacts_so : goal.returns-clause-reacts_so
returns-clause-reacts_so g c =
    let there = both_there c.args.tree.now c.args.path.now c.args.script.now c.args.limit c.args.watched.now (sym c.refusal_to_watch.ensures ∙ c.in_default.is) in
    follows g.O.Outside.goes g.O.Outside.loses c.args.tree.now c.args.outside c.args.path.now c.args.script.now c.args.limit c.args.watched.now c.watch.new.tree c.watch.result.0 (λ r. ReactsSo c.args.tree.now c.args.watched.now r.crossings c.watch.new.tree) c.watch.result.1 (records g.O.Outside.goes g.O.Outside.loses c.args.tree.now c.args.outside c.args.path.now c.args.script.now c.args.limit c.args.watched.now c.watch.new.tree c.watch.result.0 c.watch.result.1 there.0 there.1 c.watch.ensures.watches)
    (λ r e w. laws.reacts_so g.O.Outside.goes c.args.tree.now c.args.outside c.args.path.now c.args.script.now c.args.limit c.args.watched.now r c.watch.new.tree c.watch.result.0 e w)

pub returns-clause-reacts_until : goal.returns-clause-reacts_until
returns-clause-reacts_until g c =
    let there = both_there c.args.tree.now c.args.path.now c.args.script.now c.args.limit c.args.watched.now (sym c.refusal_to_watch.ensures ∙ c.in_default.is) in
    follows g.O.Outside.goes g.O.Outside.loses c.args.tree.now c.args.outside c.args.path.now c.args.script.now c.args.limit c.args.watched.now c.watch.new.tree c.watch.result.0 (λ r. ReactsUntil c.args.tree.now c.args.watched.now r.crossings c.watch.new.tree) c.watch.result.1 (records g.O.Outside.goes g.O.Outside.loses c.args.tree.now c.args.outside c.args.path.now c.args.script.now c.args.limit c.args.watched.now c.watch.new.tree c.watch.result.0 c.watch.result.1 there.0 there.1 c.watch.ensures.watches)
    (λ r e w. laws.reacts_until g.O.Outside.goes c.args.tree.now c.args.outside c.args.path.now c.args.script.now c.args.limit c.args.watched.now r c.watch.new.tree c.watch.result.0 e w)

pub returns-clause-asks_nothing : goal.returns-clause-asks_nothing
returns-clause-asks_nothing g c =
    let there = both_there c.args.tree.now c.args.path.now c.args.script.now c.args.limit c.args.watched.now (sym c.refusal_to_watch.ensures ∙ c.in_default.is) in
    follows g.O.Outside.goes g.O.Outside.loses c.args.tree.now c.args.outside c.args.path.now c.args.script.now c.args.limit c.args.watched.now c.watch.new.tree c.watch.result.0 (λ r. AsksTheHostNothing c.args.tree.now c.args.watched.now r.crossings) c.watch.result.1 (records g.O.Outside.goes g.O.Outside.loses c.args.tree.now c.args.outside c.args.path.now c.args.script.now c.args.limit c.args.watched.now c.watch.new.tree c.watch.result.0 c.watch.result.1 there.0 there.1 c.watch.ensures.watches)
    (λ r e w. laws.asks_nothing g.O.Outside.goes c.args.tree.now c.args.outside c.args.path.now c.args.script.now c.args.limit c.args.watched.now r c.watch.new.tree c.watch.result.0 e c.asks_the_host_nothing.ensures w)

pub returns-clause-count_stays_within : goal.returns-clause-count_stays_within
returns-clause-count_stays_within g c =
    let there = both_there c.args.tree.now c.args.path.now c.args.script.now c.args.limit c.args.watched.now (sym c.refusal_to_watch.ensures ∙ c.in_default.is) in
    follows g.O.Outside.goes g.O.Outside.loses c.args.tree.now c.args.outside c.args.path.now c.args.script.now c.args.limit c.args.watched.now c.watch.new.tree c.watch.result.0 (λ r. CountStaysWithin c.args.tree.now c.args.watched.now r.crossings c.watch.new.tree) c.watch.result.1 (records g.O.Outside.goes g.O.Outside.loses c.args.tree.now c.args.outside c.args.path.now c.args.script.now c.args.limit c.args.watched.now c.watch.new.tree c.watch.result.0 c.watch.result.1 there.0 there.1 c.watch.ensures.watches)
    (λ r e w. laws.stays_within g.O.Outside.goes c.args.tree.now c.args.outside c.args.path.now c.args.script.now c.args.limit c.args.watched.now r c.watch.new.tree c.watch.result.0 e c.scripts_stay_within.ensures w)

pub returns-in-Some-clause-counted : goal.returns-in-Some-clause-counted
returns-in-Some-clause-counted g c = counts_stay c.args.tree.now c.args.tree.now c.args.path.now c.args.limit refl
