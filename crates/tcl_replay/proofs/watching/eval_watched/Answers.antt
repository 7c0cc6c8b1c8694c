use Rattle.std.proofs.Common.{◌∙◌, refl, sym}
use Rattle.tcl_replay.specs.Watched.{AsksTheHostNothing, Counts, CountStaysWithin, LeavesTheOutside, LimitsStay, Reacts, ReactsSo, ReactsToDrop, ReactsUntil, unwatchable, watching}
use Rattle.tcl_replay.proofs.Before.{both_there}
use Rattle.tcl_replay.proofs.Answers.{deletions, follows, follows_drop, records, stops, wholes}
use Rattle.tcl_replay.proofs.Recorded as recorded
use Rattle.tcl_eval.proofs.Starting.{at_none, counts_stay}
use Rattle.tcl_replay.proofs.Unfinished.{if_refused_so}
use Rattle.tcl_replay.proofs.watching.eval_watched.Goals as goal

pub returns-clause-given_up : goal.returns-clause-given_up
returns-clause-given_up g c = at_none (unwatchable c.args.tree.now c.args.path.now c.args.script.now c.args.limit c.args.watched.now) _ c.watch.ensures.watches.given_up

pub returns-clause-asked : goal.returns-clause-asked
returns-clause-asked g c =
    let there = both_there c.args.tree.now c.args.path.now c.args.script.now c.args.limit c.args.watched.now (sym c.refusal_to_watch.ensures ∙ c.in_default.is) in
    at_none (unwatchable c.args.tree.now c.args.path.now c.args.script.now c.args.limit c.args.watched.now) _
    (if_refused_so g.H.Host.step c.args.tree.now c.args.host c.args.path.now c.args.script.now c.args.limit c.watch.result.0 c.watch.result.1 there.0 c.watch.ensures.watches.given_up)

pub returns-clause-whole : goal.returns-clause-whole
returns-clause-whole g c = wholes g.H.Host.step c.args.tree.now c.args.host c.args.path.now c.args.script.now c.args.limit c.args.watched.now c.watch.new.tree c.watch.result.0 c.watch.result.1 c.watch.ensures.watches

pub returns-clause-recorded : goal.returns-clause-recorded
returns-clause-recorded g c =
    let there = both_there c.args.tree.now c.args.path.now c.args.script.now c.args.limit c.args.watched.now (sym c.refusal_to_watch.ensures ∙ c.in_default.is) in
    records g.H.Host.step c.args.tree.now c.args.host c.args.path.now c.args.script.now c.args.limit c.args.watched.now c.watch.new.tree c.watch.result.0 c.watch.result.1 there.1 c.watch.ensures.watches

pub returns-clause-stops : goal.returns-clause-stops
returns-clause-stops g c =
    let there = both_there c.args.tree.now c.args.path.now c.args.script.now c.args.limit c.args.watched.now (sym c.refusal_to_watch.ensures ∙ c.in_default.is) in
    stops g.H.Host.step c.args.tree.now c.args.host c.args.path.now c.args.script.now c.args.limit c.args.watched.now c.watch.new.tree c.watch.result.0 c.watch.result.1 there.1 c.watch.ensures.watches

pub returns-clause-deleted : goal.returns-clause-deleted
returns-clause-deleted g c =
    let there = both_there c.args.tree.now c.args.path.now c.args.script.now c.args.limit c.args.watched.now (sym c.refusal_to_watch.ensures ∙ c.in_default.is) in
    deletions g.H.Host.step c.args.tree.now c.args.host c.args.path.now c.args.script.now c.args.limit c.args.watched.now c.watch.new.tree c.watch.result.0 c.watch.result.1 there.1 c.watch.ensures.watches

pub returns-clause-reacts_to_drop : goal.returns-clause-reacts_to_drop
returns-clause-reacts_to_drop g c =
    let there = both_there c.args.tree.now c.args.path.now c.args.script.now c.args.limit c.args.watched.now (sym c.refusal_to_watch.ensures ∙ c.in_default.is) in
    follows_drop g.H.Host.step c.args.tree.now c.args.host c.args.path.now c.args.script.now c.args.limit c.args.watched.now c.watch.new.tree c.watch.result.0 (λ r e. ReactsToDrop g.H.Host.step (watching c.args.tree.now c.args.host c.args.path.now c.args.script.now c.args.limit c.args.watched.now) r c.watch.new.tree c.watch.result.0 e) c.watch.result.1 (deletions g.H.Host.step c.args.tree.now c.args.host c.args.path.now c.args.script.now c.args.limit c.args.watched.now c.watch.new.tree c.watch.result.0 c.watch.result.1 there.1 c.watch.ensures.watches)
    (λ r e w. recorded.reacts_to_drop g.H.Host.step c.args.tree.now c.args.host c.args.path.now c.args.script.now c.args.limit c.args.watched.now r c.watch.new.tree c.watch.result.0 e w)

pub returns-clause-reacts : goal.returns-clause-reacts
returns-clause-reacts g c =
    let there = both_there c.args.tree.now c.args.path.now c.args.script.now c.args.limit c.args.watched.now (sym c.refusal_to_watch.ensures ∙ c.in_default.is) in
    follows g.H.Host.step c.args.tree.now c.args.host c.args.path.now c.args.script.now c.args.limit c.args.watched.now c.watch.new.tree c.watch.result.0 (λ r e. Reacts c.args.tree.now c.args.watched.now r.crossings c.watch.new.tree) c.watch.result.1 (records g.H.Host.step c.args.tree.now c.args.host c.args.path.now c.args.script.now c.args.limit c.args.watched.now c.watch.new.tree c.watch.result.0 c.watch.result.1 there.1 c.watch.ensures.watches)
    (λ r e w. recorded.reacts g.H.Host.step c.args.tree.now c.args.host c.args.path.now c.args.script.now c.args.limit c.args.watched.now r c.watch.new.tree c.watch.result.0 e w)

pub returns-clause-reacts_so : goal.returns-clause-reacts_so
returns-clause-reacts_so g c =
    let there = both_there c.args.tree.now c.args.path.now c.args.script.now c.args.limit c.args.watched.now (sym c.refusal_to_watch.ensures ∙ c.in_default.is) in
    follows g.H.Host.step c.args.tree.now c.args.host c.args.path.now c.args.script.now c.args.limit c.args.watched.now c.watch.new.tree c.watch.result.0 (λ r e. ReactsSo c.args.tree.now c.args.watched.now r.crossings c.watch.new.tree) c.watch.result.1 (records g.H.Host.step c.args.tree.now c.args.host c.args.path.now c.args.script.now c.args.limit c.args.watched.now c.watch.new.tree c.watch.result.0 c.watch.result.1 there.1 c.watch.ensures.watches)
    (λ r e w. recorded.reacts_so g.H.Host.step c.args.tree.now c.args.host c.args.path.now c.args.script.now c.args.limit c.args.watched.now r c.watch.new.tree c.watch.result.0 e w)

pub returns-clause-reacts_until : goal.returns-clause-reacts_until
returns-clause-reacts_until g c =
    let there = both_there c.args.tree.now c.args.path.now c.args.script.now c.args.limit c.args.watched.now (sym c.refusal_to_watch.ensures ∙ c.in_default.is) in
    follows g.H.Host.step c.args.tree.now c.args.host c.args.path.now c.args.script.now c.args.limit c.args.watched.now c.watch.new.tree c.watch.result.0 (λ r e. ReactsUntil c.args.tree.now c.args.watched.now r.crossings c.watch.new.tree) c.watch.result.1 (records g.H.Host.step c.args.tree.now c.args.host c.args.path.now c.args.script.now c.args.limit c.args.watched.now c.watch.new.tree c.watch.result.0 c.watch.result.1 there.1 c.watch.ensures.watches)
    (λ r e w. recorded.reacts_until g.H.Host.step c.args.tree.now c.args.host c.args.path.now c.args.script.now c.args.limit c.args.watched.now r c.watch.new.tree c.watch.result.0 e w)

pub returns-clause-leaves_the_outside : goal.returns-clause-leaves_the_outside
returns-clause-leaves_the_outside g c =
    let there = both_there c.args.tree.now c.args.path.now c.args.script.now c.args.limit c.args.watched.now (sym c.refusal_to_watch.ensures ∙ c.in_default.is) in
    follows g.H.Host.step c.args.tree.now c.args.host c.args.path.now c.args.script.now c.args.limit c.args.watched.now c.watch.new.tree c.watch.result.0 (λ r e. LeavesTheOutside c.args.tree.now c.args.host c.args.path.now c.args.watched.now r.crossings c.watch.new.tree c.watch.result.0) c.watch.result.1 (records g.H.Host.step c.args.tree.now c.args.host c.args.path.now c.args.script.now c.args.limit c.args.watched.now c.watch.new.tree c.watch.result.0 c.watch.result.1 there.1 c.watch.ensures.watches)
    (λ r e w. recorded.leaves g.H.Host.step c.args.tree.now c.args.host c.args.path.now c.args.script.now c.args.limit c.args.watched.now r c.watch.new.tree c.watch.result.0 e w)

pub returns-clause-asks_nothing : goal.returns-clause-asks_nothing
returns-clause-asks_nothing g c =
    let there = both_there c.args.tree.now c.args.path.now c.args.script.now c.args.limit c.args.watched.now (sym c.refusal_to_watch.ensures ∙ c.in_default.is) in
    follows g.H.Host.step c.args.tree.now c.args.host c.args.path.now c.args.script.now c.args.limit c.args.watched.now c.watch.new.tree c.watch.result.0 (λ r e. AsksTheHostNothing c.args.tree.now c.args.watched.now r.crossings) c.watch.result.1 (records g.H.Host.step c.args.tree.now c.args.host c.args.path.now c.args.script.now c.args.limit c.args.watched.now c.watch.new.tree c.watch.result.0 c.watch.result.1 there.1 c.watch.ensures.watches)
    (λ r e w. recorded.asks_nothing g.H.Host.step c.args.tree.now c.args.host c.args.path.now c.args.script.now c.args.limit c.args.watched.now r c.watch.new.tree c.watch.result.0 e c.asks_the_host_nothing.ensures w)

pub returns-clause-counts : goal.returns-clause-counts
returns-clause-counts g c =
    let there = both_there c.args.tree.now c.args.path.now c.args.script.now c.args.limit c.args.watched.now (sym c.refusal_to_watch.ensures ∙ c.in_default.is) in
    follows g.H.Host.step c.args.tree.now c.args.host c.args.path.now c.args.script.now c.args.limit c.args.watched.now c.watch.new.tree c.watch.result.0 (λ r e. Counts g.H.Host.step (watching c.args.tree.now c.args.host c.args.path.now c.args.script.now c.args.limit c.args.watched.now) r c.watch.new.tree c.watch.result.0 e) c.watch.result.1 (records g.H.Host.step c.args.tree.now c.args.host c.args.path.now c.args.script.now c.args.limit c.args.watched.now c.watch.new.tree c.watch.result.0 c.watch.result.1 there.1 c.watch.ensures.watches)
    (λ r e w. recorded.counts g.H.Host.step c.args.tree.now c.args.host c.args.path.now c.args.script.now c.args.limit c.args.watched.now r c.watch.new.tree c.watch.result.0 e w)

pub returns-clause-count_stays_within : goal.returns-clause-count_stays_within
returns-clause-count_stays_within g c =
    let there = both_there c.args.tree.now c.args.path.now c.args.script.now c.args.limit c.args.watched.now (sym c.refusal_to_watch.ensures ∙ c.in_default.is) in
    follows g.H.Host.step c.args.tree.now c.args.host c.args.path.now c.args.script.now c.args.limit c.args.watched.now c.watch.new.tree c.watch.result.0 (λ r e. CountStaysWithin c.args.tree.now c.args.watched.now r.crossings c.watch.new.tree) c.watch.result.1 (records g.H.Host.step c.args.tree.now c.args.host c.args.path.now c.args.script.now c.args.limit c.args.watched.now c.watch.new.tree c.watch.result.0 c.watch.result.1 there.1 c.watch.ensures.watches)
    (λ r e w. recorded.stays_within g.H.Host.step c.args.tree.now c.args.host c.args.path.now c.args.script.now c.args.limit c.args.watched.now r c.watch.new.tree c.watch.result.0 e c.scripts_stay_within.ensures w)

pub returns-clause-limits_stay : goal.returns-clause-limits_stay
returns-clause-limits_stay g c =
    let there = both_there c.args.tree.now c.args.path.now c.args.script.now c.args.limit c.args.watched.now (sym c.refusal_to_watch.ensures ∙ c.in_default.is) in
    follows g.H.Host.step c.args.tree.now c.args.host c.args.path.now c.args.script.now c.args.limit c.args.watched.now c.watch.new.tree c.watch.result.0 (λ r e. LimitsStay g.H.Host.step (watching c.args.tree.now c.args.host c.args.path.now c.args.script.now c.args.limit c.args.watched.now) r c.watch.new.tree c.watch.result.0 e) c.watch.result.1 (records g.H.Host.step c.args.tree.now c.args.host c.args.path.now c.args.script.now c.args.limit c.args.watched.now c.watch.new.tree c.watch.result.0 c.watch.result.1 there.1 c.watch.ensures.watches)
    (λ r e w. recorded.limits_stay g.H.Host.step c.args.tree.now c.args.host c.args.path.now c.args.script.now c.args.limit c.args.watched.now r c.watch.new.tree c.watch.result.0 e c.limits_stay.ensures w)

pub returns-in-Some-clause-counted : goal.returns-in-Some-clause-counted
returns-in-Some-clause-counted g c = counts_stay c.args.tree.now c.args.tree.now c.args.path.now c.args.limit refl
