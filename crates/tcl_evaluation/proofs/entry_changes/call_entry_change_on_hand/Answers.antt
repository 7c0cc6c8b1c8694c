use Rattle.std.proofs.Common.{◌∷◌, [], Bool, subst}
use Rattle.std.proofs.lemmas.Result.{err_from_is_err_and}
use Rattle.tcl_commands.specs.Entries.{builtin_of, words_of}
use Rattle.tcl_parser.specs.Reading.{read_script}
use Rattle.tcl_run.specs.Runs.{IsHere, ways}
use Rattle.tcl_run.proofs.Endings.{IfRan-more, on_completion, ran_err}
use Rattle.tcl_run.proofs.Keeping.{keeps-trans}
use Rattle.tcl_run.proofs.Steady.{still_running}
use Rattle.tcl_evaluation.specs.Hands.{AllEnd}
use Rattle.tcl_evaluation.specs.Sums.{CallsBuiltin, CallsBuiltinAtHand}
use Rattle.tcl_evaluation.proofs.Counting.{counted_call}
use Rattle.tcl_evaluation.proofs.HandCalling.{sum_ends}
use Rattle.tcl_evaluation.proofs.HandPlainly.{there_at}
use Rattle.tcl_evaluation.proofs.Staying.{here_then}
use Rattle.tcl_evaluation.proofs.entry_changes.call_entry_change_on_hand.Goals as goal

pub returns-in_err-count_first-clause-runs : goal.returns-in_err-count_first-clause-runs
returns-in_err-count_first-clause-runs g c =
    let words = words_of c.args.name.now c.args.change in
    let p = err_from_is_err_and c.from_residual.result c.from_residual.ensures.1 in
    let broke = c.in_err-count_first.ensures.breaks in
    ran_err c.from_residual.result c.in_err-count_first.field-0.0 p.0 _ _ _ p.1 p.2 broke.1
    (λ e h word q style n at there named ws call.
    let k = subst (λ (b : Bool). AllEnd style n ws b (word ∷ words)) broke.0 call in
    sum_ends style ws [] (word ∷ words) e there k h.0 (λ inner text is. h.1 q style n (there_at c.args.tree.now c.args.place q style at) there (read_script inner) text is))

pub returns-in_err-count_first-clause-here : goal.returns-in_err-count_first-clause-here
returns-in_err-count_first-clause-here g c = on_completion c.from_residual.result (IsHere c.args.tree.now c.count_first.new.tree c.args.place) c.count_first.ensures.here

pub call_entry_change-requires : goal.call_entry_change-requires
call_entry_change-requires g c = still_running c.args.tree.now c.count_first.new.tree c.args.place c.count_first.ensures.here c.requires

pub returns-clause-runs : goal.returns-clause-runs
returns-clause-runs g c =
    let words = words_of c.args.name.now c.args.change in
    let builtin = builtin_of c.args.change in
    let counted = c.in_ok-count_first.ensures in
    IfRan-more c.call_entry_change.result
    (CallsBuiltin (ways g.O.Outside.goes g.O.Outside.loses) c.count_first.new.tree c.count_first.new.outside c.args.place builtin words c.call_entry_change.new.tree c.call_entry_change.new.outside)
    (CallsBuiltinAtHand (ways g.O.Outside.goes g.O.Outside.loses) c.args.tree.now c.args.outside.now c.args.place builtin c.args.sums words c.call_entry_change.new.tree c.call_entry_change.new.outside)
    (λ e h. counted_call c.args.tree.now c.count_first.new.tree c.call_entry_change.new.tree c.args.outside.now c.count_first.new.outside c.call_entry_change.new.outside c.args.place builtin words e c.args.sums counted.sums counted.own counted.plain c.count_first.ensures.here h)
    c.call_entry_change.ensures.runs

pub returns-clause-here : goal.returns-clause-here
returns-clause-here g c = here_then c.call_entry_change.result c.args.tree.now c.count_first.new.tree c.call_entry_change.new.tree c.args.place c.count_first.ensures.here c.call_entry_change.ensures.here

pub returns-clause-keeps : goal.returns-clause-keeps
returns-clause-keeps g c = keeps-trans c.count_first.ensures.keeps c.call_entry_change.ensures.keeps
