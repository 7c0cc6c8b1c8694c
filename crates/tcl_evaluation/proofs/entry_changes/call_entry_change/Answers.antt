use Rattle.std.proofs.Common.{◌∷◌, ◌∙◌, arith}
use Rattle.std.proofs.lemmas.Result.{err_from_is_err_and}
use Rattle.tcl_commands.specs.Entries.{builtin_of, words_of}
use Rattle.tcl_interpreter.specs.declared.command.Command.TheVariants as command
use Rattle.tcl_language.specs.Table.{builtin as builtin_program}
use Rattle.tcl_run.specs.Runs.{IsHere, ways}
use Rattle.tcl_run.proofs.Endings.{IfRan-more, on_completion, says_err}
use Rattle.tcl_run.proofs.Keeping.{charged_keeps, keeps-trans, level_keeps}
use Rattle.tcl_run.proofs.Steady.{here-trans, level_here, still_at}
use Rattle.tcl_tree.specs.TreeOf.{tree_of}
use Rattle.tcl_evaluation.specs.Sums.{CallsBuiltin}
use Rattle.tcl_evaluation.proofs.Found.{call_found}
use Rattle.tcl_evaluation.proofs.Own.{charged_own, named_own}
use Rattle.tcl_evaluation.proofs.HandPlainly.{acts_proceeds}
use Rattle.tcl_evaluation.proofs.Steps.{EndsFrom, charged_calls, charged_stops}
use Rattle.tcl_evaluation.proofs.entry_changes.call_entry_change.Goals as goal

pub returns-in_err-charge-clause-runs : goal.returns-in_err-charge-clause-runs
returns-in_err-charge-clause-runs g c =
    let words = words_of c.args.name.now c.args.change in
    let p = err_from_is_err_and c.from_residual.result c.from_residual.ensures.1 in
    says_err c.from_residual.result c.in_err-charge.field-0.0 p.0 _ _ _ p.1 p.2 c.in_err-charge.ensures.refused
    (λ e h word q style n at there named. charged_stops style (word ∷ words) (omega arith) (h q at.names))

pub returns-in_err-charge-clause-here : goal.returns-in_err-charge-clause-here
returns-in_err-charge-clause-here g c = on_completion c.from_residual.result (IsHere c.args.tree.now c.charge.new.tree c.args.place) (level_here c.args.tree.now c.charge.new.tree c.args.place c.charge.ensures.level)

pub returns-in_err-charge-clause-keeps : goal.returns-in_err-charge-clause-keeps
returns-in_err-charge-clause-keeps g c = charged_keeps c.charge.ensures.level c.charge.ensures.left

pub change_entry-requires : goal.change_entry-requires
change_entry-requires g c = (c.requires.0, c.charge.ensures.level.keys c.requires.0 ∙ c.requires.1)

pub returns-clause-runs : goal.returns-clause-runs
returns-clause-runs g c =
    let words = words_of c.args.name.now c.args.change in
    let builtin = builtin_of c.args.change in
    IfRan-more c.change_entry.result
    (EndsFrom (ways g.O.Outside.goes g.O.Outside.loses) c.charge.new.tree c.charge.new.outside c.args.place (λ style. builtin_program style builtin words) c.change_entry.new.tree c.charge.new.outside)
    (CallsBuiltin (ways g.O.Outside.goes g.O.Outside.loses) c.args.tree.now c.args.outside.now c.args.place builtin words c.change_entry.new.tree c.charge.new.outside)
    (λ e h word q style n at there named.
    let counts = c.in_ok-charge.ensures.counted q at.names in
    let m = charged_own (tree_of c.args.tree.now) (tree_of c.charge.new.tree) q q n counts.counted there in
    charged_calls style (word ∷ words) (omega arith) counts
    (call_found style word words (command.Builtin builtin) m.1 (named_own n m.0 word (command.Builtin builtin) m.2 named)
    (h q style (still_at c.args.tree.now c.charge.new.tree c.args.place q style (level_here c.args.tree.now c.charge.new.tree c.args.place c.charge.ensures.level) at))))
    (acts_proceeds (ways g.O.Outside.goes g.O.Outside.loses) c.charge.new.tree c.change_entry.new.tree c.charge.new.outside c.args.place (λ style. builtin_program style builtin words) c.change_entry.result c.change_entry.ensures.acts)

pub returns-clause-here : goal.returns-clause-here
returns-clause-here g c = on_completion c.change_entry.result (IsHere c.args.tree.now c.change_entry.new.tree c.args.place)
    (here-trans c.args.tree.now c.charge.new.tree c.change_entry.new.tree c.args.place (level_here c.args.tree.now c.charge.new.tree c.args.place c.charge.ensures.level) (level_here c.charge.new.tree c.change_entry.new.tree c.args.place c.change_entry.ensures.level))

pub returns-clause-keeps : goal.returns-clause-keeps
returns-clause-keeps g c = keeps-trans (charged_keeps c.charge.ensures.level c.charge.ensures.left) (level_keeps _ c.change_entry.ensures.level)
