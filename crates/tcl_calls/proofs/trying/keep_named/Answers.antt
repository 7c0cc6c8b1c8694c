use Rattle.std.proofs.Common.{◌≡◌, ap, sym, ◌∙◌, subst}
use Rattle.std.specs.Prelude.{Ok}
use Rattle.std.proofs.lemmas.Result.{err_from_is_err_and}
use Rattle.tcl_core.specs.Paths.{Text}
use Rattle.tcl_flow.specs.View.{completion_of}
use Rattle.tcl_language.specs.Instructions.{or_fails}
use Rattle.tcl_language.specs.Trying.{keeps}
use Rattle.tcl_run.specs.Ends.{IsFailure}
use Rattle.tcl_run.proofs.Endings.{ended_err}
use Rattle.tcl_run.proofs.Plain.{steps_as}
use Rattle.tcl_text.specs.Lists.{list_of}
use Rattle.tcl_text.specs.Writing.{fault_message}
use Rattle.tcl_tree.specs.TreeOf.{tree_of}
use Rattle.tcl_calls.specs.Catching.{kept_in}
use Rattle.tcl_calls.proofs.Choosing.{filled}
use Rattle.tcl_calls.proofs.Handling.{named_fails, named_on}
use Rattle.tcl_calls.proofs.trying.keep_named.Goals as goal

pub returns-in_err-list-clause-kept : goal.returns-in_err-list-clause-kept
returns-in_err-list-clause-kept c =
    let p = err_from_is_err_and c.from_residual-in_err-list.result c.from_residual-in_err-list.ensures.1 in
    ended_err c.from_residual-in_err-list.result c.in_err-list.field-0.0 p.0 _ (IsFailure fault_message (list_of c.in_ok-own.own)) _ p.1 p.2 c.in_err-list.ensures.read
    (λ e h q at k. named_fails c.args.names.now (completion_of c.args.completion.now) e (subst (λ (x : Text). IsFailure fault_message (list_of x) e) c.in_ok-own.ensures.cases h) (tree_of c.args.tree.now) q k)

pub returns-clause-kept : goal.returns-clause-kept
returns-clause-kept c =
    let read : list_of c.args.names.now ≡ Ok c.in_ok-list.list = ap list_of (sym c.in_ok-own.ensures.cases) ∙ c.in_ok-list.ensures.read in
    let same = filled c.new-names.result.items c.in_ok-list.list c.add_elements.new.words.items c.as_slice.result.now c.as_slice.ensures.value c.in_ok-add_elements.ensures c.new-names.ensures.items in
    steps_as c.args.tree.now c.keep_caught.new.tree c.args.place (kept_in c.as_slice.result.now (completion_of c.args.completion.now)) (λ k. or_fails fault_message (list_of c.args.names.now) (λ xs. keeps xs (completion_of c.args.completion.now) k)) c.keep_caught.result
    (λ k. named_on c.args.names.now (completion_of c.args.completion.now) c.in_ok-list.list c.as_slice.result.now k read same) c.keep_caught.ensures.kept
