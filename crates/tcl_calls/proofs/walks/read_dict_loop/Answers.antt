use Rattle.std.proofs.Common.{◌<◌, ◌≤◌, ◌⊎◌, inl, inr, List, [], ◌∷◌, length, map, sym, ap, ◌∙◌, subst, arith}
use Rattle.std.proofs.lemmas.Result.{err_from_is_err_and}
use Rattle.tcl_language.specs.Instructions.{Program}
use Rattle.tcl_run.proofs.Endings.{Interrupts-more, at_err}
use Rattle.tcl_text.proofs.Items.{three_items}
use Rattle.tcl_calls.specs.Walks.{whole, MisreadsDictLoop, MisreadsEntry}
use Rattle.tcl_calls.specs.Words.{EndsBy}
use Rattle.tcl_calls.specs.declared.walks.Walk as read
use Rattle.tcl_calls.proofs.Walking.{dict_loop_none, dict_loop_on}
use Rattle.tcl_calls.proofs.walks.read_dict_loop.Goals.{in_default-via-then-args-lt3, in_default-via-else-args-lt3+else-args-lt4}
use Rattle.tcl_calls.proofs.walks.read_dict_loop.Goals as goal

pub returns-in_err-walk-in-len3-clause-refused : goal.returns-in_err-walk-in-len3-clause-refused
returns-in_err-walk-in-len3-clause-refused c =
    let p = err_from_is_err_and c.from_residual.result c.from_residual.ensures.1 in
    let is = three_items c.args.args.now c.names-item.result c.dict-item.result c.body-item.result c.in-len3.len_at_least c.in-len3.len_below c.names-item.is c.dict-item.is c.body-item.is in
    at_err c.from_residual.result c.in_err-walk-in-len3.field-0.0 p.0 (MisreadsEntry c.names-item.result c.dict-item.result) (MisreadsDictLoop c.args.args.now) p.1 p.2 c.in_err-walk-in-len3.ensures.refused
    (λ e h k. subst (λ (x : Program). EndsBy x e) (sym (dict_loop_on c.args.args.now c.names-item.result c.dict-item.result c.body-item.result k is)) (h (λ walk. k (walk ∷ []) c.body-item.result)))

pub returns-in_ok-alone-in-len3-clause-read : goal.returns-in_ok-alone-in-len3-clause-read
returns-in_ok-alone-in-len3-clause-read c = λ k.
    let is = three_items c.args.args.now c.names-item.result c.dict-item.result c.body-item.result c.in-len3.len_at_least c.in-len3.len_below c.names-item.is c.dict-item.is c.body-item.is in
    dict_loop_on c.args.args.now c.names-item.result c.dict-item.result c.body-item.result k is
    ∙ c.in_ok-walk-in-len3.ensures.read (λ walk. k (walk ∷ []) c.body-item.result)
    ∙ ap (λ (ws : List read.Walk). k (map whole ws) c.body-item.result) (sym c.in_ok-alone-in-len3.ensures)

pub returns-in_default-clause-refused : goal.returns-in_default-clause-refused
returns-in_default-clause-refused c =
    let other : (length c.args.args.now < 3) ⊎ (4 ≤ length c.args.args.now) = elim c.in_default.branch [
      | in_default-via-then-args-lt3 w ↦ inl (grind arith)
      | in_default-via-else-args-lt3+else-args-lt4 w ↦ inr (grind arith)
    ] in
    Interrupts-more c.wrong_args.result _ _ (λ e h k. subst (λ (x : Program). EndsBy x e) (sym (dict_loop_none c.args.args.now k other)) h) c.wrong_args.ensures
