use Rattle.std.proofs.Common.{◌-◌, List, [], ◌∷◌, ◌++◌, map, take, drop, length, sym, ap, ◌∙◌, subst, arith}
use Rattle.std.proofs.lemmas.List.{map-append}
use Rattle.std.proofs.lemmas.Result.{err_from_is_err_and}
use Rattle.tcl_core.specs.Paths.{Text}
use Rattle.tcl_language.specs.Control.{walks_of}
use Rattle.tcl_language.specs.Instructions.{Program, Walk}
use Rattle.tcl_language.specs.Variables.{is_odd}
use Rattle.tcl_run.proofs.Endings.{at_err}
use Rattle.tcl_calls.specs.Walks.{whole, MisreadsWalk, MisreadsWalks}
use Rattle.tcl_calls.specs.Words.{EndsBy}
use Rattle.tcl_calls.proofs.Walking.{none_left, two_left, walk_read, walk_misread}
use Rattle.tcl_calls.proofs.walks.read_walks.Goals as goal

pub returns-in_err-read_walk-clause-refused : goal.returns-in_err-read_walk-clause-refused
returns-in_err-read_walk-clause-refused c =
    let p = err_from_is_err_and c.from_residual.result c.from_residual.ensures.1 in
    let two = two_left c.words.left.now c.names-item.result c.elements-item.result c.in-len2-up.len_at_least c.names-item.is c.elements-item.is in
    at_err c.from_residual.result c.in_err-read_walk.field-0.0 p.0 (MisreadsWalk c.args.form.now c.names-item.result c.elements-item.result) (MisreadsWalks c.args.form.now c.args.words.now) p.1 p.2 c.in_err-read_walk.ensures.refused
    (λ e h body k. subst (λ (x : Program). EndsBy x e)
    (sym (c.words.invariant.same c.args.form.now body k ∙ ap (λ (ws : List Text). walks_of c.args.form.now (ws ++ body ∷ []) (map whole c.words.walks.items) k) two))
    (walk_misread c.args.form.now c.names-item.result c.elements-item.result _ (map whole c.words.walks.items) k e h))

pub words-preserved : goal.words-preserved
words-preserved c =
    let two = two_left c.words.left.now c.names-item.result c.elements-item.result c.in-len2-up.len_at_least c.names-item.is c.elements-item.is in
    let made = ap (map whole) c.in_ok-push.ensures.items ∙ map-append whole c.words.walks.items _ in
    record {
      even = sym (ap is_odd two) ∙ c.words.invariant.even;
      same = λ form body k. c.words.invariant.same form body k ∙ ap (λ (ws : List Text). walks_of form (ws ++ body ∷ []) (map whole c.words.walks.items) k) two
          ∙ walk_read form c.names-item.result c.elements-item.result _ (map whole c.words.walks.items) k c.in_ok-read_walk.field-0 c.in_ok-read_walk.ensures.read
          ∙ ap (λ (ws : List Walk). walks_of form (take (length c.words.left.now - 2) (drop 2 c.words.left.now) ++ body ∷ []) ws k) (sym made);
    }

pub returns-clause-read : goal.returns-clause-read
returns-clause-read c = λ form body k.
    c.words.invariant.same form body k ∙ ap (λ (ws : List Text). walks_of form (ws ++ body ∷ []) (map whole c.words.walks.items) k) (none_left c.words.left.now (omega arith) c.words.invariant.even)
