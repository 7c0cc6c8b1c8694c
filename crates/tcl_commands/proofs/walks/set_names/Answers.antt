use Rattle.std.proofs.Common.{◌≡◌, ◌+◌, ℕ, List, Some, length, length-drop, drop, refl, sym, ap, subst, ◌∙◌, arith}
use Rattle.std.proofs.lemmas.Result.{err_from_is_err_and}
use Rattle.tcl_core.specs.Paths.{Path}
use Rattle.tcl_core.specs.Trees.{Node}
use Rattle.tcl_frames.specs.Chain.{after_set}
use Rattle.tcl_language.specs.Control.{sets_names}
use Rattle.tcl_language.specs.Faults.{frame_message}
use Rattle.tcl_language.specs.Instructions.{Program}
use Rattle.tcl_run.specs.Ends.{IsFailure}
use Rattle.tcl_run.proofs.Endings.{at_err}
use Rattle.tcl_tree.specs.Own.{Own}
use Rattle.tcl_tree.specs.TreeOf.{tree_of, Names}
use Rattle.tcl_text.proofs.Items.{item_on, none_on}
use Rattle.tcl_commands.specs.Reaching.{GetsToEnd, Reaches}
use Rattle.tcl_commands.specs.Reaching.Reaches.{here}
use Rattle.tcl_commands.proofs.Reached.{reaches-trans, reaches_end}
use Rattle.tcl_commands.proofs.Turns.{first_at, name_refused, name_set}
use Rattle.tcl_run.proofs.Steady.{level-refl, level-trans}
use Rattle.tcl_commands.proofs.walks.set_names.Goals as goal

pub names-init : goal.names-init
names-init c = record { way = λ k p at. here; fewer = omega arith; level = level-refl c.args.tree.now }

pub names-preserved : goal.names-preserved
names-preserved c = record {
  way = λ k p at. reaches-trans (c.names.invariant.way k p at)
      (name_set (drop c.names.name-index c.args.names.now) (drop c.names.at c.args.elements.now) c.name-item.result (drop (c.names.name-index + 1) c.args.names.now) c.in_ok-value.value (drop c.place_after-at.result c.args.elements.now)
      (item_on c.args.names.now c.names.name-index c.name-item.result (omega arith) c.name-item.is) (c.in_ok-value.ensures ∙ sym (first_at c.names.at c.args.elements.now)) c.place_after-at.ensures
      c.names.tree c.write_by_word.new.tree c.args.place p k (c.names.invariant.level.keys p ∙ at) c.in_ok-write_by_word.ensures.written);
  fewer = omega (arith, ap length c.place_after-at.ensures, length-drop 1 (drop c.names.at c.args.elements.now), c.names.invariant.fewer);
  level = level-trans c.args.tree.now c.names.tree c.write_by_word.new.tree c.names.invariant.level c.in_ok-write_by_word.ensures.level;
}

pub returns-clause-set : goal.returns-clause-set
returns-clause-set c = λ k p at.
    subst (λ (xs : List (List ℕ)). Reaches p (sets_names c.args.names.now (drop c.args.from c.args.elements.now) k) (tree_of c.args.tree.now) (sets_names xs (drop c.names.at c.args.elements.now) k) (tree_of c.names.tree))
    (none_on c.args.names.now c.names.name-index (omega arith)) (c.names.invariant.way k p at)

pub returns-in_err-write_by_word-clause-refused : goal.returns-in_err-write_by_word-clause-refused
returns-in_err-write_by_word-clause-refused c =
    let p = err_from_is_err_and c.from_residual-in_err-write_by_word.result c.from_residual-in_err-write_by_word.ensures.1 in
    at_err c.from_residual-in_err-write_by_word.result c.in_err-write_by_word.field-0.0 p.0
    (λ e. (q : Path) (n : Node Own) → Names c.names.tree c.args.place q → tree_of c.names.tree q ≡ Some n → IsFailure frame_message (after_set n.own.chain c.name-item.result c.in_ok-value.value) e)
    (λ e. (k : List (List ℕ) → Program) → GetsToEnd c.args.tree.now c.args.place (sets_names c.args.names.now (drop c.args.from c.args.elements.now) k) c.write_by_word.new.tree e)
    p.1 p.2 c.in_err-write_by_word.ensures.refused
    (λ e h k q at. reaches_end (c.names.invariant.way k q at)
    (name_refused (drop c.names.name-index c.args.names.now) (drop c.names.at c.args.elements.now) c.name-item.result (drop (c.names.name-index + 1) c.args.names.now) c.in_ok-value.value (drop 1 (drop c.names.at c.args.elements.now))
    (item_on c.args.names.now c.names.name-index c.name-item.result (omega arith) c.name-item.is) (c.in_ok-value.ensures ∙ sym (first_at c.names.at c.args.elements.now)) refl
    c.names.tree c.write_by_word.new.tree c.args.place q k e (c.names.invariant.level.keys q ∙ at) c.in_err-write_by_word.ensures.unchanged h))
