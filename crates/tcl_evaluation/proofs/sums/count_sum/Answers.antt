use Rattle.std.proofs.Common.{◌≡◌, Some, sym, subst, ◌∙◌}
use Rattle.tcl_core.specs.Endings.{Reply}
use Rattle.tcl_run.specs.Ends.{Stays, too_deep_at}
use Rattle.tcl_run.specs.Runs.{ways}
use Rattle.tcl_run.proofs.Endings.{breaks}
use Rattle.tcl_run.proofs.Keeping.{level_keeps}
use Rattle.tcl_run.proofs.Proceeding.{stopped}
use Rattle.tcl_run.proofs.Steady.{level_here, level_steady, nested_here, nested_holds, nested_innermost, nested_steady, same_level}
use Rattle.tcl_tree.specs.TreeOf.{tree_of}
use Rattle.tcl_evaluation.proofs.Own.{charged_own, nested_own, then_own, unnested_own}
use Rattle.tcl_evaluation.proofs.Steps.{read_refused}
use Rattle.tcl_evaluation.proofs.Summing.{counts_so, deep_stays, ok_more, refused_stays, says_breaks, uncounted_so}
use Rattle.tcl_evaluation.proofs.sums.count_sum.Goals as goal

pub unnest-requires : goal.unnest-requires
unnest-requires g c = record {
  holds = (c.requires.0, 1, nested_holds c.args.tree.now c.nest_at.new.self c.charge-counted.new.tree c.args.place c.requires.0 c.requires.1 c.in_default.ensures.keys c.in_default.ensures.deeper (c.in_default.ensures.nested c.requires.0 c.requires.1).1 (level_steady c.nest_at.new.self c.charge-counted.new.tree c.charge-counted.ensures.level));
  innermost = nested_innermost c.args.tree.now c.nest_at.new.self c.charge-counted.new.tree c.args.place c.requires.0 c.requires.1 c.in_default.ensures.keys c.in_default.ensures.deeper (c.in_default.ensures.nested c.requires.0 c.requires.1).1 (level_steady c.nest_at.new.self c.charge-counted.new.tree c.charge-counted.ensures.level);
}

pub returns-in-Err-clause-breaks : goal.returns-in-Err-clause-breaks
returns-in-Err-clause-breaks g c = breaks c.too_deep.result (λ e. e ≡ too_deep_at c.in-Err.levels) _
    (λ e h. (subst (λ (x : Reply). Stays (Some x)) (sym h) (deep_stays c.in-Err.levels), λ q style n at there read text sum. let no = c.in-Err.ensures.refused q at.names in read_refused style read c.in-Err.levels no.0 no.1 h))
    (tt, λ q style n at there read text sum. stopped) c.too_deep.ensures

pub returns-in-Err-clause-here : goal.returns-in-Err-clause-here
returns-in-Err-clause-here g c = level_here c.args.tree.now c.nest_at.new.self c.args.place (same_level c.args.tree.now c.nest_at.new.self c.in-Err.ensures.marks c.in-Err.ensures.keys c.in-Err.ensures.held (c.in-Err.ensures.refused c.requires.0 c.requires.1).1)

pub returns-in-Err-clause-keeps : goal.returns-in-Err-clause-keeps
returns-in-Err-clause-keeps g c = level_keeps _ (same_level c.args.tree.now c.nest_at.new.self c.in-Err.ensures.marks c.in-Err.ensures.keys c.in-Err.ensures.held (c.in-Err.ensures.refused c.requires.0 c.requires.1).1)

pub returns-clause-sums : goal.returns-clause-sums
returns-clause-sums g c = ok_more c.charge-counted.result c.charge-counted.ensures.counted (λ counts q style n at there read text sum.
    let nested = c.in_default.ensures.nested q at.names in
    counts_so style read text sum there nested.0 nested.1 (counts q (c.in_default.ensures.keys q ∙ at.names))
    (c.unnest.ensures.unnested q 1 (nested_holds c.args.tree.now c.nest_at.new.self c.charge-counted.new.tree c.args.place q at.names c.in_default.ensures.keys c.in_default.ensures.deeper nested.1 (level_steady c.nest_at.new.self c.charge-counted.new.tree c.charge-counted.ensures.level))))

pub returns-clause-breaks : goal.returns-clause-breaks
returns-clause-breaks g c = says_breaks c.charge-counted.result _ _ c.charge-counted.ensures.refused (λ e h. (
  refused_stays (ways g.O.Outside.goes g.O.Outside.loses) (tree_of c.nest_at.new.self) (tree_of c.charge-counted.new.tree) c.args.outside.now c.charge-counted.new.outside c.requires.0 e (h c.requires.0 (c.in_default.ensures.keys c.requires.0 ∙ c.requires.1)),
  λ q style n at there read text sum.
      let nested = c.in_default.ensures.nested q at.names in
      uncounted_so style read text sum there nested.0 nested.1 (h q (c.in_default.ensures.keys q ∙ at.names))
      (c.unnest.ensures.unnested q 1 (nested_holds c.args.tree.now c.nest_at.new.self c.charge-counted.new.tree c.args.place q at.names c.in_default.ensures.keys c.in_default.ensures.deeper nested.1 (level_steady c.nest_at.new.self c.charge-counted.new.tree c.charge-counted.ensures.level))),
))

pub returns-clause-own : goal.returns-clause-own
returns-clause-own g c = ok_more c.charge-counted.result c.charge-counted.ensures.counted (λ counts q n names there.
    let nested = c.in_default.ensures.nested q names in
    let a = nested_own (tree_of c.args.tree.now) (tree_of c.nest_at.new.self) q q n nested.1 there in
    let b = charged_own (tree_of c.nest_at.new.self) (tree_of c.charge-counted.new.tree) q q a.0 (counts q (c.in_default.ensures.keys q ∙ names)).counted a.1 in
    let d = then_own n (tree_of c.nest_at.new.self q) (tree_of c.charge-counted.new.tree q) a b in
    let f = unnested_own (tree_of c.charge-counted.new.tree) (tree_of c.unnest.new.self) q q d.0
    (c.unnest.ensures.unnested q 1 (nested_holds c.args.tree.now c.nest_at.new.self c.charge-counted.new.tree c.args.place q names c.in_default.ensures.keys c.in_default.ensures.deeper nested.1 (level_steady c.nest_at.new.self c.charge-counted.new.tree c.charge-counted.ensures.level))) d.1 in
    then_own n (tree_of c.charge-counted.new.tree q) (tree_of c.unnest.new.self q) d f)

pub returns-clause-here : goal.returns-clause-here
returns-clause-here g c =
    nested_here c.args.tree.now c.nest_at.new.self c.charge-counted.new.tree c.args.place c.requires.0 c.requires.1 c.in_default.ensures.keys c.in_default.ensures.deeper (c.in_default.ensures.nested c.requires.0 c.requires.1).1 (level_steady c.nest_at.new.self c.charge-counted.new.tree c.charge-counted.ensures.level)
    c.unnest.new.self c.unnest.ensures.keys c.unnest.ensures.shallower (c.unnest.ensures.unnested c.requires.0 1 (nested_holds c.args.tree.now c.nest_at.new.self c.charge-counted.new.tree c.args.place c.requires.0 c.requires.1 c.in_default.ensures.keys c.in_default.ensures.deeper (c.in_default.ensures.nested c.requires.0 c.requires.1).1 (level_steady c.nest_at.new.self c.charge-counted.new.tree c.charge-counted.ensures.level))) c.in_default.ensures.marks c.unnest.ensures.marks
    (level_here c.nest_at.new.self c.charge-counted.new.tree c.args.place c.charge-counted.ensures.level)

pub returns-clause-keeps : goal.returns-clause-keeps
returns-clause-keeps g c = record {
  steady = nested_steady c.args.tree.now c.nest_at.new.self c.charge-counted.new.tree c.args.place c.requires.0 c.requires.1 c.in_default.ensures.keys c.in_default.ensures.deeper (c.in_default.ensures.nested c.requires.0 c.requires.1).1 (level_steady c.nest_at.new.self c.charge-counted.new.tree c.charge-counted.ensures.level)
      c.unnest.new.self c.unnest.ensures.keys c.unnest.ensures.shallower (c.unnest.ensures.unnested c.requires.0 1 (nested_holds c.args.tree.now c.nest_at.new.self c.charge-counted.new.tree c.args.place c.requires.0 c.requires.1 c.in_default.ensures.keys c.in_default.ensures.deeper (c.in_default.ensures.nested c.requires.0 c.requires.1).1 (level_steady c.nest_at.new.self c.charge-counted.new.tree c.charge-counted.ensures.level))) c.in_default.ensures.marks c.unnest.ensures.marks;
  left = c.charge-counted.ensures.left;
}
