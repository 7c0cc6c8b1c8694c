use Rattle.std.proofs.Common.{List, IfSome, sym, subst, ◌∙◌}
use Rattle.tcl_expr.specs.declared.tree.Node.{Node}
use Rattle.tcl_evaluation.specs.Behind.{IsNumberBehindIn}
use Rattle.tcl_evaluation.proofs.behind.number_behind.Goals as goal

pub returns : goal.returns
returns c =
    subst (λ (steps : List Node). IfSome c.number_of_bracket.result (λ n. IsNumberBehindIn c.args.tree.now c.args.place steps n)) (sym (sym c.as_slice.ensures.value ∙ c.in_ok-bracket.ensures))
    c.number_of_bracket.ensures
