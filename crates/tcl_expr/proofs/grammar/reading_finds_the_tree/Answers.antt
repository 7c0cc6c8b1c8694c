use Rattle.std.proofs.Common.{◌≡◌, ◌∙◌, sym, Ok}
use Rattle.tcl_expr.proofs.Completeness.{read}
use Rattle.tcl_expr.proofs.Soundness.{expression}
use Rattle.tcl_expr.proofs.grammar.reading_finds_the_tree.Goals as goal

pub returns-clause-tree : goal.returns-clause-tree
returns-clause-tree c = λ room a s. (expression room a s, read room a s)

pub returns-clause-one : goal.returns-clause-one
returns-clause-one c = λ room a b s d e. let same : Ok a ≡ Ok b = sym (read room a s d) ∙ read room b s e in cc
