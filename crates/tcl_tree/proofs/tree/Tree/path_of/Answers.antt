use Rattle.std.proofs.Common.{◌∙◌}
use Rattle.tcl_tree.proofs.LengthLemmas.{whole_path, whole_stood}
use Rattle.tcl_tree.proofs.tree.Tree.path_of.Goals as goal

pub returns-clause-named : goal.returns-clause-named
returns-clause-named c = λ p at. c.in_ok-path.ensures.named p at ∙ whole_path c.args.self.now p _ at

pub returns-clause-stood : goal.returns-clause-stood
returns-clause-stood c = λ p at. c.in_ok-path.ensures.stood p at ∙ whole_stood c.args.self.now p _ at
