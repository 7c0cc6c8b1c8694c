use Rattle.std.proofs.Common.{◌∷◌, ◌++◌, [], ◌-◌, length, subst}
use Rattle.tcl_expression_evaluation.specs.Steps.{from, Nears, Advances}
use Rattle.tcl_expression_evaluation.proofs.evaluation.Evaluation.advance.Goals as goal

pub returns-clause-computes : goal.returns-clause-computes
returns-clause-computes c = subst (λ code. Advances c.run.result (from c.args.style code c.args.self.now.next c.args.self.now.values.items) (λ v. from c.args.style code c.run.new.self.next (c.run.new.self.values.items ++ v ∷ []))) c.as_slice.ensures.value c.run.ensures.computes

pub returns-clause-nearer : goal.returns-clause-nearer
returns-clause-nearer c = subst (λ code. Nears c.run.result (length code - c.args.self.now.next) (length code - c.run.new.self.next)) c.as_slice.ensures.value c.run.ensures.nearer
