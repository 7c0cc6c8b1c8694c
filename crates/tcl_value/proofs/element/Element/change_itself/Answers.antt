use Rattle.std.proofs.Common.{ap, subst, sym, ℕ, List}
use Rattle.std.specs.Bool.{OnTrue}
use Rattle.tcl_value.specs.Writing.{write}
use Rattle.tcl_value.specs.Texts.{element_text}
use Rattle.tcl_value.specs.Inside.{changed_by, InnerChange}
use Rattle.tcl_value.proofs.element.Element.change_itself.Goals as goal

pub returns-in-List-clause-change : goal.returns-in-List-clause-change
returns-in-List-clause-change c =
    subst (λ (z : List ℕ). OnTrue c.extend_by.result (InnerChange (changed_by c.args.change z) c.args.room z (write c.extend_by.new.items.value))) (sym (ap element_text c.in-List.is)) c.extend_by.ensures.change

pub returns-in-Grown-clause-change : goal.returns-in-Grown-clause-change
returns-in-Grown-clause-change c =
    subst (λ (z : List ℕ). OnTrue c.append_by.result (InnerChange (changed_by c.args.change z) c.args.room z c.append_by.new.grown.value)) (sym (ap element_text c.in-Grown.is)) c.append_by.ensures.change
