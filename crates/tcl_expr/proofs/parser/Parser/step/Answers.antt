use Rattle.std.proofs.Common.{sym, subst}
use Rattle.tcl_expr.specs.Reading.{step}
use Rattle.tcl_expr.specs.Parsing.{Stands, Comes}
use Rattle.tcl_expr.proofs.Parsteps.{at_wanting, at_naming, at_having, step_wanting, step_naming, step_having}
use Rattle.tcl_expr.proofs.parser.Parser.step.Goals as goal

pub returns-in-Wanting : goal.returns-in-Wanting
returns-in-Wanting c = λ q st.
    let w = at_wanting _ _ _ q (subst (λ m. Stands c.args.self.now.nodes.items c.args.self.now.pending.items c.args.self.now.depth m q) c.in-Wanting.is st) in
    subst (λ y. Comes c.want.new.self.nodes.items c.want.new.self.pending.items c.want.new.self.depth c.want.result (step 200 y c.args.token)) (sym w.1) (subst (Comes c.want.new.self.nodes.items c.want.new.self.pending.items c.want.new.self.depth c.want.result) (sym (step_wanting w.0 c.args.token)) (c.want.ensures w.0 w.2))

pub returns-in-Naming : goal.returns-in-Naming
returns-in-Naming c = λ q st.
    let w = at_naming _ _ _ q (subst (λ m. Stands c.args.self.now.nodes.items c.args.self.now.pending.items c.args.self.now.depth m q) c.in-Naming.is st) in
    subst (λ y. Comes c.named.new.self.nodes.items c.named.new.self.pending.items c.named.new.self.depth c.named.result (step 200 y c.args.token)) (sym w.2) (subst (Comes c.named.new.self.nodes.items c.named.new.self.pending.items c.named.new.self.depth c.named.result) (sym (step_naming w.0 w.1 c.args.token)) (c.named.ensures w.0 w.1 w.3))

pub returns-in-Having : goal.returns-in-Having
returns-in-Having c = λ q st.
    let w = at_having _ _ _ q (subst (λ m. Stands c.args.self.now.nodes.items c.args.self.now.pending.items c.args.self.now.depth m q) c.in-Having.is st) in
    subst (λ y. Comes c.have.new.self.nodes.items c.have.new.self.pending.items c.have.new.self.depth c.have.result (step 200 y c.args.token)) (sym w.2) (subst (Comes c.have.new.self.nodes.items c.have.new.self.pending.items c.have.new.self.depth c.have.result) (sym (step_having w.0 w.1 c.args.token)) (c.have.ensures w.0 w.1 w.3))
