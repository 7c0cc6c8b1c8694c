use Rattle.std.proofs.Common.{◌≡◌, ◌∙◌, [], sym, ap, subst, arith, Ok, Err}
use Rattle.std.proofs.lemmas.Bool.Decides.{nat_tests}
use Rattle.std.proofs.Common.{vec_len, ◌==◌, true, false, length}
use Rattle.tcl_expr.specs.declared.fault.ExprFault.TheVariants.{Syntax}
use Rattle.tcl_expr.specs.Expressions.{told}
use Rattle.tcl_expr.specs.Reading.{finish}
use Rattle.tcl_expr.specs.Parsing.{Keeps}
use Rattle.tcl_expr.proofs.Parsings.{empty}
use Rattle.tcl_expr.specs.Parsing.{Stands}
use Rattle.tcl_expr.proofs.Parsteps.{at_having, finishes, doesnt_finish}
use Rattle.tcl_expr.proofs.parser.Parser.finish.Goals as goal

pub returns-then-is_empty : goal.returns-then-is_empty
returns-then-is_empty c = λ q st.
    let w = at_having _ _ _ q (subst (λ m. Stands c.args.self.nodes.items c.args.self.pending.items c.args.self.depth m q) c.in-Having.is st) in
    let none : (vec_len c.settle.new.self.pending == 0) ≡ true = sym c.is_empty.ensures ∙ c.if-is_empty.true in
    let zero : vec_len c.settle.new.self.pending ≡ 0 = grind (arith, nat_tests) in
    subst (λ y. Keeps (Ok (record { nodes = c.settle.new.self.nodes })) (told (finish y))) (sym w.2) (finishes (record { nodes = c.settle.new.self.nodes }) _ _ _ _ (c.in_ok-settle.ensures w.0 w.1 w.3) (empty _ (sym c.settle.new.self.pending.ok.0 ∙ zero)))

pub returns-else-is_empty : goal.returns-else-is_empty
returns-else-is_empty c = λ q st.
    let w = at_having _ _ _ q (subst (λ m. Stands c.args.self.nodes.items c.args.self.pending.items c.args.self.depth m q) c.in-Having.is st) in
    let some : (vec_len c.settle.new.self.pending == 0) ≡ false = sym c.is_empty.ensures ∙ c.if-is_empty.false in
    let clash : [] ≡ c.settle.new.self.pending.items → ⊥ = λ e. let zero : vec_len c.settle.new.self.pending ≡ 0 = c.settle.new.self.pending.ok.0 ∙ ap length (sym e) in grind (arith, nat_tests) in
    subst (λ y. told (finish y) ≡ Err Syntax) (sym w.2) (doesnt_finish _ _ _ _ _ (c.in_ok-settle.ensures w.0 w.1 w.3) clash)
