use Rattle.std.proofs.Common.{subst, refl}
use Rattle.tcl_expr.specs.Reading.{calling, deeper}
use Rattle.tcl_expr.specs.Parsing.{Comes}
use Rattle.tcl_expr.proofs.Parsteps.{name_comes, name_fails}
use Rattle.tcl_expr.proofs.parser.Parser.name.Goals as goal

pub returns-in-Ok : goal.returns-in-Ok
returns-in-Ok c = λ os h. name_comes c.deeper.new.self.nodes.items c.deeper.new.self.pending.items c.deeper.new.self.depth c.args.function os c.in-Ok.field-0 (subst (λ r. Comes c.deeper.new.self.nodes.items c.deeper.new.self.pending.items c.deeper.new.self.depth r (deeper 200 (calling c.args.function) os)) c.in-Ok.is (c.deeper.ensures os (calling c.args.function) h (record { is = refl; no_steps = refl; nests = λ n. refl })))

pub returns-in-Err : goal.returns-in-Err
returns-in-Err c = λ os h. name_fails c.deeper.new.self.nodes.items c.deeper.new.self.pending.items c.deeper.new.self.depth c.args.function os c.in-Err.fault (subst (λ r. Comes c.deeper.new.self.nodes.items c.deeper.new.self.pending.items c.deeper.new.self.depth r (deeper 200 (calling c.args.function) os)) c.in-Err.is (c.deeper.ensures os (calling c.args.function) h (record { is = refl; no_steps = refl; nests = λ n. refl })))
