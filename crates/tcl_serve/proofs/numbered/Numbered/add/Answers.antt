use Rattle.std.proofs.Common.{ap, refl}
use Rattle.std.specs.BTreeMap.{is_at}
use Rattle.std.specs.Map.{lookup}
use Rattle.std.specs.Ordering.{nat_cmp}
use Rattle.tcl_serve.proofs.KeptLemmas.{adds_of, on_err}
use Rattle.tcl_serve.proofs.numbered.Numbered.add.Goals as goal

pub returns-clause-adds : goal.returns-clause-adds
returns-clause-adds g c = adds_of c.args.self.now _ _ c.args.thing refl refl c.in_ok-insert.ensures.updates

pub returns-in_err-insert-clause-unchanged : goal.returns-in_err-insert-clause-unchanged
returns-in_err-insert-clause-unchanged g c = on_err c.from_residual.result _ (record { last = refl; same = λ k. ap (lookup (is_at (nat_cmp k))) c.in_err-insert.ensures.err })
