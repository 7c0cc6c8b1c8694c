use Rattle.std.proofs.Common.{ap, refl}
use Rattle.std.specs.BTreeMap.{is_at}
use Rattle.std.specs.Map.{lookup}
use Rattle.std.specs.Ordering.{nat_cmp}
use Rattle.tcl_serve.proofs.KeptLemmas.{if_none_more, puts_of}
use Rattle.tcl_serve.proofs.numbered.Numbered.remove.Goals as goal

pub returns-clause-puts : goal.returns-clause-puts
returns-clause-puts g c = puts_of c.args.self.now _ c.args.number _ refl c.remove.ensures.updates

pub returns-clause-unchanged : goal.returns-clause-unchanged
returns-clause-unchanged g c = if_none_more c.remove.result _ _ (λ e. record { last = refl; same = λ k. ap (lookup (is_at (nat_cmp k))) e }) c.remove.ensures.unchanged
