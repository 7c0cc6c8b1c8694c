use Rattle.std.proofs.Common.{◌≡◌, drop}
use Rattle.tcl_language.specs.Control.{is_over}
use Rattle.tcl_calls.specs.Walks.{walks_at}
use Rattle.tcl_calls.proofs.walks.are_over.Given as goal

abbrev pub invariant-walks : goal.invariant-walks
invariant-walks l = is_over (walks_at l.turns l.walks) ≡ is_over (walks_at l.turns (drop l.walk-index l.walks))
