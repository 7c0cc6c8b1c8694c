use Rattle.std.proofs.Common.{◌≡◌, ℕ, List, Result, Ok, Err}
use Rattle.tcl_text.specs.declared.list.ListFault.{ListFault}
use Rattle.tcl_embed.proofs.paths.Path.parse.Goals as goal

pub returns-clause-only_fault : goal.returns-clause-only_fault
returns-clause-only_fault c = λ fault has. let clash : ◌≡◌ {A = Result (List (List ℕ)) ListFault} (Err fault) (Ok c.in_ok-names.names.items) = c.in_ok-names.ensures.only_fault fault has in absurd cc
