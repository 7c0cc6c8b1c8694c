use Rattle.std.proofs.Common.{List, ℕ, ap, ◌∙◌}
use Rattle.tcl_host.specs.Names.{Named}
use Rattle.tcl_host.proofs.NameLemmas.{on_err_as}
use Rattle.tcl_host.proofs.StoreLemmas.{put_back}
use Rattle.tcl_host.proofs.memory.store.Store.open_to_append.Goals as goal

pub returns-then-was_missing-clause-unchanged : goal.returns-then-was_missing-clause-unchanged
returns-then-was_missing-clause-unchanged c =
    on_err_as c.add_channel-added.result
    (λ e. put_back c.args.self.now c.add_channel-added.new.self c.args.name.now _ _
    c.in_ok-was_missing.ensures.missing c.if-was_missing.true
    (e ∙ ap (λ (g : Named (List ℕ)). record c.args.self.now { files = g }) c.in_ok-was_missing.ensures.made) c.remove.ensures)
    c.add_channel-added.ensures.unchanged
