use Rattle.std.proofs.Common.{◌≡◌, List, ℕ, subst}
use Rattle.std.specs.List.{AllZip}
use Rattle.tcl_frames.specs.Entries.{named}
use Rattle.tcl_frames.proofs.EntryLemmas.{clones-named}
use Rattle.tcl_frames.proofs.many_names.ManyNamesClone.clone.Goals as goal

pub returns : goal.returns
returns g c =
    let is_clone = g.V.Clone.is_clone in
    record {
      cases = subst (λ (m : List (List ℕ × g.row.V.Denot)). AllZip (λ p q. (q.0 ≡ p.0) × is_clone p.1 q.1) m (named c.in_ok-entries.entries.entries)) c.self.view_is
          (clones-named is_clone c.self.inside.entries.entries c.in_ok-entries.entries.entries c.in_ok-entries.ensures.cases);
    }
