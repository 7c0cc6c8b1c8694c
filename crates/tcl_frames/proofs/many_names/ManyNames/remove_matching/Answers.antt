use Rattle.std.proofs.Common.{rules, ◌∙◌, ap}
use Rattle.std.specs.Prelude.{false, not}
use Rattle.indexmap.proofs.CallerLemmas.{filter-RetainsPairs}
use Rattle.tcl_glob.specs.Patterns.{is_match}
use Rattle.tcl_frames.specs.Entries.{named}
use Rattle.tcl_frames.specs.VariableArrays.{unmatched}
use Rattle.tcl_frames.proofs.EntryLemmas.{filter-named}
use Rattle.tcl_frames.proofs.many_names.ManyNames.remove_matching.Goals as goal

pub returns : goal.returns
returns g c =
    let q = c.args.pattern.now in
    ap named (filter-RetainsPairs _ _ _ (λ k v b w f call. search rules) _ _ c.retain.ensures.filtered)
    ∙ filter-named (λ k. not (is_match false q k)) c.self.inside.entries.entries
    ∙ ap (unmatched q) c.self.view_is
