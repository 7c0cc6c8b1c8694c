use Rattle.std.proofs.Common.{◌∙◌, ap, rules, subst, sym}
use Rattle.std.specs.Prelude.{false, not}
use Rattle.std.specs.List.{IsDistinct}
use Rattle.std.specs.Map.{keys_of}
use Rattle.std.specs.Str.{bytes_eq}
use Rattle.std.proofs.lemmas.Fn.{filter_same}
use Rattle.std.proofs.lemmas.Map.Made.{IsDistinct-keys_filter}
use Rattle.tcl_glob.specs.Patterns.{is_match}
use Rattle.tcl_frames.specs.VariableArrays.{unmatched}
use Rattle.tcl_frames.specs.Names.{Text}
use Rattle.tcl_frames.proofs.few_names.FewNames.remove_matching.Goals as goal

pub invariant_of-self : goal.invariant_of-self
invariant_of-self g c =
    let q = c.args.pattern.now in
    let kept = filter_same _ (λ (e : Text × g.row.V.Denot). not (is_match false q e.0)) _ (λ x b r call. search rules) _ _ c.retain.ensures.filtered in
    subst (λ es. IsDistinct bytes_eq (keys_of es)) (sym kept) (IsDistinct-keys_filter bytes_eq (λ (e : Text × g.row.V.Denot). not (is_match false q e.0)) c.self.inside.entries.items c.self.invariant)

pub returns : goal.returns
returns g c =
    let q = c.args.pattern.now in
    filter_same _ (λ (e : Text × g.row.V.Denot). not (is_match false q e.0)) _ (λ x b r call. search rules) _ _ c.retain.ensures.filtered
    ∙ ap (unmatched q) c.self.view_is
