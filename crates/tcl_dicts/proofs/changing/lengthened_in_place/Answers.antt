use Rattle.std.proofs.Common.{◌≡◌, List, ℕ, [], ◌∷◌, subst, Some}
use Rattle.std.specs.Bool.{OnTrue}
use Rattle.tcl_value.specs.Inside.{entry_made, elements_added}
use Rattle.tcl_dicts.proofs.InPlace.{longer_made}
use Rattle.tcl_dicts.proofs.changing.lengthened_in_place.Goals as goal

pub returns-clause-changed : goal.returns-clause-changed
returns-clause-changed c =
    let same : c.in_ok-clone.field-0 ≡ c.args.key.now = c.in_ok-clone.ensures.cases in
    longer_made c.extend_inside-done.result c.args.words.now c.args.key.now c.args.old.now c.extend_inside-done.new.self c.keeps_limit.ensures
    (subst (λ (k : List ℕ). OnTrue c.extend_inside-done.result (entry_made (k ∷ []) (elements_added c.args.words.now) c.args.old.now ≡ Some c.extend_inside-done.new.self)) same c.extend_inside-done.ensures.extended)
