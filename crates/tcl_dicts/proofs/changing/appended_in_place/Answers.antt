use Rattle.std.proofs.Common.{◌≡◌, ◌++◌, List, ℕ, [], ◌∷◌, subst, Some}
use Rattle.std.specs.Bool.{OnTrue}
use Rattle.tcl_value.specs.Inside.{entry_made}
use Rattle.tcl_dicts.proofs.InPlace.{appended_made}
use Rattle.tcl_dicts.proofs.changing.appended_in_place.Goals as goal

pub returns-clause-changed : goal.returns-clause-changed
returns-clause-changed c =
    let same : c.in_ok-clone.field-0 ≡ c.args.key.now = c.in_ok-clone.ensures.cases in
    appended_made c.append_inside-done.result c.args.words.now c.in-Ok.more c.args.key.now c.args.old.now c.append_inside-done.new.self c.in-Ok.ensures c.keeps_limit.ensures
    (subst (λ (k : List ℕ). OnTrue c.append_inside-done.result (entry_made (k ∷ []) (λ x. Some (x ++ c.in-Ok.more)) c.args.old.now ≡ Some c.append_inside-done.new.self)) same c.append_inside-done.ensures.appended)
