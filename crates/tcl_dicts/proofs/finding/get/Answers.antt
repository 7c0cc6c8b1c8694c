use Rattle.std.proofs.Common.{◌≡◌, ℕ, List, refl, sym, ap, subst, ◌∙◌}
use Rattle.std.specs.Prelude.{Ok, Err}
use Rattle.tcl_dicts.specs.Dicts.{at_key, get_of}
use Rattle.tcl_text.proofs.Items.{two_items}
use Rattle.tcl_words.specs.Outcomes.{Gives, Outcome, next}
use Rattle.tcl_dicts.proofs.finding.get.Goals as goal

-- nothing comes behind the value of the last key
ends : (outcome : Outcome) → next outcome (λ found. Ok found) ≡ outcome
ends (Ok text) = refl
ends (Err fault) = refl

pub returns-in-len2 : goal.returns-in-len2
returns-in-len2 c =
    let items = two_items c.args.words.now c.value-item.result c.key-item.result c.in-len2.len_at_least c.in-len2.len_below c.value-item.is c.key-item.is in
    let is : get_of c.args.words.now ≡ at_key c.value-item.result c.key-item.result = ap get_of items ∙ ends (at_key c.value-item.result c.key-item.result) in
    subst (λ (x : Outcome). Gives (λ (value : List ℕ). value) c.at_key.result x) (sym is) c.at_key.ensures
