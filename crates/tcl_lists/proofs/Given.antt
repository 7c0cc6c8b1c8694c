-- Outcomes of which something holds.
use Rattle.std.proofs.Common.{◌≡◌, ℕ, List, Ok, Err, sym, subst}
use Rattle.std.specs.declared.result.Result.{Result}
use Rattle.tcl_value.specs.declared.value.Value.{Value}
use Rattle.tcl_words.specs.declared.refusal.Refusal.{Refusal}
use Rattle.tcl_words.specs.declared.refusal.Refusal.TheVariants.{Memory, Fault}
use Rattle.tcl_words.specs.Outcomes.{Outcome, Gives, Refuses}
use Rattle.tcl_lists.specs.Sorting.{After, GivesSome}

pub some_given : (r : Result Value Refusal) (o : Outcome) (P : Outcome → Type 0) → Gives {X = Value} {Y = List ℕ} (λ value. value) r o → P o → GivesSome r P
some_given (Ok value) o P e h = subst P e h
some_given (Err Memory) o P e h = tt
some_given (Err (Fault text)) o P e h = subst P e h

-- what is told of what comes first is the outcome
pub refused_first : {X : Type 0} (e : Refusal) (r : Result X (List ℕ)) (P : X → Outcome → Type 0) → Refuses e r → GivesSome (Err e) (After r P)
refused_first Memory r P h = tt
refused_first (Fault text) (Ok x) P h = absurd (cc)
refused_first (Fault text) (Err fault) P h = cc

-- what there is first is what the rest is about
pub given_first : {X : Type 0} (r : Result Value Refusal) (first : Result X (List ℕ)) (x : X) (P : X → Outcome → Type 0) → first ≡ Ok x → GivesSome r (P x) → GivesSome r (After first P)
given_first {X} r first x P e h = subst (λ (o : Result X (List ℕ)). GivesSome r (After o P)) (sym e) h
