-- Changes that are refused.
use Rattle.std.proofs.Common.{◌≡◌, ℕ, List, ◌++◌, Ok, Err, sym, ap, ◌∙◌, subst}
use Rattle.std.specs.declared.result.Result.{Result}
use Rattle.tcl_text.specs.declared.list.ListFault.{ListFault}
use Rattle.tcl_words.specs.declared.refusal.Refusal.{Refusal}
use Rattle.tcl_words.specs.Outcomes.{Refuses, next}
use Rattle.tcl_words.specs.Words.{list_or}
use Rattle.tcl_words.proofs.WordLemmas.{limited_past, limited_within}
use Rattle.tcl_value.specs.Limits.{IsPast, IsWithin}
use Rattle.tcl_value.specs.Writing.{write}
use Rattle.tcl_value.specs.declared.value.ChangeError.{ChangeError}
use Rattle.tcl_value.specs.declared.value.ChangeError.TheVariants.{Memory, TooLong, List as NoList, NoElement}
use Rattle.tcl_value.specs.Changes as changes
use Rattle.tcl_value.specs.Changes.{AtList}
use Rattle.tcl_lists.specs.Lists.{Texts, list_value}
use Rattle.tcl_lists.specs.Refusing.{RefusesChange}

pub extend_made : (read : Result Texts ListFault) (more : Texts) (new : List ℕ) → AtList read (λ list. (new ≡ write (list ++ more)) × IsWithin (write (list ++ more))) → next (list_or read) (λ l. list_value (l ++ more)) ≡ Ok new
extend_made (Ok l) more new h = limited_within (write (l ++ more)) h.1 ∙ ap Ok (sym h.0)
extend_made (Err f) more new h = elim h [ ]

pub extend_refused : (r : Refusal) (why : ChangeError) (read : Result Texts ListFault) (more : Texts) → RefusesChange r why → changes.Refuses why read (λ list. IsPast (write (list ++ more))) (λ _. ⊥) →
    Refuses r (next (list_or read) (λ l. list_value (l ++ more)))
extend_refused r Memory read more h k = h (next (list_or read) (λ l. list_value (l ++ more)))
extend_refused r TooLong (Ok l) more h k = subst (Refuses {X = List ℕ} r) (sym (limited_past (write (l ++ more)) k)) h
extend_refused r TooLong (Err f) more h k = absurd k
extend_refused r (NoList f) read more h k = subst (λ (t : Result Texts ListFault). Refuses r (next (list_or t) (λ l. list_value (l ++ more)))) (sym k) h
extend_refused r NoElement (Ok l) more h k = absurd k
extend_refused r NoElement (Err f) more h k = absurd k
