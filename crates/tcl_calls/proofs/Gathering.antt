-- What a loop keeps of what its body gives.
use Rattle.std.proofs.Common.{◌≡◌, inr, pos, ◌<◌, ◌≤◌, Bool, true, false, List, [], ◌∷◌, ◌++◌, length, refl, sym, ◌∙◌, ap, subst, arith}
use Rattle.std.specs.Prelude.{Result, Ok, Err}
use Rattle.std.specs.Global.{Box}
use Rattle.std.proofs.lemmas.Bool.Decides.{nat_tests}
use Rattle.tcl_core.specs.Endings.{Completion, Reply, ok}
use Rattle.tcl_core.specs.Endings.Reply.{Completed}
use Rattle.tcl_core.specs.Paths.{Text}
use Rattle.tcl_core.specs.Programs.Prog.{done}
use Rattle.tcl_flow.specs.View.{completion_of}
use Rattle.tcl_flow.specs.declared.completion.Completion.{Completion as TheCompletion}
use Rattle.tcl_language.specs.Control.{after_result}
use Rattle.tcl_language.specs.Instructions.{Program, either, fits, gives, too_long}
use Rattle.tcl_run.specs.declared.interruption.Interruption.{Interruption}
use Rattle.tcl_run.specs.declared.interruption.Interruption.TheVariants as interruption
use Rattle.tcl_run.proofs.Endings.{Interrupts-more}
use Rattle.tcl_text.specs.Writing.{written_list}
use Rattle.tcl_calls.specs.Collecting.{Collects, CollectsCompleted, EndsBehind, GoesWith, Keeps}
use Rattle.tcl_calls.specs.Turns.{EndsIn}
use Rattle.tcl_calls.specs.Words.{EndsBy}

pub within_fits : (text : Text) → length text ≤ 16777216 → fits text ≡ true
within_fits text h = grind (arith, nat_tests)

pub past_fits : (text : Text) → 16777216 < length text → fits text ≡ false
past_fits text h = grind (arith, nat_tests)

pub given_whole : (xs : List Text) (value : Text) → value ≡ written_list xs → length (written_list xs) ≤ 16777216 → EndsBy (gives (written_list xs)) (Completed (ok value))
given_whole xs value e h = ap (λ (t : Text). Completed (ok t)) e ∙ ap (λ b. Completed (either b (ok (written_list xs)) too_long)) (sym (within_fits (written_list xs) h))

pub given_long : (xs : List Text) (e : Reply) → 16777216 < length (written_list xs) → e ≡ Completed too_long → EndsBy (gives (written_list xs)) e
given_long xs e h f = f ∙ ap (λ b. Completed (either b (ok (written_list xs)) too_long)) (sym (past_fits (written_list xs) h))

-- an ordinary end's text is tried to be kept
result_is : (c : Completion) (before : List Text) (value : Text) (b : Bool) (k : List Text → Program) → c.code ≡ pos 0 → c.text ≡ value → fits (written_list (before ++ value ∷ [])) ≡ b →
    after_result c.code c before k ≡ either b (k (before ++ value ∷ [])) (done too_long)
result_is c before value b k e f g =
    ap (λ n. after_result n c before k) e ∙ ap (λ (t : Text). either (fits (written_list (before ++ t ∷ []))) (k (before ++ t ∷ [])) (done too_long)) f ∙ ap (λ t. either t (k (before ++ value ∷ [])) (done too_long)) g

pub kept_with : (c : Completion) (before after : List Text) (value : Text) (r : Result Bool Interruption) → c.code ≡ pos 0 → c.text ≡ value → Keeps before after value r → CollectsCompleted c before after r
kept_with c before after value (Ok true) a b h = λ k. result_is c before value true k a b h.2 ∙ ap k (sym h.1)
kept_with c before after value (Ok false) a b h = let clash : false ≡ true = h.0 in cc
kept_with c before after value (Err i) a b h =
    Interrupts-more i (λ e. (fits (written_list (before ++ value ∷ [])) ≡ false) × (e ≡ Completed too_long)) (EndsBehind before c) (λ r f k. subst (λ (x : Program). EndsBy x r) (sym (result_is c before value false k a b f.0)) f.1) h

-- what comes of the completion comes of the body
pub gathered : (ended : Result Text Interruption) (c : Completion) (before after : List Text) (r : Result Bool Interruption) → EndsIn ended c → CollectsCompleted c before after r → Collects ended before after r
gathered ended c before after (Ok on) e h = (c, e, h)
gathered ended c before after (Err i) e h = inr (c, e, h)

pub ends_in_text : (ended : Result Text Interruption) (text : Text) → ended ≡ Ok text → EndsIn ended (ok text)
ends_in_text ended text is = subst (λ (x : Result Text Interruption). EndsIn x (ok text)) (sym is) refl

pub ends_in : (ended : Result Text Interruption) (d : Box TheCompletion) → ended ≡ Err (interruption.Completed d) → EndsIn ended (completion_of d.value)
ends_in ended d is = subst (λ (x : Result Text Interruption). EndsIn x (completion_of d.value)) (sym is) refl

pub goes_on_with : (c : Completion) (made : List Text) → c.code ≡ pos 4 → GoesWith c made made true
goes_on_with c made e = λ k. ap (λ n. after_result n c made k) e

pub over_with : (c : Completion) (made : List Text) → c.code ≡ pos 3 → GoesWith c made made false
over_with c made e = λ k. ap (λ n. after_result n c made k) e
