-- What commands come to that are functions of their words.
use Rattle.std.proofs.Common.{◌≡◌, ℕ, Bool, true, false, List, refl, sym, ap, subst, ◌∙◌}
use Rattle.std.specs.Prelude.{Result, Ok, Err, cond}
use Rattle.tcl_core.specs.Endings.{Completion, Reply, ok}
use Rattle.tcl_core.specs.Endings.Reply.{Completed}
use Rattle.tcl_core.specs.Paths.{Path}
use Rattle.tcl_core.specs.Trees.{Tree}
use Rattle.tcl_core.specs.Programs.Prog.{done}
use Rattle.tcl_flow.specs.OptionReading.{IsRefused, Makes, Reads, made_with, options_in, result_in, return_of}
use Rattle.tcl_flow.specs.Returning.{options_message, plain}
use Rattle.tcl_flow.specs.declared.reading.OptionsError.{OptionsError}
use Rattle.tcl_flow.specs.declared.reading.OptionsError.TheVariants as options
use Rattle.tcl_flow.specs.declared.returning.OptionsFault.{OptionsFault}
use Rattle.tcl_flow.proofs.Options.{makes_so, reads_so}
use Rattle.tcl_language.specs.Control.{returns}
use Rattle.tcl_language.specs.Data.{answered}
use Rattle.tcl_language.specs.Instructions.{gives, either, fits, too_long}
use Rattle.tcl_lists.specs.Lists.{list_of}
use Rattle.tcl_run.specs.Ends.{Interrupts, IsFailure, failing}
use Rattle.tcl_run.specs.Plain.{Does, Acts}
use Rattle.tcl_run.specs.declared.interruption.Interruption.{Interruption}
use Rattle.tcl_run.proofs.Endings.{Interrupts-more}
use Rattle.tcl_run.proofs.Plain.{does_read, does_fail}
use Rattle.tcl_text.specs.declared.integer.Integers.{Integers}
use Rattle.tcl_text.specs.Writing.{written_list}
use Rattle.tcl_tree.specs.Own.{Own}
use Rattle.tcl_tree.specs.TreeOf.{tree_of, marks_of}
use Rattle.tcl_tree.specs.declared.tree.Tree.{Tree as Table}
use Rattle.tcl_tree.specs.declared.tree.Place.{Place as TablePlace}
use Rattle.tcl_words.specs.Faults as words
use Rattle.tcl_words.specs.Outcomes.{Outcome}
use Rattle.tcl_commands.specs.Answers.{completion_given, IsGiven}
use Rattle.tcl_commands.specs.Endings.{TellsOptions}
use Rattle.tcl_commands.specs.Steps.{EndsAt}
use Rattle.tcl_commands.proofs.Going.{acts_more}

-- a command that is a function of its words ends as their outcome says
does_given : (outcome : Outcome) (T : Tree Own) (p : Path) (r : Reply) → r ≡ Completed (completion_given outcome) → Does (answered outcome) T p T r
does_given (Ok text) T p r e = (refl, e)
does_given (Err message) T p r e = (refl, e)

pub given_acts : (t : Table) (place : TablePlace) (outcome : Integers → Outcome) (result : Result (List ℕ) Interruption) (own : Integers) → own ≡ (marks_of t).integers →
    IsGiven (outcome own) result → Acts t place (λ style. answered (outcome style)) t result
given_acts t place outcome result own same given = acts_more t t place (λ style. answered (outcome style)) (λ r. r ≡ Completed (completion_given (outcome own))) result (λ r e p style at.
    does_given (outcome style) (tree_of t) p r (e ∙ ap (λ (s : Integers). Completed (completion_given (outcome s))) (same ∙ at.style_is))) given

-- a text that a command gives where it isn't too long
does_text : (b : Bool) (text : List ℕ) (T : Tree Own) (p : Path) (r : Reply) → r ≡ Completed (completion_given (cond b (Ok text) (Err words.too_long))) → (T ≡ T) × (r ≡ Completed (either b (ok text) too_long))
does_text true text T p r e = (refl, e)
does_text false text T p r e = (refl, e)

pub written_acts : (t : Table) (place : TablePlace) (words : List (List ℕ)) (result : Result (List ℕ) Interruption) →
    IsGiven (list_of words) result → Acts t place (λ style. gives (written_list words)) t result
written_acts t place words result given = acts_more t t place (λ style. gives (written_list words)) (λ r. r ≡ Completed (completion_given (list_of words))) result (λ r e p style at. does_text (fits (written_list words)) (written_list words) (tree_of t) p r e) given

-- ## Returning

pub returns_ends : (t : Table) (place : TablePlace) (words : List (List ℕ)) (c : Completion) (own : Integers) → own ≡ (marks_of t).integers → Makes own words c → EndsAt t place (λ style. returns style words) (tree_of t) (Completed c)
returns_ends t place words c own same made = λ p style at.
    does_read (tree_of t) (tree_of t) p (Completed c) options_message (return_of style words) c done
    (ap (λ (s : Integers). return_of s words) (sym (same ∙ at.style_is)) ∙ (makes_so own words c).1 made) (refl, refl)

-- so the end at any interruption that tells of that completion
pub returns_told : (t : Table) (place : TablePlace) (words : List (List ℕ)) (c : Completion) (i : Interruption) (own : Integers) → own ≡ (marks_of t).integers → Makes own words c →
    Interrupts i (λ e. e ≡ Completed c) → Interrupts i (EndsAt t place (λ style. returns style words) (tree_of t))
returns_told t place words c i own same made told = Interrupts-more i (λ e. e ≡ Completed c) (EndsAt t place (λ style. returns style words) (tree_of t))
    (λ r e. subst (λ (x : Reply). EndsAt t place (λ style. returns style words) (tree_of t) x) (sym e) (returns_ends t place words c own same made)) told

pub returns_fails : (t : Table) (place : TablePlace) (words : List (List ℕ)) (error : OptionsError) (i : Interruption) (own : Integers) → own ≡ (marks_of t).integers →
    IsRefused error (λ f. Reads own (options_in words) plain (Err f)) → TellsOptions error i → Interrupts i (EndsAt t place (λ style. returns style words) (tree_of t))
returns_fails t place words options.Memory i own same refused told = subst (λ (j : Interruption). Interrupts j (EndsAt t place (λ style. returns style words) (tree_of t))) (sym told) tt
returns_fails t place words (options.Fault f) i own same refused told = Interrupts-more i (λ e. e ≡ Completed (failing (options_message f))) (EndsAt t place (λ style. returns style words) (tree_of t)) (λ r e p style at.
    let read : return_of style words ≡ Err f =
    ap (λ (s : Integers). return_of s words) (sym (same ∙ at.style_is)) ∙ ap (made_with (result_in words)) ((reads_so own (options_in words) plain (Err f)).1 refused) in
    does_fail (tree_of t) p options_message (return_of style words) done r (subst (λ (x : Result Completion OptionsFault). IsFailure options_message x r) (sym read) e)) told
