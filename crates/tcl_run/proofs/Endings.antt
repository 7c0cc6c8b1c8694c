-- What is known of an end.
use Rattle.std.proofs.Common.{◌≡◌, ℕ, pos, List, [], sym, ap, subst, refl, ◌∙◌}
use Rattle.std.specs.Prelude.{Result, Ok, Err, MatchResult, IfErr, Option, Some, None, IfSome, IfNone}
use Rattle.tcl_core.specs.Runs.{Ending}
use Rattle.tcl_core.specs.Paths.{Path}
use Rattle.tcl_core.specs.Trees.{Node}
use Rattle.tcl_tree.specs.Own.{Own}
use Rattle.tcl_tree.specs.TreeOf.{tree_of, Names}
use Rattle.tcl_tree.specs.declared.tree.Tree.{Tree as Table}
use Rattle.tcl_tree.specs.declared.tree.Place.{Place as TablePlace}
use Rattle.tcl_core.specs.Endings.{Completion, Reply, ok}
use Rattle.tcl_core.specs.Endings.Reply.{Completed}
use Rattle.tcl_flow.specs.View.{completion_of}
use Rattle.tcl_language.specs.Faults.{frame_message}
use Rattle.tcl_frames.specs.Faults.{Refuses}
use Rattle.tcl_frames.specs.declared.fault.FrameFault.{FrameFault}
use Rattle.tcl_frames.specs.declared.fault.FrameError.{FrameError}
use Rattle.tcl_frames.specs.declared.fault.FrameError.TheVariants as frame_error
use Rattle.tcl_run.specs.declared.interruption.Interruption.{Interruption}
use Rattle.tcl_run.specs.declared.interruption.Interruption.TheVariants as interruption
use Rattle.tcl_text.specs.Reading.{Fails}
use Rattle.tcl_text.specs.Writing.{fault_message}
use Rattle.tcl_text.specs.declared.list.ListFault.{ListFault}
use Rattle.tcl_text.specs.declared.list.ListError.{ListError}
use Rattle.tcl_text.specs.declared.list.ListError.TheVariants as list_error
use Rattle.std.proofs.Common.{Bool, true, false}
use Rattle.std.specs.Prelude.{if◌then◌else◌}
use Rattle.tcl_language.specs.Instructions.{fits, too_long}
use Rattle.tcl_words.specs.Faults.{too_long as too_long_text}
use Rattle.tcl_words.specs.Limits.{limited}
use Rattle.tcl_words.specs.Outcomes.{Refuses as WordsRefuse}
use Rattle.tcl_words.specs.declared.refusal.Refusal.{Refusal}
use Rattle.tcl_words.specs.declared.refusal.Refusal.TheVariants as refusal
use Rattle.tcl_flow.specs.declared.completion.Completion.{Completion as CodeCompletion}
use Rattle.tcl_run.specs.Ends.{Breaks, Catches, Completes, IfRan, Interrupts, IfEnded, IsFailure, OnCompletion, Says, IsText, Tells, ListTells, WordsTell, failing, itself}

pub Interrupts-more : (i : Interruption) (P Q : Reply → Type 0) → ((r : Reply) → P r → Q r) → Interrupts i P → Interrupts i Q
Interrupts-more interruption.Memory P Q f p = tt
Interrupts-more (interruption.Completed c) P Q f p = f _ p
Interrupts-more (interruption.Stopped s) P Q f p = f _ p
Interrupts-more (interruption.Exited n) P Q f p = f _ p
Interrupts-more (interruption.Cut c) P Q f p = f _ p

-- what holds of every end holds of the one that there is
pub IfEnded-all : (r : Result (List ℕ) Interruption) (P : Reply → Type 0) → ((e : Reply) → P e) → IfEnded r P
IfEnded-all (Ok text) P f = f _
IfEnded-all (Err interruption.Memory) P f = tt
IfEnded-all (Err (interruption.Completed c)) P f = f _
IfEnded-all (Err (interruption.Stopped s)) P f = f _
IfEnded-all (Err (interruption.Exited n)) P f = f _
IfEnded-all (Err (interruption.Cut c)) P f = f _

pub IfEnded-more : (r : Result (List ℕ) Interruption) (P Q : Reply → Type 0) → ((e : Reply) → P e → Q e) → IfEnded r P → IfEnded r Q
IfEnded-more (Ok text) P Q f p = f _ p
IfEnded-more (Err i) P Q f p = Interrupts-more i P Q f p

-- a refusal of the variables is a failure of what was read
pub tells : {A : Type 0} (error : FrameError) (read : Result A FrameFault) (i : Interruption) → Refuses error read → Tells error i → Interrupts i (IsFailure frame_message read)
tells frame_error.Memory read i w t = subst (λ (j : Interruption). Interrupts j (IsFailure frame_message read)) (sym t) tt
tells (frame_error.Fault g) (Ok x) i w t = elim w [ ]
tells (frame_error.Fault g) (Err f) i w t = Interrupts-more i _ _ (λ r e. e ∙ ap (λ (h : FrameFault). Completed (Rattle.tcl_run.specs.Ends.failing (frame_message h))) w) t

pub list_tells : {A : Type 0} (error : ListError) (read : Result A ListFault) (i : Interruption) → Fails error read → ListTells error i → Interrupts i (IsFailure fault_message read)
list_tells list_error.Memory read i w t = subst (λ (j : Interruption). Interrupts j (IsFailure fault_message read)) (sym t) tt
list_tells (list_error.Fault g) (Ok x) i w t = let clash : Ok x ≡ Err g = w in cc
list_tells (list_error.Fault g) (Err f) i w t = Interrupts-more i _ _ (λ r e. e ∙ ap (λ (h : Result _ ListFault). Completed (Rattle.tcl_run.specs.Ends.failing (of_err h g))) (sym w)) t
  where
    of_err : {A : Type 0} → Result A ListFault → ListFault → List ℕ
    of_err (Ok x) g = []
    of_err (Err f) g = fault_message f

-- an end with an ordinary text
pub of_text : (r : Result (List ℕ) Interruption) (text : List ℕ) (P : Reply → Type 0) → IsText r text → IfEnded r P → (c : Completion) × P (Completed c) × (c.code ≡ pos 0) × (c.text ≡ text)
of_text (Ok t) text P e p = (ok t, p, refl, e)
of_text (Err interruption.Memory) text P e p = elim e [ ]
of_text (Err (interruption.Completed c)) text P e p = (completion_of c.value, p, e.0, e.1)
of_text (Err (interruption.Stopped s)) text P e p = elim e [ ]
of_text (Err (interruption.Exited n)) text P e p = elim e [ ]
of_text (Err (interruption.Cut c)) text P e p = elim e [ ]

pub Interrupts-both : (i : Interruption) (P Q R : Reply → Type 0) → ((e : Reply) → P e → Q e → R e) → Interrupts i P → Interrupts i Q → Interrupts i R
Interrupts-both interruption.Memory P Q R f p q = tt
Interrupts-both (interruption.Completed c) P Q R f p q = f _ p q
Interrupts-both (interruption.Stopped s) P Q R f p q = f _ p q
Interrupts-both (interruption.Exited n) P Q R f p q = f _ p q
Interrupts-both (interruption.Cut c) P Q R f p q = f _ p q

pub IfEnded-both : (r : Result (List ℕ) Interruption) (P Q R : Reply → Type 0) → ((e : Reply) → P e → Q e → R e) → IfEnded r P → IfEnded r Q → IfEnded r R
IfEnded-both (Ok text) P Q R f p q = f _ p q
IfEnded-both (Err i) P Q R f p q = Interrupts-both i P Q R f p q

-- what holds of an interruption wherever the place is
pub Interrupts-at : (i : Interruption) (t : Table) (place : TablePlace) (P : Node Own → Reply → Type 0) →
    ((p : Path) (n : Node Own) → Names t place p → tree_of t p ≡ Some n → Interrupts i (P n)) →
    Interrupts i (λ e. (p : Path) (n : Node Own) → Names t place p → tree_of t p ≡ Some n → P n e)
Interrupts-at interruption.Memory t place P f = tt
Interrupts-at (interruption.Completed c) t place P f = f
Interrupts-at (interruption.Stopped s) t place P f = f
Interrupts-at (interruption.Exited n) t place P f = f
Interrupts-at (interruption.Cut c) t place P f = f

pub IfEnded-at : (r : Result (List ℕ) Interruption) (t : Table) (place : TablePlace) (P : Node Own → Reply → Type 0) →
    ((p : Path) (n : Node Own) → Names t place p → tree_of t p ≡ Some n → IfEnded r (P n)) →
    IfEnded r (λ e. (p : Path) (n : Node Own) → Names t place p → tree_of t p ≡ Some n → P n e)
IfEnded-at (Ok text) t place P f = f
IfEnded-at (Err i) t place P f = Interrupts-at i t place P f

-- what is said of an interruption that is passed on
pub at_err : {A : Type 0} (r : Result A Interruption) (i y : Interruption) (P Q : Reply → Type 0) → r ≡ Err y → y ≡ i → Interrupts i P → ((e : Reply) → P e → Q e) → IfErr r (λ j. Interrupts j Q)
at_err r i y P Q e same h k = subst (λ (x : Result _ Interruption). IfErr x (λ j. Interrupts j Q)) (sym (e ∙ ap Err same)) (Interrupts-more i P Q k h)

pub ended_err : {A : Type 0} (r : Result A Interruption) (i y : Interruption) (R : A → Type 0) (P Q : Reply → Type 0) → r ≡ Err y → y ≡ i → Interrupts i P → ((e : Reply) → P e → Q e) → MatchResult r R (λ j. Interrupts j Q)
ended_err r i y R P Q e same h k = subst (λ (x : Result _ Interruption). MatchResult x R (λ j. Interrupts j Q)) (sym (e ∙ ap Err same)) (Interrupts-more i P Q k h)

-- a refusal of words is a failure of what they come to
pub words_tell : {A : Type 0} (e : Refusal) (outcome : Result A (List ℕ)) (i : Interruption) → WordsRefuse e outcome → WordsTell e i → Interrupts i (IsFailure itself outcome)
words_tell refusal.Memory outcome i w t = subst (λ (j : Interruption). Interrupts j (IsFailure itself outcome)) (sym t) tt
words_tell (refusal.Fault text) (Ok x) i w t = let clash : Ok x ≡ Err text = w in cc
words_tell (refusal.Fault text) (Err f) i w t =
    let same : f ≡ text = cc in
    Interrupts-more i _ _ (λ r e. e ∙ ap (λ (x : List ℕ). Completed (failing x)) (sym same)) t

-- a text that may be too long
pub limited_fails : (text : List ℕ) (e : Reply) → IsFailure itself (limited text) e → (fits text ≡ false) × (e ≡ Completed too_long)
limited_fails text e h = by (fits text) refl h
  where
    by : (b : Bool) → fits text ≡ b → IsFailure itself (if b then Ok text else Err too_long_text) e → (fits text ≡ false) × (e ≡ Completed too_long)
    by true f g = elim g [ ]
    by false f g = (f, g)

pub limited_gives : (text value : List ℕ) → limited text ≡ Ok value → (fits text ≡ true) × (value ≡ text)
limited_gives text value h = by (fits text) refl h
  where
    by : (b : Bool) → fits text ≡ b → (if b then Ok text else Err too_long_text) ≡ Ok value → (fits text ≡ true) × (value ≡ text)
    by true f g = let same : text ≡ value = cc in (f, sym same)
    by false f g = let clash : Err too_long_text ≡ Ok value = g in cc

-- ## Evaluations that may have been given up

pub Breaks-more : (i : Interruption) (P Q : Ending → Type 0) → ((e : Ending) → P e → Q e) → Breaks i P → Breaks i Q
Breaks-more interruption.Memory P Q f p = f _ p
Breaks-more (interruption.Completed c) P Q f p = f _ p
Breaks-more (interruption.Stopped s) P Q f p = f _ p
Breaks-more (interruption.Exited n) P Q f p = f _ p
Breaks-more (interruption.Cut c) P Q f p = f _ p

pub Breaks-both : (i : Interruption) (P Q R : Ending → Type 0) → ((e : Ending) → P e → Q e → R e) → Breaks i P → Breaks i Q → Breaks i R
Breaks-both interruption.Memory P Q R f p q = f _ p q
Breaks-both (interruption.Completed c) P Q R f p q = f _ p q
Breaks-both (interruption.Stopped s) P Q R f p q = f _ p q
Breaks-both (interruption.Exited n) P Q R f p q = f _ p q
Breaks-both (interruption.Cut c) P Q R f p q = f _ p q

-- what holds however far it came
pub Breaks-all : (i : Interruption) (P : Ending → Type 0) → ((e : Ending) → P e) → Breaks i P
Breaks-all interruption.Memory P f = f _
Breaks-all (interruption.Completed c) P f = f _
Breaks-all (interruption.Stopped s) P f = f _
Breaks-all (interruption.Exited n) P f = f _
Breaks-all (interruption.Cut c) P f = f _

pub IfRan-more : (r : Result (List ℕ) Interruption) (P Q : Ending → Type 0) → ((e : Ending) → P e → Q e) → IfRan r P → IfRan r Q
IfRan-more (Ok text) P Q f p = f _ p
IfRan-more (Err i) P Q f p = Breaks-more i P Q f p

pub IfRan-both : (r : Result (List ℕ) Interruption) (P Q R : Ending → Type 0) → ((e : Ending) → P e → Q e → R e) → IfRan r P → IfRan r Q → IfRan r R
IfRan-both (Ok text) P Q R f p q = f _ p q
IfRan-both (Err i) P Q R f p q = Breaks-both i P Q R f p q

pub IfRan-all : (r : Result (List ℕ) Interruption) (P : Ending → Type 0) → ((e : Ending) → P e) → IfRan r P
IfRan-all (Ok text) P f = f _
IfRan-all (Err i) P f = Breaks-all i P f

-- what is said of an end that there is, and of an evaluation that was given up
pub breaks : (i : Interruption) (P : Reply → Type 0) (Q : Ending → Type 0) → ((e : Reply) → P e → Q (Some e)) → Q None → Interrupts i P → Breaks i Q
breaks interruption.Memory P Q f n p = n
breaks (interruption.Completed c) P Q f n p = f _ p
breaks (interruption.Stopped s) P Q f n p = f _ p
breaks (interruption.Exited n) P Q f m p = f _ p
breaks (interruption.Cut c) P Q f n p = f _ p

pub ran : (r : Result (List ℕ) Interruption) (P : Reply → Type 0) (Q : Ending → Type 0) → ((e : Reply) → P e → Q (Some e)) → Q None → IfEnded r P → IfRan r Q
ran (Ok text) P Q f n p = f _ p
ran (Err i) P Q f n p = breaks i P Q f n p

-- where no memory was wanted
pub breaks_said : (i : Interruption) (P : Reply → Type 0) (Q : Ending → Type 0) → ((e : Reply) → P e → Q (Some e)) → Says i P → Breaks i Q
breaks_said interruption.Memory P Q f p = elim p [ ]
breaks_said (interruption.Completed c) P Q f p = f _ p
breaks_said (interruption.Stopped s) P Q f p = f _ p
breaks_said (interruption.Exited n) P Q f p = f _ p
breaks_said (interruption.Cut c) P Q f p = f _ p

pub said : (i : Interruption) (P : Reply → Type 0) → Says i P → Interrupts i P
said interruption.Memory P p = tt
said (interruption.Completed c) P p = p
said (interruption.Stopped s) P p = p
said (interruption.Exited n) P p = p
said (interruption.Cut c) P p = p

pub Says-more : (i : Interruption) (P Q : Reply → Type 0) → ((e : Reply) → P e → Q e) → Says i P → Says i Q
Says-more interruption.Memory P Q f p = p
Says-more (interruption.Completed c) P Q f p = f _ p
Says-more (interruption.Stopped s) P Q f p = f _ p
Says-more (interruption.Exited n) P Q f p = f _ p
Says-more (interruption.Cut c) P Q f p = f _ p

-- whatever became of it
pub ended_so : (r : Result (List ℕ) Interruption) (P : Ending → Type 0) → IfRan r P → IfEnded r (λ e. P (Some e))
ended_so (Ok text) P p = p
ended_so (Err interruption.Memory) P p = tt
ended_so (Err (interruption.Completed c)) P p = p
ended_so (Err (interruption.Stopped s)) P p = p
ended_so (Err (interruption.Exited n)) P p = p
ended_so (Err (interruption.Cut c)) P p = p

-- an end with an ordinary text
pub ran_text : (r : Result (List ℕ) Interruption) (text : List ℕ) (P : Ending → Type 0) → IsText r text → IfRan r P → (c : Completion) × P (Some (Completed c)) × (c.code ≡ pos 0) × (c.text ≡ text)
ran_text (Ok t) text P e p = (ok t, p, refl, e)
ran_text (Err interruption.Memory) text P e p = elim e [ ]
ran_text (Err (interruption.Completed c)) text P e p = (completion_of c.value, p, e.0, e.1)
ran_text (Err (interruption.Stopped s)) text P e p = elim e [ ]
ran_text (Err (interruption.Exited n)) text P e p = elim e [ ]
ran_text (Err (interruption.Cut c)) text P e p = elim e [ ]

-- what is said of an interruption that is passed on: of an evaluation, and of a call that evaluates nothing, of whose want of memory the last argument tells
pub ran_at_err : {A : Type 0} (r : Result A Interruption) (i y : Interruption) (P Q : Ending → Type 0) → r ≡ Err y → y ≡ i → Breaks i P → ((e : Ending) → P e → Q e) → IfErr r (λ j. Breaks j Q)
ran_at_err r i y P Q e same h k = subst (λ (x : Result _ Interruption). IfErr x (λ j. Breaks j Q)) (sym (e ∙ ap Err same)) (Breaks-more i P Q k h)

pub ran_err : {A : Type 0} (r : Result A Interruption) (i y : Interruption) (R : A → Type 0) (P Q : Ending → Type 0) → r ≡ Err y → y ≡ i → Breaks i P → ((e : Ending) → P e → Q e) → MatchResult r R (λ j. Breaks j Q)
ran_err r i y R P Q e same h k = subst (λ (x : Result _ Interruption). MatchResult x R (λ j. Breaks j Q)) (sym (e ∙ ap Err same)) (Breaks-more i P Q k h)

pub fails_err : {A : Type 0} (r : Result A Interruption) (i y : Interruption) (R : A → Type 0) (P : Reply → Type 0) (Q : Ending → Type 0) → r ≡ Err y → y ≡ i → Interrupts i P → ((e : Reply) → P e → Q (Some e)) → Q None →
    MatchResult r R (λ j. Breaks j Q)
fails_err r i y R P Q e same h k n = subst (λ (x : Result _ Interruption). MatchResult x R (λ j. Breaks j Q)) (sym (e ∙ ap Err same)) (breaks i P Q k n h)

pub says_err : {A : Type 0} (r : Result A Interruption) (i y : Interruption) (R : A → Type 0) (P : Reply → Type 0) (Q : Ending → Type 0) → r ≡ Err y → y ≡ i → Says i P → ((e : Reply) → P e → Q (Some e)) →
    MatchResult r R (λ j. Breaks j Q)
says_err r i y R P Q e same h k = subst (λ (x : Result _ Interruption). MatchResult x R (λ j. Breaks j Q)) (sym (e ∙ ap Err same)) (breaks_said i P Q k h)

-- an interruption that is want of memory, passed on
pub memory_err : {A : Type 0} (r : Result A Interruption) (y : Interruption) (R : A → Type 0) (Q : Ending → Type 0) → r ≡ Err y → y ≡ interruption.Memory → Q None → MatchResult r R (λ j. Breaks j Q)
memory_err r y R Q e same n = subst (λ (x : Result _ Interruption). MatchResult x R (λ j. Breaks j Q)) (sym (e ∙ ap Err same)) n

-- ## Completions

pub Completes-more : (i : Interruption) (P Q : Type 0) → (P → Q) → Completes i P → Completes i Q
Completes-more interruption.Memory P Q f p = tt
Completes-more (interruption.Completed c) P Q f p = f p
Completes-more (interruption.Stopped s) P Q f p = tt
Completes-more (interruption.Exited n) P Q f p = tt
Completes-more (interruption.Cut c) P Q f p = tt

-- what holds anyway holds where there is a completion
pub Completes-all : (i : Interruption) (P : Type 0) → P → Completes i P
Completes-all interruption.Memory P p = tt
Completes-all (interruption.Completed c) P p = p
Completes-all (interruption.Stopped s) P p = tt
Completes-all (interruption.Exited n) P p = tt
Completes-all (interruption.Cut c) P p = tt

pub on_completion : {A : Type 0} (r : Result A Interruption) (P : Type 0) → P → OnCompletion r P
on_completion (Ok a) P p = p
on_completion (Err i) P p = Completes-all i P p

pub OnCompletion-more : {A : Type 0} (r : Result A Interruption) (P Q : Type 0) → (P → Q) → OnCompletion r P → OnCompletion r Q
OnCompletion-more (Ok a) P Q f p = f p
OnCompletion-more (Err i) P Q f p = Completes-more i P Q f p

-- what came to an ordinary text
pub completed_text : (r : Result (List ℕ) Interruption) (text : List ℕ) (P : Type 0) → IsText r text → OnCompletion r P → P
completed_text (Ok t) text P e p = p
completed_text (Err interruption.Memory) text P e p = elim e [ ]
completed_text (Err (interruption.Completed c)) text P e p = p
completed_text (Err (interruption.Stopped s)) text P e p = elim e [ ]
completed_text (Err (interruption.Exited n)) text P e p = elim e [ ]
completed_text (Err (interruption.Cut c)) text P e p = elim e [ ]

-- what was caught
pub completed_caught : (r : Result (List ℕ) Interruption) (c : CodeCompletion) (P : Type 0) → Catches r (Ok c) → OnCompletion r P → P
completed_caught (Ok t) c P e p = p
completed_caught (Err interruption.Memory) c P e p = let clash : ◌≡◌ {A = Result CodeCompletion Interruption} (Ok c) (Err interruption.Memory) = e in absurd cc
completed_caught (Err (interruption.Completed d)) c P e p = p
completed_caught (Err (interruption.Stopped s)) c P e p = let clash : ◌≡◌ {A = Result CodeCompletion Interruption} (Ok c) (Err (interruption.Stopped s)) = e in absurd cc
completed_caught (Err (interruption.Exited n)) c P e p = let clash : ◌≡◌ {A = Result CodeCompletion Interruption} (Ok c) (Err (interruption.Exited n)) = e in absurd cc
completed_caught (Err (interruption.Cut d)) c P e p = let clash : ◌≡◌ {A = Result CodeCompletion Interruption} (Ok c) (Err (interruption.Cut d)) = e in absurd cc

-- an interruption that is passed on
pub completes_err : {A : Type 0} (r : Result A Interruption) (i y : Interruption) (P Q : Type 0) → r ≡ Err y → y ≡ i → Completes i P → (P → Q) → OnCompletion r Q
completes_err r i y P Q e same h k = subst (λ (x : Result _ Interruption). OnCompletion x Q) (sym (e ∙ ap Err same)) (Completes-more i P Q k h)

-- the interruption of a call that is passed on
pub passed_err : {A B : Type 0} (r : Result A Interruption) (x : Result B Interruption) (i y : Interruption) (P Q : Type 0) → r ≡ Err y → y ≡ i → x ≡ Err i → OnCompletion x P → (P → Q) → OnCompletion r Q
passed_err r x i y P Q e same is h k = completes_err r i y P Q e same (subst (λ (z : Result _ Interruption). OnCompletion z P) is h) k

-- what is said where there is something, or nothing
pub some_holds : {A : Type 0} (P : A → Type 0) (o : Option A) (a : A) → o ≡ Some a → IfSome o P → P a
some_holds P o a e h = subst (λ q. IfSome q P) e h

pub none_holds : {A : Type 0} (P : Type 0) (o : Option A) → o ≡ None → IfNone o P → P
none_holds P o e h = subst (λ q. IfNone q P) e h
