-- What waiting for what stands outside of the tree comes to, and what is handed in meanwhile.
use Rattle.std.proofs.Common.{◌≡◌, ℕ, ℤ, true, [], Option, Some, None, refl, sym, ◌∙◌, ap, subst}
use Rattle.std.specs.Prelude.{IfErr, Result, Ok, Err}
use Rattle.std.proofs.lemmas.Option.{same_Some}
use Rattle.tcl_core.specs.Endings.{Completion, Reply, ok}
use Rattle.tcl_core.specs.Endings.Reply.{Completed, Stop, Exit, Cut}
use Rattle.tcl_core.specs.Entries.{Answer, Entry, HostReply}
use Rattle.tcl_core.specs.Entries as core
use Rattle.tcl_core.specs.Entries.Answer.{Replied, Heard, Nobody}
use Rattle.tcl_core.specs.Entries.Said.{Finished}
use Rattle.tcl_core.specs.Paths.{Height, Path, Text, rise_to}
use Rattle.tcl_core.specs.Programs.{or_lost}
use Rattle.tcl_core.specs.Programs.Prog.{call, done}
use Rattle.tcl_core.specs.Rules.{IsNoExit}
use Rattle.tcl_core.specs.Runs.{Ending, gone, is_own, is_told}
use Rattle.tcl_core.specs.Execution.{event}
use Rattle.tcl_core.specs.Trees.{Tree, Node, depth_of}
use Rattle.tcl_core.specs.Trees.What.{Out, In, Done, Back, Unfound}
use Rattle.tcl_flow.specs.Stopping.{reply_of as stop_reply}
use Rattle.tcl_host.specs.declared.reply.HostReply.{HostReply as TheirReply}
use Rattle.tcl_flow.specs.View.{completion_of}
use Rattle.tcl_language.specs.Instructions.{Program}
use Rattle.tcl_language.specs.Interpreters.{finished}
use Rattle.tcl_language.specs.Table.{serve}
use Rattle.tcl_run.specs.Language.{language}
use Rattle.tcl_run.specs.Ends.{Breaks, Completes, IfEnded, Interrupts, Says, WhereMemory, cause_of}
use Rattle.tcl_run.specs.Notifying.{WasUnfound}
use Rattle.tcl_run.specs.Outsides.{Answers, AnswersFor, ComesNext, OnEntry, told_to, reply_of as host_reply}
use Rattle.tcl_run.specs.Runs.{IsAt, IsHere, IsLoss, IsRunning, IsSteady, IsThere, Proceeds, ProceedsAt, Ways}
use Rattle.tcl_run.specs.declared.interruption.Interruption.{Interruption}
use Rattle.tcl_run.specs.declared.interruption.Interruption.TheVariants as interruption
use Rattle.tcl_run.specs.declared.outside.Turn.{Turn}
use Rattle.tcl_run.specs.declared.outside.Turn.TheVariants as turn
use Rattle.tcl_run.proofs.Endings.{Breaks-more, Completes-all, IfEnded-both, IfRan-more, Interrupts-more, ended_so, memory_err, breaks, ran_err}
use Rattle.tcl_run.proofs.Losing.{lost_once, lost_twice}
use Rattle.tcl_run.proofs.Proceeding.{answers_here, answers_on, answers_passed, at_prog, at_reply, calls_out, completed, enters_exiting, enters_lost, enters_on, finds_nobody, hears_on, misses_on, stopped, stopped_by}
use Rattle.tcl_run.proofs.Steady.{called_here, holds_named, stands, steady-trans, steady_holds}
use Rattle.tcl_text.specs.declared.integer.Integers.{Integers}
use Rattle.tcl_tree.proofs.CoreLemmas.{tree_there}
use Rattle.tcl_tree.specs.Gone.{Holds}
use Rattle.tcl_tree.specs.Own.{Own}
use Rattle.tcl_tree.specs.TreeOf.{tree_of, marks_of, Names}
use Rattle.tcl_tree.specs.declared.tree.Tree.{Tree as Table}
use Rattle.tcl_tree.specs.declared.tree.Place.{Place as TablePlace}
use Rattle.tcl_evaluation.specs.View.{Leads}
use Rattle.tcl_evaluation.specs.Waiting.{AnswersBy, CallsOut, EndsBefore, EndsEntry, EndsWait, ExitOf, HandsIn, HearsSo, IsNoCompletion, MissesEntry, MissesSo, WaitsOn, Wherever, depth_there, told_next, waiting}
use Rattle.tcl_evaluation.proofs.Targets.{came}

-- ## How an entry ended

pub exited : (ended : Result Text Interruption) (n : ℤ) (P : Reply → Type 0) → ExitOf ended (Some n) → IfEnded ended P → P (Exit n)
exited (Ok text) n P x h = let clash : Some n ≡ None = x in absurd cc
exited (Err interruption.Memory) n P x h = elim x [ ]
exited (Err (interruption.Completed c)) n P x h = let clash : Some n ≡ None = x in absurd cc
exited (Err (interruption.Stopped s)) n P x h = let clash : Some n ≡ None = x in absurd cc
exited (Err (interruption.Exited m)) n P x h = subst (λ (k : ℤ). P (Exit k)) (sym (same_Some _ _ x)) h
exited (Err (interruption.Cut c)) n P x h = let clash : Some n ≡ None = x in absurd cc

pub unexited : (ended : Result Text Interruption) (P : Reply → Type 0) → ExitOf ended None → IfEnded ended P → (y : Reply) × P y × IsNoExit y
unexited (Ok text) P x h = (Completed (ok text), h, tt)
unexited (Err interruption.Memory) P x h = elim x [ ]
unexited (Err (interruption.Completed c)) P x h = (Completed (completion_of c.value), h, tt)
unexited (Err (interruption.Stopped s)) P x h = (stop_reply s, h, tt)
unexited (Err (interruption.Exited n)) P x h = let clash : None ≡ Some n = x in absurd cc
unexited (Err (interruption.Cut c)) P x h = (Cut (cause_of c), h, tt)

module _ {S : Type 0} (ways : Ways S) (style : Integers) where
  -- ## Answers

  pub answers_by : (T : Tree Own) {o u : S} {p : Path} (d : ℕ) (up : Height) (i : Entry) (r : Reply) → rise_to up p ≡ None → Answers ways.goes T o p d up i u (Replied r) → AnswersBy ways style T o p up i d T u (Some r)
  answers_by T d up i (Completed c) e a = λ k V z r t. answers_on c e a.1 a.0 t
  answers_by T d up i (Stop n m) e a = λ k. answers_passed tt e a.1 a.0
  answers_by T d up i (Exit n) e a = λ k. answers_passed tt e a.1 a.0
  answers_by T d up i (Cut c) e a = λ k. answers_passed tt e a.1 a.0

  pub hears_so : {T : Tree Own} {o u : S} {p : Path} (d : ℕ) (up : Height) (i : Entry) (a : HostReply) → rise_to up p ≡ None → Answers ways.goes T o p d up i u (Heard a) → HearsSo ways style T o p up i d T u a
  hears_so d up i a e x = λ k V z r t. hears_on a e x.1 x.0 t

  pub misses_so : {T : Tree Own} {o u : S} {p : Path} (d : ℕ) (up : Height) (i : Entry) → rise_to up p ≡ None → Answers ways.goes T o p d up i u Nobody → MissesSo ways style T o p up i d T u
  misses_so d up i e x = λ k V z r t. misses_on e x.1 x.0 t

  -- what comes of waiting on from later comes of it from here
  pub answers_from : {T U : Tree Own} (V : Tree Own) {o u : S} (z : S) {p : Path} (up : Height) (i : Entry) (d : ℕ) (e : Ending) → ((k : core.Said → Program) → Leads ways style T o p (waiting up i d k) U u (waiting up i d k)) →
      AnswersBy ways style U u p up i d V z e → AnswersBy ways style T o p up i d V z e
  answers_from V z up i d (Some (Completed c)) leads a = λ k W w r t. leads k W w r (a k W w r t)
  answers_from V z up i d (Some (Stop n m)) leads a = λ k. leads k _ _ _ (a k)
  answers_from V z up i d (Some (Exit n)) leads a = λ k. leads k _ _ _ (a k)
  answers_from V z up i d (Some (Cut c)) leads a = λ k. leads k _ _ _ (a k)
  answers_from V z up i d None leads a = λ k. leads k _ _ _ (a k)

  -- it is given up
  pub answers_lost : (T V : Tree Own) (o z : S) (p : Path) (up : Height) (i : Entry) (d : ℕ) → IsLoss ways.loses o z → AnswersBy ways style T o p up i d V z None
  answers_lost T V o z p up i d l = λ k. stopped_by l

  -- a call whose caller ends as it was answered, or is given up with it
  pub ends_out : {T U : Tree Own} {o u z : S} {p : Path} (up : Height) (down : Path) (i : Entry) (lost : Completion) (k : core.Said → Program) (e : Ending) → ((c : Completion) → k (Finished c) ≡ done c) → rise_to up p ≡ None →
      ways.goes T o None (event p (Out up down i)) u → AnswersBy ways style T u p up i (depth_of (T p)) U z e → Proceeds ways (language style) T o p (call up down i lost k) U z e
  ends_out up down i lost k (Some (Completed c)) ends e x a = calls_out e x (a (or_lost lost k) _ _ _ (at_prog (ends c) completed))
  ends_out up down i lost k (Some (Stop n m)) ends e x a = calls_out e x (a (or_lost lost k))
  ends_out up down i lost k (Some (Exit n)) ends e x a = calls_out e x (a (or_lost lost k))
  ends_out up down i lost k (Some (Cut c)) ends e x a = calls_out e x (a (or_lost lost k))
  ends_out up down i lost k None ends e x a = calls_out e x (a (or_lost lost k))

  -- or by the call's own completion, where nobody is there
  pub misses_out : {T U V : Tree Own} {o u z w : S} {p : Path} {e : Ending} (up : Height) (down : Path) (i : Entry) (lost : Completion) (k : core.Said → Program) → rise_to up p ≡ None → ways.goes T o None (event p (Out up down i)) u →
      MissesSo ways style T u p up i (depth_of (T p)) U z → Proceeds ways (language style) U z p (k (Finished lost)) V w e → Proceeds ways (language style) T o p (call up down i lost k) V w e
  misses_out up down i lost k e x a t = calls_out e x (a (or_lost lost k) _ _ _ t)

  -- ## Entries

  hands_on : {T U : Tree Own} {b o u z : S} {p : Path} {m : Node Own} (up : Height) (i : Entry) (d : ℕ) (t : Path) (inner : Entry) (y : Reply) → rise_to up p ≡ None → T t ≡ Some m → ways.goes T b None (event t (In None inner)) o →
      Proceeds ways (language style) T o t (serve style inner) U u (Some y) → ways.goes U u None (event t (Done None y)) z → IsNoExit y → (k : core.Said → Program) →
      Leads ways style T b p (waiting up i d k) U z (waiting up i d k)
  hands_on up i d t inner y e there x run told stays k = λ V w r s. enters_on t inner e there x run told stays s

  hands_out : {T U : Tree Own} {b o u z w : S} {p : Path} {m : Node Own} (up : Height) (i : Entry) (d : ℕ) (t : Path) (inner : Entry) (n : ℤ) → rise_to up p ≡ None → T t ≡ Some m → ways.goes T b None (event t (In None inner)) o →
      Proceeds ways (language style) T o t (serve style inner) U u (Some (Exit n)) → ways.goes U u None (event t (Done None (Exit n))) z →
      ways.goes U z (Some (up, i, d)) (event p (Back up (Replied (Exit n)))) w → (k : core.Said → Program) → Proceeds ways (language style) T b p (waiting up i d k) U w (Some (Exit n))
  hands_out up i d t inner n e there x run told back k = enters_exiting t inner e there x run told back

-- how far an entry came
abbrev pub EntryRan : {S : Type 0} → Ways S → Table → S → Path → Entry → Table → S → Ending → Type 0
EntryRan ways old o t inner new u e = (style : Integers) → (marks_of old).integers ≡ style → Proceeds ways (language style) (tree_of old) o t (serve style inner) (tree_of new) u e

-- the end of an entry, of which the outside was told
abbrev pub EntryTold : {S : Type 0} → Ways S → Table → S → Path → Entry → Table → S → S → Reply → Type 0
EntryTold ways old o t inner new u z y = EntryRan ways old o t inner new u (Some y) × ways.goes (tree_of new) u None (event t (Done None y)) z

entry_told : {S : Type 0} (ways : Ways S) (old new : Table) (o u z : S) (t : Path) (inner : Entry) (ended : Result Text Interruption) → EndsEntry ways old o t inner new u ended →
    IfEnded ended (λ y. ways.goes (tree_of new) u None (event t (Done None y)) z) → IfEnded ended (EntryTold ways old o t inner new u z)
entry_told ways old new o u z t inner ended runs told =
    IfEnded-both ended (λ y. EntryRan ways old o t inner new u (Some y)) (λ y. ways.goes (tree_of new) u None (event t (Done None y)) z) (EntryTold ways old o t inner new u z) (λ y run d. (run, d))
    (ended_so ended (EntryRan ways old o t inner new u) runs) told

-- the style of integers is what it was
still_styled : (was now : Table) (place : TablePlace) (p : Path) (style : Integers) → IsSteady was now → IsAt was place p style → (marks_of now).integers ≡ style
still_styled was now place p style h at = ap (λ m. m.integers) h.marks ∙ at.style_is

-- An entry for somebody who stands at the path.
module _ {S : Type 0} (ways : Ways S) (old new : Table) (o u : S) (place : TablePlace) (up : Height) (i : Entry) (t : Path) (there : TablePlace) (named : Names old there t) (inner : Entry) (ended : Result Text Interruption)
    (runs : EndsEntry ways old o t inner new u ended) where
  stands_there : (m : Node Own) × (tree_of old t ≡ Some m)
  stands_there = stands (tree_of old t) (tree_there old t _ named)

  -- the program waits on
  pub handed_on : (z : S) (status : Option ℤ) → status ≡ None → IfEnded ended (λ y. ways.goes (tree_of new) u None (event t (Done None y)) z) → ExitOf ended status → WaitsOn ways old o place up i t inner new z
  handed_on z status none told stays =
      let y = unexited ended (EntryTold ways old o t inner new u z) (subst (λ (x : Option ℤ). ExitOf ended x) none stays) (entry_told ways old new o u z t inner ended runs told) in
      λ before enters was p style at steady e k. hands_on ways style up i (depth_there was p) t inner y.0 e stands_there.1 enters (y.1.0 style (still_styled was old place p style steady at)) y.1.1 y.2 k

  -- it ends by an exit
  pub handed_out : (v z : S) (n : ℤ) (status : Option ℤ) → status ≡ Some n → IfEnded ended (λ y. ways.goes (tree_of new) u None (event t (Done None y)) v) → ExitOf ended status →
      ((p : Path) (d : ℕ) → Holds new place p d → rise_to up p ≡ None → ways.goes (tree_of new) v (Some (up, i, d)) (event p (Back up (Replied (Exit n)))) z) → IsSteady old new → EndsBefore ways old o place up i t inner new z (Some (Exit n))
  handed_out v z n status some told out back steady =
      let y = exited ended n (EntryTold ways old o t inner new u v) (subst (λ (x : Option ℤ). ExitOf ended x) some out) (entry_told ways old new o u v t inner ended runs told) in
      λ before loses enters was p style at since e k. hands_out ways style up i (depth_there was p) t inner n e stands_there.1 enters (y.0 style (still_styled was old place p style since at)) y.1
      (back p (depth_there was p) (steady_holds was new place p (steady-trans was old new since steady) at.names at.running) e) k

  -- it is given up with what it was, or the outside could not be told of its end
  pub handed_lost : (z : S) → IsLoss ways.loses u z → EndsBefore ways old o place up i t inner new z None
  handed_lost z loses =
      let y = came ended (EntryRan ways old o t inner new u) runs in
      λ before lost enters was p style at since e k. enters_lost t inner e stands_there.1 enters (y.1 style (still_styled was old place p style since at)) loses

  pub handed_over : (z : S) (result : Result (Unit {0}) Interruption) (y : Interruption) → result ≡ Err y → y ≡ interruption.Memory → IsLoss ways.loses u z → HandsIn ways old o place up i t inner new z result
  handed_over z result y is memory loses = memory_err result y (λ x. WaitsOn ways old o place up i t inner new z) (EndsBefore ways old o place up i t inner new z) is memory (handed_lost z loses)

module _ {S : Type 0} (ways : Ways S) (old : Table) (o : S) (place : TablePlace) (up : Height) (i : Entry) (t : Path) (inner : Entry) where
  -- it is given up before it is entered, or the outside could not be told that it found nobody
  pub handed_early : (z : S) (result : Result (Unit {0}) Interruption) (y : Interruption) → result ≡ Err y → y ≡ interruption.Memory → IsLoss ways.loses o z → HandsIn ways old o place up i t inner old z result
  handed_early z result y is memory loses = memory_err result y (λ x. WaitsOn ways old o place up i t inner old z) (EndsBefore ways old o place up i t inner old z) is memory
      (λ before lost enters was p style at since e. answers_lost ways style (tree_of old) (tree_of old) before z p up i (depth_there was p) (lost_twice (lost_once lost) loses))

  -- it found nobody, and the program waits on
  pub handed_to_nobody : (z : S) → tree_of old t ≡ None → MissesEntry ways.goes old o t inner z → WaitsOn ways old o place up i t inner old z
  handed_to_nobody z none misses = λ before enters was p style at since e k V w r s. finds_nobody t inner e none (misses before enters) s

-- the same at an equal path
pub handed_at : {S : Type 0} (ways : Ways S) (old new : Table) (o z : S) (place : TablePlace) (up : Height) (i : Entry) (t u : Path) (inner : Entry) (result : Result (Unit {0}) Interruption) → t ≡ u → HandsIn ways old o place up i t inner new z result → HandsIn ways old o place up i u inner new z result
handed_at ways old new o z place up i t u inner result same h = subst (λ (x : Path). HandsIn ways old o place up i x inner new z result) same h

-- it is told that it finds nobody
pub missed_so : {S : Type 0} (ways : Ways S) (hands_in : Type 0) (old : Table) (o z : S) (t : Path) (k : Entry) (i : Interruption) (c : Completion) → Says i (λ r. r ≡ Completed c) → tree_of old t ≡ None → hands_in → (hands_in → Interrupts i (λ r. WasUnfound ways.goes (tree_of old) o t k r z)) →
    (before : S) → ways.goes (tree_of old) before None (event t (In None k)) o → ways.goes (tree_of old) before None (event [] (Unfound t k c)) z
missed_so ways hands_in old o z t k interruption.Memory c says none hands told before enters = elim says [ ]
missed_so ways hands_in old o z t k (interruption.Completed x) c says none hands told before enters = told hands c before says none enters
missed_so ways hands_in old o z t k (interruption.Stopped x) c says none hands told before enters = told hands c before says none enters
missed_so ways hands_in old o z t k (interruption.Exited x) c says none hands told before enters = told hands c before says none enters
missed_so ways hands_in old o z t k (interruption.Cut x) c says none hands told before enters = told hands c before says none enters

-- want of memory is no completion
pub memory_quits : {A : Type 0} (r : Result A Interruption) (y : Interruption) → r ≡ Err y → y ≡ interruption.Memory → IfErr r IsNoCompletion
memory_quits r y is memory = subst (λ (x : Result _ Interruption). IfErr x IsNoCompletion) (sym (is ∙ ap Err memory)) tt

-- ## Entries from outside of the tree

pub enters_there : {S : Type 0} (ways : Ways S) (old new : Table) (o z : S) (place : TablePlace) (t : Path) (i : Entry) (result : Result Text Interruption) → Names old place t →
    ProceedsAt ways old o place (λ style. serve style i) new z result → EndsEntry ways old o t i new z result
enters_there ways old new o z place t i result named runs = IfRan-more result (λ e. (q : Path) (style : Integers) → IsThere old place q style → Proceeds ways (language style) (tree_of old) o q (serve style i) (tree_of new) z e)
    (EntryRan ways old o t i new z)
    (λ e h style is. h t style (record { names = named; style_is = is })) runs

-- ## What comes next, as the caller is told it

-- what is said of the answer, where there is one
abbrev pub ComesTold : {S : Type 0} → Ways S → Type 0 → Tree Own → S → Path → ℕ → Height → Entry → S → Result Turn Interruption → Type 0
ComesTold ways hands_in T o p d up i z (Ok (turn.Entry target inner)) = ComesNext ways.goes hands_in T o p d up i z (Ok (turn.Entry target inner))
ComesTold ways hands_in T o p d up i z (Ok (turn.Completed text)) = Answers ways.goes T o p d up i z (Replied (Completed (ok text)))
ComesTold ways hands_in T o p d up i z (Ok (turn.Heard reply)) = Answers ways.goes T o p d up i z (Heard (host_reply reply))
ComesTold ways hands_in T o p d up i z (Ok turn.Nobody) = Answers ways.goes T o p d up i z Nobody
ComesTold ways hands_in T o p d up i z (Err e) = Interrupts e (λ r. Answers ways.goes T o p d up i z (Replied r))

-- whoever is told a completion, a word of the host, or that nobody is there, isn't gone
abbrev pub StandsTold : Option ℕ → Result Turn Interruption → Type 0
StandsTold g (Ok (turn.Entry target inner)) = Unit {0}
StandsTold g (Ok t) = g ≡ None
StandsTold g (Err e) = Completes e (g ≡ None)

pub stands_told : (g : Option ℕ) (next told : Result Turn Interruption) → told ≡ told_next g next → StandsTold g told
stands_told g next told same = subst (StandsTold g) (sym same) (by g next)
  where
    by : (g : Option ℕ) (next : Result Turn Interruption) → StandsTold g (told_next g next)
    by None (Ok (turn.Entry target inner)) = tt
    by None (Ok (turn.Completed text)) = refl
    by None (Ok (turn.Heard reply)) = refl
    by None (Ok turn.Nobody) = refl
    by None (Err i) = Completes-all i (◌≡◌ {A = Option ℕ} None None) refl
    by (Some n) (Ok (turn.Entry target inner)) = tt
    by (Some n) (Ok (turn.Completed text)) = tt
    by (Some n) (Ok (turn.Heard reply)) = tt
    by (Some n) (Ok turn.Nobody) = tt
    by (Some n) (Err interruption.Memory) = tt
    by (Some n) (Err (interruption.Completed c)) = tt
    by (Some n) (Err (interruption.Stopped s)) = tt
    by (Some n) (Err (interruption.Exited m)) = tt
    by (Some n) (Err (interruption.Cut c)) = tt

-- what is said where an entry comes next is said where it is told
pub on_entry_told : (g : Option ℕ) (next told : Result Turn Interruption) (P : Type 0) → told ≡ told_next g next → OnEntry next P → OnEntry told P
on_entry_told g next told P same h = subst (λ (x : Result Turn Interruption). OnEntry x P) (sym same) (by g next h)
  where
    by : (g : Option ℕ) (next : Result Turn Interruption) → OnEntry next P → OnEntry (told_next g next) P
    by None next h = h
    by (Some n) (Ok (turn.Entry target inner)) h = h
    by (Some n) (Ok (turn.Completed text)) h = tt
    by (Some n) (Ok (turn.Heard reply)) h = tt
    by (Some n) (Ok turn.Nobody) h = tt
    by (Some n) (Err i) h = tt

-- and what is said where memory is wanted
pub memory_told : (g : Option ℕ) (next told : Result Turn Interruption) (L : Type 0) → told ≡ told_next g next → WhereMemory next L → WhereMemory told L
memory_told g next told L same h = subst (λ (x : Result Turn Interruption). WhereMemory x L) (sym same) (by g next h)
  where
    by : (g : Option ℕ) (next : Result Turn Interruption) → WhereMemory next L → WhereMemory (told_next g next) L
    by None next h = h
    by (Some n) (Ok (turn.Entry target inner)) h = tt
    by (Some n) (Ok (turn.Completed text)) h = tt
    by (Some n) (Ok (turn.Heard reply)) h = tt
    by (Some n) (Ok turn.Nobody) h = tt
    by (Some n) (Err interruption.Memory) h = h
    by (Some n) (Err (interruption.Completed c)) h = tt
    by (Some n) (Err (interruption.Stopped s)) h = tt
    by (Some n) (Err (interruption.Exited m)) h = tt
    by (Some n) (Err (interruption.Cut c)) h = tt

module _ {S : Type 0} (ways : Ways S) (hands_in : Type 0) (T : Tree Own) (o z : S) (p : Path) (d : ℕ) (up : Height) (i : Entry) where
  pub comes_told : (next told : Result Turn Interruption) → told ≡ told_next (gone d T p) next → ComesNext ways.goes hands_in T o p d up i z next → ComesTold ways hands_in T o p d up i z told
  comes_told next told same comes = subst (ComesTold ways hands_in T o p d up i z) (sym same) (by (gone d T p) refl next comes)
    where
      here : gone d T p ≡ None → (next : Result Turn Interruption) → ComesNext ways.goes hands_in T o p d up i z next → ComesTold ways hands_in T o p d up i z next
      here e (Ok (turn.Entry target inner)) x = x
      here e (Ok (turn.Completed text)) x = answers_here ways.goes T o z p d up i (Replied (Completed (ok text))) e x
      here e (Ok (turn.Heard reply)) x = answers_here ways.goes T o z p d up i (Heard (host_reply reply)) e x
      here e (Ok turn.Nobody) x = answers_here ways.goes T o z p d up i Nobody e x
      here e (Err j) x = Interrupts-more j (λ r. AnswersFor ways.goes T o p d up i z (Replied r)) (λ r. Answers ways.goes T o p d up i z (Replied r)) (λ r y. answers_here ways.goes T o z p d up i (Replied r) e y) x

      away : (n : ℕ) → gone d T p ≡ Some n → (a : Answer) → AnswersFor ways.goes T o p d up i z a → Answers ways.goes T o p d up i z (told_to (Some n) a)
      away n e a x = subst (λ (g : Option ℕ). Answers ways.goes T o p d up i z (told_to g a)) e x

      by : (g : Option ℕ) → gone d T p ≡ g → (next : Result Turn Interruption) → ComesNext ways.goes hands_in T o p d up i z next → ComesTold ways hands_in T o p d up i z (told_next g next)
      by None e next x = here e next x
      by (Some n) e (Ok (turn.Entry target inner)) x = x
      by (Some n) e (Ok (turn.Completed text)) x = away n e (Replied (Completed (ok text))) x
      by (Some n) e (Ok (turn.Heard reply)) x = away n e (Heard (host_reply reply)) x
      by (Some n) e (Ok turn.Nobody) x = away n e Nobody x
      by (Some n) e (Err interruption.Memory) x = tt
      by (Some n) e (Err (interruption.Completed c)) x = away n e (Replied (Completed (completion_of c.value))) x
      by (Some n) e (Err (interruption.Stopped s)) x = away n e (Replied (stop_reply s)) x
      by (Some n) e (Err (interruption.Exited m)) x = away n e (Replied (Exit m)) x
      by (Some n) e (Err (interruption.Cut c)) x = away n e (Replied (Cut (cause_of c))) x

-- where the caller is told so, it stands, and all above it
pub here_told : (old now : Table) (place : TablePlace) (next told x : Result Turn Interruption) → IsSteady old now → IsRunning old place → ((p : Path) (d : ℕ) → Holds now place p d → told ≡ told_next (gone d (tree_of now) p) next) → told ≡ x →
    ((g : Option ℕ) → StandsTold g x → g ≡ None) → IsHere old now place
here_told old now place next told x steady running as_told is none =
    called_here old now place steady running (λ p d holds. holds_named now place p d holds (none (gone d (tree_of now) p) (subst (StandsTold (gone d (tree_of now) p)) is (stands_told (gone d (tree_of now) p) next told (as_told p d holds)))))

pub here_ended : (old now : Table) (place : TablePlace) (next told : Result Turn Interruption) (e : Interruption) → IsSteady old now → IsRunning old place → ((p : Path) (d : ℕ) → Holds now place p d → told ≡ told_next (gone d (tree_of now) p) next) → told ≡ Err e →
    Completes e (IsHere old now place)
here_ended old now place next told interruption.Memory steady running as_told is = tt
here_ended old now place next told (interruption.Completed c) steady running as_told is = here_told old now place next told (Err (interruption.Completed c)) steady running as_told is (λ g h. h)
here_ended old now place next told (interruption.Stopped s) steady running as_told is = tt
here_ended old now place next told (interruption.Exited n) steady running as_told is = tt
here_ended old now place next told (interruption.Cut c) steady running as_told is = tt

-- from where the program waits now what comes of waiting comes of it from the start
abbrev pub WaitsFrom : {S : Type 0} → Ways S → Table → S → TablePlace → Height → Entry → Table → S → Type 0
WaitsFrom ways old o place up i new z = (p : Path) (style : Integers) → IsAt old place p style → (k : core.Said → Program) → Leads ways style (tree_of old) o p (waiting up i (depth_there old p) k) (tree_of new) z (waiting up i (depth_there old p) k)

-- What comes next in the tree `now` to a call that was made in the tree `old`, and what the caller is told of it.
module _ {S : Type 0} (ways : Ways S) (hands_in : Type 0) (old now : Table) (o b z : S) (place : TablePlace) (up : Height) (i : Entry) (next told : Result Turn Interruption)
    (leads : WaitsFrom ways old o place up i now b) (steady : IsSteady old now) (above : (p : Path) → Names old place p → rise_to up p ≡ None)
    (as_told : (p : Path) (d : ℕ) → Holds now place p d → told ≡ told_next (gone d (tree_of now) p) next)
    (comes : (p : Path) (d : ℕ) → Holds now place p d → rise_to up p ≡ None → ComesNext ways.goes hands_in (tree_of now) b p d up i z next) where
  -- it is told so wherever the caller stood
  pub told_there : (p : Path) (style : Integers) → IsAt old place p style → ComesTold ways hands_in (tree_of now) b p (depth_there old p) up i z told
  told_there p style at =
      let holds = steady_holds old now place p steady at.names at.running in
      comes_told ways hands_in (tree_of now) b z p (depth_there old p) up i next told (as_told p (depth_there old p) holds) (comes p (depth_there old p) holds (above p at.names))

  pub told_as : (x : Result Turn Interruption) → told ≡ x → (p : Path) (style : Integers) → IsAt old place p style → ComesTold ways hands_in (tree_of now) b p (depth_there old p) up i z x
  told_as x is p style at = subst (ComesTold ways hands_in (tree_of now) b p (depth_there old p) up i z) is (told_there p style at)

  -- it completed
  pub completes_wait : (text : Text) → told ≡ Ok (turn.Completed text) → EndsWait ways old o place up i now z (Some (Completed (ok text)))
  completes_wait text is = λ p style at. answers_from ways style (tree_of now) z up i (depth_there old p) (Some (Completed (ok text))) (leads p style at)
      (answers_by ways style (tree_of now) (depth_there old p) up i (Completed (ok text)) (above p at.names) (told_as (Ok (turn.Completed text)) is p style at))

  -- a host replied
  pub hears_wait : (reply : TheirReply) → told ≡ Ok (turn.Heard reply) → Wherever old place (λ p style. HearsSo ways style (tree_of old) o p up i (depth_there old p) (tree_of now) z (host_reply reply))
  hears_wait reply is = λ p style at k V w r t. leads p style at k V w r
      (hears_so ways style (depth_there old p) up i (host_reply reply) (above p at.names) (told_as (Ok (turn.Heard reply)) is p style at) k V w r t)

  -- nobody is there
  pub misses_wait : told ≡ Ok turn.Nobody → Wherever old place (λ p style. MissesSo ways style (tree_of old) o p up i (depth_there old p) (tree_of now) z)
  misses_wait is = λ p style at k V w r t. leads p style at k V w r
      (misses_so ways style (depth_there old p) up i (above p at.names) (told_as (Ok turn.Nobody) is p style at) k V w r t)

  -- the call ended otherwise than by an ordinary result, or memory was wanted
  pub ends_wait : (e : Interruption) → told ≡ Err e → WhereMemory {A = Turn} (Err e) (ways.loses b z) → Breaks e (EndsWait ways old o place up i now z)
  ends_wait e is loses = by e (told_as (Err e) is) loses
    where
      ends : (r : Reply) (p : Path) (style : Integers) → IsAt old place p style → Answers ways.goes (tree_of now) b p (depth_there old p) up i z (Replied r) → AnswersBy ways style (tree_of old) o p up i (depth_there old p) (tree_of now) z (Some r)
      ends r p style at a = answers_from ways style (tree_of now) z up i (depth_there old p) (Some r) (leads p style at) (answers_by ways style (tree_of now) (depth_there old p) up i r (above p at.names) a)

      by : (e : Interruption) → ((p : Path) (style : Integers) → IsAt old place p style → Interrupts e (λ r. Answers ways.goes (tree_of now) b p (depth_there old p) up i z (Replied r))) → WhereMemory {A = Turn} (Err e) (ways.loses b z) → Breaks e (EndsWait ways old o place up i now z)
      by interruption.Memory x l = λ p style at. answers_from ways style (tree_of now) z up i (depth_there old p) None (leads p style at) (λ k. stopped_by (lost_once l))
      by (interruption.Completed c) x l = λ p style at. ends (Completed (completion_of c.value)) p style at (x p style at)
      by (interruption.Stopped s) x l = λ p style at. ends (stop_reply s) p style at (x p style at)
      by (interruption.Exited n) x l = λ p style at. ends (Exit n) p style at (x p style at)
      by (interruption.Cut c) x l = λ p style at. ends (Cut (cause_of c)) p style at (x p style at)

  -- where it is an answer, and the caller stands, it is one of the call's own kind
  pub own_kind : IsRunning old place → (x : Result Turn Interruption) (a : Answer) → told ≡ x → ((g : Option ℕ) → StandsTold g x → g ≡ None) → ((p : Path) → ComesTold ways hands_in (tree_of now) b p (depth_there old p) up i z x → is_told (gone (depth_there old p) (tree_of now) p) up i a ≡ true) → is_own up i a ≡ true
  own_kind running x a is none of =
      let p = running.0 in
      let at : IsAt old place p (marks_of old).integers = record { names = running.1; style_is = refl; running = running.2 } in
      let g = none (gone (depth_there old p) (tree_of now) p) (subst (StandsTold (gone (depth_there old p) (tree_of now) p)) is (stands_told (gone (depth_there old p) (tree_of now) p) next told (as_told p (depth_there old p) (steady_holds old now place p steady running.1 running.2)))) in
      subst (λ (h : Option ℕ). is_told h up i a ≡ true) g (of p (told_as x is p (marks_of old).integers at))

-- after an entry it waits on
pub waits_on : {S : Type 0} (ways : Ways S) (old now new : Table) (o b m z : S) (place : TablePlace) (up : Height) (i : Entry) (target : Path) (inner : Entry) →
    WaitsFrom ways old o place up i now b → IsSteady old now → ((p : Path) → Names old place p → rise_to up p ≡ None) → ((p : Path) (style : Integers) → IsAt old place p style → ways.goes (tree_of now) b None (event target (In None inner)) m) →
    WaitsOn ways now m place up i target inner new z → WaitsFrom ways old o place up i new z
waits_on ways old now new o b m z place up i target inner leads steady above comes on = λ p style at k V w r t.
    leads p style at k V w r (on b (comes p style at) old p style at steady (above p at.names) k V w r t)

-- after one that exits it ends
pub waits_out : {S : Type 0} (ways : Ways S) (old now new : Table) (o b m z : S) (place : TablePlace) (up : Height) (i : Entry) (target : Path) (inner : Entry) (e : Interruption) →
    WaitsFrom ways old o place up i now b → IsSteady old now → ((p : Path) → Names old place p → rise_to up p ≡ None) → ways.loses b m → ((p : Path) (style : Integers) → IsAt old place p style → ways.goes (tree_of now) b None (event target (In None inner)) m) →
    Breaks e (EndsBefore ways now m place up i target inner new z) → Breaks e (EndsWait ways old o place up i new z)
waits_out ways old now new o b m z place up i target inner e leads steady above loses comes out =
    Breaks-more e (EndsBefore ways now m place up i target inner new z) (EndsWait ways old o place up i new z)
    (λ r f p style at. answers_from ways style (tree_of new) z up i (depth_there old p) r (leads p style at) (f b loses (comes p style at) old p style at steady (above p at.names))) out

-- ## Calls that pass the top of the tree

-- the outside could not be told of the call
pub calls_out_lost : {S : Type 0} (ways : Ways S) (old : Table) (o z : S) (place : TablePlace) (up : Height) (down : Path) (i : Entry) (lost : Completion) (result : Result Text Interruption) (y : Interruption) → result ≡ Err y → y ≡ interruption.Memory → IsLoss ways.loses o z →
    CallsOut ways old o place up down i lost old z result
calls_out_lost ways old o z place up down i lost result y is memory loses =
    memory_err result y (λ x. Wherever old place (λ p style. Proceeds ways (language style) (tree_of old) o p (call up down i lost (finished done)) (tree_of old) z (Some (Completed (ok x)))))
    (λ e. Wherever old place (λ p style. Proceeds ways (language style) (tree_of old) o p (call up down i lost (finished done)) (tree_of old) z e)) is memory (λ p style at. stopped_by loses)

module _ {S : Type 0} (ways : Ways S) (old new : Table) (o u z : S) (place : TablePlace) (up : Height) (down : Path) (i : Entry) (lost : Completion)
    (leaves : (p : Path) → Names old place p → rise_to up p ≡ None → ways.goes (tree_of old) o None (event p (Out up down i)) u) (above : (p : Path) → Names old place p → rise_to up p ≡ None) where
  -- the call ended by what is no ordinary result, or was given up
  pub calls_out_over : (result : Result Text Interruption) (e y : Interruption) → result ≡ Err y → y ≡ e → Breaks e (EndsWait ways old u place up i new z) → CallsOut ways old o place up down i lost new z result
  calls_out_over result e y is same ends =
      ran_err result e y (λ x. Wherever old place (λ p style. Proceeds ways (language style) (tree_of old) o p (call up down i lost (finished done)) (tree_of new) z (Some (Completed (ok x)))))
      (EndsWait ways old u place up i new z) (λ r. Wherever old place (λ p style. Proceeds ways (language style) (tree_of old) o p (call up down i lost (finished done)) (tree_of new) z r)) is same ends
      (λ r h p style at. ends_out ways style up down i lost (finished done) r (λ c. refl) (above p at.names) (leaves p at.names (above p at.names)) (h p style at))

  -- or by one
  pub calls_out_on : (text : Text) → EndsWait ways old u place up i new z (Some (Completed (ok text))) → CallsOut ways old o place up down i lost new z (Ok text)
  calls_out_on text h = λ p style at. ends_out ways style up down i lost (finished done) (Some (Completed (ok text))) (λ c. refl) (above p at.names) (leaves p at.names (above p at.names)) (h p style at)

  -- or nobody is there
  pub calls_out_missed : (e : Interruption) → Interrupts e (λ r. r ≡ Completed lost) → Wherever old place (λ p style. MissesSo ways style (tree_of old) u p up i (depth_there old p) (tree_of new) z) → CallsOut ways old o place up down i lost new z (Err e)
  calls_out_missed e told h = breaks e (λ r. r ≡ Completed lost) (λ r. Wherever old place (λ p style. Proceeds ways (language style) (tree_of old) o p (call up down i lost (finished done)) (tree_of new) z r))
      (λ r is p style at. misses_out ways style up down i lost (finished done) (above p at.names) (leaves p at.names (above p at.names)) (h p style at) (at_reply is completed))
      (λ p style at. misses_out ways style up down i lost (finished done) (above p at.names) (leaves p at.names (above p at.names)) (h p style at) stopped) told
