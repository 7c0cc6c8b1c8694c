-- How far sums and answers are evaluated.
use Rattle.std.proofs.Common.{◌≡◌, inl, inr, ℕ, zero, suc, List, [], ◌∷◌, Some, None, refl, sym, ap, subst, arith}
use Rattle.std.specs.Prelude.{Result, Ok, Err, IfErr, OnOk}
use Rattle.tcl_core.specs.Paths.{Path}
use Rattle.tcl_core.specs.Endings.{Reply, ok}
use Rattle.tcl_core.specs.Endings.Reply.{Completed}
use Rattle.tcl_core.specs.Programs.{blocked, is_deep}
use Rattle.tcl_core.specs.Runs.{Ending}
use Rattle.tcl_core.specs.Trees.{Tree, Node, effect}
use Rattle.tcl_core.specs.Trees.What.{Nested, Unnested}
use Rattle.tcl_interpreter.specs.declared.builtin.Builtin.TheVariants.{Expr}
use Rattle.tcl_interpreter.specs.declared.command.Command.TheVariants as command
use Rattle.tcl_language.specs.Scripts.{commands}
use Rattle.tcl_language.specs.Table.{called}
use Rattle.tcl_language.specs.Words.{concat}
use Rattle.tcl_run.specs.Language.{language}
use Rattle.tcl_expression_evaluation.specs.AtHand.{IsNumberAtHand}
use Rattle.tcl_parser.specs.Words.{Reading}
use Rattle.tcl_prepared.specs.Views.{literal_word}
use Rattle.tcl_run.specs.Ends.{Breaks, Says, Stays, too_deep_at}
use Rattle.tcl_run.specs.Runs.{Counts, Proceeds, RefusesStep, Ways}
use Rattle.tcl_run.specs.Runs.RefusesStep.{by_limit, from_outside}
use Rattle.tcl_run.specs.declared.interruption.Interruption.{Interruption}
use Rattle.tcl_run.proofs.Endings.{Breaks-more, breaks_said}
use Rattle.tcl_run.proofs.Proceeding.{at_prog, completed}
use Rattle.tcl_text.specs.declared.integer.Integers.{Integers}
use Rattle.tcl_tree.specs.Own.{Own}
use Rattle.tcl_evaluation.specs.Hands.{AllStand, IsAnswered, IsCounted, IsSum}
use Rattle.tcl_evaluation.specs.Scripts.{read_so}
use Rattle.tcl_evaluation.proofs.Computing.{computes_kept, expr_runs, number_at_hand}
use Rattle.tcl_evaluation.proofs.Found.{call_found}
use Rattle.tcl_evaluation.proofs.HandCalling.{literal_stands, words_go}
use Rattle.tcl_evaluation.proofs.Own.{charged_own, named_own, nested_own, then_own}
use Rattle.tcl_evaluation.proofs.Steps.{charged_calls, charged_stops, command_goes, command_stays, is_over, lends, reads_end}

-- a level that is refused ends what wanted it
pub deep_stays : (n : ℕ) → Stays (Some (too_deep_at n))
deep_stays zero = λ k. refl
deep_stays (suc n) = tt

-- and so does a step
pub refused_stays : {S : Type 0} (ways : Ways S) (T U : Tree Own) (o z : S) (p : Path) (r : Reply) → RefusesStep ways.goes T o p U z r → Stays (Some r)
refused_stays ways T U o z p r (by_limit levels e f) = tt
refused_stays ways T U o z p r (from_outside e f g) = tt

pub ok_more : {A E P Q : Type 0} (r : Result A E) → OnOk r P → (P → Q) → OnOk r Q
ok_more (Ok a) h f = f h
ok_more (Err e) h f = tt

-- an interruption that isn't want of memory
pub says_breaks : {A : Type 0} (r : Result A Interruption) (P : Reply → Type 0) (Q : Ending → Type 0) → IfErr r (λ i. Says i P) → ((e : Reply) → P e → Q (Some e)) → IfErr r (λ i. Breaks i Q)
says_breaks (Ok a) P Q h f = tt
says_breaks (Err i) P Q h f = breaks_said i P Q f h

-- and how far it came
pub breaks_more : {A : Type 0} (r : Result A Interruption) (P Q : Ending → Type 0) → ((e : Ending) → P e → Q e) → IfErr r (λ i. Breaks i P) → IfErr r (λ i. Breaks i Q)
breaks_more (Ok a) P Q f h = tt
breaks_more (Err i) P Q f h = Breaks-more i P Q f h

module _ {S : Type 0} {ways : Ways S} (style : Integers) {T U V W : Tree Own} {o z : S} {p : Path} {n : Node Own} (script : Reading) (text : List ℕ) (sum : IsSum style n script text) where
  -- the step of its `expr` is counted
  sum_counts : T p ≡ Some n → blocked is_deep T p ≡ None → U ≡ effect p Nested T → Counts ways.goes U o p V z → W ≡ effect p Unnested V →
      Proceeds ways (language style) T o p (read_so script) W z (Some (Completed (ok text)))
  sum_counts there free nested counts unnested =
      let u = nested_own T U p p n nested there in
      let v = charged_own U V p p u.0 counts.counted u.1 in
      let m = then_own n (U p) (V p) u v in
      let hand : IsNumberAtHand m.0.own.chain.frames style sum.kept.nodes.items sum.number = subst (λ (x : Own). IsNumberAtHand x.chain.frames style sum.kept.nodes.items sum.number) (sym m.2) sum.at_hand in
      let run : Proceeds ways (language style) V z p (called style (sum.word ∷ sum.argument ∷ [])) V z (Some (Completed (ok text))) =
      call_found style sum.word (sum.argument ∷ []) (command.Builtin Expr) m.1 (named_own n m.0 sum.word (command.Builtin Expr) m.2 sum.named)
      (expr_runs style (sum.argument ∷ []) (omega arith) sum.short (computes_kept style (concat (sum.argument ∷ [])) sum.kept sum.is_kept (number_at_hand style style sum.kept.nodes.items sum.number text refl m.1 hand sum.comes))) in
      reads_end style script free nested unnested (at_prog (ap (λ (r : Reading). commands r.commands r.fault []) sum.is)
      (command_goes style (literal_word sum.word ∷ literal_word sum.argument ∷ []) [] None [] (ok text) text refl refl
      (lends style (sum.word ∷ sum.argument ∷ []) [] sum.within (charged_calls style (sum.word ∷ sum.argument ∷ []) (omega arith) counts run))
      (is_over style None text (Completed (ok text)) refl)))

  -- it is refused
  sum_uncounted : {r : Reply} → blocked is_deep T p ≡ None → U ≡ effect p Nested T → RefusesStep ways.goes U o p V z r → W ≡ effect p Unnested V →
      Proceeds ways (language style) T o p (read_so script) W z (Some r)
  sum_uncounted {r} free nested refused unnested =
      reads_end style script free nested unnested (at_prog (ap (λ (x : Reading). commands x.commands x.fault []) sum.is)
      (command_stays style (literal_word sum.word ∷ literal_word sum.argument ∷ []) [] None [] (Some r) (refused_stays ways U V o z p r refused)
      (lends style (sum.word ∷ sum.argument ∷ []) [] sum.within (charged_stops style (sum.word ∷ sum.argument ∷ []) (omega arith) refused))))

module _ {S : Type 0} {ways : Ways S} (style : Integers) {T U V W : Tree Own} {o z : S} {p : Path} {n : Node Own} (script : Reading) (text : List ℕ) (a : IsAnswered style n script text) where
  -- the step of its command is counted
  answer_counts : T p ≡ Some n → blocked is_deep T p ≡ None → U ≡ effect p Nested T → Counts ways.goes U o p V z → W ≡ effect p Unnested V →
      Proceeds ways (language style) T o p (read_so script) W z (Some (Completed (ok text)))
  answer_counts there free nested counts unnested =
      let u = nested_own T U p p n nested there in
      let v = charged_own U V p p u.0 counts.counted u.1 in
      let m = then_own n (U p) (V p) u v in
      let stand : AllStand u.0.own.chain.frames a.rest a.args = subst (λ (x : Own). AllStand x.chain.frames a.rest a.args) (sym u.2) a.stand in
      let run : Proceeds ways (language style) V z p (called style (a.word ∷ a.args)) V z (Some (Completed (ok text))) =
      call_found style a.word a.args (command.Builtin a.called) m.1 (named_own n m.0 a.word (command.Builtin a.called) m.2 a.named) (at_prog a.answer completed) in
      reads_end style script free nested unnested (at_prog (ap (λ (r : Reading). commands r.commands r.fault []) a.is)
      (command_goes style (literal_word a.word ∷ a.rest) [] None [] (ok text) text refl refl
      (words_go style (literal_word a.word ∷ a.rest) (a.word ∷ a.args) u.1 (literal_stands u.0.own.chain.frames (literal_word a.word) a.word refl a.short, stand)
      (charged_calls style (a.word ∷ a.args) (omega arith) counts run))
      (is_over style None text (Completed (ok text)) refl)))

  -- it is refused
  answer_uncounted : {r : Reply} → T p ≡ Some n → blocked is_deep T p ≡ None → U ≡ effect p Nested T → RefusesStep ways.goes U o p V z r → W ≡ effect p Unnested V →
      Proceeds ways (language style) T o p (read_so script) W z (Some r)
  answer_uncounted {r} there free nested refused unnested =
      let u = nested_own T U p p n nested there in
      let stand : AllStand u.0.own.chain.frames a.rest a.args = subst (λ (x : Own). AllStand x.chain.frames a.rest a.args) (sym u.2) a.stand in
      reads_end style script free nested unnested (at_prog (ap (λ (x : Reading). commands x.commands x.fault []) a.is)
      (command_stays style (literal_word a.word ∷ a.rest) [] None [] (Some r) (refused_stays ways U V o z p r refused)
      (words_go style (literal_word a.word ∷ a.rest) (a.word ∷ a.args) u.1 (literal_stands u.0.own.chain.frames (literal_word a.word) a.word refl a.short, stand)
      (charged_stops style (a.word ∷ a.args) (omega arith) refused))))

module _ {S : Type 0} {ways : Ways S} (style : Integers) {T U V W : Tree Own} {o z : S} {p : Path} {n : Node Own} (script : Reading) (text : List ℕ) where
  -- the step of either is counted
  pub counts_so : IsCounted style n script text → T p ≡ Some n → blocked is_deep T p ≡ None → U ≡ effect p Nested T → Counts ways.goes U o p V z → W ≡ effect p Unnested V →
      Proceeds ways (language style) T o p (read_so script) W z (Some (Completed (ok text)))
  counts_so (inl sum) there free nested counts unnested = sum_counts style script text sum there free nested counts unnested
  counts_so (inr answer) there free nested counts unnested = answer_counts style script text answer there free nested counts unnested

  -- it is refused
  pub uncounted_so : {r : Reply} → IsCounted style n script text → T p ≡ Some n → blocked is_deep T p ≡ None → U ≡ effect p Nested T → RefusesStep ways.goes U o p V z r → W ≡ effect p Unnested V →
      Proceeds ways (language style) T o p (read_so script) W z (Some r)
  uncounted_so (inl sum) there free nested refused unnested = sum_uncounted style script text sum free nested refused unnested
  uncounted_so (inr answer) there free nested refused unnested = answer_uncounted style script text answer there free nested refused unnested
