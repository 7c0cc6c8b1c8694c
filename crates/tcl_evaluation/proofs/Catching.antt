-- What eval and catch come to.
use Rattle.std.proofs.Common.{◌≡◌, ◌≤◌, ◌<◌, true, false, List, [], ◌∷◌, length, Some, sym, ◌∙◌, ap, subst, arith}
use Rattle.std.specs.Prelude.{Result, Ok, Err, codes}
use Rattle.tcl_core.specs.Runs.{Ending}
use Rattle.tcl_core.specs.Paths.{Text, Path}
use Rattle.tcl_core.specs.Endings.{Completion as core_completion, Reply, ok}
use Rattle.tcl_core.specs.Endings.Reply.{Completed}
use Rattle.tcl_core.specs.Programs.Prog.{done, go}
use Rattle.tcl_core.specs.Trees.{Tree}
use Rattle.tcl_flow.specs.View.{completion_of}
use Rattle.tcl_flow.specs.declared.completion.Completion.{Completion}
use Rattle.tcl_language.specs.Control.{eval, catch, code_text}
use Rattle.tcl_language.specs.Faults.{wrong_args}
use Rattle.tcl_language.specs.Instructions.{Program, fits, too_long}
use Rattle.tcl_language.specs.Instructions.Instr.{Script}
use Rattle.tcl_run.specs.Language.{language}
use Rattle.tcl_language.specs.Scripts.{script}
use Rattle.tcl_language.specs.Words.{concat}
use Rattle.tcl_run.specs.declared.interruption.Interruption.{Interruption}
use Rattle.tcl_run.specs.declared.interruption.Interruption.TheVariants as interruption
use Rattle.tcl_run.specs.Ends.{Breaks, Catches, IfRan, failing}
use Rattle.tcl_run.specs.Runs.{Proceeds, Ways}
use Rattle.tcl_run.proofs.Proceeding.{IsQuitting, at_reply, completed, goes_on, goes_done, grows, outgrows, passed}
use Rattle.tcl_text.specs.declared.integer.Integers.{Integers}
use Rattle.tcl_tree.specs.Own.{Own}
use Rattle.tcl_calls.specs.Catching.{kept_in}

-- a caught completion is how the evaluation ended
pub caught_ok : (ended : Result Text Interruption) (r : Result Completion Interruption) (c : Completion) (P : Ending → Type 0) → r ≡ Ok c → Catches ended r → IfRan ended P → P (Some (Completed (completion_of c)))
caught_ok (Ok text) (Ok d) c P e h p =
    let same : d ≡ c = cc in subst (λ (x : core_completion). P (Some (Completed x))) (sym h ∙ ap completion_of same) p
caught_ok (Ok text) (Err i) c P e h p = let clash : Err i ≡ Ok c = e in cc
caught_ok (Err interruption.Memory) r c P e h p = let clash : Err interruption.Memory ≡ Ok c = sym h ∙ e in cc
caught_ok (Err (interruption.Completed d)) r c P e h p =
    let same : Ok d.value ≡ Ok c = sym h ∙ e in let is : d.value ≡ c = cc in subst (λ (x : Completion). P (Some (Completed (completion_of x)))) is p
caught_ok (Err (interruption.Stopped s)) r c P e h p = let clash : Err (interruption.Stopped s) ≡ Ok c = sym h ∙ e in cc
caught_ok (Err (interruption.Exited n)) r c P e h p = let clash : Err (interruption.Exited n) ≡ Ok c = sym h ∙ e in cc
caught_ok (Err (interruption.Cut x)) r c P e h p = let clash : Err (interruption.Cut x) ≡ Ok c = sym h ∙ e in cc

-- what can't be caught goes further
pub caught_err : (ended : Result Text Interruption) (r : Result Completion Interruption) (i : Interruption) (P : Ending → Type 0) → r ≡ Err i → Catches ended r → IfRan ended P → Breaks i (λ e. P e × IsQuitting e)
caught_err (Ok text) (Ok d) i P e h p = let clash : Ok d ≡ Err i = e in cc
caught_err (Ok text) (Err j) i P e h p = absurd h
caught_err (Err interruption.Memory) r i P e h p = let same : Err interruption.Memory ≡ Err i = sym h ∙ e in let is : interruption.Memory ≡ i = cc in subst (λ (x : Interruption). Breaks x (λ e. P e × IsQuitting e)) is (p, tt)
caught_err (Err (interruption.Completed d)) r i P e h p = let clash : Ok d.value ≡ Err i = sym h ∙ e in cc
caught_err (Err (interruption.Stopped s)) r i P e h p = let same : Err (interruption.Stopped s) ≡ Err i = sym h ∙ e in let is : interruption.Stopped s ≡ i = cc in subst (λ (x : Interruption). Breaks x (λ e. P e × IsQuitting e)) is (p, tt)
caught_err (Err (interruption.Exited n)) r i P e h p = let same : Err (interruption.Exited n) ≡ Err i = sym h ∙ e in let is : interruption.Exited n ≡ i = cc in subst (λ (x : Interruption). Breaks x (λ e. P e × IsQuitting e)) is (p, tt)
caught_err (Err (interruption.Cut c)) r i P e h p = let same : Err (interruption.Cut c) ≡ Err i = sym h ∙ e in let is : interruption.Cut c ≡ i = cc in subst (λ (x : Interruption). Breaks x (λ e. P e × IsQuitting e)) is (p, tt)

-- what catch does with what was caught
abbrev pub told : List Text → core_completion → Program
told names c = kept_in names c (done (ok (code_text c)))

module _ {S : Type 0} {ways : Ways S} (style : Integers) where
  -- ## eval

  pub eval_runs : {T V : Tree Own} {o z : S} {p : Path} {r : Ending} (args : List Text) → 1 ≤ length args → fits (concat args) ≡ true →
      Proceeds ways (language style) T o p (script (concat args)) V z r → Proceeds ways (language style) T o p (eval args) V z r
  eval_runs [] h f t = absurd (omega arith)
  eval_runs (a ∷ args) h f t = grows (concat (a ∷ args)) (λ text. go (Script text) done) f (goes_done {i = Script (concat (a ∷ args))} t)

  pub eval_long : {T : Tree Own} {o : S} {p : Path} {r : Reply} (args : List Text) → 1 ≤ length args → fits (concat args) ≡ false → r ≡ Completed too_long → Proceeds ways (language style) T o p (eval args) T o (Some r)
  eval_long [] h f e = absurd (omega arith)
  eval_long (a ∷ args) h f e = outgrows (concat (a ∷ args)) (λ text. go (Script text) done) f e

  pub eval_none : {T : Tree Own} {o : S} {p : Path} {r : Reply} (args : List Text) → length args < 1 → r ≡ Completed (failing (wrong_args (codes "eval arg ?arg ...?"))) → Proceeds ways (language style) T o p (eval args) T o (Some r)
  eval_none [] h e = at_reply e completed
  eval_none (a ∷ args) h e = absurd (omega arith)

  -- ## catch

  pub catch_goes : {T U V : Tree Own} {o u z : S} {p : Path} {r : Ending} (text : Text) (names : List Text) (c : core_completion) → length names ≤ 2 →
      Proceeds ways (language style) T o p (script text) U u (Some (Completed c)) → Proceeds ways (language style) U u p (told names c) V z r → Proceeds ways (language style) T o p (catch (text ∷ names)) V z r
  catch_goes text [] c h t s = goes_on {i = Script text} t s
  catch_goes text (a ∷ []) c h t s = goes_on {i = Script text} t s
  catch_goes text (a ∷ b ∷ []) c h t s = goes_on {i = Script text} t s
  catch_goes text (a ∷ b ∷ d ∷ rest) c h t s = absurd (omega arith)

  pub catch_passes : {T U : Tree Own} {o u : S} {p : Path} {r : Ending} (text : Text) (names : List Text) → length names ≤ 2 → IsQuitting r →
      Proceeds ways (language style) T o p (script text) U u r → Proceeds ways (language style) T o p (catch (text ∷ names)) U u r
  catch_passes text [] h q t = passed q t
  catch_passes text (a ∷ []) h q t = passed q t
  catch_passes text (a ∷ b ∷ []) h q t = passed q t
  catch_passes text (a ∷ b ∷ d ∷ rest) h q t = absurd (omega arith)

  pub catch_none : {T : Tree Own} {o : S} {p : Path} {r : Reply} (args : List Text) → length args < 1 → r ≡ Completed (failing (wrong_args (codes "catch script ?resultVarName? ?optionVarName?"))) → Proceeds ways (language style) T o p (catch args) T o (Some r)
  catch_none [] h e = at_reply e completed
  catch_none (a ∷ args) h e = absurd (omega arith)

  pub catch_many : {T : Tree Own} {o : S} {p : Path} {r : Reply} (text : Text) (names : List Text) → 2 < length names → r ≡ Completed (failing (wrong_args (codes "catch script ?resultVarName? ?optionVarName?"))) → Proceeds ways (language style) T o p (catch (text ∷ names)) T o (Some r)
  catch_many text [] h e = absurd (omega arith)
  catch_many text (a ∷ []) h e = absurd (omega arith)
  catch_many text (a ∷ b ∷ []) h e = absurd (omega arith)
  catch_many text (a ∷ b ∷ d ∷ rest) h e = at_reply e completed
