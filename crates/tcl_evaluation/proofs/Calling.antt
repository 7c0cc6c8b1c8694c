-- What calls of procedures come to.
use Rattle.std.proofs.Common.{◌≡◌, ℕ, true, List, ◌∷◌, Option, Some, None, refl, sym, ◌∙◌, ap, subst}
use Rattle.std.specs.Prelude.{Result, Ok, Err, nat_lt}
use Rattle.tcl_core.specs.Paths.{Path}
use Rattle.tcl_core.specs.Runs.{Ending}
use Rattle.tcl_core.specs.Endings.{Reply, ok, leave_proc}
use Rattle.tcl_core.specs.Endings.Reply.{Completed, Stop, Exit, Cut}
use Rattle.tcl_core.specs.Programs.Prog.{done}
use Rattle.tcl_core.specs.Programs.{brought_back}
use Rattle.tcl_core.specs.Trees.{Tree, Node, depth_of, effect}
use Rattle.tcl_core.specs.Trees.What.{Changed}
use Rattle.tcl_flow.specs.View.{completion_of}
use Rattle.tcl_language.specs.Control.{procedure, call_bound, runs_body, bindings, fit_all, in_frame, out_of_frame, proc_form}
use Rattle.tcl_language.specs.Faults.{wrong_args}
use Rattle.tcl_language.specs.Instructions.{either, too_long}
use Rattle.tcl_language.specs.Instructions.Instr.{Script}
use Rattle.tcl_run.specs.Language.{language}
use Rattle.tcl_language.specs.Scripts.{script}
use Rattle.tcl_run.specs.declared.interruption.Interruption.{Interruption}
use Rattle.tcl_run.specs.declared.interruption.Interruption.TheVariants as interruption
use Rattle.tcl_run.specs.Ends.{IfRan, failing}
use Rattle.tcl_run.specs.Runs.{Proceeds, Ways}
use Rattle.tcl_run.specs.Runs.IsLoss.{unlost}
use Rattle.tcl_run.proofs.Endings.{ran}
use Rattle.tcl_run.proofs.Proceeding.{at_end, at_prog, at_reply, completed, framed, framed_passed, framed_stopped, given_up_after, looks}
use Rattle.tcl_text.specs.declared.integer.Integers.{Integers}
use Rattle.tcl_tree.specs.Own.{Own}
use Rattle.tcl_tree.specs.Commands.{ProcedureView}
use Rattle.tcl_calls.specs.Procedures.{TooLongBound}
use Rattle.tcl_evaluation.specs.View.{LeavesProc}

-- how far a call came whose body came so far: it may be given up behind the body
abbrev pub Left : Ending → Ending → Type 0
Left (Some (Completed c)) None = Unit {0}
Left (Some (Completed c)) (Some f) = f ≡ Completed (leave_proc c)
Left e f = f ≡ e

pub left_more : (ended left : Result (List ℕ) Interruption) (P Q : Ending → Type 0) → IfRan ended P → LeavesProc ended left → ((e f : Ending) → P e → Left e f → Q f) → IfRan left Q
left_more (Ok text) left P Q p l k = subst (λ (x : Result (List ℕ) Interruption). IfRan x Q) (sym l) (k (Some (Completed (ok text))) (Some (Completed (ok text))) p refl)
left_more (Err interruption.Memory) left P Q p l k = subst (λ (x : Result (List ℕ) Interruption). IfRan x Q) (sym l) (k None None p refl)
left_more (Err (interruption.Completed c)) left P Q p l k =
    ran left (λ e. e ≡ Completed (leave_proc (completion_of c.value))) Q (λ f e. k (Some (Completed (completion_of c.value))) (Some f) p e) (k (Some (Completed (completion_of c.value))) None p tt) l
left_more (Err (interruption.Stopped s)) left P Q p l k = subst (λ (x : Result (List ℕ) Interruption). IfRan x Q) (sym l) (k _ _ p refl)
left_more (Err (interruption.Exited n)) left P Q p l k = subst (λ (x : Result (List ℕ) Interruption). IfRan x Q) (sym l) (k _ _ p refl)
left_more (Err (interruption.Cut c)) left P Q p l k = subst (λ (x : Result (List ℕ) Interruption). IfRan x Q) (sym l) (k _ _ p refl)

module _ {S : Type 0} {ways : Ways S} (style : Integers) where
  pub call_too_long : {T : Tree Own} {o : S} {q : Path} (p : ProcedureView) (name : List ℕ) (args : List (List ℕ)) (e : Reply) → TooLongBound (bindings p.parameters args) e → Proceeds ways (language style) T o q (procedure p name args) T o (Some e)
  call_too_long {T} {o} {q} p name args e h = by (bindings p.parameters args) h
    where
      by : (given : Option (List (List ℕ × List ℕ))) → TooLongBound given e → Proceeds ways (language style) T o q (call_bound p name (name ∷ args) given) T o (Some e)
      by None g = elim g [ ]
      by (Some bs) g = at_prog (ap (λ b. either b (runs_body p (name ∷ args) bs) (done too_long)) g.0) (at_reply g.1 completed)

  pub call_unbound : {T : Tree Own} {o : S} {q : Path} (p : ProcedureView) (name : List ℕ) (args : List (List ℕ)) (e : Reply) → bindings p.parameters args ≡ None → e ≡ Completed (failing (wrong_args (proc_form name p.parameters))) →
      Proceeds ways (language style) T o q (procedure p name args) T o (Some e)
  call_unbound p name args e none h = at_prog (ap (call_bound p name (name ∷ args)) none) (at_reply h completed)

  bodies_end : {T U V W : Tree Own} {o z : S} {q : Path} {n : Node Own} (p : ProcedureView) (words : List (List ℕ)) (bs : List (List ℕ × List ℕ)) (e f : Ending) → T q ≡ Some n → U ≡ effect q (Changed (in_frame words bs n.own)) T →
      W ≡ effect q (brought_back (nat_lt (depth_of (V q)) n.depth) out_of_frame (V q)) V → Proceeds ways (language style) U o q (script p.body) V z e → Left e f → Proceeds ways (language style) T o q (runs_body p words bs) W z f
  bodies_end p words bs (Some (Completed c)) (Some f) there u w t h = looks there (framed {i = Script p.body} there u w t (at_reply h completed))
  bodies_end {V = V} p words bs (Some (Completed c)) None there u w t h = looks there (framed_stopped {V = V} {i = Script p.body} {k = λ c. done (leave_proc c)} there u (given_up_after t unlost))
  bodies_end p words bs (Some (Stop l x)) f there u w t h = at_end h (looks there (framed_passed {i = Script p.body} {k = λ c. done (leave_proc c)} tt there u w t))
  bodies_end p words bs (Some (Exit x)) f there u w t h = at_end h (looks there (framed_passed {i = Script p.body} {k = λ c. done (leave_proc c)} tt there u w t))
  bodies_end p words bs (Some (Cut x)) f there u w t h = at_end h (looks there (framed_passed {i = Script p.body} {k = λ c. done (leave_proc c)} tt there u w t))
  bodies_end p words bs None f there u w t h = at_end h (looks there (framed_passed {i = Script p.body} {k = λ c. done (leave_proc c)} tt there u w t))

  pub call_runs : {T U V W : Tree Own} {o z : S} {q : Path} {n : Node Own} (p : ProcedureView) (name : List ℕ) (args : List (List ℕ)) (bs : List (List ℕ × List ℕ)) (e f : Ending) → bindings p.parameters args ≡ Some bs → fit_all bs ≡ true →
      T q ≡ Some n → U ≡ effect q (Changed (in_frame (name ∷ args) bs n.own)) T → W ≡ effect q (brought_back (nat_lt (depth_of (V q)) n.depth) out_of_frame (V q)) V →
      Proceeds ways (language style) U o q (script p.body) V z e → Left e f → Proceeds ways (language style) T o q (procedure p name args) W z f
  call_runs p name args bs e f given fit there u w t h =
      at_prog (ap (call_bound p name (name ∷ args)) given ∙ ap (λ b. either b (runs_body p (name ∷ args) bs) (done too_long)) fit) (bodies_end p (name ∷ args) bs e f there u w t h)
