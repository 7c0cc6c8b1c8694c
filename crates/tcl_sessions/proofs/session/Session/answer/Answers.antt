use Rattle.std.proofs.Common.{◌≡◌, ℤ, Option, Some, None, inl, sym, subst, w64}
use Rattle.std.proofs.lemmas.Int.{to_z-of_z}
use Rattle.std.specs.Prelude.{Result, Ok, Err}
use Rattle.tcl_core.specs.Paths.{Text}
use Rattle.tcl_flow.specs.View.{completion_of}
use Rattle.tcl_sessions.specs.Calls.{Answers, GoesOn, ended_by}
use Rattle.tcl_sessions.specs.Evaluations.{Runs}
use Rattle.tcl_sessions.specs.declared.evaluation.Evaluation.{Evaluation}
use Rattle.tcl_sessions.specs.declared.outcome.Outcome.{Outcome}
use Rattle.tcl_sessions.specs.declared.refusal.Refusal.{Refusal}
use Rattle.tcl_sessions.specs.declared.session.Session.{Session}
use Rattle.tcl_sessions.proofs.session.Session.answer.Goals as goal

told : (old new : Session) (n : ℤ) (t : Text) (r : Result Outcome Refusal) → GoesOn old n t r new → Answers old n t r new
told old new n t (Ok x) g = g
told old new n t (Err f) g = inl g

pub returns : goal.returns
returns c =
    let waited : c.args.self.now.waiting ≡ Some c.in-Some.evaluation = cc in
    told c.args.self.now c.run.new.self c.args.code c.args.text c.run.result (record {
      evaluation = c.in-Some.evaluation;
      waited = waited;
      ending = c.completion_of.result;
      is = subst (λ (n : ℤ). completion_of c.completion_of.result ≡ ended_by n c.args.text) (to_z-of_z w64 c.args.code c.ranges.code) c.completion_of.ensures;
      begun = c.add.new.self;
      host = c.in_ok-add.ensures.host;
      answers = c.in_ok-add.ensures.answers;
      runs = subst (λ (x : Option Evaluation). Runs (record c.args.self.now { standing = c.add.new.self; waiting = x }) c.in-Some.evaluation c.run.result c.run.new.self) c.take.ensures.after c.run.ensures;
    })
