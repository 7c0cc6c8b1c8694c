use Rattle.std.proofs.Common.{ℕ, List, Option}
use Rattle.std.specs.Option.{option_copied}
use Rattle.std.specs.Prelude.{Result, Ok, Err, IfOk}
use Rattle.tcl_c.specs.Acts.{Evals, IsPlan}
use Rattle.tcl_sessions.specs.Evaluations.{Evaluates}
use Rattle.tcl_sessions.specs.declared.evaluation.Evaluation.{Evaluation}
use Rattle.tcl_sessions.specs.declared.outcome.Outcome.{Outcome}
use Rattle.tcl_sessions.specs.declared.refusal.Refusal.{Refusal}
use Rattle.tcl_sessions.specs.declared.session.Session.{Session}
use Rattle.tcl_c.proofs.evaluation.eval.Goals as goal

told : (r : Result Outcome Refusal) (s z : Session) (e : Evaluation) (p t : List ℕ) (n : ℕ) (w : Option (List ℕ)) → IsPlan p t n w e → Evaluates s e r z → IfOk r (λ x. Evals p t n w x s z)
told (Ok x) s z e p t n w is h = record { plan = e; is = is; evaluated = h }
told (Err f) s z e p t n w is h = tt

pub returns-clause-done : goal.returns-clause-done
returns-clause-done c =
    told c.evaluate.result c.args.session.now c.evaluate.new.self c.in_ok-evaluation.evaluation c.args.path.now c.args.script.now c.args.limit (option_copied c.args.watched) c.in_ok-evaluation.ensures c.evaluate.ensures
