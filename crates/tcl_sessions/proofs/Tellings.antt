-- What comes of an attempt in a session.
use Rattle.std.proofs.Common.{◌≡◌, Some, None, refl, sym, subst}
use Rattle.std.specs.Prelude.{Ok, Err}
use Rattle.tcl_eval.specs.declared.running.End.{End}
use Rattle.tcl_eval.specs.declared.running.End.TheVariants as end
use Rattle.tcl_eval.specs.declared.running.OpenEnd.{OpenEnd}
use Rattle.tcl_eval.specs.declared.running.OpenEnd.TheVariants.{Ran, CutOff}
use Rattle.tcl_sessions.specs.Evaluations.{Attempts, IsEvaluated, IsOver, IsWaiting, Runs, Shows, Tells, watched_of}
use Rattle.tcl_sessions.specs.Outcomes.{ShowsCall, ShowsEnd}
use Rattle.tcl_sessions.specs.Standing.{begun_again}
use Rattle.tcl_sessions.specs.declared.evaluation.Evaluation.{Evaluation}
use Rattle.tcl_sessions.specs.declared.evaluation.Told.{Told}
use Rattle.tcl_sessions.specs.declared.outcome.Outcome.{Outcome}
use Rattle.tcl_sessions.specs.declared.outcome.Outcome.TheVariants.{Done, Open, Stopped, Exited}
use Rattle.tcl_sessions.specs.declared.outcome.Report.{Report}
use Rattle.tcl_sessions.specs.declared.session.Session.{Session}
use Rattle.tcl_sessions.specs.declared.standing.OpenCall.{OpenCall}
use Rattle.tcl_sessions.specs.declared.standing.Standing.{Standing}
use Rattle.tcl_tree.specs.TreeOf.{marks_of, tree_of}
use Rattle.tcl_tree.specs.declared.tree.Tree.{Tree as Table}

-- no end is told as a call that is open
no_open : (e : End) (r : Report) (P : Type 0) → ShowsEnd e r → r.outcome ≡ Open → P
no_open (end.Done c) r P shows is = let o : r.outcome ≡ Done = (λ i. (shows.1 i).outcome) in cc
no_open (end.Stopped kind) r P shows is = let o : r.outcome ≡ Stopped = (λ i. (shows i).outcome) in cc
no_open (end.Exit n) r P shows is = let o : r.outcome ≡ Exited = (λ i. (shows i).outcome) in cc

-- a call that is open is told as nothing else
call_open : (call : OpenCall) (r : Report) → ShowsCall call r → r.outcome ≡ Open
call_open call r shows = λ i. (shows i).outcome

waits : (old new : Session) (e : Evaluation) (t start : Table) (z : Standing) (a : Told) (end : OpenEnd) → IsEvaluated old.tree (begun_again old.standing) e (watched_of e) t z end a.watch → Shows z end a.report → tree_of start ≡ tree_of old.tree → (marks_of start).integers ≡ (marks_of old.tree).integers → Tells (record old { tree = t; standing = z }) start e a new Open → IsWaiting old e new
waits old new e t start z a (Ran end) evaluated shows tree style told = no_open end a.report (IsWaiting old e new) shows told.0
waits old new e t start z a CutOff evaluated shows tree style told = subst (λ (n : Session). IsWaiting old e n) (sym told.1)
    (record { during = t; kept = a.watch; evaluated = evaluated; call = shows.0; stands = shows.1; shows = shows.2; tree = tree; style = style; waiting = refl; watch = refl })

over : (old new : Session) (e : Evaluation) (t : Table) (z : Standing) (a : Told) (x : Outcome) (end : OpenEnd) → IsEvaluated old.tree (begun_again old.standing) e (watched_of e) t z end a.watch → Shows z end a.report → a.report.outcome ≡ x → new ≡ record old { tree = t; standing = z; report = a.report; watch = a.watch } → (Open ≡ x → IsOver old e x new) → IsOver old e x new
over old new e t z a x (Ran end) evaluated shows is same k = subst (λ (n : Session). IsOver old e x n) (sym same)
    (record { end = end; evaluated = evaluated; shows = shows; outcome = is; waiting = refl })
over old new e t z a x CutOff evaluated shows is same k = let o = call_open shows.0 a.report shows.2 in let opens : Open ≡ x = cc in k opens

pub runs_so : (old new : Session) (e : Evaluation) (t start : Table) (z : Standing) (a : Told) (x : Outcome) → Attempts old.tree old.standing e t z (Ok a) → tree_of start ≡ tree_of old.tree → (marks_of start).integers ≡ (marks_of old.tree).integers → Tells (record old { tree = t; standing = z }) start e a new x → Runs old e (Ok x) new
runs_so old new e t start z a Open h tree style told = waits old new e t start z a h.0 h.1 h.2 tree style told
runs_so old new e t start z a Done h tree style told = over old new e t z a Done h.0 h.1 h.2 told.0 told.1 (λ k. cc)
runs_so old new e t start z a Stopped h tree style told = over old new e t z a Stopped h.0 h.1 h.2 told.0 told.1 (λ k. cc)
runs_so old new e t start z a Exited h tree style told = over old new e t z a Exited h.0 h.1 h.2 told.0 told.1 (λ k. cc)
