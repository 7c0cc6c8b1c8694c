-- What the host was asked by a run with a recorder that was given up on its way.
use Rattle.std.proofs.Common.{◌≡◌, ◌∙◌, ℕ, ◌+◌, true, [], Option, None, Some, refl, ap, sym, subst}
use Rattle.std.specs.Prelude.{Result, Ok, Err, IfErr, IfNone, IfOk, IsErrOf, is_some}
use Rattle.tcl_core.specs.Entries.Entry.{Eval}
use Rattle.tcl_core.specs.Execution.{Crossings}
use Rattle.tcl_core.specs.Paths.{Path, Text}
use Rattle.tcl_core.specs.Trees.{Node, effect}
use Rattle.tcl_core.specs.Trees.What.{Limited}
use Rattle.tcl_eval.specs.Running.{AsksFirst, IsGivenUp, IsUncut, ran_of, root_count}
use Rattle.tcl_eval.specs.declared.running.OpenEnd.{OpenEnd}
use Rattle.tcl_eval.specs.declared.running.OpenEnd.TheVariants as open_end
use Rattle.tcl_eval.specs.declared.running.End.{End}
use Rattle.tcl_eval.specs.declared.running.Refused.{Refused}
use Rattle.tcl_eval.specs.declared.running.Refused.TheVariants as refused
use Rattle.tcl_host.specs.declared.reply.HostReply.{HostReply}
use Rattle.tcl_host.specs.declared.request.Request.{Request}
use Rattle.tcl_language.specs.Table.{serve}
use Rattle.tcl_run.specs.Language.{language}
use Rattle.tcl_partial_runs.specs.Beginnings.{Begun}
use Rattle.tcl_partial_runs.specs.Beginnings.Begun.{stopped}
use Rattle.tcl_recorder.proofs.GivenUp.{given_up_unwatched}
use Rattle.tcl_recorder.specs.Records.{RecordView}
use Rattle.tcl_recorder.specs.Recording.{recorded}
use Rattle.tcl_recorder.specs.declared.recorder.Recorder.{Recorder}
use Rattle.tcl_replay.specs.Watched.{IfRefused}
use Rattle.tcl_replay.specs.declared.watching.Unwatched.{Unwatched}
use Rattle.tcl_replay.specs.declared.watching.Unwatched.TheVariants as unwatched
use Rattle.tcl_run.proofs.Losing.{not_at_all}
use Rattle.tcl_run.proofs.Steady.{stands}
use Rattle.tcl_run.specs.Outsides.{hosted}
use Rattle.tcl_run.specs.Runs.{IsLoss, ways}
use Rattle.tcl_run.specs.Runs.IsLoss.{unlost, lost}
use Rattle.tcl_run_laws.proofs.Beginning.{script_begins}
use Rattle.tcl_tree.specs.Own.{Own}
use Rattle.tcl_tree.specs.TreeOf.{marks_of, tree_of}
use Rattle.tcl_tree.specs.declared.tree.Tree.{Tree as Table}

-- of a recorder's host nothing is lost
abbrev same_held : {S : Type 0} → Recorder S → Recorder S → Type 0
same_held {S} o z = IsLoss (λ (a b : S). b ≡ a) o.outside z.outside

held : {S : Type 0} {o z : Recorder S} → IsLoss (λ (a b : Recorder S). same_held a b) o z → z.outside ≡ o.outside
held unlost = refl
held {S} {o} (lost {u = u} {z = z} b l) =
    let once : IsLoss (λ (a b : S). b ≡ a) u.outside z.outside = l in
    not_at_all once ∙ held b

module _ {S : Type 0} (step : S → Request → HostReply → S → Type 0) (old : Table) (path : Path) (script : Text) (most : ℕ) where
  -- it was given up on its way, with a host as the outside
  abbrev pub Lost : S → S → Type 0
  Lost o z = IsGivenUp (ways (hosted step) (λ (a b : S). b ≡ a)) old o path script most z

  -- the same with a recorder that holds the host
  abbrev pub LostHeld : Recorder S → Recorder S → Type 0
  LostHeld o z = IsGivenUp (ways (recorded (hosted step)) (λ (a b : Recorder S). same_held a b)) old o path script most z

  abbrev Goes_on : S → S → Type 0
  Goes_on o z = Begun (Crossings (hosted step)) (language (marks_of old).integers) (effect [] (Limited (Some most)) (tree_of old)) o path (serve (marks_of old).integers (Eval script)) z

  pub not_begun : (o : S) → Lost o o
  not_begun o = record { last = o; begun = stopped; lost = unlost }

  pub unwatched_so : (o z : Recorder S) (h : S) → o.outside ≡ h → LostHeld o z → Lost h z.outside
  unwatched_so o z h same g = record {
    last = g.last.outside;
    begun = subst (λ (u : S). Goes_on u g.last.outside) same
        (given_up_unwatched (hosted step) (language (marks_of old).integers) (effect [] (Limited (Some most)) (tree_of old)) o g.last path (serve (marks_of old).integers (Eval script)) g.begun);
    lost = subst (λ (u : S). IsLoss (λ (a b : S). b ≡ a) g.last.outside u) (sym (held g.lost)) unlost;
  }

  pub if_unwatched : {E : Type 0} (r : Result E Refused) (u : Option Refused) (o z : Recorder S) (h : S) → u ≡ None → o.outside ≡ h → IfNone u (IfErr r (λ _. LostHeld o z)) → IfErr r (λ _. Lost h z.outside)
  if_unwatched (Ok e) u o z h fit same g = tt
  if_unwatched (Err e) None o z h fit same g = unwatched_so o z h same g
  if_unwatched (Err e) (Some f) o z h fit same g = let clash : Some f ≡ None = fit in absurd cc

-- what is said of a refusal is said of it where no outside ended the run
pub if_refusal : (r : Result OpenEnd Refused) (P : Type 0) → IsUncut r → IfErr r (λ _. P) → IfErr (ran_of r) (λ _. P)
if_refusal (Ok (open_end.Ran e)) P u p = tt
if_refusal (Ok open_end.CutOff) P u p = elim u [ ]
if_refusal (Err e) P u p = p

pub if_memory : (r : Result OpenEnd Refused) → IsUncut r → (u : Option Refused) → u ≡ None → IfNone u (IfErr r (λ e. e ≡ refused.Memory)) → IfErr (ran_of r) (λ e. e ≡ refused.Memory)
if_memory (Ok (open_end.Ran e)) c u fit p = tt
if_memory (Ok open_end.CutOff) c u fit p = elim c [ ]
if_memory (Err e) c None fit p = p
if_memory (Err e) c (Some f) fit p = let clash : Some f ≡ None = fit in absurd cc

pub if_ended : (r : Result OpenEnd Refused) (P : Type 0) → IfOk r (λ _. P) → IfOk (ran_of r) (λ _. P)
if_ended (Ok (open_end.Ran e)) P p = p
if_ended (Ok open_end.CutOff) P p = tt
if_ended (Err e) P p = tt

-- ## What the host was asked

module _ {S : Type 0} (step : S → Request → HostReply → S → Type 0) (old : Table) (o : S) (path : Path) (script : Text) (limit : ℕ) (z : S) where
  asks_first : is_some (tree_of old path) ≡ true → Lost step old path script (root_count old + limit) o z → AsksFirst step old o path script limit z
  asks_first there g =
      let n : (n : Node Own) × (tree_of old path ≡ Some n) = stands (tree_of old path) there in
      subst (λ (u : S). AsksFirst step old o path script limit u) (sym (not_at_all g.lost)) (script_begins step (marks_of old).integers (tree_of old) path script limit n.0 n.1 g.begun)

  pub if_refused_so : (r : Result (End × RecordView) Unwatched) → is_some (tree_of old path) ≡ true → IfRefused r (λ _. Lost step old path script (root_count old + limit) o z) → IfRefused r (λ _. AsksFirst step old o path script limit z)
  if_refused_so (Ok x) there g = tt
  if_refused_so (Err (unwatched.Deleted d)) there g = tt
  if_refused_so (Err (unwatched.Refused f)) there g = asks_first there g
