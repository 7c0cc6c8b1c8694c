-- What is a run over a host as an outside is a run with the host, and the whole evaluation.
use Rattle.std.proofs.Common.{◌≡◌, ◌∙◌, ℕ, ◌+◌, Bool, true, false, [], Option, None, Some, refl, sym, ap, subst}
use Rattle.std.specs.Prelude.{Result, Ok, Err, IfErr, IfNone, IfOk, IfSome, IsErrOf, is_some, nat_le}
use Rattle.tcl_core.specs.Endings.{Reply}
use Rattle.tcl_run_laws.specs.BudgetLaws.{ScriptsKeepBudgets}
use Rattle.tcl_run_laws.proofs.Tables.{orderly}
use Rattle.tcl_core.specs.Entries.Entry.{Eval}
use Rattle.tcl_core.specs.Lives.{End as Ending, Whole, unlimited}
use Rattle.tcl_core.specs.Paths.{Path, Text}
use Rattle.tcl_core.specs.Trees.{Tree, Node, effect}
use Rattle.tcl_core.specs.Trees.What.{Limited}
use Rattle.tcl_core.proofs.PathLaws.{not_both, Some-inj}
use Rattle.tcl_host.specs.declared.reply.HostReply.{HostReply}
use Rattle.tcl_host.specs.declared.request.Request.{Request}
use Rattle.tcl_run_laws.specs.Language.{leaves_steps}
use Rattle.tcl_run_laws.specs.HostLaws.{WholeRun}
use Rattle.tcl_run_laws.proofs.Limiting.{language_keeps_tops}
use Rattle.tcl_run_laws.proofs.HostedWholes.{whole_run}
use Rattle.tcl_language.specs.Instructions.{fits}
use Rattle.tcl_run.specs.Language.{language}
use Rattle.tcl_language.specs.Table.{serve}
use Rattle.tcl_run.specs.Outsides.{hosted}
use Rattle.tcl_run.specs.Runs.{Comes, ways}
use Rattle.tcl_run.proofs.Losing.{not_at_all}
use Rattle.tcl_run.proofs.Steady.{stands}
use Rattle.tcl_text.specs.declared.integer.Integers.{Integers}
use Rattle.tcl_tree.specs.Own.{Own}
use Rattle.tcl_tree.specs.TreeOf.{tree_of, marks_of}
use Rattle.tcl_tree.specs.declared.tree.Tree.{Tree as Table}
use Rattle.tcl_tree.proofs.CoreLemmas.{top_there}
use Rattle.tcl_run_laws.proofs.Beginning.{script_begins}
use Rattle.tcl_eval.specs.Running.{AsksFirst, IsBudgeted, IsGivenUp, IsOpenRun, IsRun, IsUncut, IsWhole, ending_of, first_of, most_steps, ran_of, root_count, unfit}
use Rattle.tcl_eval.specs.declared.running.End.{End}
use Rattle.tcl_eval.specs.declared.running.OpenEnd.{OpenEnd}
use Rattle.tcl_eval.specs.declared.running.OpenEnd.TheVariants as open_end
use Rattle.tcl_eval.specs.declared.running.Refused.{Refused}
use Rattle.tcl_eval.specs.declared.running.Refused.TheVariants as refused

module _ {S : Type 0} (step : S → Request → HostReply → S → Type 0) (old : Table) (o : S) (path : Path) (script : Text) (most : ℕ) (new : Table) (z : S) where
  -- the host is told nothing of the end
  is_hosted : (e : End) → IsOpenRun (hosted step) old o path script most new z (open_end.Ran e) → IsRun (hosted step) old o path script most new z e
  is_hosted e run = record {
    during = run.during;
    reply = run.reply;
    runs = subst (λ (u : S). Comes (hosted step) (language (marks_of old).integers) (effect [] (Limited (Some most)) (tree_of old)) o path (serve (marks_of old).integers (Eval script)) run.during u run.reply) (sym run.told) run.runs;
    after = run.after;
    ends = run.ends;
  }

  pub if_hosted : (r : Result OpenEnd Refused) → IfOk r (IsOpenRun (hosted step) old o path script most new z) → IfOk (ran_of r) (IsRun (hosted step) old o path script most new z)
  if_hosted (Ok (open_end.Ran e)) run = is_hosted e run
  if_hosted (Ok open_end.CutOff) run = tt
  if_hosted (Err e) run = tt

-- what holds of an end that there is, or of a refusal
pub if_ran : (r : Result OpenEnd Refused) (P : Type 0) → IfOk r (λ _. P) → IfOk (ran_of r) (λ _. P)
if_ran (Ok (open_end.Ran e)) P p = p
if_ran (Ok open_end.CutOff) P p = tt
if_ran (Err e) P p = tt

pub if_refused : (r : Result OpenEnd Refused) (P : Refused → Type 0) → IsUncut r → IfErr r P → IfErr (ran_of r) P
if_refused (Ok (open_end.Ran e)) P u p = tt
if_refused (Ok open_end.CutOff) P u p = elim u [ ]
if_refused (Err e) P u p = p

-- the same where nothing stood in its way
pub if_unrefused : (o : Option Refused) (r : Result OpenEnd Refused) (P : Refused → Type 0) → IsUncut r → IfNone o (IfErr r P) → IfNone o (IfErr (ran_of r) P)
if_unrefused None r P u p = if_refused r P u p
if_unrefused (Some f) r P u p = tt

pub if_unfit : (o : Option Refused) (r : Result OpenEnd Refused) → IfSome o (λ e. r ≡ Err e) → IfSome o (λ e. ran_of r ≡ Err e)
if_unfit None r p = tt
if_unfit (Some f) r p = ap ran_of p

pub if_broken : (r : Result OpenEnd Refused) (P : Type 0) → IsUncut r → (IsErrOf r refused.Memory → P) → IsErrOf (ran_of r) refused.Memory → P
if_broken (Ok (open_end.Ran e)) P u p m = let clash : ◌≡◌ {A = Result End Refused} (Ok e) (Err refused.Memory) = m in absurd cc
if_broken (Ok open_end.CutOff) P u p m = elim u [ ]
if_broken (Err e) P u p m =
    let told : ◌≡◌ {A = Result End Refused} (Err e) (Err refused.Memory) = m in
    let same : e ≡ refused.Memory = cc in p (ap Err same)

-- ## The whole evaluation

module _ {S : Type 0} (step : S → Request → HostReply → S → Type 0) (old : Table) (o : S) (path : Path) (script : Text) (limit : ℕ) (new : Table) (z : S) where
  whole_so : (during : Tree Own) (reply : Reply) → is_some (tree_of old path) ≡ true →
      Comes (hosted step) (language (marks_of old).integers) (effect [] (Limited (Some (root_count old + limit))) (tree_of old)) o path (serve (marks_of old).integers (Eval script)) during z reply →
      WholeRun step (language (marks_of old).integers) (tree_of old) path script limit o during z reply
  whole_so during reply there runs =
      let style : Integers = (marks_of old).integers in
      let n : (n : Node Own) × (tree_of old path ≡ Some n) = stands (tree_of old path) there in
      whole_run step leaves_steps (language style) (tree_of old) during o z path script limit reply n.0 (language_keeps_tops style) (stands (tree_of old []) (top_there old)) n.1 runs

  is_whole : (e : End) → is_some (tree_of old path) ≡ true → IsRun (hosted step) old o path script (root_count old + limit) new z e → IsWhole step old o path script limit new z e
  is_whole e there run =
      let style : Integers = (marks_of old).integers in
      let w : WholeRun step (language style) (tree_of old) path script limit o run.during z run.reply = whole_so run.during run.reply there run.runs in
      let same : w.ending ≡ ending_of e = Some-inj w.ending (sym w.ends ∙ run.ends) in
      record {
        replies = w.replies;
        outs = w.outs;
        whole = subst (λ (T : Tree Own). Whole (language style) (tree_of old) path script limit w.replies (ending_of e) w.outs T) (sym run.after)
            (subst (λ (x : Ending). Whole (language style) (tree_of old) path script limit w.replies x w.outs (unlimited (tree_of old) run.during)) same w.whole);
        belongs = w.belongs;
      }

  -- nobody stands where a run is refused
  fits_there : (r : Result OpenEnd Refused) (e : OpenEnd) → r ≡ Ok e → IfSome (unfit old path script limit) (λ x. r ≡ Err x) → is_some (tree_of old path) ≡ true
  fits_there r e ended why = by (marks_of old).broken (is_some (tree_of old path)) (nat_le (root_count old + limit) most_steps) (fits script) why
    where
      clash : {A : Type 0} (x : Refused) → r ≡ Err x → A
      clash x f = let g : ◌≡◌ {A = Result OpenEnd Refused} (Ok e) (Err x) = sym ended ∙ f in absurd cc

      by : (b t c s : Bool) → IfSome (first_of b t c s) (λ x. r ≡ Err x) → t ≡ true
      by true t c s f = clash refused.Broken f
      by false true c s f = refl
      by false false c s f = clash refused.NoInterpreter f

  pub if_whole : (r : Result OpenEnd Refused) → IfSome (unfit old path script limit) (λ x. r ≡ Err x) → IfOk r (IsOpenRun (hosted step) old o path script (root_count old + limit) new z) → IfOk (ran_of r) (IsWhole step old o path script limit new z)
  if_whole (Ok (open_end.Ran e)) why run = is_whole e (fits_there (Ok (open_end.Ran e)) (open_end.Ran e) refl why) (is_hosted step old o path script (root_count old + limit) new z e run)
  if_whole (Ok open_end.CutOff) why run = tt
  if_whole (Err e) why run = tt

  -- a host ends no run
  never_cut : (r : Result OpenEnd Refused) → r ≡ Ok open_end.CutOff → IfSome (unfit old path script limit) (λ x. r ≡ Err x) → IsOpenRun (hosted step) old o path script (root_count old + limit) new z open_end.CutOff → Prim.⊥
  never_cut r is why run =
      let runs = subst (λ (u : S). Comes (hosted step) (language (marks_of old).integers) (effect [] (Limited (Some (root_count old + limit))) (tree_of old)) o path (serve (marks_of old).integers (Eval script)) run.during u run.reply) (sym run.told) run.runs in
      let w = whole_so run.during run.reply (fits_there r open_end.CutOff is why) runs in
      not_both run.ends w.ends

  pub is_uncut : (r : Result OpenEnd Refused) → IfSome (unfit old path script limit) (λ x. r ≡ Err x) → IfOk r (IsOpenRun (hosted step) old o path script (root_count old + limit) new z) → IsUncut r
  is_uncut (Ok (open_end.Ran e)) why run = tt
  is_uncut (Ok open_end.CutOff) why run = never_cut (Ok open_end.CutOff) refl why run
  is_uncut (Err f) why run = tt

  -- it keeps all budgets, as each whole evaluation in a table of interpreters does
  is_budgeted : ScriptsKeepBudgets → (e : End) → IsWhole step old o path script limit new z e → IsBudgeted step old o path script limit new z e
  is_budgeted law e w = record {
    whole = w;
    budget = law (marks_of old).integers (tree_of old) (tree_of new) path script limit w.replies (ending_of e) w.outs w.whole (orderly old);
  }

  pub if_budgeted : {E : Type 0} → ScriptsKeepBudgets → (r : Result End E) → IfOk r (IsWhole step old o path script limit new z) → IfOk r (IsBudgeted step old o path script limit new z)
  if_budgeted law (Ok e) w = is_budgeted law e w
  if_budgeted law (Err e) w = tt

-- ## An evaluation that was given up

module _ {S : Type 0} (step : S → Request → HostReply → S → Type 0) (old : Table) (o : S) (path : Path) (script : Text) (limit : ℕ) (z : S) where
  -- the host's state is the last one there
  abbrev Lost : Type 0
  Lost = IsGivenUp (ways (hosted step) (λ (a b : S). b ≡ a)) old o path script (root_count old + limit) z

  asks_first : is_some (tree_of old path) ≡ true → Lost → AsksFirst step old o path script limit z
  asks_first there g =
      let n : (n : Node Own) × (tree_of old path ≡ Some n) = stands (tree_of old path) there in
      subst (λ (u : S). AsksFirst step old o path script limit u) (sym (not_at_all g.lost)) (script_begins step (marks_of old).integers (tree_of old) path script limit n.0 n.1 g.begun)

  if_asked_there : (r : Result OpenEnd Refused) → is_some (tree_of old path) ≡ true → IfErr r (λ _. Lost) → IfErr r (λ _. AsksFirst step old o path script limit z)
  if_asked_there (Ok e) there g = tt
  if_asked_there (Err e) there g = asks_first there g

  pub if_asked : (r : Result OpenEnd Refused) → IfNone (unfit old path script limit) (IfErr r (λ _. Lost)) → IfNone (unfit old path script limit) (IfErr r (λ _. AsksFirst step old o path script limit z))
  if_asked r g = by (marks_of old).broken (is_some (tree_of old path)) (nat_le (root_count old + limit) most_steps) (fits script) refl g
    where
      by : (b t c s : Bool) → is_some (tree_of old path) ≡ t → IfNone (first_of b t c s) (IfErr r (λ _. Lost)) → IfNone (first_of b t c s) (IfErr r (λ _. AsksFirst step old o path script limit z))
      by true t c s e f = tt
      by false false c s e f = tt
      by false true false s e f = tt
      by false true true false e f = tt
      by false true true true e f = if_asked_there r e f
