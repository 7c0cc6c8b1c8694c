-- What comes of a script with a host is its whole evaluation.
use Rattle.std.proofs.Common.{◌≡◌, refl, sym, ◌∙◌, ap, subst, arith, ℕ, Bool, ◌+◌, ◌-◌, ◌≤◌, List, [], ◌∷◌, ◌++◌, Some, None}
use Rattle.tcl_core.specs.Endings.{Reply}
use Rattle.tcl_core.specs.Endings.Reply.{Completed, Stop, Exit, Cut}
use Rattle.tcl_core.specs.Entries.Entry.{Eval}
use Rattle.tcl_core.specs.Laws.{KeepsTop}
use Rattle.tcl_core.specs.Lives.{End, Whole, alone, comes, count_at, end_at, limit_at, limited, outs_of, unlimited}
use Rattle.tcl_core.specs.Paths.{Path, Text}
use Rattle.tcl_core.specs.Programs.{Prog, Table, Wait}
use Rattle.tcl_core.specs.Rules.{Derives}
use Rattle.tcl_core.specs.Runs.{Runs, Visits}
use Rattle.tcl_core.specs.Execution.{Chain, Crossings, Executes, event, more, none}
use Rattle.tcl_core.specs.Trees.{Event, Node, Tree}
use Rattle.tcl_core.specs.Trees.Grants.{Budget}
use Rattle.tcl_core.specs.Trees.What.{In, Done}
use Rattle.tcl_core.specs.Trees.Move.{Enter}
use Rattle.tcl_core.specs.Views.{steps_of}
use Rattle.tcl_core.proofs.Budgets.{budgeted, derived_budget}
use Rattle.tcl_core.proofs.Following.{Rest, Says, ahead, called_on, chain-append, follows, handed, handed-all, handed-append}
use Rattle.tcl_core.proofs.RuleLaws.{derived_runs}
use Rattle.tcl_core.proofs.Unended.{NotCut}
use Rattle.tcl_core.proofs.Callers.{fit}
use Rattle.tcl_run_laws.specs.HostLaws.{WholeRun}
use Rattle.tcl_run_laws.specs.Limits.{HasTop, KeepTops}
use Rattle.tcl_host.specs.declared.reply.HostReply.{HostReply as TheirReply}
use Rattle.tcl_host.specs.declared.request.Request.{Request as TheirRequest}
use Rattle.tcl_run.specs.Outsides.{Going, hosted}
use Rattle.tcl_tree.specs.Own.{Own}
use Rattle.tcl_run_laws.proofs.Counted.{comes_keeps, steps_within}
use Rattle.tcl_run_laws.proofs.Holding.{Hosts, ends, holding, hosts, keeps_call}
use Rattle.tcl_run_laws.proofs.Hosted.{Held, calm, entry_limits, held}
use Rattle.tcl_run_laws.proofs.Limiting.{language_keeps_tops}
use Rattle.tcl_run_laws.proofs.Nearness.{limited_top}
use Rattle.tcl_run_laws.proofs.Orders.{still_there}
use Rattle.tcl_run_laws.proofs.Taping.{Taped, all_written, tapes, unwritten}
use Rattle.tcl_run_laws.specs.Language.{leaves_steps}
use Rattle.tcl_run.specs.Language.{language}
use Rattle.tcl_language.specs.Table.{serve}
use Rattle.tcl_text.specs.declared.integer.Integers.{Integers}

-- an end that is none from outside is one of the whole
ending_at : (p : Path) (r : Reply) → NotCut r → (e : End) × (end_at p r ≡ Some e)
ending_at p (Completed c) f = (_, refl)
ending_at p (Stop n m) f = (_, refl)
ending_at p (Exit n) f = (_, refl)
ending_at p (Cut c) f = absurd f

module _ {I S : Type 0} (step : S → TheirRequest → TheirReply → S → Type 0) (fine : I → Bool) (prog : Table Own I) (T V : Tree Own) (o z : S) (p : Path) (s : Text) (n : ℕ) (r : Reply) where
  abbrev script : Prog Own I
  script = prog.entry (Eval s)

  abbrev last : Event Own
  last = event p (Done None r)

  -- what is left when the entry has come to its end
  abbrev leaving : Rest Own
  leaving = record { moves = []; words = []; tape = last ∷ [] }

  -- all that happens in the entry, and its end, belongs to the host
  belonging : NotCut r → (τ : List (Event Own)) → Chain (keeps_call step) [] (limited n T) (holding o None) τ [] V (holding z None) → Hosts step (holding o None) (τ ++ last ∷ []) z
  belonging f τ c = hosts step (limited n T) V (holding o None) (holding z None) (τ ++ last ∷ []) (chain-append (keeps_call step) c (more (ends None r refl refl f refl refl) none)) refl

  module _ (τ : List (Event Own)) (d : Derives prog (ahead (limited n T) τ leaving) p script (ahead V [] leaving) (Some r)) (h : Hosts step (holding o None) (τ ++ last ∷ []) z) where
    handed_in : handed τ [] ≡ comes h.replies
    handed_in = sym (handed-append τ (last ∷ []) []) ∙ handed-all (τ ++ last ∷ []) ∙ h.moves

    few : HasTop T → steps_of (τ ++ last ∷ []) ≤ n
    few root = steps_within prog T n p script (ahead (limited n T) τ leaving) (ahead V [] leaving) r root refl (subst KeepsTop (sym handed_in) (comes_keeps Own h.replies)) h.spared h.lowering (derived_runs prog d) refl

    abbrev more_steps : ℕ
    more_steps = n - steps_of (τ ++ last ∷ [])

    -- as the budget is read
    within_budget : HasTop T → Runs prog (alone (limited n T) (comes h.replies) n (τ ++ last ∷ [])) p script (budgeted more_steps (ahead V [] leaving)) (Some r)
    within_budget root =
        let le : steps_of (τ ++ last ∷ []) ≤ n = few root in
        let sum : steps_of (τ ++ last ∷ []) + more_steps ≡ n = omega (arith, le) in
        let same : budgeted more_steps (ahead (limited n T) τ leaving) ≡ alone (limited n T) (comes h.replies) n (τ ++ last ∷ []) =
        (λ i. record { tree = limited n T; moves = handed_in i; grants = Budget (sum i); tape = τ ++ last ∷ [] }) in
        subst (λ w. Runs prog w p script (budgeted more_steps (ahead V [] leaving)) (Some r)) same (derived_runs prog (derived_budget prog more_steps d h.uncut r refl))

    visit : HasTop T → (here : Node Own) → limited n T p ≡ Some here → Visits prog (Runs prog) (alone (limited n T) (Enter p (Eval s) ∷ comes h.replies) n (event p (In None (Eval s)) ∷ (τ ++ last ∷ []))) None p (Eval s)
        (record { tree = V; moves = []; grants = Budget (steps_of (last ∷ []) + more_steps); tape = [] }) (Some r)
    visit root here there = record {
      node = here;
      stands = there;
      entered = alone (limited n T) (comes h.replies) n (τ ++ last ∷ []);
      left = budgeted more_steps (ahead V [] leaving);
      entry = record { tape = refl; tree = refl; moves = refl; grants = refl };
      run = within_budget root;
      leaving = record { tape = refl; tree = refl; moves = refl; grants = refl };
    }

    whole : HasTop T → (here : Node Own) → limited n T p ≡ Some here → (e : End) → end_at p r ≡ Some e → Whole prog T p s n h.replies e (outs_of (τ ++ last ∷ [])) (unlimited T V)
    whole root here there e is = record {
      tape = event p (In None (Eval s)) ∷ (τ ++ last ∷ []);
      last = record { tree = V; moves = []; grants = Budget (steps_of (last ∷ []) + more_steps); tape = [] };
      reply = r;
      run = visit root here there;
      all_read = refl;
      all_done = refl;
      ends = is;
      told = refl;
      left = refl;
    }

-- The run, and the whole evaluation with the same tape: what happens in the entry takes the outside from one state to the other.
pub record WholeTape {I S R : Type 0} (step : S → TheirRequest → TheirReply → S → Type 0) (goes : Going R) (host_of : R → S) (prog : Table Own I) (T : Tree Own) (p : Path) (s : Text) (n : ℕ) (o : R) (V : Tree Own) (z : R) (r : Reply) : Type 0 where
  pub tape : List (Event Own)
  pub says : Says (Taped goes) prog (limited n T) (o, []) p (prog.entry (Eval s)) V (z, tape) r
  pub outside : Chain goes [] (limited n T) o says.events [] V z
  pub whole : WholeRun step prog T p s n (host_of o) V (host_of z) r
  pub taped : whole.whole.tape ≡ event p (In None (Eval s)) ∷ (says.events ++ event p (Done None r) ∷ [])

module _ {I S R : Type 0} (step : S → TheirRequest → TheirReply → S → Type 0) (goes : Going R) (host_of : R → S)
    (as_host : (T : Tree Own) (o : R) (s : Wait) (ev : Event Own) (u : R) → goes T o s ev u → Crossings (hosted step) T (host_of o) s ev (host_of u)) (fine : I → Bool) (prog : Table Own I)
    (T V : Tree Own) (o z : R) (p : Path) (s : Text) (n : ℕ) (r : Reply) (there : Node Own) where
  pub whole_tape : KeepTops fine prog → HasTop T → T p ≡ Some there → Executes goes prog (limited n T) o p (prog.entry (Eval s)) V z r → WholeTape step goes host_of prog T p s n o V z r
  unfolding whole
  whole_tape keep top stands t =
      let x : Prog Own I = prog.entry (Eval s) in
      let calls = prog.entries_call (Eval s) in
      let here = still_there (Some (count_at (T []) + n)) T p there stands in
      let k = tapes goes prog t [] in
      let g : Held step goes host_of as_host fine prog keep (limited n T) (o, []) None p x V (z, k.tape) r =
      calm step goes host_of as_host fine prog keep (limited n T) (o, []) p x V (z, k.tape) r calls
      (held step goes host_of as_host fine prog keep k.executes (fit x calls) (entry_limits fine prog keep (Eval s) p (λ e. refl)) (limited_top [] (Some (count_at (T []) + n)) T top)) in
      let f = follows (Taped (keeps_call step)) prog (fit x calls) g.executes in
      let told = called_on (Taped (keeps_call step)) x calls (f.chain []) in
      let d = follows (Taped goes) prog (fit x calls) k.executes in
      let heard = called_on (Taped goes) x calls (d.chain []) in
      let same : f.events ≡ d.events = sym (all_written (keeps_call step) told) ∙ all_written goes heard in
      let h : Hosts step (holding (host_of o) None) (f.events ++ event p (Done None r) ∷ []) (host_of z) =
      belonging step fine prog T V (host_of o) (host_of z) p s n r g.uncut f.events (unwritten (keeps_call step) told) in
      let e : (e : End) × (end_at p r ≡ Some e) = ending_at p r g.uncut in
      record {
        tape = k.tape;
        says = d;
        outside = unwritten goes heard;
        whole = record {
          replies = h.replies;
          outs = outs_of (f.events ++ event p (Done None r) ∷ []);
          ending = e.0;
          whole = whole step fine prog T V (host_of o) (host_of z) p s n r f.events (f.runs (leaving step fine prog T V (host_of o) (host_of z) p s n r)) h top here.0 here.1 e.0 e.1;
          belongs = h.belongs;
          ends = e.1;
          stands = limited_top [] (limit_at (T [])) V g.top;
        };
        taped = ap (λ τ. event p (In None (Eval s)) ∷ (τ ++ event p (Done None r) ∷ [])) same;
      }

-- the same of the host by itself
module _ {I S : Type 0} (step : S → TheirRequest → TheirReply → S → Type 0) (fine : I → Bool) (prog : Table Own I) (T V : Tree Own) (o z : S) (p : Path) (s : Text) (n : ℕ) (r : Reply) (there : Node Own) where
  pub whole_run : KeepTops fine prog → HasTop T → T p ≡ Some there → Executes (Crossings (hosted step)) prog (limited n T) o p (prog.entry (Eval s)) V z r → WholeRun step prog T p s n o V z r
  whole_run keep top stands t = (whole_tape step (Crossings (hosted step)) (λ u. u) (λ U a w ev u g. g) fine prog T V o z p s n r there keep top stands t).whole

module _ {S : Type 0} (step : S → TheirRequest → TheirReply → S → Type 0) (style : Integers) (T V : Tree Own) (o z : S) (p : Path) (s : Text) (n : ℕ) (r : Reply) (there : Node Own) where
  pub whole_script : HasTop T → T p ≡ Some there → Executes (Crossings (hosted step)) (language style) (limited n T) o p (serve style (Eval s)) V z r → WholeRun step (language style) T p s n o V z r
  whole_script top stands t = whole_run step leaves_steps (language style) T V o z p s n r there (language_keeps_tops style) top stands t
