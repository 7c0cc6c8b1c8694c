-- What a host was asked by an evaluation that was given up on its way is what the whole evaluation begins with.
use Rattle.std.proofs.Common.{◌≡◌, refl, sym, ◌∙◌, ap, subst, arith, ℕ, suc, ◌+◌, List, [], ◌∷◌, ◌++◌, Some, None}
use Rattle.tcl_core.specs.Endings.{Reply}
use Rattle.tcl_core.specs.Endings.Reply.{Completed, Stop, Exit, Cut}
use Rattle.tcl_core.specs.Entries.{Answer}
use Rattle.tcl_core.specs.Entries.Entry.{Eval}
use Rattle.tcl_core.specs.Lives.{End, Whole, IsUncut, comes, end_at, limited, outs_of}
use Rattle.tcl_core.specs.Paths.{Path, Place, Text, rise_to}
use Rattle.tcl_core.specs.Programs.{Prog, Table}
use Rattle.tcl_core.specs.Rules.{Derives}
use Rattle.tcl_core.specs.Runs.{Runs, World}
use Rattle.tcl_core.specs.Execution.{Crossings, event}
use Rattle.tcl_core.specs.Trees.{Event, Node, Tree, What, granted, paid}
use Rattle.tcl_core.specs.Trees.Grants.{Budget}
use Rattle.tcl_core.specs.Trees.What.{Charged, Nested, Refused, In, Done}
use Rattle.tcl_core.specs.Views.{steps_of}
use Rattle.tcl_core.proofs.Beginnings.{outs_append}
use Rattle.tcl_core.proofs.Budgets.{budgeted, derived_budget}
use Rattle.tcl_core.proofs.PathLaws.{not_both}
use Rattle.tcl_core.proofs.RuleLaws.{derived_runs, runs_derived}
use Rattle.tcl_core.proofs.SameRuns.{asked-inj}
use Rattle.tcl_core.proofs.Unended.{NotCut}
use Rattle.tcl_core.proofs.TreeLaws.{denied_budget}
use Rattle.tcl_core.proofs.Callers.{fit}
use Rattle.tcl_partial_runs.specs.Beginnings.{Begins, BeginsEach, Begun, allowed, handed, handing}
use Rattle.tcl_partial_runs.proofs.Begins.{begins}
use Rattle.tcl_host.specs.declared.reply.HostReply.{HostReply as TheirReply}
use Rattle.tcl_host.specs.declared.request.Request.{Request as TheirRequest}
use Rattle.tcl_run.specs.Language.{language}
use Rattle.tcl_language.specs.Table.{serve}
use Rattle.tcl_run.specs.Outsides.{hosted}
use Rattle.tcl_text.specs.declared.integer.Integers.{Integers}
use Rattle.tcl_tree.specs.Own.{Own}
use Rattle.tcl_run_laws.specs.UnfinishedLaws.{IsBeginning}
use Rattle.tcl_run_laws.proofs.UnfinishedHolding.{Hosts, hosts, keeps_call}
use Rattle.tcl_run_laws.proofs.GivenUp.{kept}
use Rattle.tcl_run_laws.proofs.Uncut.{comes_answers, AreAnswers, done_uncut, uncut}

-- an end of the whole is none from outside
ends_uncut : (p : Path) (r : Reply) (e : End) → end_at p r ≡ Some e → NotCut r
ends_uncut p (Completed c) e f = tt
ends_uncut p (Stop n m) e f = tt
ends_uncut p (Exit n) e f = tt
ends_uncut p (Cut c) e f = absurd (not_both refl f)

module _ {O : Type 0} where
  -- of a budget a happening reads its step
  granted_budget : (p : Place) (x : What O) (n k : ℕ) → granted p x (Budget (n + k)) ≡ Budget (paid x n + k)
  granted_budget p Charged n k = let e : suc (n + k) ≡ suc n + k = omega arith in ap Budget e
  granted_budget p Nested n k = refl
  granted_budget p (Refused m h) n k = denied_budget (rise_to h p) (n + k)
  granted_budget p x n k = refl

  -- of a budget these happenings read their steps
  allowed_budget : (τ : List (Event O)) (k : ℕ) → allowed τ (Budget k) ≡ Budget (steps_of τ + k)
  allowed_budget [] k = let e : k ≡ 0 + k = omega arith in ap Budget e
  allowed_budget (ev ∷ τ) k = ap (granted ev.place ev.what) (allowed_budget τ k) ∙ granted_budget ev.place ev.what (steps_of τ) k

module _ {I S : Type 0} (step : S → TheirRequest → TheirReply → S → Type 0) (prog : Table Own I) (T : Tree Own) (p : Path) (s : Text) (n : ℕ) where
  -- the script, as the entry of the evaluation
  abbrev script : Prog Own I
  script = prog.entry (Eval s)

  -- a whole evaluation that is handed what these happenings read begins with them
  module _ {R : Type 0} (goes : _) {o z : R} (b : BeginsEach {O = Own} {I = I} {S = R} goes prog (limited n T) o p script z) (replies more : List Answer) (ending : End) (all : List (Event Own)) (V : Tree Own)
      (calm : Rattle.tcl_partial_runs.specs.Beginnings.IsUnrefused b.told) (reads : handed b.told (comes more) ≡ comes (replies ++ more)) (whole : Whole prog T p s n (replies ++ more) ending all V) where
    -- the world after the entry
    abbrev inner : World Own
    inner = whole.run.entered

    -- it has the replies alone
    moves : inner.moves ≡ comes (replies ++ more)
    moves = asked-inj p (In None (Eval s)) inner.moves (comes (replies ++ more)) (sym whole.run.entry.moves)

    -- and in the end the entry's own is left
    left_tape : whole.run.left.tape ≡ event p (Done None whole.reply) ∷ []
    left_tape = whole.run.leaving.tape ∙ ap (λ τ. event p (Done None whole.reply) ∷ τ) whole.all_done

    -- the run between, by rules
    derived : Derives prog inner p script whole.run.left (Some whole.reply)
    derived = runs_derived prog inner p script whole.run.left (Some whole.reply) whole.run.run

    -- nothing in it is cut off
    fine : IsUncut inner.tape
    fine =
        let r : NotCut whole.reply = ends_uncut p whole.reply ending whole.ends in
        uncut prog derived (subst AreAnswers (sym moves) (comes_answers Own (replies ++ more))) r (subst IsUncut (sym left_tape) (done_uncut Own p None whole.reply r, tt))

    -- so a budget may have more steps
    abbrev steps : ℕ
    steps = steps_of inner.tape

    -- that world, with a budget of more steps, is one in which these are handed in first
    same : budgeted (steps_of b.told) inner ≡ handing (limited n T) b.told (comes more) (Budget steps) inner.tape
    same =
        let tree : inner.tree ≡ limited n T = whole.run.entry.tree in
        let read : inner.moves ≡ handed b.told (comes more) = moves ∙ sym reads in
        let sum : steps + steps_of b.told ≡ steps_of b.told + steps = omega arith in
        let words : Budget (steps + steps_of b.told) ≡ allowed b.told (Budget steps) = ap Budget sum ∙ sym (allowed_budget b.told steps) in
        (λ i. record { tree = tree i; moves = read i; grants = words i; tape = inner.tape })

    -- and the run in it is the same
    run : Runs prog (handing (limited n T) b.told (comes more) (Budget steps) inner.tape) p script (budgeted (steps_of b.told) whole.run.left) (Some whole.reply)
    run = subst (λ w. Runs prog w p script (budgeted (steps_of b.told) whole.run.left) (Some whole.reply)) same (derived_runs prog (derived_budget prog (steps_of b.told) derived fine whole.reply refl))

    -- so what it tells begins with what they tell
    pub whole_begins : (rest : List (Event Own)) × (all ≡ outs_of b.told ++ rest)
    whole_begins =
        let h : Begins inner.tape b.told = b.first_of_any (comes more) (Budget steps) inner.tape (budgeted (steps_of b.told) whole.run.left) (Some whole.reply) calm run in
        (outs_of h.0, whole.told ∙ ap outs_of whole.run.entry.tape ∙ ap outs_of h.1 ∙ outs_append b.told h.0)

  -- what a host was asked until the script was given up is what the whole evaluation begins with
  pub is_beginning : {o z : S} → Begun (Crossings (hosted step)) prog (limited n T) o p script z → IsBeginning step prog T p s n o z
  is_beginning {o} {z} begun =
      let b : BeginsEach (keeps_call step) prog (limited n T) (o, None) p script (z, None) = begins (keeps_call step) prog (fit script (prog.entries_call (Eval s))) (kept step prog begun (prog.entries_call (Eval s))) in
      let h : Hosts step (o, None) b.told z = hosts step (limited n T) b.last (o, None) (z, None) b.told b.chain refl in
      record {
        replies = h.replies;
        outs = outs_of b.told;
        belongs = h.belongs;
        begins = λ more ending all V whole. whole_begins (keeps_call step) b h.replies more ending all V h.calm (h.moves more) whole;
      }

-- the same with the commands of the language
module _ {S : Type 0} (step : S → TheirRequest → TheirReply → S → Type 0) (style : Integers) (T : Tree Own) (p : Path) (s : Text) (n : ℕ) (there : Node Own) where
  pub script_begins : {o z : S} → T p ≡ Some there → Begun (Crossings (hosted step)) (language style) (limited n T) o p (serve style (Eval s)) z → IsBeginning step (language style) T p s n o z
  script_begins e begun = is_beginning step (language style) T p s n begun
