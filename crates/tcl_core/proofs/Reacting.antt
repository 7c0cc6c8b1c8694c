-- What is kept along the entries of a subtree.
use Rattle.std.proofs.Common.{sym, ◌≡◌, ℕ, suc, ℤ, ◌+◌, List, [], ◌∷◌, Option, Some, None, refl, ◌∙◌, ap, subst, arith, append-nil}
use Rattle.tcl_core.specs.Paths.{Path, Place, strip}
use Rattle.tcl_core.specs.Endings.{Reply}
use Rattle.tcl_core.specs.Endings.Reply.{Completed, Stop, Exit, Cut}
use Rattle.tcl_core.specs.Entries.{Entry}
use Rattle.tcl_core.specs.Trees.{What, Event, Move}
use Rattle.tcl_core.specs.Trees.What.{Made, Dropped, In, Done}
use Rattle.tcl_core.specs.Trees.Move.{Born, Fall, Enter, Come}
use Rattle.tcl_core.specs.Programs.{Table}
use Rattle.tcl_core.specs.Runs.{World, Step, Ending, Halts, Exits, Stays, Visits, Runs, RunsIn}
use Rattle.tcl_core.specs.Views.{moves_of, view, kept, from_above}
use Rattle.tcl_core.specs.Lives.{Lives, Outcome, idle, never}
use Rattle.tcl_core.specs.Lives.Outcome.{Finished}
use Rattle.tcl_core.specs.Lives.{outcome_of, outcome_at, ending_of}
use Rattle.tcl_core.specs.Laws.{IsStanding, Stands}
use Rattle.tcl_core.specs.Lives.{IsUncut, Uncut}
use Rattle.tcl_core.proofs.PathLaws.{not_both, strip-sound, strip_own}
use Rattle.tcl_core.proofs.TreeLaws.{unseen}
use Rattle.tcl_core.proofs.Subtrees.{wait_halt, wait_enter}
use Rattle.tcl_core.proofs.SameRuns.{asked-inj}
use Rattle.tcl_core.proofs.RuleLaws.{derived_runs, runs_derived}
use Rattle.tcl_core.proofs.Keeping.{KeepsSteps, runs_keep}
use Rattle.tcl_core.proofs.Budgets.{budgeted, step_budget, fine_step, uncut_keep, derived_budget}
use Rattle.tcl_core.proofs.Balance.{ins, dones, Owes, owes, visit_owes, halted_more}

own_place : (c p : Place) → strip c p ≡ Some [] → strip p c ≡ Some []
own_place c p e = subst (λ r. strip r c ≡ Some []) (sym (strip-sound c p [] e ∙ append-nil c)) (subst (λ r. strip c r ≡ Some []) (append-nil c) (strip_own c []))

module _ {O : Type 0} where
  -- the tree as a whole is neither made nor dropped
  abbrev pub Lasting : Place → What O → Type 0
  Lasting p (Made o s) = p ≡ [] → Prim.⊥
  Lasting p Dropped = p ≡ [] → Prim.⊥
  Lasting p _ = Unit {0}

  abbrev pub IsLasting : List (Event O) → Type 0
  IsLasting [] = Unit {0}
  IsLasting (ev ∷ τ) = Lasting ev.place ev.what × IsLasting τ

  lasting_kept : (c p : Place) (x : What O) (τ : List (Event O)) → Stands c p x → IsLasting τ → (s : Option Place) → strip c p ≡ s → IsLasting (kept s (strip p c) x τ)
  lasting_kept c p Dropped τ f l None e = subst (λ o. IsLasting (from_above o Dropped τ)) (sym f) l
  lasting_kept c p Dropped τ f l (Some q) e = ((λ z. not_both f (own_place c p (e ∙ ap Some z))), l)
  lasting_kept c p (Made o s) τ f l None e = subst IsLasting (sym (unseen (strip p c) (Made o s) τ tt)) l
  lasting_kept c p (Made o s) τ f l (Some q) e = ((λ z. f (own_place c p (e ∙ ap Some z))), l)
  lasting_kept c p x τ f l None e = subst IsLasting (sym (unseen (strip p c) x τ tt)) l
  lasting_kept c p x τ f l (Some q) e = (tt, l)

  pub lasting : (c : Place) (τ : List (Event O)) → IsStanding c τ → IsLasting (view c τ)
  lasting c [] f = tt
  lasting c (ev ∷ τ) f = lasting_kept c ev.place ev.what (view c τ) f.0 (lasting c τ f.1) (strip c ev.place) refl

  -- what is kept along a run
  abbrev pub IsHanded : World O → Type 0
  IsHanded w = w.moves ≡ moves_of w.tape

  pub handed_step : KeepsSteps IsHanded
  handed_step w p x v due s h = asked-inj p x v.moves (moves_of v.tape) (sym s.moves ∙ h ∙ ap moves_of s.tape)

  lasting_step : KeepsSteps {O = O} (λ w. IsLasting w.tape)
  lasting_step w p x v due s f = let g : Lasting p x × IsLasting v.tape = subst IsLasting s.tape f in g.1

  abbrev EndsAs : Outcome → World O → Type 0
  EndsAs z u = (x : Outcome) × (z ≡ outcome_of u.tape x)

  ends_step : (z : Outcome) → KeepsSteps (EndsAs z)
  ends_step z w p x v due s (y, f) = (outcome_at p x y, f ∙ ap (λ τ. outcome_of τ y) s.tape)

  abbrev pub Kept : Outcome → World O → Type 0
  Kept z w = IsHanded w × IsLasting w.tape × IsUncut w.tape × EndsAs z w

  pub kept_step : (z : Outcome) → KeepsSteps (Kept z)
  kept_step z w p x v due s (a, b, c, d) = (handed_step w p x v due s a, lasting_step w p x v due s b, uncut_keep w p x v due s c, ends_step z w p x v due s d)

  pub exits_idle : (u : World O) (n : ℤ) (ms : List (Move O)) (y : World O) → Exits u [] idle n ms y None → Halts u y None
  exits_idle u n [] y a = a
  exits_idle u n (Come x ∷ ms) y a = a
  exits_idle u n (Born o b ∷ ms) y a = a
  exits_idle u n (Fall ∷ ms) y a = a
  exits_idle u n (Enter t i ∷ ms) y a = a

  pub no_move : {A : Type 0} (w : World O) (m : Move O) (ms : List (Move O)) → IsHanded w → w.moves ≡ m ∷ ms → w.tape ≡ [] → A
  no_move w m ms h e t = absurd (bad (sym e ∙ h ∙ ap moves_of t))
    where
      bad : m ∷ ms ≡ [] → Prim.⊥
      bad f = cc

  pub lasts : {A : Type 0} (w : World O) (x : What O) (u : World O) → Step w [] x u → IsLasting w.tape → (Lasting [] x → A) → A
  lasts w x u s f g = g (let h : Lasting [] x × IsLasting u.tape = subst IsLasting s.tape f in h.0)

module _ {O I : Type 0} (prog : Table O I) (k : ℕ) where
  abbrev pub bud : World O → World O
  bud w = budgeted k w

  pub visit_budget : (z : World O) (t : Place) (i : Entry) (u : World O) (r : Reply) → IsUncut z.tape → Visits prog (Runs prog) z None t i u (Some r) → Visits prog (Runs prog) (bud z) None t i (bud u) (Some r)
  visit_budget z t i u r f a = record {
    node = a.node;
    stands = a.stands;
    entered = bud a.entered;
    left = bud a.left;
    entry = step_budget k z t (In None i) a.entered a.entry;
    run = derived_runs prog (derived_budget prog k (runs_derived prog a.entered t (prog.entry i) a.left (Some r) a.run) (fine_step z t (In None i) a.entered a.entry f).1 r refl);
    leaving = step_budget k a.left t (Done None r) u a.leaving;
  }

  -- what is kept after an entry that came to an end; the outcome is then that of its end
  pub after_visit : (z : World O) (t : Place) (i : Entry) (u : World O) (r : Reply) (x : Outcome) → x ≡ outcome_of z.tape Finished → IsHanded z → IsLasting z.tape → IsUncut z.tape → Visits prog (Runs prog) z None t i u (Some r) →
      IsHanded u × IsLasting u.tape × IsUncut u.tape × (x ≡ outcome_of u.tape (ending_of r)) × Uncut {O = O} t (Done None r)
  after_visit z t i u r x e a b c d =
      let k1 : Kept x d.entered = kept_step x z t (In None i) d.entered tt d.entry (a, b, c, (Finished, e)) in
      let k2 : Kept x d.left = runs_keep (Kept x) (kept_step x) prog d.entered t (prog.entry i) d.left (Some r) d.run k1 in
      let k3 : Kept x u = kept_step x d.left t (Done None r) u tt d.leaving k2 in
      let f : Uncut {O = O} t (Done None r) × IsUncut u.tape = fine_step d.left t (Done None r) u d.leaving k2.2 in
      (k3.0, k3.1, k3.2, k2.3.1 ∙ ap (λ τ. outcome_of τ k2.3.0) d.leaving.tape, f.0)

  pub balanced_after : (z : World O) (t : Place) (i : Entry) (u : World O) (r : Reply) → Visits prog (Runs prog) z None t i u (Some r) → ins [] z.tape ≡ dones [] z.tape → ins [] u.tape ≡ dones [] u.tape
  balanced_after z t i u r a b =
      let o : Owes [] z u (Some r) = visit_owes [] z a.entered a.left u None t i r a.entry (owes [] prog (runs_derived prog a.entered t (prog.entry i) a.left (Some r) a.run)) a.leaving in
      let s : ins [] z.tape + dones [] u.tape ≡ dones [] z.tape + ins [] u.tape + o.open_ins = o.sum in
      let n : o.open_ins ≡ 0 = o.none_left r refl in
      omega arith

  pub never_halts : {A : Type 0} (z : World O) (t : Place) (i : Entry) (u : World O) → Visits prog (Runs prog) z None t i u None → ins [] z.tape ≡ dones [] z.tape → u.tape ≡ [] → A
  never_halts z t i u a b f =
      let o : Owes [] a.entered a.left None = owes [] prog (runs_derived prog a.entered t (prog.entry i) a.left None a.run) in
      let s : ins [] z.tape + dones [] a.left.tape ≡ dones [] z.tape + ins [] a.left.tape + suc o.open_ins = halted_more [] z a.entered a.left None t i refl a.entry o in
      let g : a.left.tape ≡ [] = ap (λ y. y.tape) (sym a.leaving) ∙ f in
      let p : ins [] a.left.tape ≡ 0 = ap (ins []) g in
      let q : dones [] a.left.tape ≡ 0 = ap (dones []) g in
      absurd (omega arith)

  pub lift_visits : (n : ℕ) (z : World O) (t : Place) (i : Entry) (u : World O) (o : Ending) → Visits prog (RunsIn prog n) z None t i u o → Visits prog (Runs prog) z None t i u o
  lift_visits n z t i u o a = record { node = a.node; stands = a.stands; entered = a.entered; left = a.left; entry = a.entry; run = (n, a.run); leaving = a.leaving }

module _ {O I : Type 0} where
  -- a whole evaluation is a life
  pub life_of : (prog : Table O I) (w v : World O) (t : Path) (i : Entry) (r : Reply) → Visits prog (Runs prog) w None t i v (Some r) → v.moves ≡ [] → v.tape ≡ [] → Lives prog w v None
  life_of prog w v t i r a m f = wait_enter prog w [] idle never t i v (Some r) v None refl a (by r)
    where
      still : Halts v v None
      still = record { tape = f; same = refl; ending = refl }

      by : (r : Reply) → Stays (Runs prog) v [] idle never (Some r) v None
      by (Completed c) = wait_halt prog v [] idle never v None refl m still
      by (Stop n k) = wait_halt prog v [] idle never v None refl m still
      by (Cut c) = wait_halt prog v [] idle never v None refl m still
      by (Exit n) = subst (λ ms. Exits v [] idle n ms v None) (sym m) still
