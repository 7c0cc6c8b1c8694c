-- What the acts of a program come to under a budget, where moves are played.
use Rattle.std.proofs.Common.{sym, ◌≡◌, ℕ, zero, suc, [], ◌∷◌, ◌++◌, Option, Some, None, refl, ◌∙◌, ap, subst}
use Rattle.tcl_core.specs.Paths.{Place}
use Rattle.tcl_core.specs.Endings.{Meter, Reply, Cause}
use Rattle.tcl_core.specs.Endings.Meter.{Count, Depth}
use Rattle.tcl_core.specs.Endings.Reply.{Completed, Stop, Exit, Cut}
use Rattle.tcl_core.specs.Endings.Cause.{Above, Over}
use Rattle.tcl_core.specs.Trees.{Tree, What, Grants, granted}
use Rattle.tcl_core.specs.Trees.Grant.{Allow, Deny}
use Rattle.tcl_core.specs.Trees.Grants.{Listed, Budget}
use Rattle.tcl_core.specs.Trees.What.{Seen, Charged, Nested, Limited, DepthLimited, Refused, Done, Unfound}
use Rattle.tcl_core.specs.Programs.{Deed, spot, Act, Wrap, decide, opens, changing, making, dropping, metered, by_limit, blocked, is_spent, is_deep}
use Rattle.tcl_core.specs.Programs.Act.{Look, Change, Charge, Limit, LimitDepth, Make, Drop}
use Rattle.tcl_core.specs.Programs.Wrap.{Deeper, Framed}
use Rattle.tcl_core.specs.Programs.Next.{On, Off}
use Rattle.tcl_core.specs.Execution.{Crossings, Decides, Opens_so, event}
use Rattle.tcl_core.specs.Lives.{Outcome, Uncut, outcome_at}
use Rattle.tcl_core.proofs.Budgets.{decide_budget, opens_budget}
use Rattle.tcl_core.proofs.Parting.{act_silent, opens_silent}
use Rattle.tcl_core.proofs.PathLaws.{not_both, Some-inj}
use Rattle.tcl_core.proofs.Plain.{IsPlain, decide_plain, opens_plain}
use Rattle.tcl_core.proofs.Stops.{changing_on, making_on, dropping_on}
use Rattle.tcl_core.proofs.Unended.{IsNoCut, NotCut, decide_uncut, opens_uncut}
use Rattle.tcl_core.proofs.Refusals.{no_off, by_limit_fine}
use Rattle.tcl_reactions.specs.Playing.{Player, last_end, plays}
use Rattle.tcl_reactions.proofs.Ways.{Calm, IsBudget, Way, granted_paid, plain_way}
use Rattle.tcl_reactions.proofs.Leads.{way_end}

pub off_not_cut : (r : Reply) → IsNoCut (Off r) → NotCut r
off_not_cut (Completed c) f = tt
off_not_cut (Stop n m) f = tt
off_not_cut (Exit n) f = tt
off_not_cut (Cut c) f = f

module _ {O : Type 0} where
  pub decided : (d : Act O) (T : Tree O) (p : Place) (x : Deed O) → Decides d T p x → Uncut (spot p x.0) x.1 → (gs : Grants) → IsBudget gs → decide d T p (granted (spot p x.0) x.1 gs) ≡ Some x
  decided d T p x is_so f gs b = ap (λ l. decide d T p (granted (spot p x.0) x.1 l)) b.1 ∙ ap (decide d T p) (granted_paid (spot p x.0) x.1 b.0) ∙ decide_budget d T p (granted (spot p x.0) x.1 (Listed [])) x b.0 0 (is_so []) f

  pub opened : (b : Wrap O) (T : Tree O) (p : Place) (x : Deed O) → Opens_so b T p x → Uncut (spot p x.0) x.1 → (gs : Grants) → IsBudget gs → opens b T p (granted (spot p x.0) x.1 gs) ≡ Some x
  opened b T p x is_so f gs g = ap (λ l. opens b T p (granted (spot p x.0) x.1 l)) g.1 ∙ ap (opens b T p) (granted_paid (spot p x.0) x.1 g.0) ∙ opens_budget b T p (granted (spot p x.0) x.1 (Listed [])) x g.0 0 (is_so []) f

  pub act_uncut : (d : Act O) (T : Tree O) (p : Place) (x : Deed O) → Decides d T p x → IsNoCut x.2 → Uncut (spot p x.0) x.1
  act_uncut d T p x is_so n = decide_uncut d T p (granted (spot p x.0) x.1 (Listed [])) x (is_so []) n

  pub open_uncut : (b : Wrap O) (T : Tree O) (p : Place) (x : Deed O) → Opens_so b T p x → IsNoCut x.2 → Uncut (spot p x.0) x.1
  open_uncut b T p x is_so n = opens_uncut b T p (granted (spot p x.0) x.1 (Listed [])) x (is_so []) n

  pub act_way : (d : Act O) (T : Tree O) (p : Place) (x : Deed O) (o u : Player O) → Decides d T p x → IsNoCut x.2 → Crossings plays T o None (event (spot p x.0) x.1) u → o.fate ≡ None → Way 0 o (event (spot p x.0) x.1 ∷ []) u
  act_way d T p x o u is_so n s f =
      let gs : Grants = granted (spot p x.0) x.1 (Listed []) in
      plain_way T None (spot p x.0) x.1 o u (decide_plain d T p gs x (is_so [])) (act_uncut d T p x is_so n) (act_silent d T p gs x (is_so [])) s f

  pub open_way : (b : Wrap O) (T : Tree O) (p : Place) (x : Deed O) (o u : Player O) → Opens_so b T p x → IsNoCut x.2 → Crossings plays T o None (event (spot p x.0) x.1) u → o.fate ≡ None → Way 0 o (event (spot p x.0) x.1 ∷ []) u
  open_way b T p x o u is_so n s f =
      let gs : Grants = granted (spot p x.0) x.1 (Listed []) in
      plain_way T None (spot p x.0) x.1 o u (opens_plain b T p gs x (is_so [])) (open_uncut b T p x is_so n) (opens_silent b T p gs x (is_so [])) s f

  plain_end : (p : Place) (x : What O) (y : Outcome) → IsPlain x → outcome_at p x y ≡ y
  plain_end p (Done h r) y f = absurd f
  plain_end p (Unfound t i z) y f = absurd f
  plain_end p x y f = refl

  pub plain_calm : (p : Place) (x : What O) (o u : Player O) → IsPlain x → Way 0 o (event p x ∷ []) u → Calm (last_end o) → Calm (last_end u)
  plain_calm p x o u f w c = subst Calm (sym (way_end 0 o u (event p x ∷ []) w ∙ plain_end p x (last_end o) f)) c

  pub act_calm : (d : Act O) (T : Tree O) (p : Place) (x : Deed O) (o u : Player O) → Decides d T p x → Way 0 o (event (spot p x.0) x.1 ∷ []) u → Calm (last_end o) → Calm (last_end u)
  act_calm d T p x o u is_so w c = plain_calm (spot p x.0) x.1 o u (decide_plain d T p (granted (spot p x.0) x.1 (Listed [])) x (is_so [])) w c

  pub open_calm : (b : Wrap O) (T : Tree O) (p : Place) (x : Deed O) (o u : Player O) → Opens_so b T p x → Way 0 o (event (spot p x.0) x.1 ∷ []) u → Calm (last_end o) → Calm (last_end u)
  open_calm b T p x o u is_so w c = plain_calm (spot p x.0) x.1 o u (opens_plain b T p (granted (spot p x.0) x.1 (Listed [])) x (is_so [])) w c

  -- what is cut off is a step, or an evaluation, that no limit of the tree refuses
  abbrev Refuses_so : Meter → Option ℕ → Deed O → Type 0
  Refuses_so m b x = (b ≡ None) × (x.0 ≡ None) × (x.1 ≡ Refused m None)

  so_of : (m : Meter) (b : Option ℕ) (c : Cause) (y x : Deed O) → (y.2 ≡ Off (Cut c) → Refuses_so m b y) → Some y ≡ Some x → x.2 ≡ Off (Cut c) → Refuses_so m b x
  so_of m b c y x f e = subst (λ z. z.2 ≡ Off (Cut c) → Refuses_so m b z) (Some-inj y e) f

  metered_cut : (m : Meter) (y : What O) (b : Option ℕ) (gs : Grants) (x : Deed O) (c : Cause) → metered m y b gs ≡ Some x → x.2 ≡ Off (Cut c) → Refuses_so m b x
  metered_cut m y (Some n) gs x c e = so_of m (Some n) c (None, Refused m (Some n), by_limit m n) x (λ f. by_limit_fine m n c f) e
  metered_cut m y None (Listed []) x c e = absurd (not_both refl e)
  metered_cut m y None (Listed (Allow ∷ gs)) x c e = so_of m None c (None, y, On) x (λ f. no_off (Cut c) f) e
  metered_cut m y None (Listed (Deny ∷ gs)) x c e = so_of m None c (None, Refused m None, Off (Cut Above)) x (λ f. (refl, refl, refl)) e
  metered_cut Count y None (Budget zero) x c e = so_of Count None c (None, Refused Count None, Off (Cut Over)) x (λ f. (refl, refl, refl)) e
  metered_cut Count y None (Budget (suc n)) x c e = so_of Count None c (None, y, On) x (λ f. no_off (Cut c) f) e
  metered_cut Depth y None (Budget n) x c e = so_of Depth None c (None, y, On) x (λ f. no_off (Cut c) f) e

  never_off : {A : Type 0} (c : Cause) (y x : Deed O) → y.2 ≡ On → Some y ≡ Some x → x.2 ≡ Off (Cut c) → A
  never_off c y x f e g = no_off (Cut c) (sym f ∙ ap (λ z. z.2) (Some-inj y e) ∙ g)

  pub act_cut : (d : Act O) (T : Tree O) (p : Place) (gs : Grants) (x : Deed O) (c : Cause) → decide d T p gs ≡ Some x → x.2 ≡ Off (Cut c) → (d ≡ Charge) × (blocked is_spent T p ≡ None) × (x.0 ≡ None) × (x.1 ≡ Refused Count None)
  act_cut Look T p gs x c e f = never_off c (None, Seen, On) x refl e f
  act_cut (Change o) T p gs x c e f = never_off c (changing o (T p)) x (changing_on p o (T p)) e f
  act_cut Charge T p gs x c e f =
      let g : Refuses_so Count (blocked is_spent T p) x = metered_cut Count Charged (blocked is_spent T p) gs x c e f in
      (refl, g.0, g.1, g.2)
  act_cut (Limit l) T p gs x c e f = never_off c (None, Limited l, On) x refl e f
  act_cut (LimitDepth l) T p gs x c e f = never_off c (None, DepthLimited l, On) x refl e f
  act_cut (Make name o s) T p gs x c e f = never_off c (making name o s (T p) (T (p ++ name ∷ []))) x (making_on p name o s (T p) (T (p ++ name ∷ []))) e f
  act_cut (Drop name) T p gs x c e f = never_off c (dropping name (T (p ++ name ∷ []))) x (dropping_on p name (T (p ++ name ∷ []))) e f

  pub open_cut : (b : Wrap O) (T : Tree O) (p : Place) (gs : Grants) (x : Deed O) (c : Cause) → opens b T p gs ≡ Some x → x.2 ≡ Off (Cut c) → x.1 ≡ Refused Depth None
  open_cut Deeper T p gs x c e f = (metered_cut Depth Nested (blocked is_deep T p) gs x c e f).2
  open_cut (Framed o back) T p gs x c e f = never_off c (changing o (T p)) x (changing_on p o (T p)) e f
