-- Worlds in which what some happenings read is handed in first.
use Rattle.std.proofs.Common.{◌≡◌, ℕ, List, [], ◌∷◌, ◌++◌, Option, Some, None, refl, sym, ◌∙◌, ap, subst, append_assoc, append-nil}
use Rattle.tcl_core.specs.Paths.{Place, rise_to}
use Rattle.tcl_core.specs.Endings.{Meter, Reply}
use Rattle.tcl_core.specs.Endings.Meter.{Count, Depth}
use Rattle.tcl_core.specs.Endings.Reply.{Cut}
use Rattle.tcl_core.specs.Endings.Cause.{Above}
use Rattle.tcl_core.specs.Trees.{Tree, What, Event, Move, Grant, Grants, effect, asked, denied, granted}
use Rattle.tcl_core.specs.Trees.Grants.{Listed, Budget}
use Rattle.tcl_core.specs.Trees.What.{Charged, Refused, Nested}
use Rattle.tcl_core.specs.Programs.{Deed, spot, Act, Wrap, Next, Prog, Table, blocked, by_grant, decide, is_deep, is_spent, metered, opens}
use Rattle.tcl_core.specs.Programs.Act.{Charge}
use Rattle.tcl_core.specs.Programs.Next.{On, Off}
use Rattle.tcl_core.specs.Programs.Wrap.{Deeper, Framed}
use Rattle.tcl_core.specs.Runs.{World, Ending, Step, Runs}
use Rattle.tcl_core.specs.Execution.{Decides, Opens_so, event}
use Rattle.tcl_core.specs.Laws.{retape, Agrees}
use Rattle.tcl_core.proofs.PathLaws.{not_both, Some-inj}
use Rattle.tcl_core.proofs.TreeLaws.{listed_one}
use Rattle.tcl_core.proofs.SameRuns.{asked-inj, granted-inj, runs_same}
use Rattle.tcl_partial_runs.specs.Beginnings.{handed, allowed, handing, Unrefused, IsUnrefused, Begins}

module _ {O : Type 0} where
  pub handed-append : (a b : List (Event O)) (ms : List (Move O)) → handed (a ++ b) ms ≡ handed a (handed b ms)
  handed-append [] b ms = refl
  handed-append (ev ∷ a) b ms = ap (asked ev.place ev.what) (handed-append a b ms)

  pub allowed-append : (a b : List (Event O)) (gs : Grants) → allowed (a ++ b) gs ≡ allowed a (allowed b gs)
  allowed-append [] b gs = refl
  allowed-append (ev ∷ a) b gs = ap (granted ev.place ev.what) (allowed-append a b gs)

  -- With these words behind those that the happenings read, they happen: where it is a list of words, or the outside refuses none of them.
  pub data Suits (g : Grants) (τ : List (Event O)) : Type 0 where
    as_listed : (gs : List Grant) → g ≡ Listed gs → Suits g τ
    as_granted : IsUnrefused τ → Suits g τ

  unrefused_before : (a b : List (Event O)) → IsUnrefused (a ++ b) → IsUnrefused a
  unrefused_before [] b f = tt
  unrefused_before (ev ∷ a) b f = (f.0, unrefused_before a b f.1)

  unrefused_after : (a b : List (Event O)) → IsUnrefused (a ++ b) → IsUnrefused b
  unrefused_after [] b f = f
  unrefused_after (ev ∷ a) b f = unrefused_after a b f.1

  allowed_listed : (τ : List (Event O)) (g : Grants) (gs : List Grant) → g ≡ Listed gs → (hs : List Grant) × (allowed τ g ≡ Listed hs)
  allowed_listed [] g gs f = (gs, f)
  allowed_listed (ev ∷ τ) g gs f =
      let h : (hs : List Grant) × (allowed τ g ≡ Listed hs) = allowed_listed τ g gs f in
      let k : (hs : List Grant) × (granted ev.place ev.what (Listed h.0) ≡ Listed hs) = listed_one ev.place ev.what h.0 in
      (k.0, ap (granted ev.place ev.what) h.1 ∙ k.1)

  pub suits_before : (a b : List (Event O)) (g : Grants) → Suits g (a ++ b) → Suits (allowed b g) a
  suits_before a b g (as_listed gs f) = let h : (hs : List Grant) × (allowed b g ≡ Listed hs) = allowed_listed b g gs f in as_listed h.0 h.1
  suits_before a b g (as_granted f) = as_granted (unrefused_before a b f)

  pub suits_after : (a b : List (Event O)) (g : Grants) → Suits g (a ++ b) → Suits g b
  suits_after a b g (as_listed gs f) = as_listed gs f
  suits_after a b g (as_granted f) = as_granted (unrefused_after a b f)

  pub suits_next : (ev : Event O) (τ : List (Event O)) (g : Grants) → Suits g (ev ∷ τ) → Suits g τ
  suits_next ev τ g su = suits_after (ev ∷ []) τ g su

  -- a word that lets the deed be done where words are listed does so where they are any, unless it refuses
  abbrev deed : Option (List ℕ) → What O → Next → Deed O
  deed a w n = (a, w, n)

  no_word : {A : Type 0} (x : Deed O) → None ≡ Some x → A
  no_word x e = absurd (not_both refl e)

  same_what : (x y : Deed O) → Some x ≡ Some y → x.1 ≡ y.1
  same_what x y e = ap (λ z. z.1) (Some-inj x e)

  no_refusal : {A : Type 0} (m j : Meter) (l : ℕ) (a : Option (List ℕ)) (r : Reply) (n : Next) → Some (deed None (Refused m None) (Off r)) ≡ Some (deed a (Refused j (Some l)) n) → A
  no_refusal m j l a r n e = absurd (no (same_what (deed None (Refused m None) (Off r)) (deed a (Refused j (Some l)) n) e))
    where
      no : ◌≡◌ {A = What O} (Refused m None) (Refused j (Some l)) → Prim.⊥
      no f = cc

  other_count : {A : Type 0} (a : Option (List ℕ)) (n : Next) → Some (deed None Charged On) ≡ Some (deed a Nested n) → A
  other_count a n e = absurd (no (same_what (deed None Charged On) (deed a Nested n) e))
    where
      no : ◌≡◌ {A = What O} Charged Nested → Prim.⊥
      no f = cc

  other_depth : {A : Type 0} (a : Option (List ℕ)) (n : Next) → Some (deed None Nested On) ≡ Some (deed a Charged n) → A
  other_depth a n e = absurd (no (same_what (deed None Nested On) (deed a Charged n) e))
    where
      no : ◌≡◌ {A = What O} Nested Charged → Prim.⊥
      no f = cc

  refused_elsewhere : {A : Type 0} (m : Meter) (y : What O) (o : Option Place) (a : Option (List ℕ)) (j : Meter) (l : ℕ) (n : Next) → by_grant m y (denied o (Listed [])) ≡ Some (deed a (Refused j (Some l)) n) → A
  refused_elsewhere m y None a j l n e = no_refusal m j l a (Cut Above) n e
  refused_elsewhere m y (Some q) a j l n e = no_word (a, Refused j (Some l), n) e

  count_so : (q : Place) (b : Option ℕ) (g : Grants) (a : Option (List ℕ)) (w : What O) (n : Next) → Unrefused w → metered Count Charged b (granted q w (Listed [])) ≡ Some (deed a w n) → metered Count Charged b (granted q w g) ≡ Some (deed a w n)
  count_so q (Some l) g a w n f e = e
  count_so q None g a (Refused m None) n f e = absurd f
  count_so q None g a (Refused m (Some l)) n f e = refused_elsewhere Count Charged (rise_to (Some l) q) a m l n e
  count_so q None (Listed gs) a Charged n f e = e
  count_so q None (Budget k) a Charged n f e = e
  count_so q None g a Nested n f e = other_count a n e
  count_so q None g a w n f e = no_word (a, w, n) e

  depth_so : (q : Place) (b : Option ℕ) (g : Grants) (a : Option (List ℕ)) (w : What O) (n : Next) → Unrefused w → metered Depth Nested b (granted q w (Listed [])) ≡ Some (deed a w n) → metered Depth Nested b (granted q w g) ≡ Some (deed a w n)
  depth_so q (Some l) g a w n f e = e
  depth_so q None g a (Refused m None) n f e = absurd f
  depth_so q None g a (Refused m (Some l)) n f e = refused_elsewhere Depth Nested (rise_to (Some l) q) a m l n e
  depth_so q None (Listed gs) a Nested n f e = e
  depth_so q None (Budget k) a Nested n f e = e
  depth_so q None g a Charged n f e = other_depth a n e
  depth_so q None g a w n f e = no_word (a, w, n) e

  decide_so : (d : Act O) (T : Tree O) (p q : Place) (g : Grants) (x : Deed O) → Unrefused x.1 → decide d T p (granted q x.1 (Listed [])) ≡ Some x → decide d T p (granted q x.1 g) ≡ Some x
  decide_so Charge T p q g x f e = count_so q (blocked is_spent T p) g x.0 x.1 x.2 f e
  decide_so _ T p q g x f e = e

  opens_so : (b : Wrap O) (T : Tree O) (p q : Place) (g : Grants) (x : Deed O) → Unrefused x.1 → opens b T p (granted q x.1 (Listed [])) ≡ Some x → opens b T p (granted q x.1 g) ≡ Some x
  opens_so Deeper T p q g x f e = depth_so q (blocked is_deep T p) g x.0 x.1 x.2 f e
  opens_so (Framed o back) T p q g x f e = e

  pub decided : (d : Act O) (T : Tree O) (p : Place) (x : Deed O) → Decides d T p x → (τ : List (Event O)) (g : Grants) → Suits g (event (spot p x.0) x.1 ∷ τ) → decide d T p (allowed (event (spot p x.0) x.1 ∷ τ) g) ≡ Some x
  decided d T p x f τ g (as_listed gs e) =
      let h : (hs : List Grant) × (allowed τ g ≡ Listed hs) = allowed_listed τ g gs e in
      ap (λ l. decide d T p (granted (spot p x.0) x.1 l)) h.1 ∙ f h.0
  decided d T p x f τ g (as_granted e) = decide_so d T p (spot p x.0) (allowed τ g) x e.0 (f [])

  pub opened : (b : Wrap O) (T : Tree O) (p : Place) (x : Deed O) → Opens_so b T p x → (τ : List (Event O)) (g : Grants) → Suits g (event (spot p x.0) x.1 ∷ τ) → opens b T p (allowed (event (spot p x.0) x.1 ∷ τ) g) ≡ Some x
  opened b T p x f τ g (as_listed gs e) =
      let h : (hs : List Grant) × (allowed τ g ≡ Listed hs) = allowed_listed τ g gs e in
      ap (λ l. opens b T p (granted (spot p x.0) x.1 l)) h.1 ∙ f h.0
  opened b T p x f τ g (as_granted e) = opens_so b T p (spot p x.0) (allowed τ g) x e.0 (f [])

  -- where the first of them happens, what follows is in the world in which the others are to
  pub after_step : (P : World O → Type 0) (T : Tree O) (p : Place) (x : What O) (τ : List (Event O)) (ms : List (Move O)) (g : Grants) (t : List (Event O)) (u : World O) →
      Step (handing T (event p x ∷ τ) ms g t) p x u → P u → ((s : List (Event O)) → P (handing (effect p x T) τ ms g s) → Begins s τ) → Begins t (event p x ∷ τ)
  after_step P T p x τ ms g t u s a f =
      let tree : u.tree ≡ effect p x T = s.tree in
      let moves : u.moves ≡ handed τ ms = asked-inj p x u.moves (handed τ ms) (sym s.moves) in
      let grants : u.grants ≡ allowed τ g = granted-inj p x u.grants (allowed τ g) (sym s.grants) in
      let same : u ≡ handing (effect p x T) τ ms g u.tape = λ i. record { tree = tree i; moves = moves i; grants = grants i; tape = u.tape } in
      let r : Begins u.tape τ = f u.tape (subst P same a) in
      (r.0, s.tape ∙ ap (λ l. event p x ∷ l) r.1)

module _ {O I : Type 0} (prog : Table O I) where
  -- the run that makes just this happen
  abbrev pub Whole : Tree O → Place → Prog O I → Tree O → Reply → List (Event O) → Type 0
  Whole T p x U r τ = (ms : List (Move O)) (g : Grants) → Suits g τ → Runs prog (handing T τ ms g τ) p x (handing U [] ms g []) (Some r)

  -- a run that is handed what that one reads goes the same way, and what follows is in the world in which the others are to happen
  pub after_run : (P : World O → Ending → Type 0) (T U : Tree O) (p : Place) (x : Prog O I) (r : Reply) (a b : List (Event O)) (ms : List (Move O)) (g : Grants) (t : List (Event O)) (u : World O) (e : Ending) →
      Whole T p x U r a → Suits g (a ++ b) → Runs prog (handing T (a ++ b) ms g t) p x u e → P u e → ((s : List (Event O)) → P (handing U b ms g s) (Some r) → Begins s b) → Begins t (a ++ b)
  after_run P T U p x r a b ms g t u e whole su run c f =
      let w : World O = handing T a (handed b ms) (allowed b g) a in
      let same : handing T (a ++ b) ms g t ≡ retape w t = λ i. record { tree = T; moves = handed-append a b ms i; grants = allowed-append a b g i; tape = t } in
      let one : Agrees w t (handing U [] (handed b ms) (allowed b g) []) (Some r) u e =
      runs_same prog w t p x (handing U [] (handed b ms) (allowed b g) []) (Some r) u e (whole (handed b ms) (allowed b g) (suits_before a b g su)) (subst (λ y. Runs prog y p x u e) same run) in
      let made : a ≡ one.made = one.first ∙ append-nil one.made in
      let there : P (handing U b ms g one.rest) (Some r) = subst (λ y. P y (Some r)) one.world (subst (P u) one.ending c) in
      let k : Begins one.rest b = f one.rest there in
      (k.0, one.second ∙ ap (λ l. l ++ one.rest) (sym made) ∙ ap (λ l. a ++ l) k.1 ∙ sym (append_assoc a b k.0))
