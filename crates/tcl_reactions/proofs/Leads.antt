-- What a run comes to that moves are played to: its end, or where the playing is over and what ends it from there.
use Rattle.std.proofs.Common.{sym, ◌≡◌, ℕ, zero, suc, ◌+◌, List, [], ◌∷◌, ◌++◌, Option, Some, None, refl, ◌∙◌, ap, subst, arith, append_assoc}
use Rattle.tcl_core.specs.Paths.{Path, Place, Height}
use Rattle.tcl_core.specs.Endings.{Reply, IsQuit, Cause}
use Rattle.tcl_core.specs.Endings.Reply.{Completed, Stop, Exit, Cut}
use Rattle.tcl_core.specs.Endings.Cause.{Over}
use Rattle.tcl_core.specs.Entries.Answer.{Replied}
use Rattle.tcl_core.specs.Trees.{Tree, Node, Event, Move, Grants, effect, granted}
use Rattle.tcl_core.specs.Trees.Grants.{Budget}
use Rattle.tcl_core.specs.Trees.Move.{Come}
use Rattle.tcl_core.specs.Programs.{Wrap, Prog, Table, closes}
use Rattle.tcl_core.specs.Runs.{World, Ending, Step, carried}
use Rattle.tcl_core.specs.Rules.{Derives, IsNoExit}
use Rattle.tcl_core.specs.Execution.{event}
use Rattle.tcl_core.specs.Lives.{Outcome, copies, outcome_of, outs_of, spent_at}
use Rattle.tcl_core.specs.Lives.Outcome.{Finished, Exited}
use Rattle.tcl_core.proofs.Parting.{closes_silent}
use Rattle.tcl_core.proofs.Unended.{NotCut}
use Rattle.tcl_reactions.specs.Playing.{Fate, Player, IsEnd, last_end}
use Rattle.tcl_reactions.specs.Playing.Fate.{Waits, Unfits, EndsAbove, Spends}
use Rattle.tcl_reactions.proofs.Ways.{Calm, IsBudget, Rest, Way, ahead, ahead-append, allowed_budget, later, outcome_append, outs_outcome, then_way}
use Rattle.tcl_core.proofs.TreeLaws.{any_close}

ends_so : (r q : Reply) → r ≡ q → IsEnd (Replied q) → IsEnd (Replied r)
ends_so r q e f = subst (λ l. IsEnd (Replied l)) (sym e) f

pub end_quits : (r : Reply) → IsEnd (Replied r) → IsQuit r
end_quits (Completed c) f = f
end_quits (Stop n m) f = tt
end_quits (Exit n) f = tt
end_quits (Cut c) f = tt

pub end_carried : (g : Option ℕ) (h : Height) (p : Place) (down : Path) (r : Reply) → IsEnd (Replied r) → carried g h p down r ≡ r
end_carried g h p down (Completed c) f = absurd f
end_carried g h p down (Stop n m) f = absurd f
end_carried None h p down (Exit n) f = refl
end_carried (Some g) h p down (Exit n) f = refl
end_carried None h p down (Cut c) f = refl
end_carried (Some g) h p down (Cut c) f = refl

module _ {O : Type 0} where
  -- how many calls are ended once the playing is over, where j entries are in progress: the one that was open too, where one was
  abbrev pub calls : Fate O → ℕ → ℕ
  calls Spends j = j
  calls f j = suc j

  pub one_call : (f : Fate O) (j : ℕ) → calls f (suc j) ≡ calls f j + 1
  one_call Spends j = omega arith
  one_call (Waits T) j = omega arith
  one_call Unfits j = omega arith
  one_call EndsAbove j = omega arith

  -- with which moves a run halts where the playing is over
  abbrev pub Halting : Fate O → Player O → List (Move O) → Type 0
  Halting Spends u ms = Prim.⊥
  Halting Unfits u ms = ms ≡ u.left
  Halting f u ms = ms ≡ []

  -- by which end the open calls can be ended there, the last entry having ended so; and what budget there must be
  abbrev pub May : Fate O → Outcome → Reply → Type 0
  May Spends x r = r ≡ Cut Over
  May f (Exited n) r = r ≡ Exit n
  May f x r = IsEnd (Replied r)

  abbrev pub Affords : Fate O → Grants → Type 0
  Affords Spends gs = gs ≡ Budget 0
  Affords f gs = Unit {0}

  pub may_end : (f : Fate O) (x : Outcome) (r : Reply) → May f x r → IsEnd (Replied r)
  may_end Spends x r m = ends_so r (Cut Over) m tt
  may_end (Waits T) (Exited n) r m = ends_so r (Exit n) m tt
  may_end (Waits T) x r m = m
  may_end Unfits (Exited n) r m = ends_so r (Exit n) m tt
  may_end Unfits x r m = m
  may_end EndsAbove (Exited n) r m = ends_so r (Exit n) m tt
  may_end EndsAbove x r m = m

  abbrev pub world : Tree O → List (Move O) → Grants → List (Event O) → World O
  world V ms gs ρ = record { tree = V; moves = ms; grants = gs; tape = ρ }

  abbrev pub rest : List (Move O) → Grants → List (Event O) → Rest O
  rest ms gs ρ = record { moves = ms; grants = gs; tape = ρ }

  -- a run that comes to its end
  pub data Comes (V : Tree O) (r : Reply) : Rest O → World O → Ending → Type 0 where
    came : (y : Rest O) → Comes V r y (ahead V [] y) (Some r)

  -- The playing is over at u, the tree being S: with the moves up to there the run halts; and with ends of the open calls after them it
  -- unwinds, by σ, to the tree V.
  pub data Breaks (f : Fate O) (S V : Tree O) (u : Player O) (j : ℕ) (σ : Reply → List (Event O)) : Rest O → World O → Ending → Type 0 where
    halts : (y : Rest O) → Halting f u y.moves → y.tape ≡ [] → Breaks f S V u j σ y (ahead S [] y) None
    unwinds : (r : Reply) (ms : List (Move O)) (gs : Grants) (ρ : List (Event O)) → May f (last_end u) r → Affords f gs → Breaks f S V u j σ (rest (copies (calls f j) (Come (Replied r)) ++ ms) gs (σ r ++ ρ)) (world V ms gs ρ) (Some r)

  -- why
  abbrev pub StopsAt : Fate O → Tree O → (Reply → List (Event O)) → Player O → Type 0
  StopsAt (Waits R) S σ u = (R ≡ S) × (u.left ≡ [])
  StopsAt Unfits S σ u = (m : Move O) × (ms : List (Move O)) × (u.left ≡ m ∷ ms)
  StopsAt EndsAbove S σ u = (c : Cause) × (ms : List (Move O)) × (u.left ≡ Come (Replied (Cut c)) ∷ ms) × Calm (last_end u)
  StopsAt Spends S σ u = (q : Place) × (ρ : List (Event O)) × (u.steps ≡ 0) × (σ (Cut Over) ≡ spent_at q ∷ ρ)

  pub stops_more : (f : Fate O) (S : Tree O) (σ κ : Reply → List (Event O)) (u : Player O) → StopsAt f S σ u → StopsAt f S (λ r. σ r ++ κ r) u
  stops_more (Waits R) S σ κ u s = s
  stops_more Unfits S σ κ u s = s
  stops_more EndsAbove S σ κ u s = s
  stops_more Spends S σ κ u s = (s.0, s.1 ++ κ (Cut Over), s.2, ap (λ l. l ++ κ (Cut Over)) s.3)

  pub after_way : (j : ℕ) (o u v : Player O) (a b : List (Event O)) → Way 0 o a u → Way j u b v → Way j o (a ++ b) v
  after_way j o u v a b f g = let e : 0 + j ≡ j = omega arith in subst (λ n. Way n o (a ++ b) v) e (then_way 0 j o u v a b f g)

  pub way_end : (j : ℕ) (o u : Player O) (τ : List (Event O)) → Way j o τ u → last_end u ≡ outcome_of τ (last_end o)
  way_end j o u τ w = ap (λ l. outcome_of l Finished) w.outs ∙ outcome_append o.outs (outs_of τ) Finished ∙ outs_outcome τ (last_end o)

  copies_plus : (a b : ℕ) (m : Move O) → copies (a + b) m ≡ copies a m ++ copies b m
  copies_plus zero b m = let e : 0 + b ≡ b = omega arith in ap (λ n. copies n m) e
  copies_plus (suc a) b m = let e : suc a + b ≡ suc (a + b) = omega arith in ap (λ n. copies n m) e ∙ ap (λ l. m ∷ l) (copies_plus a b m)

  closes_granted : (p : Place) (b : Wrap O) (m n : Option (Node O)) (gs : Grants) → gs ≡ granted p (closes b m n) gs
  closes_granted p b m n gs = any_close (λ x. gs ≡ granted p x gs) b m n refl refl (λ y. refl)

  pub closing_step : (n : Option (Node O)) (U : Tree O) (p : Place) (b : Wrap O) (ms : List (Move O)) (gs : Grants) (ρ : List (Event O)) →
      Step (world U ms gs (event p (closes b n (U p)) ∷ ρ)) p (closes b n (U p)) (world (effect p (closes b n (U p)) U) ms gs ρ)
  closing_step n U p b ms gs ρ = record { tape = refl; tree = refl; moves = sym (closes_silent p b n (U p) ms); grants = closes_granted p b n (U p) gs }

module _ {O I : Type 0} (prog : Table O I) where
  pub record Leads (T : Tree O) (o : Player O) (p : Place) (x : Prog O I) (j : ℕ) (τ : List (Event O)) (u : Player O) (E : Rest O → World O → Ending → Type 0) : Type 0 where
    pub way : Way j o τ u
    pub runs : (y : Rest O) → IsBudget y.grants → (v : World O) (e : Ending) → E y v e → Derives prog (ahead T τ y) p x v e

  pub data Result (T : Tree O) (o : Player O) (p : Place) (x : Prog O I) (V : Tree O) (z : Player O) (r : Reply) : Type 0 where
    ran : (τ : List (Event O)) → Leads T o p x 0 τ z (Comes V r) → NotCut r → (IsNoExit r → Calm (last_end z)) → Result T o p x V z r
    broke : (τ : List (Event O)) (u : Player O) (j : ℕ) (f : Fate O) (S : Tree O) (σ : Reply → List (Event O)) → Leads T o p x j τ u (Breaks f S V u j σ) →
        z.fate ≡ Some f → z.outs ≡ u.outs → StopsAt f S σ u → IsEnd (Replied r) → Result T o p x V z r

  -- some happenings, after which it goes on as another program
  pub record Prefix (T : Tree O) (o : Player O) (p : Place) (x : Prog O I) (τ : List (Event O)) (U : Tree O) (u : Player O) (q : Place) (y : Prog O I) : Type 0 where
    pub way : Way 0 o τ u
    pub builds : (w : Rest O) → IsBudget w.grants → (v : World O) (e : Ending) → Derives prog (ahead U [] w) q y v e → Derives prog (ahead T τ w) p x v e

  pub tail_leads : (T U : Tree O) (o u z : Player O) (p q : Place) (x y : Prog O I) (j : ℕ) (a b : List (Event O)) (E : Rest O → World O → Ending → Type 0) → Prefix T o p x a U u q y → Leads U u q y j b z E → Leads T o p x j (a ++ b) z E
  tail_leads T U o u z p q x y j a b E f g = record {
    way = after_way j o u z a b f.way g.way;
    runs = λ w n v e h. subst (λ l. Derives prog l p x v e) (sym (ahead-append T a b w)) (f.builds (later b w) (allowed_budget b w.grants n) v e (g.runs w n v e h));
  }

  pub tail : (T U V : Tree O) (o u z : Player O) (p q : Place) (x y : Prog O I) (r : Reply) (a : List (Event O)) → Prefix T o p x a U u q y → Result U u q y V z r → Result T o p x V z r
  tail T U V o u z p q x y r a f (ran τ l n c) = ran (a ++ τ) (tail_leads T U o u z p q x y 0 a τ (Comes V r) f l) n c
  tail T U V o u z p q x y r a f (broke τ w j g S σ l h e s n) = broke (a ++ τ) w j g S σ (tail_leads T U o u w p q x y j a τ (Breaks g S V w j σ) f l) h e s n

  -- an inner run, in a tape that goes on
  pub first : (T U : Tree O) (p : Place) (x : Prog O I) (r : Reply) (o u : Player O) (a b : List (Event O)) (y : Rest O) → IsBudget y.grants → Leads T o p x 0 a u (Comes U r) → Derives prog (ahead T (a ++ b) y) p x (ahead U b y) (Some r)
  first T U p x r o u a b y n l = subst (λ w. Derives prog w p x (ahead U b y) (Some r)) (sym (ahead-append T a b y)) (l.runs (later b y) (allowed_budget b y.grants n) (ahead U b y) (Some r) (came (later b y)))

  -- What is round a run in which the playing is over: it halts where that does; and after that has unwound it unwinds too, by κ, k more calls being ended.
  pub around : (T Q S U V : Tree O) (o z u : Player O) (p q : Place) (x y : Prog O I) (j i k : ℕ) (f : Fate O) (τ σ2 : List (Event O)) (σ κ : Reply → List (Event O)) → calls f i ≡ calls f j + k → Way i o σ2 u →
      Leads Q z q y j τ u (Breaks f S U u j σ) →
      ((w : Rest O) → IsBudget w.grants → Derives prog (ahead Q τ w) q y (ahead S [] w) None → Derives prog (ahead T σ2 w) p x (ahead S [] w) None) →
      ((r : Reply) (ms : List (Move O)) (w : Rest O) (ρ : List (Event O)) → IsBudget w.grants → IsEnd (Replied r) → Derives prog (ahead Q τ w) q y (world U (copies k (Come (Replied r)) ++ ms) w.grants (κ r ++ ρ)) (Some r) → Derives prog (ahead T σ2 w) p x (world V ms w.grants ρ) (Some r)) →
      Leads T o p x i σ2 u (Breaks f S V u i (λ r. σ r ++ κ r))
  around T Q S U V o z u p q x y j i k f τ σ2 σ κ e way l halt wind = record { way = way; runs = runs }
    where
      same : (r : Reply) (ms : List (Move O)) (gs : Grants) (ρ : List (Event O)) → rest (copies (calls f i) (Come (Replied r)) ++ ms) gs ((σ r ++ κ r) ++ ρ) ≡ rest (copies (calls f j) (Come (Replied r)) ++ (copies k (Come (Replied r)) ++ ms)) gs (σ r ++ (κ r ++ ρ))
      same r ms gs ρ =
          let m : copies (calls f i) (Come (Replied r)) ++ ms ≡ copies (calls f j) (Come (Replied r)) ++ (copies k (Come (Replied r)) ++ ms) =
          ap (λ n. copies n (Come (Replied r)) ++ ms) e ∙ ap (λ c. c ++ ms) (copies_plus (calls f j) k (Come (Replied r))) ∙ append_assoc (copies (calls f j) (Come (Replied r))) (copies k (Come (Replied r))) ms in
          λ n. rest (m n) gs (append_assoc (σ r) (κ r) ρ n)

      runs : (w : Rest O) → IsBudget w.grants → (v : World O) (d : Ending) → Breaks f S V u i (λ r. σ r ++ κ r) w v d → Derives prog (ahead T σ2 w) p x v d
      runs w n v d (halts y h t) = halt y n (l.runs y n (ahead S [] y) None (halts y h t))
      runs w n v d (unwinds r ms gs ρ m a) =
          subst (λ y2. Derives prog (ahead T σ2 y2) p x (world V ms gs ρ) (Some r)) (sym (same r ms gs ρ))
          (wind r ms (rest (copies (calls f j) (Come (Replied r)) ++ (copies k (Come (Replied r)) ++ ms)) gs (σ r ++ (κ r ++ ρ))) ρ n (may_end f (last_end u) r m)
          (l.runs (rest (copies (calls f j) (Come (Replied r)) ++ (copies k (Come (Replied r)) ++ ms)) gs (σ r ++ (κ r ++ ρ))) n (world U (copies k (Come (Replied r)) ++ ms) gs (κ r ++ ρ)) (Some r) (unwinds r (copies k (Come (Replied r)) ++ ms) gs (κ r ++ ρ) m a)))
