-- What a record shares with the happenings of which it is the crossings.
use Rattle.std.proofs.Common.{◌≡◌, ◌⊎◌, inl, inr, ℕ, nat_lt, List, [], ◌∷◌, ◌++◌, Option, Some, None, refl, sym, ◌∙◌, ap, subst}
use Rattle.tcl_core.specs.Endings.{Reply}
use Rattle.tcl_core.specs.Endings.Reply.{Completed, Stop, Exit, Cut}
use Rattle.tcl_core.specs.Entries.{Entry}
use Rattle.tcl_core.specs.Entries.Answer.{Replied, Heard, Nobody}
use Rattle.tcl_core.specs.Laws.{IsUnended, KeepsTop, Unended}
use Rattle.tcl_core.specs.Lives.{Outcome, begun, begun_at, ended, ended_at, last_of, one_more, outcome_at, outcome_of, outs_of, put, told}
use Rattle.tcl_core.specs.Lives.Outcome.{Finished}
use Rattle.tcl_core.specs.Paths.{Place, rise_to, strip}
use Rattle.tcl_core.specs.Execution.{event}
use Rattle.tcl_core.specs.Trees.{Event, Move, Tree, What, asked, at_top, effect, where_none}
use Rattle.tcl_core.specs.Trees.Move.{Enter, Come, Born, Fall}
use Rattle.tcl_core.specs.Trees.What.{Out, In, Done, Back, Made, Dropped, Unfound}
use Rattle.tcl_core.specs.Views.{from_above, kept, moves_of, view}
use Rattle.tcl_core.proofs.PathLaws.{not_both}
use Rattle.tcl_core.proofs.Reacting.{IsLasting, Lasting}
use Rattle.tcl_reactions.specs.Laws.{outcome_so_far, waits_if}
use Rattle.tcl_recorder.specs.Boundary.{past, past_the_top}
use Rattle.tcl_recorder.proofs.Meeting.{AreMet, IsMet}

module _ {O : Type 0} where
  -- ## Entries that find nobody

  -- no entry finds nobody
  abbrev pub IsFound : What O → Type 0
  IsFound (Unfound t i c) = Prim.⊥
  IsFound x = Unit {0}

  abbrev pub AreFound : List (Event O) → Type 0
  AreFound [] = Unit {0}
  AreFound (ev ∷ τ) = IsFound ev.what × AreFound τ

  pub found_front : (σ τ : List (Event O)) → AreFound (σ ++ τ) → AreFound σ
  found_front [] τ f = tt
  found_front (ev ∷ σ) τ f = (f.0, found_front σ τ f.1)

  pub found_back : (σ τ : List (Event O)) → AreFound (σ ++ τ) → AreFound τ
  found_back [] τ f = f
  found_back (ev ∷ σ) τ f = found_back σ τ f.1

  pub found_append : (σ τ : List (Event O)) → AreFound σ → AreFound τ → AreFound (σ ++ τ)
  found_append [] τ f g = g
  found_append (ev ∷ σ) τ f g = (f.0, found_append σ τ f.1 g)

  found_above : (b : Option Place) (x : What O) (τ : List (Event O)) → AreFound τ → AreFound (from_above b x τ)
  found_above None x τ f = f
  found_above (Some z) Dropped τ f = (tt, f)
  found_above (Some z) x τ f = f

  -- what is below the top of a run is none that finds nobody
  found_one : (T : Tree O) (p : Place) (x : What O) (s b : Option Place) (τ : List (Event O)) → (p ≡ [] → s ≡ None) → IsMet T p x → AreFound τ → AreFound (kept s b x τ)
  found_one T p x None b τ e m f = found_above b x τ f
  found_one T p (Unfound t i c) (Some q) b τ e m f = absurd (not_both (e m) refl)
  found_one T p x (Some q) b τ e m f = (tt, f)

  pub found_below : (T : Tree O) (name : List ℕ) (c : Place) (τ : List (Event O)) → AreMet T τ → AreFound (view (name ∷ c) τ)
  found_below T name c [] m = tt
  found_below T name c (ev ∷ τ) m =
      found_one T ev.place ev.what (strip (name ∷ c) ev.place) (strip ev.place (name ∷ c)) (view (name ∷ c) τ) (λ e. ap (strip (name ∷ c)) e) m.0
      (found_below (effect ev.place ev.what T) name c τ m.1)

  -- ## Each happening is recorded, or isn't

  abbrev pub Kind : Place → What O → Type 0
  Kind p x = ((τ : List (Event O)) → past p x τ ≡ τ) ⊎ ((τ : List (Event O)) → past p x τ ≡ event p x ∷ τ)

  put_kind : (o : Option Place) (p : Place) (x : What O) → ((τ : List (Event O)) → put o p x τ ≡ τ) ⊎ ((τ : List (Event O)) → put o p x τ ≡ event p x ∷ τ)
  put_kind None p x = inr (λ τ. refl)
  put_kind (Some a) p x = inl (λ τ. refl)

  pub kind : (p : Place) (x : What O) → IsFound x → Kind p x
  kind p (Out h down i) f = put_kind (rise_to h p) p (Out h down i)
  kind p (Back h a) f = put_kind (rise_to h p) p (Back h a)
  kind p (In h i) f = put_kind (rise_to h p) p (In h i)
  kind p (Done h r) f = put_kind (rise_to h p) p (Done h r)
  kind p (Unfound t i c) f = absurd f
  kind p _ f = inl (λ τ. refl)

  -- what is said of each of some happenings is said of each that is recorded
  pub record Pointwise (P : Place → What O → Type 0) (All : List (Event O) → Type 0) : Type 0 where
    pub none : All []
    pub more : (ev : Event O) (τ : List (Event O)) → P ev.place ev.what → All τ → All (ev ∷ τ)
    pub first : (ev : Event O) (τ : List (Event O)) → All (ev ∷ τ) → P ev.place ev.what
    pub later : (ev : Event O) (τ : List (Event O)) → All (ev ∷ τ) → All τ

  pub all_past : (P : Place → What O → Type 0) (All : List (Event O) → Type 0) → Pointwise P All → (σ : List (Event O)) → AreFound σ → All σ → All (past_the_top σ)
  all_past P All f [] n a = a
  all_past P All f (ev ∷ σ) n a = by (kind ev.place ev.what n.0) (all_past P All f σ n.1 (f.later ev σ a))
    where
      by : Kind ev.place ev.what → All (past_the_top σ) → All (past ev.place ev.what (past_the_top σ))
      by (inl e) g = subst All (sym (e (past_the_top σ))) g
      by (inr e) g = subst All (sym (e (past_the_top σ))) (f.more ev (past_the_top σ) (f.first ev σ a) g)

  -- ## A part of a record is the record of a part

  pub record Parts (σ a b : List (Event O)) : Type 0 where
    pub front : List (Event O)
    pub back : List (Event O)
    pub whole : σ ≡ front ++ back
    pub fronts : past_the_top front ≡ a
    pub backs : past_the_top back ≡ b

  no_parts : (a b : List (Event O)) → [] ≡ a ++ b → Parts [] a b
  no_parts [] [] e = record { front = []; back = []; whole = refl; fronts = refl; backs = refl }
  no_parts [] (y ∷ b) e = cc
  no_parts (y ∷ a) b e = cc

  pub parts : (σ a b : List (Event O)) → AreFound σ → past_the_top σ ≡ a ++ b → Parts σ a b
  parts [] a b n e = no_parts a b e
  parts (ev ∷ σ) a b n e = by (kind ev.place ev.what n.0) a (λ l g. parts σ l b n.1 g) e
    where
      unseen : ((τ : List (Event O)) → past ev.place ev.what τ ≡ τ) → (a : List (Event O)) → Parts σ a b → Parts (ev ∷ σ) a b
      unseen f a g = record { front = ev ∷ g.front; back = g.back; whole = ap (λ l. ev ∷ l) g.whole; fronts = f (past_the_top g.front) ∙ g.fronts; backs = g.backs }

      seen : ((τ : List (Event O)) → past ev.place ev.what τ ≡ ev ∷ τ) → (y : Event O) (a : List (Event O)) → ev ≡ y → Parts σ a b → Parts (ev ∷ σ) (y ∷ a) b
      seen f y a s g = record { front = ev ∷ g.front; back = g.back; whole = ap (λ l. ev ∷ l) g.whole; fronts = f (past_the_top g.front) ∙ ap (λ l. ev ∷ l) g.fronts ∙ ap (λ z. z ∷ a) s; backs = g.backs }

      by : Kind ev.place ev.what → (a : List (Event O)) → ((l : List (Event O)) → past_the_top σ ≡ l ++ b → Parts σ l b) → past ev.place ev.what (past_the_top σ) ≡ a ++ b → Parts (ev ∷ σ) a b
      by (inl f) a k e = unseen f a (k a (sym (f (past_the_top σ)) ∙ e))
      by (inr f) [] k e = record { front = []; back = ev ∷ σ; whole = refl; fronts = refl; backs = e }
      by (inr f) (y ∷ a) k e =
          let g : ev ∷ past_the_top σ ≡ y ∷ (a ++ b) = sym (f (past_the_top σ)) ∙ e in
          let s : ev ≡ y = cc in
          let rest : past_the_top σ ≡ a ++ b = cc in
          seen f y a s (k a rest)

  -- a part before a happening that is recorded
  pub record PartsAt (σ a : List (Event O)) (ev : Event O) (b : List (Event O)) : Type 0 where
    pub front : List (Event O)
    pub back : List (Event O)
    pub whole : σ ≡ front ++ ev ∷ back
    pub fronts : past_the_top front ≡ a
    pub backs : past_the_top back ≡ b
    pub passes : past ev.place ev.what [] ≡ ev ∷ []

  pub parts_at : (σ a : List (Event O)) (ev : Event O) (b : List (Event O)) → AreFound σ → past_the_top σ ≡ a ++ ev ∷ b → PartsAt σ a ev b
  parts_at [] [] ev b n e = cc
  parts_at [] (y ∷ a) ev b n e = cc
  parts_at (x ∷ σ) a ev b n e = by (kind x.place x.what n.0) a (λ l g. parts_at σ l ev b n.1 g) e
    where
      unseen : ((τ : List (Event O)) → past x.place x.what τ ≡ τ) → (a : List (Event O)) → PartsAt σ a ev b → PartsAt (x ∷ σ) a ev b
      unseen f a g = record { front = x ∷ g.front; back = g.back; whole = ap (λ l. x ∷ l) g.whole; fronts = f (past_the_top g.front) ∙ g.fronts; backs = g.backs; passes = g.passes }

      seen : ((τ : List (Event O)) → past x.place x.what τ ≡ x ∷ τ) → (y : Event O) (a : List (Event O)) → x ≡ y → PartsAt σ a ev b → PartsAt (x ∷ σ) (y ∷ a) ev b
      seen f y a s g = record { front = x ∷ g.front; back = g.back; whole = ap (λ l. x ∷ l) g.whole; fronts = f (past_the_top g.front) ∙ ap (λ l. x ∷ l) g.fronts ∙ ap (λ z. z ∷ a) s; backs = g.backs; passes = g.passes }

      here : ((τ : List (Event O)) → past x.place x.what τ ≡ x ∷ τ) → x ≡ ev → past_the_top σ ≡ b → PartsAt (x ∷ σ) [] ev b
      here f s g = record { front = []; back = σ; whole = ap (λ z. z ∷ σ) s; fronts = refl; backs = g; passes = subst (λ z. past z.place z.what [] ≡ z ∷ []) s (f []) }

      by : Kind x.place x.what → (a : List (Event O)) → ((l : List (Event O)) → past_the_top σ ≡ l ++ ev ∷ b → PartsAt σ l ev b) → past x.place x.what (past_the_top σ) ≡ a ++ ev ∷ b → PartsAt (x ∷ σ) a ev b
      by (inl f) a k e = unseen f a (k a (sym (f (past_the_top σ)) ∙ e))
      by (inr f) [] k e =
          let g : x ∷ past_the_top σ ≡ ev ∷ b = sym (f (past_the_top σ)) ∙ e in
          let s : x ≡ ev = cc in
          let rest : past_the_top σ ≡ b = cc in
          here f s rest
      by (inr f) (y ∷ a) k e =
          let g : x ∷ past_the_top σ ≡ y ∷ (a ++ ev ∷ b) = sym (f (past_the_top σ)) ∙ e in
          let s : x ≡ y = cc in
          let rest : past_the_top σ ≡ a ++ ev ∷ b = cc in
          seen f y a s (k a rest)

  -- ## Ends from outside

  put_later : (o : Option Place) (p : Place) (x : What O) (τ : List (Event O)) → IsUnended (put o p x τ) → IsUnended τ
  put_later None p x τ f = f.1
  put_later (Some a) p x τ f = f

  unended_cut : (o q : Option Place) (p : Place) (x : What O) (σ τ : List (Event O)) → q ≡ o → (Unended p x ≡ (q ≡ None → Prim.⊥)) → (IsUnended σ → IsUnended τ) → IsUnended (put o p x σ) → (q ≡ None → Prim.⊥) × IsUnended τ
  unended_cut None q p x σ τ e same g f = (subst (λ t. t) same f.0, g f.1)
  unended_cut (Some a) q p x σ τ e same g f = ((λ n. not_both n e), g f)

  unended_one : (p : Place) (x : What O) (σ τ : List (Event O)) → (IsUnended σ → IsUnended τ) → IsUnended (past p x σ) → Unended p x × IsUnended τ
  unended_one p (Out h down i) σ τ g f = (tt, g (put_later (rise_to h p) p (Out h down i) σ f))
  unended_one p (In h i) σ τ g f = (tt, g (put_later (rise_to h p) p (In h i) σ f))
  unended_one p (Back h (Heard y)) σ τ g f = (tt, g (put_later (rise_to h p) p (Back h (Heard y)) σ f))
  unended_one p (Back h Nobody) σ τ g f = (tt, g (put_later (rise_to h p) p (Back h Nobody) σ f))
  unended_one p (Back h (Replied (Completed c))) σ τ g f = (tt, g (put_later (rise_to h p) p (Back h (Replied (Completed c))) σ f))
  unended_one p (Back h (Replied (Stop n m))) σ τ g f = (tt, g (put_later (rise_to h p) p (Back h (Replied (Stop n m))) σ f))
  unended_one p (Back h (Replied (Exit n))) σ τ g f = (tt, g (put_later (rise_to h p) p (Back h (Replied (Exit n))) σ f))
  unended_one p (Back h (Replied (Cut c))) σ τ g f = unended_cut (rise_to h p) (rise_to h p) p (Back h (Replied (Cut c))) σ τ refl refl g f
  unended_one p (Done h (Completed c)) σ τ g f = (tt, g (put_later (rise_to h p) p (Done h (Completed c)) σ f))
  unended_one p (Done h (Stop n m)) σ τ g f = (tt, g (put_later (rise_to h p) p (Done h (Stop n m)) σ f))
  unended_one p (Done h (Exit n)) σ τ g f = (tt, g (put_later (rise_to h p) p (Done h (Exit n)) σ f))
  unended_one p (Done h (Cut c)) σ τ g f = unended_cut (rise_to h p) (rise_to h p) p (Done h (Cut c)) σ τ refl refl g f
  unended_one p (Unfound t i c) σ τ g f = (tt, g f.1.1)
  unended_one p _ σ τ g f = (tt, g f)

  pub unended : (σ : List (Event O)) → IsUnended (past_the_top σ) → IsUnended σ
  unended [] f = f
  unended (ev ∷ σ) f = unended_one ev.place ev.what (past_the_top σ) σ (unended σ) f

  -- ## The outcome

  outcome_put : (o : Option Place) (p : Place) (y : What O) (x : Outcome) (σ τ : List (Event O)) → outcome_at p y x ≡ x → ((x : Outcome) → outcome_of σ x ≡ outcome_of τ x) → outcome_of (put o p y σ) x ≡ outcome_of τ x
  outcome_put None p y x σ τ e g = ap (outcome_of σ) e ∙ g x
  outcome_put (Some a) p y x σ τ e g = g x

  outcome_done : (o : Option Place) (p : Place) (h : Option ℕ) (r : Reply) (x : Outcome) (σ τ : List (Event O)) → rise_to h p ≡ o → ((x : Outcome) → outcome_of σ x ≡ outcome_of τ x) →
      outcome_of (put o p (Done h r) σ) x ≡ outcome_of τ (last_of (rise_to h p) r x)
  outcome_done None p h r x σ τ e g = g (last_of (rise_to h p) r x)
  outcome_done (Some a) p h r x σ τ e g = g x ∙ ap (λ o. outcome_of τ (last_of o r x)) (sym e)

  outcome_one : (p : Place) (y : What O) (σ τ : List (Event O)) (x : Outcome) → ((x : Outcome) → outcome_of σ x ≡ outcome_of τ x) → outcome_of (past p y σ) x ≡ outcome_of τ (outcome_at p y x)
  outcome_one p (Out h down i) σ τ x g = outcome_put (rise_to h p) p (Out h down i) x σ τ refl g
  outcome_one p (Back h a) σ τ x g = outcome_put (rise_to h p) p (Back h a) x σ τ refl g
  outcome_one p (In h i) σ τ x g = outcome_put (rise_to h p) p (In h i) x σ τ refl g
  outcome_one p (Done h r) σ τ x g = outcome_done (rise_to h p) p h r x σ τ refl g
  outcome_one p (Unfound t i c) σ τ x g = g Finished
  outcome_one p _ σ τ x g = g x

  pub outcome_past : (σ : List (Event O)) (x : Outcome) → outcome_of (past_the_top σ) x ≡ outcome_of σ x
  outcome_past [] x = refl
  outcome_past (ev ∷ σ) x = outcome_one ev.place ev.what (past_the_top σ) σ x (outcome_past σ)

  -- ## Entries that begin and end

  begun_silent : (o : Option Place) (p : Place) (x : What O) (σ : List (Event O)) (n : ℕ) → ((k : ℕ) → begun_at p x k ≡ k) → begun σ ≡ n → begun (put o p x σ) ≡ n
  begun_silent None p x σ n f g = f (begun σ) ∙ g
  begun_silent (Some a) p x σ n f g = g

  begun_in : (o : Option Place) (p : Place) (h : Option ℕ) (i : Entry) (σ : List (Event O)) (n : ℕ) → rise_to h p ≡ o → begun σ ≡ n → begun (put o p (In h i) σ) ≡ one_more (rise_to h p) n
  begun_in None p h i σ n e g = ap (one_more (rise_to h p)) g
  begun_in (Some a) p h i σ n e g = g ∙ sym (ap (λ o. one_more o n) e)

  begun_one : (p : Place) (y : What O) (σ : List (Event O)) (n : ℕ) → IsFound y → begun σ ≡ n → begun (past p y σ) ≡ begun_at p y n
  begun_one p (Unfound t i c) σ n f g = absurd f
  begun_one p (Out h down i) σ n f g = begun_silent (rise_to h p) p (Out h down i) σ n (λ k. refl) g
  begun_one p (Back h a) σ n f g = begun_silent (rise_to h p) p (Back h a) σ n (λ k. refl) g
  begun_one p (Done h r) σ n f g = begun_silent (rise_to h p) p (Done h r) σ n (λ k. refl) g
  begun_one p (In h i) σ n f g = begun_in (rise_to h p) p h i σ n refl g
  begun_one p _ σ n f g = g

  pub begun_past : (σ : List (Event O)) → AreFound σ → begun (past_the_top σ) ≡ begun σ
  begun_past [] f = refl
  begun_past (ev ∷ σ) f = begun_one ev.place ev.what (past_the_top σ) (begun σ) f.0 (begun_past σ f.1)

  ended_silent : (o : Option Place) (p : Place) (x : What O) (σ : List (Event O)) (n : ℕ) → ((k : ℕ) → ended_at p x k ≡ k) → ended σ ≡ n → ended (put o p x σ) ≡ n
  ended_silent None p x σ n f g = f (ended σ) ∙ g
  ended_silent (Some a) p x σ n f g = g

  ended_done : (o : Option Place) (p : Place) (h : Option ℕ) (r : Reply) (σ : List (Event O)) (n : ℕ) → rise_to h p ≡ o → ended σ ≡ n → ended (put o p (Done h r) σ) ≡ one_more (rise_to h p) n
  ended_done None p h r σ n e g = ap (one_more (rise_to h p)) g
  ended_done (Some a) p h r σ n e g = g ∙ sym (ap (λ o. one_more o n) e)

  ended_one : (p : Place) (y : What O) (σ : List (Event O)) (n : ℕ) → IsFound y → ended σ ≡ n → ended (past p y σ) ≡ ended_at p y n
  ended_one p (Unfound t i c) σ n f g = absurd f
  ended_one p (Out h down i) σ n f g = ended_silent (rise_to h p) p (Out h down i) σ n (λ k. refl) g
  ended_one p (Back h a) σ n f g = ended_silent (rise_to h p) p (Back h a) σ n (λ k. refl) g
  ended_one p (In h i) σ n f g = ended_silent (rise_to h p) p (In h i) σ n (λ k. refl) g
  ended_one p (Done h r) σ n f g = ended_done (rise_to h p) p h r σ n refl g
  ended_one p _ σ n f g = g

  pub ended_past : (σ : List (Event O)) → AreFound σ → ended (past_the_top σ) ≡ ended σ
  ended_past [] f = refl
  ended_past (ev ∷ σ) f = ended_one ev.place ev.what (past_the_top σ) (ended σ) f.0 (ended_past σ f.1)

  pub so_far_past : (σ : List (Event O)) → AreFound σ → outcome_so_far (past_the_top σ) ≡ outcome_so_far σ
  so_far_past σ f = λ i. waits_if (nat_lt (ended_past σ f i) (begun_past σ f i)) (outcome_past σ Finished i)

  -- ## Moves of a tree that is neither made nor dropped

  keeps_none : (o : Option Place) (m : Move O) (ms : List (Move O)) → (KeepsTop ms → KeepsTop (m ∷ ms)) → KeepsTop ms → KeepsTop (where_none o m ms)
  keeps_none None m ms f k = f k
  keeps_none (Some a) m ms f k = k

  keeps_top_one : (p : Place) (m : Move O) (ms : List (Move O)) → (p ≡ [] → Prim.⊥) → KeepsTop ms → KeepsTop (at_top p m ms)
  keeps_top_one [] m ms f k = absurd (f refl)
  keeps_top_one (y ∷ p) m ms f k = k

  keeps_one : (p : Place) (x : What O) (ms : List (Move O)) → Lasting p x → KeepsTop ms → KeepsTop (asked p x ms)
  keeps_one p (In h i) ms f k = keeps_none (rise_to h p) (Enter p i) ms (λ j. j) k
  keeps_one p (Back h a) ms f k = keeps_none (rise_to h p) (Come a) ms (λ j. j) k
  keeps_one p (Made o s) ms f k = keeps_top_one p (Born o s) ms f k
  keeps_one p Dropped ms f k = keeps_top_one p Fall ms f k
  keeps_one p _ ms f k = k

  pub keeps_top : (τ : List (Event O)) → IsLasting τ → KeepsTop (moves_of τ)
  keeps_top [] f = tt
  keeps_top (ev ∷ τ) f = keeps_one ev.place ev.what (moves_of τ) f.0 (keeps_top τ f.1)

  pub lasting_front : (σ τ : List (Event O)) → IsLasting (σ ++ τ) → IsLasting σ
  lasting_front [] τ f = tt
  lasting_front (ev ∷ σ) τ f = (f.0, lasting_front σ τ f.1)

  pub lasting_back : (σ τ : List (Event O)) → IsLasting (σ ++ τ) → IsLasting τ
  lasting_back [] τ f = f
  lasting_back (ev ∷ σ) τ f = lasting_back σ τ f.1

  -- ## What is handed over, and told

  moves_put : (o q : Option Place) (p : Place) (x : What O) (m : Move O) (σ τ : List (Event O)) → q ≡ o → ((l : List (Move O)) → asked p x l ≡ where_none q m l) → moves_of σ ≡ moves_of τ →
      moves_of (put o p x σ) ≡ where_none q m (moves_of τ)
  moves_put None q p x m σ τ e f g = f (moves_of σ) ∙ ap (where_none q m) g
  moves_put (Some a) q p x m σ τ e f g = g ∙ sym (ap (λ o. where_none o m (moves_of τ)) e)

  moves_silent : (o : Option Place) (p : Place) (x : What O) (σ τ : List (Event O)) → ((l : List (Move O)) → asked p x l ≡ l) → moves_of σ ≡ moves_of τ → moves_of (put o p x σ) ≡ moves_of τ
  moves_silent None p x σ τ f g = f (moves_of σ) ∙ g
  moves_silent (Some a) p x σ τ f g = g

  moves_life : (p : Place) (m : Move O) (ms : List (Move O)) → (p ≡ [] → Prim.⊥) → at_top p m ms ≡ ms
  moves_life [] m ms f = absurd (f refl)
  moves_life (y ∷ p) m ms f = refl

  moves_one : (p : Place) (x : What O) (σ τ : List (Event O)) → Lasting p x → moves_of σ ≡ moves_of τ → moves_of (past p x σ) ≡ asked p x (moves_of τ)
  moves_one p (Out h down i) σ τ f g = moves_silent (rise_to h p) p (Out h down i) σ τ (λ l. refl) g
  moves_one p (Done h r) σ τ f g = moves_silent (rise_to h p) p (Done h r) σ τ (λ l. refl) g
  moves_one p (In h i) σ τ f g = moves_put (rise_to h p) (rise_to h p) p (In h i) (Enter p i) σ τ refl (λ l. refl) g
  moves_one p (Back h a) σ τ f g = moves_put (rise_to h p) (rise_to h p) p (Back h a) (Come a) σ τ refl (λ l. refl) g
  moves_one p (Made o s) σ τ f g = g ∙ sym (moves_life p (Born o s) (moves_of τ) f)
  moves_one p Dropped σ τ f g = g ∙ sym (moves_life p Fall (moves_of τ) f)
  moves_one p (Unfound t i c) σ τ f g = ap (λ l. Enter t i ∷ l) g
  moves_one p _ σ τ f g = g

  pub moves_past : (σ : List (Event O)) → IsLasting σ → moves_of (past_the_top σ) ≡ moves_of σ
  moves_past [] f = refl
  moves_past (ev ∷ σ) f = moves_one ev.place ev.what (past_the_top σ) σ f.0 (moves_past σ f.1)

  outs_put : (o q : Option Place) (p : Place) (x : What O) (σ τ : List (Event O)) → q ≡ o → ((l : List (Event O)) → told p x l ≡ put q p x l) → outs_of σ ≡ outs_of τ → outs_of (put o p x σ) ≡ put q p x (outs_of τ)
  outs_put None q p x σ τ e f g = f (outs_of σ) ∙ ap (put q p x) g
  outs_put (Some a) q p x σ τ e f g = g ∙ sym (ap (λ o. put o p x (outs_of τ)) e)

  outs_silent : (o : Option Place) (p : Place) (x : What O) (σ τ : List (Event O)) → ((l : List (Event O)) → told p x l ≡ l) → outs_of σ ≡ outs_of τ → outs_of (put o p x σ) ≡ outs_of τ
  outs_silent None p x σ τ f g = f (outs_of σ) ∙ g
  outs_silent (Some a) p x σ τ f g = g

  outs_one : (p : Place) (x : What O) (σ τ : List (Event O)) → outs_of σ ≡ outs_of τ → outs_of (past p x σ) ≡ told p x (outs_of τ)
  outs_one p (Out h down i) σ τ g = outs_put (rise_to h p) (rise_to h p) p (Out h down i) σ τ refl (λ l. refl) g
  outs_one p (Done h r) σ τ g = outs_put (rise_to h p) (rise_to h p) p (Done h r) σ τ refl (λ l. refl) g
  outs_one p (In h i) σ τ g = outs_silent (rise_to h p) p (In h i) σ τ (λ l. refl) g
  outs_one p (Back h a) σ τ g = outs_silent (rise_to h p) p (Back h a) σ τ (λ l. refl) g
  outs_one p (Unfound t i c) σ τ g = ap (λ l. event t (Done None (Completed c)) ∷ l) g
  outs_one p _ σ τ g = g

  pub outs_past : (σ : List (Event O)) → outs_of (past_the_top σ) ≡ outs_of σ
  outs_past [] = refl
  outs_past (ev ∷ σ) = outs_one ev.place ev.what (past_the_top σ) σ (outs_past σ)
