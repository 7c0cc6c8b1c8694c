-- What a life that no step is cut off in reads of its moves, and how it can end.
use Rattle.std.proofs.Common.{sym, ◌≡◌, ◌⊎◌, inl, inr, ℕ, suc, ◌+◌, List, [], ◌∷◌, ◌++◌, Option, Some, None, length, refl, ◌∙◌, ap, subst, arith, append-nil, append_assoc}
use Rattle.tcl_core.specs.Paths.{Place, rise_to}
use Rattle.tcl_core.specs.Endings.{Cause}
use Rattle.tcl_core.specs.Endings.Reply.{Cut}
use Rattle.tcl_core.specs.Endings.Cause.{Over}
use Rattle.tcl_core.specs.Entries.{Entry, Answer}
use Rattle.tcl_core.specs.Entries.Answer.{Replied}
use Rattle.tcl_core.specs.Trees.{Tree, What, Event, Move, at_top, asked, where_none}
use Rattle.tcl_core.specs.Trees.Grants.{Budget}
use Rattle.tcl_core.specs.Trees.What.{Made, Dropped, In, Back, Done, Unfound}
use Rattle.tcl_core.specs.Trees.Move.{Born, Fall, Enter, Come}
use Rattle.tcl_core.specs.Programs.{Prog, Table}
use Rattle.tcl_core.specs.Programs.Prog.{wait}
use Rattle.tcl_core.specs.Runs.{World}
use Rattle.tcl_core.specs.Rules.{Derives}
use Rattle.tcl_core.specs.Views.{moves_of, steps_of}
use Rattle.tcl_core.specs.Lives.{Lives, alone, idle, never, Uncut, IsUncut, begun, ended, InProgress, copies, unwound, spent_at}
use Rattle.tcl_core.specs.Laws.{Unended, IsUnended, AtMove}
use Rattle.tcl_core.proofs.MoreMoves.{asked_more}
use Rattle.tcl_core.proofs.Keeping.{KeepsSteps, derived_keep}
use Rattle.tcl_core.proofs.Counts.{bounded}
use Rattle.tcl_core.proofs.Conclusions.{determinism}
use Rattle.tcl_core.proofs.RuleLaws.{runs_derived}
use Rattle.tcl_core.proofs.Halts.{halted_tape}
use Rattle.tcl_core.proofs.Refusals.{IsRefusal, clash}
use Rattle.tcl_core.proofs.Lending.{moves_append, IsListed, IsStop, Alike, runs_meet}
use Rattle.tcl_core.proofs.Beginnings.{Nested, nested, no_longer, not_at}

pub not_cons : {A B : Type 0} (x : B) (xs : List B) → [] ≡ x ∷ xs → A
not_cons x xs e = absurd (bad e)
  where
    bad : [] ≡ x ∷ xs → Prim.⊥
    bad f = cc

cancel : {A : Type 0} (a x y : List A) → a ++ x ≡ a ++ y → x ≡ y
cancel [] x y e = e
cancel (z ∷ a) x y e = cancel a x y cc

module _ {O : Type 0} where
  -- what a run reads is what its happenings read
  abbrev Read : World O → World O → Type 0
  Read w u = (pre : List (Event O)) × (w.tape ≡ pre ++ u.tape) × (w.moves ≡ moves_of pre ++ u.moves)

  read_step : (w : World O) → KeepsSteps (Read w)
  read_step w u p x v due s (pre, f, g) =
      let ev : Event O = record { place = p; what = x } in
      let m : moves_of (pre ++ ev ∷ []) ++ v.moves ≡ moves_of pre ++ u.moves =
      ap (λ l. l ++ v.moves) (moves_append pre (ev ∷ [])) ∙ append_assoc (moves_of pre) (asked p x []) v.moves ∙ ap (λ l. moves_of pre ++ l) (asked_more p x [] v.moves ∙ sym s.moves) in
      (pre ++ ev ∷ [], f ∙ ap (λ l. pre ++ l) s.tape ∙ sym (append_assoc pre (ev ∷ []) v.tape), g ∙ sym m)

  -- nothing is cut off in it
  uncut_at : (a : List (Event O)) (ev : Event O) (b : List (Event O)) → IsUncut (a ++ ev ∷ b) → Uncut ev.place ev.what
  uncut_at [] ev b f = f.0
  uncut_at (x ∷ a) ev b f = uncut_at a ev b f.1

  pub no_refusal : {A : Type 0} (τ made : List (Event O)) (ev : Event O) (rest : List (Event O)) → IsUncut τ → τ ≡ made ++ ev ∷ rest → IsRefusal ev.place ev.what → A
  no_refusal τ made ev rest u e f = clash ev.place ev.what (uncut_at made ev rest (subst IsUncut e u)) f

  itself : {A : Type 0} (m : Move O) (l : List (Move O)) → l ≡ m ∷ l → A
  itself m l e = let n : length l ≡ suc (length l) = ap length e in absurd (let z : Prim.⊥ = omega arith in z)

  none_same : (o : Option Place) (m y : Move O) (l : List (Move O)) → where_none o m l ≡ y ∷ l → (o ≡ None) × (m ≡ y)
  none_same None m y l e = (refl, cc)
  none_same (Some z) m y l e = itself y l e

  top_same : (p : Place) (m y : Move O) (l : List (Move O)) → at_top p m l ≡ y ∷ l → m ≡ y
  top_same [] m y l e = cc
  top_same (x ∷ p) m y l e = itself y l e

  answer_of : (y z : Answer) (m : Move O) → m ≡ Come y → m ≡ Come z → y ≡ z
  answer_of y z m e f = let g : Come y ≡ Come z = sym e ∙ f in cc

  not_fall : {A : Type 0} (y : Answer) (m : Move O) → m ≡ Fall → m ≡ Come y → A
  not_fall y m e f = absurd (bad f e)
    where
      bad : (m ≡ Come y → m ≡ Fall → Prim.⊥)
      bad g h = cc

  not_enter : {A : Type 0} (p : Place) (i : Entry) (y : Answer) (m : Move O) → m ≡ Enter p i → m ≡ Come y → A
  not_enter p i y m e f = absurd (bad f e)
    where
      bad : (m ≡ Come y → m ≡ Enter p i → Prim.⊥)
      bad g h = cc

  -- what reads an end from outside is cut off by it
  reads_cut : {A : Type 0} (p : Place) (x : What O) (c : Cause) (l : List (Move O)) → asked p x l ≡ Come (Replied (Cut c)) ∷ l → Uncut p x → A
  reads_cut p (In h i) c l e u = let g : (rise_to h p ≡ None) × (Enter p i ≡ Come (Replied (Cut c))) = none_same (rise_to h p) (Enter p i) (Come (Replied (Cut c))) l e in not_enter p i (Replied (Cut c)) (Enter p i) refl g.1
  reads_cut p (Back h y) c l e u =
      let g : (rise_to h p ≡ None) × (Come y ≡ Come (Replied (Cut c))) = none_same (rise_to h p) (Come y) (Come (Replied (Cut c))) l e in
      let v : Uncut {O = O} p (Back h (Replied (Cut c))) = subst (λ z. Uncut {O = O} p (Back h z)) (answer_of y (Replied (Cut c)) (Come y) refl g.1) u in
      absurd (v g.0)
  reads_cut p (Made o s) c l e u = absurd (bad (top_same p (Born o s) (Come (Replied (Cut c))) l e))
    where
      bad : Born o s ≡ Come (Replied (Cut c)) → Prim.⊥
      bad f = cc
  reads_cut p Dropped c l e u = not_fall (Replied (Cut c)) Fall refl (top_same p Fall (Come (Replied (Cut c))) l e)
  reads_cut p (Unfound t i y) c l e u = let g : Enter t i ≡ Come (Replied (Cut c)) = cc in not_enter t i (Replied (Cut c)) (Enter t i) refl g
  reads_cut p x c l e u = itself (Come (Replied (Cut c))) l e

  unended_at : (p : Place) (x : What O) → Uncut p x → Unended p x
  unended_at p (Done h (Cut c)) f = f
  unended_at p (Back h (Replied (Cut c))) f = f
  unended_at p x f = tt

  pub uncut_unended : (τ : List (Event O)) → IsUncut τ → IsUnended τ
  uncut_unended [] f = tt
  uncut_unended (ev ∷ τ) f = (unended_at ev.place ev.what f.0, uncut_unended τ f.1)

  pub not_both_open : {A : Type 0} (τ σ : List (Event O)) (k : ℕ) → τ ≡ σ → InProgress 0 τ → InProgress (suc k) σ → A
  not_both_open τ σ k e f g =
      let h : begun τ ≡ ended τ + suc k = subst (InProgress (suc k)) (sym e) g in
      absurd (let z : Prim.⊥ = omega arith in z)

module _ {O I : Type 0} (prog : Table O I) where
  -- one that halts reads all that happens
  halted_reads : (w v : World O) (p : Place) (x : Prog O I) → Derives prog w p x v None → w.moves ≡ moves_of w.tape ++ v.moves
  halted_reads w v p x d =
      let g : Read w v = derived_keep (Read w) (read_step w) prog d ([], refl, refl) in
      let t : v.tape ≡ [] = halted_tape prog d refl in
      let pre : w.tape ≡ g.0 = g.1 ∙ ap (λ l. g.0 ++ l) t ∙ append-nil g.0 in
      g.2 ∙ ap (λ l. moves_of l ++ v.moves) (sym pre)

  abbrev pub Life : World O → World O → Type 0
  Life w v = Lives prog w v None

  pub life_tape : (w v : World O) → Life w v → v.tape ≡ []
  life_tape w v l = halted_tape prog (runs_derived prog w [] (wait idle never) v None l) refl

  pub life_reads : (w v : World O) → Life w v → w.moves ≡ moves_of w.tape ++ v.moves
  life_reads w v l = halted_reads w v [] (wait idle never) (runs_derived prog w [] (wait idle never) v None l)

  -- what is left of a budget
  pub life_paid : (w v : World O) (n : ℕ) → Life w v → w.grants ≡ Budget n → (k : ℕ) × (n ≡ steps_of w.tape + k)
  life_paid w v n l e =
      let b : (k : ℕ) × (v.grants ≡ Budget k) × (k + steps_of w.tape ≡ n) = bounded prog w v [] (wait idle never) None n l e (life_tape w v l) in
      (b.0, (let f : b.0 + steps_of w.tape ≡ n = b.2 in omega arith))

  module _ (S : Tree O) (ms : List (Move O)) (n : ℕ) where
    -- the same life
    pub same_life : (τ σ : List (Event O)) (v u : World O) → Life (alone S ms n τ) v → Life (alone S ms n σ) u → (τ ≡ σ) × (v ≡ u)
    same_life τ σ v u a b =
        let h = determinism prog (alone S ms n τ) (alone S ms n σ) [] (wait idle never) v u None None refl refl refl a b (life_tape (alone S ms n τ) v a) (life_tape (alone S ms n σ) u b) in
        (h.0, h.1)

    pub words : {A : Type 0} → IsListed (Budget n) → A
    words f = absurd f

    -- one that is ended by an answer isn't done
    pub not_ended : {A : Type 0} (τ σ : List (Event O)) (v u : World O) (ms1 rest : List (Move O)) (c : Cause) (k : ℕ) → Life (alone S ms n τ) v → IsUncut τ → InProgress 0 τ →
        ms ≡ ms1 ++ Come (Replied (Cut c)) ∷ rest → Life (alone S ms1 n σ) u → u.moves ≡ [] → IsUncut σ → InProgress (suc k) σ → A
    not_ended {A} τ σ v u ms1 rest c k d un pr e l q us ps = by (runs_meet j.0 [] (Come (Replied (Cut c)) ∷ rest) prog w ms1 τ (sym (append-nil ms1)) [] (wait idle never) u None v None l (subst (λ y. Life y v) same d))
      where
        w : World O
        w = alone S ms1 n σ

        j : (k : ℕ) × (n ≡ steps_of σ + k)
        j = life_paid w u n l refl

        same : alone S ms n τ ≡ record { tree = S; moves = ms1 ++ Come (Replied (Cut c)) ∷ rest; grants = Budget (steps_of σ + j.0); tape = τ }
        same = λ i. record { tree = S; moves = e i; grants = Budget (j.1 i); tape = τ }

        reads : ms1 ≡ moves_of σ
        reads = life_reads w u l ∙ ap (λ y. moves_of σ ++ y) q ∙ append-nil (moves_of σ)

        further : (made r2 : List (Event O)) → σ ≡ made → τ ≡ made ++ r2 → AtMove r2 → A
        further made [] f g m = not_both_open τ σ k (g ∙ append-nil made ∙ sym f) pr ps
        further made (ev ∷ r) f g m =
            let one : (y : Move O) × (asked ev.place ev.what (moves_of r) ≡ y ∷ moves_of r) = m (moves_of r) in
            let all : moves_of τ ≡ moves_of made ++ (one.0 ∷ moves_of r) = ap moves_of g ∙ moves_append made (ev ∷ r) ∙ ap (λ y. moves_of made ++ y) one.1 in
            let h : ms1 ++ (one.0 ∷ (moves_of r ++ v.moves)) ≡ ms1 ++ (Come (Replied (Cut c)) ∷ rest) =
            ap (λ y. y ++ (one.0 ∷ (moves_of r ++ v.moves))) (reads ∙ ap moves_of f) ∙ sym (append_assoc (moves_of made) (one.0 ∷ moves_of r) v.moves) ∙ ap (λ y. y ++ v.moves) (sym all) ∙ sym (life_reads (alone S ms n τ) v d) ∙ e in
            let b : one.0 ∷ (moves_of r ++ v.moves) ≡ Come (Replied (Cut c)) ∷ rest = cancel ms1 (one.0 ∷ (moves_of r ++ v.moves)) (Come (Replied (Cut c)) ∷ rest) h in
            let first : one.0 ≡ Come (Replied (Cut c)) = cc in
            reads_cut ev.place ev.what c (moves_of r) (one.1 ∙ ap (λ y. y ∷ moves_of r) first) (uncut_at made ev r (subst IsUncut g un))

        parted : (made r1 r2 : List (Event O)) → σ ≡ made ++ r1 → τ ≡ made ++ r2 → IsStop w r1 ⊎ ((ms1 ≡ moves_of made) × AtMove r1 × AtMove r2) → A
        parted made [] r2 f g (inl h) = words (h.1 refl)
        parted made (ev ∷ r) r2 f g (inl h) = no_refusal σ made ev r us f h.0
        parted made [] r2 f g (inr (x, y, z)) = further made r2 (f ∙ append-nil made) g z
        parted made (ev ∷ r) r2 f g (inr (x, y, z)) = no_longer made r ev r y (ap moves_of (sym f) ∙ sym reads ∙ x)

        by : Alike j.0 [] (Come (Replied (Cut c)) ∷ rest) w ms1 τ u None v None → A
        by (inr g) = parted g.made g.rest1 g.rest2 g.first g.second g.at
        by (inl g) =
            let f : σ ≡ g.made = g.first ∙ ap (λ y. g.made ++ y) (life_tape w u l) ∙ append-nil g.made in
            let h : τ ≡ g.made = g.second ∙ ap (λ y. g.made ++ y) (sym (ap (λ y. y.tape) g.world) ∙ life_tape (alone S ms n τ) v d) ∙ append-nil g.made in
            not_both_open τ σ k (h ∙ sym f) pr ps

    -- one that the budget ends isn't done
    pub not_spent : {A : Type 0} (τ σ : List (Event O)) (v u : World O) (ms2 rest : List (Move O)) (k : ℕ) (p : Place) (ρ : List (Event O)) → Life (alone S ms n τ) v → IsUncut τ →
        ms ≡ ms2 ++ rest → moves_of σ ≡ ms2 → Life (unwound (alone S ms n σ) ms2 k (Cut Over) (σ ++ spent_at p ∷ ρ)) u → A
    not_spent {A} τ σ v u ms2 rest k p ρ d un e m l = by (runs_meet j.0 rest (copies k (Come (Replied (Cut Over)))) prog w ms2 (σ ++ spent_at p ∷ ρ) e [] (wait idle never) v None u None d (subst (λ y. Life y u) same l))
      where
        w : World O
        w = alone S ms n τ

        j : (k : ℕ) × (n ≡ steps_of τ + k)
        j = life_paid w v n d refl

        same : unwound (alone S ms n σ) ms2 k (Cut Over) (σ ++ spent_at p ∷ ρ) ≡ record { tree = S; moves = ms2 ++ copies k (Come (Replied (Cut Over))); grants = Budget (steps_of τ + j.0); tape = σ ++ spent_at p ∷ ρ }
        same = λ i. record { tree = S; moves = ms2 ++ copies k (Come (Replied (Cut Over))); grants = Budget (j.1 i); tape = σ ++ spent_at p ∷ ρ }

        refused_in : (made r1 q r2 : List (Event O)) → τ ≡ made ++ r1 → made ≡ σ ++ q → spent_at p ∷ ρ ≡ q ++ r2 → (q ≡ [] → A) → A
        refused_in made r1 [] r2 f g h none = none refl
        refused_in made r1 (ev ∷ q) r2 f g h none =
            let first : ev ≡ spent_at p = (let c : ev ∷ (q ++ r2) ≡ spent_at p ∷ ρ = sym h in cc) in
            no_refusal τ σ ev (q ++ r1) un (f ∙ ap (λ y. y ++ r1) g ∙ append_assoc σ (ev ∷ q) r1) (subst (λ y. IsRefusal y.place y.what) (sym first) refl)

        longer : (made r2 q : List (Event O)) → ms2 ≡ moves_of made → AtMove r2 → σ ≡ made ++ q → r2 ≡ q ++ (spent_at p ∷ ρ) → A
        longer made r2 [] x z g h = not_at prog n p ρ (subst AtMove h z)
        longer made r2 (ev ∷ q) x z g h = no_longer made (q ++ (spent_at p ∷ ρ)) ev q (subst AtMove h z) (ap moves_of (sym g) ∙ m ∙ x)

        parted : (made r1 r2 : List (Event O)) → τ ≡ made ++ r1 → σ ++ spent_at p ∷ ρ ≡ made ++ r2 → IsStop w r1 ⊎ ((ms2 ≡ moves_of made) × AtMove r1 × AtMove r2) → A
        parted made [] r2 f g (inl h) = words (h.1 refl)
        parted made (ev ∷ r) r2 f g (inl h) = no_refusal τ made ev r un f h.0
        parted made r1 r2 f g (inr (x, y, z)) = there (nested σ (spent_at p ∷ ρ) made r2 g)
          where
            there : Nested σ (spent_at p ∷ ρ) made r2 → A
            there (inl (q, a, b)) = refused_in made r1 q r2 f a b (λ c. not_at prog n p ρ (subst AtMove (sym (b ∙ ap (λ y. y ++ r2) c)) z))
            there (inr (q, a, b)) = longer made r2 q x z a b

        by : Alike j.0 rest (copies k (Come (Replied (Cut Over)))) w ms2 (σ ++ spent_at p ∷ ρ) v None u None → A
        by (inr g) = parted g.made g.rest1 g.rest2 g.first g.second g.at
        by (inl g) =
            let f : τ ≡ g.made = g.first ∙ ap (λ y. g.made ++ y) (life_tape w v d) ∙ append-nil g.made in
            let h : σ ++ spent_at p ∷ ρ ≡ g.made = g.second ∙ ap (λ y. g.made ++ y) (sym (ap (λ y. y.tape) g.world) ∙ life_tape (unwound (alone S ms n σ) ms2 k (Cut Over) (σ ++ spent_at p ∷ ρ)) u l) ∙ append-nil g.made in
            no_refusal τ σ (spent_at p) ρ un (f ∙ sym h) refl
