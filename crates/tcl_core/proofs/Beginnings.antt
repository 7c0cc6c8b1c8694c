-- Up to where an entry is ended from outside, what is told is a beginning of what React tells.
use Rattle.std.proofs.Common.{sym, ◌≡◌, ◌⊎◌, inl, inr, ℕ, suc, ◌+◌, ◌-◌, List, [], ◌∷◌, ◌++◌, Option, Some, None, length, refl, ◌∙◌, ap, subst, arith, append-nil, append_assoc, length-append}
use Rattle.tcl_core.specs.Paths.{Place, rise_to}
use Rattle.tcl_core.specs.Endings.{Reply, Cause}
use Rattle.tcl_core.specs.Endings.Reply.{Completed, Stop, Exit, Cut}
use Rattle.tcl_core.specs.Endings.Cause.{Over}
use Rattle.tcl_core.specs.Entries.{Entry, Answer}
use Rattle.tcl_core.specs.Entries.Answer.{Replied, Heard, Nobody}
use Rattle.tcl_core.specs.Trees.{What, Event, Move, at, at_top, asked, where_none}
use Rattle.tcl_core.specs.Trees.Grants.{Budget}
use Rattle.tcl_core.specs.Trees.What.{Made, Dropped, Out, In, Done, Back}
use Rattle.tcl_core.specs.Trees.Move.{Born, Fall, Enter, Come}
use Rattle.tcl_core.specs.Programs.{Table}
use Rattle.tcl_core.specs.Programs.Prog.{wait}
use Rattle.tcl_core.specs.Runs.{World}
use Rattle.tcl_core.specs.Rules.{Derives}
use Rattle.tcl_core.specs.Views.{moves_of, steps_of, view, inside_of}
use Rattle.tcl_core.specs.Lives.{alone, Lives, Outcome, Reacts, idle, never, outs_of, told, put, copies, unwound, spent_at}
use Rattle.tcl_core.specs.Lives.Reacts.{over, waiting, uncalled, unfit, ended_so, spent}
use Rattle.tcl_core.specs.Laws.{Unended, AtMove, IsUnended, IsolationUntil}
use Rattle.tcl_core.proofs.PathLaws.{not_both}
use Rattle.tcl_core.proofs.RuleLaws.{runs_derived}
use Rattle.tcl_core.proofs.Conclusions.{lives_within}
use Rattle.tcl_core.proofs.Reacting.{life_of}
use Rattle.tcl_core.proofs.Refusals.{IsRefusal, Shuts, shutting, quiet_outs, refusal_told}
use Rattle.tcl_core.proofs.Lending.{moves_append, AtRefusal, IsStop, Alike, runs_meet}

module _ {O : Type 0} where
  -- LISTS OF HAPPENINGS
  put_append : (o : Option Place) (p : Place) (x : What O) (a b : List (Event O)) → put o p x (a ++ b) ≡ put o p x a ++ b
  put_append None p x a b = refl
  put_append (Some z) p x a b = refl

  told_append : (p : Place) (x : What O) (a b : List (Event O)) → told p x (a ++ b) ≡ told p x a ++ b
  told_append p (Out h down i) a b = put_append (rise_to h p) p (Out h down i) a b
  told_append p (Done h r) a b = put_append (rise_to h p) p (Done h r) a b
  told_append p x a b = refl

  pub outs_append : (a b : List (Event O)) → outs_of (a ++ b) ≡ outs_of a ++ outs_of b
  outs_append [] b = refl
  outs_append (ev ∷ a) b = ap (told ev.place ev.what) (outs_append a b) ∙ told_append ev.place ev.what (outs_of a) (outs_of b)

  unended_back : (a b : List (Event O)) → IsUnended (a ++ b) → IsUnended b
  unended_back [] b f = f
  unended_back (ev ∷ a) b f = unended_back a b f.1

  shuts_back : (a b : List (Event O)) → Shuts (a ++ b) → Shuts b
  shuts_back [] b f = f
  shuts_back (ev ∷ a) b f = shuts_back a b f.1

  -- two beginnings of one list: one begins with the other
  abbrev pub Nested : List (Event O) → List (Event O) → List (Event O) → List (Event O) → Type 0
  Nested a b c d = ((q : List (Event O)) × (c ≡ a ++ q) × (b ≡ q ++ d)) ⊎ ((q : List (Event O)) × (a ≡ c ++ q) × (d ≡ q ++ b))

  pub nested : (a b c d : List (Event O)) → a ++ b ≡ c ++ d → Nested a b c d
  nested [] b c d e = inl (c, refl, e)
  nested (x ∷ a) b [] d e = inr (x ∷ a, refl, sym e)
  nested (x ∷ a) b (y ∷ c) d e = by (nested a b c d cc)
    where
      same : x ≡ y
      same = cc

      by : Nested a b c d → Nested (x ∷ a) b (y ∷ c) d
      by (inl (q, f, g)) = inl (q, cc, g)
      by (inr (q, f, g)) = inr (q, cc, g)

  -- a happening that reads a move, and later ones, after some that read all
  pub no_longer : {A : Type 0} (made rest : List (Event O)) (ev : Event O) (q : List (Event O)) → AtMove (ev ∷ rest) → moves_of (made ++ (ev ∷ q)) ≡ moves_of made → A
  no_longer made rest ev q f e =
      let one : (y : Move O) × (asked ev.place ev.what (moves_of q) ≡ y ∷ moves_of q) = f (moves_of q) in
      let l : moves_of made ++ (one.0 ∷ moves_of q) ≡ moves_of made = ap (λ j. moves_of made ++ j) (sym one.1) ∙ sym (moves_append made (ev ∷ q)) ∙ e in
      let n : length (moves_of made) + suc (length (moves_of q)) ≡ length (moves_of made) = sym (length-append (moves_of made) (one.0 ∷ moves_of q)) ∙ ap length l in
      absurd (let z : Prim.⊥ = omega arith in z)

  -- two tapes that go the same way up to a refusal in the first, or to where it reads a move that the second, with the moves a, hasn't
  pub record Ahead (a : List (Move O)) (τ σ : List (Event O)) : Type 0 where
    pub made : List (Event O)
    pub rest1 : List (Event O)
    pub rest2 : List (Event O)
    pub first : τ ≡ made ++ rest1
    pub second : σ ≡ made ++ rest2
    pub at : AtRefusal rest1 ⊎ ((a ≡ moves_of made) × AtMove rest1)

  -- what is told after a refusal, up to where an entry ends, is nothing
  after_refusal : (made q later rest : List (Event O)) → AtRefusal rest → q ++ later ≡ rest → Shuts (made ++ rest) → IsUnended q → outs_of q ≡ []
  after_refusal made [] later rest a e s u = refl
  after_refusal made (ev ∷ q) later rest a e s u =
      let at : IsRefusal ev.place ev.what = let b : AtRefusal (ev ∷ (q ++ later)) = subst AtRefusal (sym e) a in b in
      let h : Shuts (ev ∷ (q ++ later)) = subst Shuts (sym e) (shuts_back made rest s) in
      refusal_told ev.place ev.what (outs_of q) at ∙ quiet_outs q later (h.0 at) u.1

  abbrev Begins : List (Event O) → List (Event O) → Type 0
  Begins before σ = (more : List (Event O)) × (outs_of σ ≡ outs_of before ++ more)

  begins : (before σ q : List (Event O)) → σ ≡ before ++ q → Begins before σ
  begins before σ q e = (outs_of q, ap outs_of e ∙ outs_append before q)

  begins_so : (T before later σ : List (Event O)) → T ≡ before ++ later → IsUnended before → Shuts T → Ahead (moves_of before) T σ → Begins before σ
  begins_so T before later σ e u s a = by (nested before later a.made a.rest1 (sym e ∙ a.first))
    where
      same : before ≡ a.made ++ [] → Begins before σ
      same g = begins before σ a.rest2 (a.second ∙ ap (λ j. j ++ a.rest2) (sym (g ∙ append-nil a.made)))

      further : (q : List (Event O)) → before ≡ a.made ++ q → a.rest1 ≡ q ++ later → AtRefusal a.rest1 ⊎ ((moves_of before ≡ moves_of a.made) × AtMove a.rest1) → Begins before σ
      further [] g h r = same g
      further (ev ∷ q) g h (inr (m, f)) = no_longer a.made (q ++ later) ev q (subst AtMove h f) (ap moves_of (sym g) ∙ m)
      further (ev ∷ q) g h (inl r) =
          let none : outs_of (ev ∷ q) ≡ [] = after_refusal a.made (ev ∷ q) later a.rest1 r (sym h) (subst Shuts a.first s) (unended_back a.made (ev ∷ q) (subst IsUnended g u)) in
          let o : outs_of before ≡ outs_of a.made = ap outs_of g ∙ outs_append a.made (ev ∷ q) ∙ ap (λ j. outs_of a.made ++ j) none ∙ append-nil (outs_of a.made) in
          (outs_of a.rest2, ap outs_of a.second ∙ outs_append a.made a.rest2 ∙ ap (λ j. j ++ outs_of a.rest2) (sym o))

      by : Nested before later a.made a.rest1 → Begins before σ
      by (inl (q, g, h)) = begins before σ (q ++ a.rest2) (a.second ∙ ap (λ j. j ++ a.rest2) g ∙ append_assoc before q a.rest2)
      by (inr (q, g, h)) = further q g h a.at

  -- moves that end nothing from outside
  abbrev pub NoEnds : List (Move O) → Type 0
  NoEnds [] = Unit {0}
  NoEnds (Come (Replied (Cut c)) ∷ ms) = Prim.⊥
  NoEnds (m ∷ ms) = NoEnds ms

  pub no_ends : (τ : List (Event O)) → IsUnended τ → NoEnds (moves_of τ)
  no_ends [] f = tt
  no_ends (ev ∷ τ) f = step ev.place ev.what f.0 (moves_of τ) (no_ends τ f.1)
    where
      enters : (o : Option Place) (p : Place) (i : Entry) (ms : List (Move O)) → NoEnds ms → NoEnds (where_none o (Enter p i) ms)
      enters None p i ms g = g
      enters (Some z) p i ms g = g

      comes : (o : Option Place) (r : Reply) (ms : List (Move O)) → NoEnds (Come (Replied r) ∷ ms) → NoEnds ms → NoEnds (where_none o (Come (Replied r)) ms)
      comes None r ms g h = g
      comes (Some z) r ms g h = h

      hears : (o : Option Place) (y : Rattle.tcl_core.specs.Entries.HostReply) (ms : List (Move O)) → NoEnds ms → NoEnds (where_none o (Come (Heard y)) ms)
      hears None y ms g = g
      hears (Some z) y ms g = g

      misses : (o : Option Place) (ms : List (Move O)) → NoEnds ms → NoEnds (where_none o (Come Nobody) ms)
      misses None ms g = g
      misses (Some z) ms g = g

      cuts : (o : Option Place) (c : Cause) (ms : List (Move O)) → (o ≡ None → Prim.⊥) → NoEnds ms → NoEnds (where_none o (Come (Replied (Cut c))) ms)
      cuts None c ms f g = f refl
      cuts (Some z) c ms f g = g

      top : (p : Place) (m : Move O) (ms : List (Move O)) → NoEnds (m ∷ ms) → NoEnds ms → NoEnds (at_top p m ms)
      top [] m ms g h = g
      top (y ∷ p) m ms g h = h

      step : (p : Place) (x : What O) → Unended p x → (ms : List (Move O)) → NoEnds ms → NoEnds (asked p x ms)
      step p (In h i) f ms g = enters (rise_to h p) p i ms g
      step p (Back h (Heard y)) f ms g = hears (rise_to h p) y ms g
      step p (Back h Nobody) f ms g = misses (rise_to h p) ms g
      step p (Back h (Replied (Completed c))) f ms g = comes (rise_to h p) (Completed c) ms g g
      step p (Back h (Replied (Stop n m))) f ms g = comes (rise_to h p) (Stop n m) ms g g
      step p (Back h (Replied (Exit n))) f ms g = comes (rise_to h p) (Exit n) ms g g
      step p (Back h (Replied (Cut c))) f ms g = cuts (rise_to h p) c ms f g
      step p (Made o s) f ms g = top p (Born o s) ms g g
      step p Dropped f ms g = top p Fall ms g g
      step p x f ms g = g

  pub no_end_in : {A : Type 0} (ms : List (Move O)) (c : Cause) (rest : List (Move O)) → NoEnds (ms ++ Come (Replied (Cut c)) ∷ rest) → A
  no_end_in [] c rest f = absurd f
  no_end_in (Come (Replied (Cut d)) ∷ ms) c rest f = absurd f
  no_end_in (m ∷ ms) c rest f = no_end_in ms c rest f

module _ {O I : Type 0} (prog : Table O I) (k : ℕ) where
  -- the tree alone with the moves a
  abbrev given : World O → List (Move O) → List (Event O) → World O
  given w a σ = record { tree = w.tree; moves = a; grants = Budget (steps_of w.tape + k); tape = σ }

  ahead_of : (w v : World O) (a b : List (Move O)) (σ : List (Event O)) (y : World O) → v.tape ≡ [] → Alike k b [] w a σ v None y None → Ahead a w.tape σ
  ahead_of w v a b σ y f (inl g) = record { made = g.made; rest1 = v.tape; rest2 = g.rest; first = g.first; second = g.second; at = inl (subst AtRefusal (sym f) tt) }
  ahead_of w v a b σ y f (inr g) = record { made = g.made; rest1 = g.rest1; rest2 = g.rest2; first = g.first; second = g.second; at = by g.at }
    where
      by : IsStop w g.rest1 ⊎ ((a ≡ moves_of g.made) × AtMove g.rest1 × AtMove g.rest2) → AtRefusal g.rest1 ⊎ ((a ≡ moves_of g.made) × AtMove g.rest1)
      by (inl h) = inl h.0
      by (inr (h, i, j)) = inr (h, i)

  -- a life with these moves
  lived : (w v : World O) (a b : List (Move O)) (σ : List (Event O)) (y : World O) → w.moves ≡ a ++ b → v.tape ≡ [] → Lives prog w v None → Lives prog (given w a σ) y None → Ahead a w.tape σ
  lived w v a b σ y m f l e =
      ahead_of w v a b σ y f (runs_meet k b [] prog w a σ m [] (wait idle never) v None y None l (subst (λ j. Lives prog (given w j σ) y None) (sym (append-nil a)) e))

  -- at a step that the budget refuses no move is read
  pub not_at : {A : Type 0} (p : Place) (τ : List (Event O)) → AtMove (spent_at p ∷ τ) → A
  not_at p τ f = let g : (y : Move O) × ([] ≡ y ∷ []) = f [] in absurd (bad g.0 g.1)
    where
      bad : (y : Move O) → [] ≡ y ∷ [] → Prim.⊥
      bad y e = cc

  -- a life that the budget ends
  spent_there : (w : World O) (a : List (Move O)) (σ : List (Event O)) (p : Place) (τ : List (Event O)) (made rest1 rest2 : List (Event O)) → w.tape ≡ made ++ rest1 → σ ++ spent_at p ∷ τ ≡ made ++ rest2 → (ms : List (Move O)) → moves_of σ ≡ ms →
      AtRefusal rest1 ⊎ ((ms ≡ moves_of made) × AtMove rest1 × AtMove rest2) → Ahead a w.tape σ
  spent_there w a σ p τ made rest1 rest2 e f ms m r = by (nested σ (spent_at p ∷ τ) made rest2 f)
    where
      longer : (q : List (Event O)) → made ≡ σ ++ q → spent_at p ∷ τ ≡ q ++ rest2 → AtRefusal rest1 ⊎ ((ms ≡ moves_of made) × AtMove rest1 × AtMove rest2) → Ahead a w.tape σ
      longer [] g h (inl i) = record { made = made; rest1 = rest1; rest2 = []; first = e; second = sym (append-nil σ) ∙ sym g ∙ sym (append-nil made); at = inl i }
      longer [] g h (inr (i, j, l)) = not_at p τ (subst AtMove (sym h) l)
      longer (ev ∷ q) g h i =
          let same : ev ≡ spent_at p = (let c : ev ∷ (q ++ rest2) ≡ spent_at p ∷ τ = sym h in cc) in
          record {
            made = σ;
            rest1 = ev ∷ (q ++ rest1);
            rest2 = [];
            first = e ∙ ap (λ j. j ++ rest1) g ∙ append_assoc σ (ev ∷ q) rest1;
            second = sym (append-nil σ);
            at = inl (subst (λ j. IsRefusal j.place j.what) (sym same) refl);
          }

      shorter : (q : List (Event O)) → σ ≡ made ++ q → rest2 ≡ q ++ (spent_at p ∷ τ) → AtRefusal rest1 ⊎ ((ms ≡ moves_of made) × AtMove rest1 × AtMove rest2) → Ahead a w.tape σ
      shorter q g h (inl i) = record { made = made; rest1 = rest1; rest2 = q; first = e; second = g; at = inl i }
      shorter [] g h (inr (i, j, l)) = not_at p τ (subst AtMove h l)
      shorter (ev ∷ q) g h (inr (i, j, l)) = no_longer made (q ++ (spent_at p ∷ τ)) ev q (subst AtMove h l) (ap moves_of (sym g) ∙ m ∙ i)

      by : Nested σ (spent_at p ∷ τ) made rest2 → Ahead a w.tape σ
      by (inl (q, g, h)) = longer q g h r
      by (inr (q, g, h)) = shorter q g h r

  stop_of : (w : World O) (ms : List (Move O)) (made r1 r2 : List (Event O)) → IsStop w r1 ⊎ ((ms ≡ moves_of made) × AtMove r1 × AtMove r2) → AtRefusal r1 ⊎ ((ms ≡ moves_of made) × AtMove r1 × AtMove r2)
  stop_of w ms made r1 r2 (inl h) = inl h.0
  stop_of w ms made r1 r2 (inr h) = inr h

  spends : (w v : World O) (a b : List (Move O)) (σ : List (Event O)) (y : World O) (j : ℕ) (ms rest : List (Move O)) (p : Place) (τ : List (Event O)) → w.moves ≡ a ++ b → v.tape ≡ [] → Lives prog w v None → a ≡ ms ++ rest → moves_of σ ≡ ms →
      Lives prog (unwound (given w a σ) ms j (Cut Over) (σ ++ spent_at p ∷ τ)) y None → Ahead a w.tape σ
  spends w v a b σ y j ms rest p τ m f l e n d = by (runs_meet k (rest ++ b) (copies j (Come (Replied (Cut Over)))) prog w ms (σ ++ spent_at p ∷ τ) (m ∙ ap (λ x. x ++ b) e ∙ append_assoc ms rest b) [] (wait idle never) v None y None l d)
    where
      by : Alike k (rest ++ b) (copies j (Come (Replied (Cut Over)))) w ms (σ ++ spent_at p ∷ τ) v None y None → Ahead a w.tape σ
      by (inl g) = spent_there w a σ p τ g.made v.tape g.rest g.first g.second ms n (inl (subst AtRefusal (sym f) tt))
      by (inr g) = spent_there w a σ p τ g.made g.rest1 g.rest2 g.first g.second ms n (stop_of w ms g.made g.rest1 g.rest2 g.at)

  reacted : (z y : World O) (x : Outcome) → Reacts prog z y x → (w v : World O) (a b : List (Move O)) → z ≡ given w a z.tape → w.moves ≡ a ++ b → NoEnds a → v.tape ≡ [] → Lives prog w v None → Ahead a w.tape z.tape
  reacted z y x (over z2 y2 x2 d u p q r) w v a b e m n f l = lived w v a b z.tape y m f l (subst (λ j. Lives prog j y None) e d)
  reacted z y x (waiting z2 y2 j d u p r) w v a b e m n f l = lived w v a b z.tape y m f l (subst (λ j. Lives prog j y None) e d)
  reacted z y x (uncalled z2 y2 g rest d u p q r) w v a b e m n f l = lived w v a b z.tape y m f l (subst (λ j. Lives prog j y None) e d)
  reacted z y x (unfit z2 u y2 j ms g rest τ d c p q s d2 q2) w v a b e m n f l = lived w v a b z.tape u m f l (subst (λ j. Lives prog j u None) e d)
  reacted z y x (ended_so z2 u y2 j ms c rest τ g d q s p d2 q2) w v a b e m n f l = no_end_in ms c rest (subst NoEnds (sym (ap (λ j. j.moves) e) ∙ g) n)
  reacted z y x (spent z2 y2 j ms rest p τ g s c q d r) w v a b e m n f l =
      spends w v a b z.tape y j ms rest p τ m f l (sym (ap (λ j. j.moves) e) ∙ g) s (subst (λ q. Lives prog (unwound q ms j (Cut Over) (z.tape ++ spent_at p ∷ τ)) y None) e d)

module _ {O I : Type 0} where
  pub isolation_until : IsolationUntil O I
  isolation_until prog c w v t i r m before later x outs V a e f b u le re =
      let l : Lives prog (inside_of c w) (inside_of c v) None = lives_within prog c w v (life_of prog w v t i r a e f) in
      let d : Derives prog (inside_of c w) [] (wait idle never) (inside_of c v) None = runs_derived prog (inside_of c w) [] (wait idle never) (inside_of c v) None l in
      let shut : Shuts (view c w.tape) = shutting prog d (λ q z. absurd (not_both refl z)) (subst (λ τ. Shuts (view c τ)) (sym f) tt) in
      let k : ℕ = m - steps_of (view c w.tape) in
      let n : m ≡ steps_of (view c w.tape) + k = omega (arith, le) in
      let z : alone (at w.tree c) (moves_of before) m re.tape ≡ given prog k (inside_of c w) (moves_of before) re.tape = ap (λ j. alone (at w.tree c) (moves_of before) j re.tape) n in
      let h : Ahead (moves_of before) (view c w.tape) re.tape =
      reacted prog k (alone (at w.tree c) (moves_of before) m re.tape) re.last x re.run (inside_of c w) (inside_of c v) (moves_of before) (moves_of later) z (ap moves_of b ∙ moves_append before later) (no_ends before u) (ap (view c) f) l in
      let res : Begins before re.tape = begins_so (view c w.tape) before later re.tape b u shut h in
      (res.0, re.told ∙ res.1)
