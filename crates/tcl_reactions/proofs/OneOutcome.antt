-- A tree, moves and a budget come to one outcome.
use Rattle.std.proofs.Common.{sym, ◌≡◌, ◌⊎◌, inl, inr, ℕ, suc, ◌+◌, List, [], ◌∷◌, ◌++◌, Option, Some, None, length, refl, ◌∙◌, ap, subst, arith, append-nil, append_assoc, length-append}
use Rattle.tcl_core.specs.Paths.{Place, rise_to}
use Rattle.tcl_core.specs.Endings.{Cause}
use Rattle.tcl_core.specs.Endings.{Reply}
use Rattle.tcl_core.specs.Endings.Reply.{Completed, Stop, Exit, Cut}
use Rattle.tcl_core.specs.Endings.Cause.{Above, Over}
use Rattle.tcl_core.specs.Entries.Answer.{Replied, Heard, Nobody}
use Rattle.tcl_core.specs.Trees.{Tree, What, Event, Move}
use Rattle.tcl_core.specs.Trees.Grants.{Budget}
use Rattle.tcl_core.specs.Trees.What.{Done, Unfound}
use Rattle.tcl_core.specs.Trees.Move.{Born, Fall, Enter, Come}
use Rattle.tcl_core.specs.Programs.{Table}
use Rattle.tcl_core.specs.Programs.Prog.{wait}
use Rattle.tcl_core.specs.Runs.{World}
use Rattle.tcl_core.specs.Views.{moves_of, steps_of}
use Rattle.tcl_core.specs.Lives.{Outcome, Reacts, alone, end_of, idle, last_of, never, outcome_at, outs_of, outcome_of, IsUncut, begun, ended, InProgress, copies, handed, unwound, spent_at}
use Rattle.tcl_core.specs.Lives.Outcome.{Ended, Spent, Misfit, Finished}
use Rattle.tcl_core.specs.Lives.Reacts.{over, waiting, uncalled, unfit, ended_so, spent}
use Rattle.tcl_core.specs.Laws.{AtMove, StopsByItself}
use Rattle.tcl_core.proofs.Conclusions.{determinism}
use Rattle.tcl_core.proofs.Parting.{Parts, part}
use Rattle.tcl_core.proofs.Reactions.{one_reaction}
use Rattle.tcl_core.proofs.RuleLaws.{derived_runs, runs_derived}
use Rattle.tcl_core.proofs.Refusals.{IsRefusal}
use Rattle.tcl_core.proofs.Lending.{moves_append, IsStop, Alike, runs_meet}
use Rattle.tcl_core.proofs.Beginnings.{Nested, nested, no_longer, not_at, NoEnds, no_ends, no_end_in}
use Rattle.tcl_reactions.specs.Laws.{AreFromAbove, OneOutcome}
use Rattle.tcl_core.proofs.LifeMoves.{not_cons, no_refusal, uncut_unended, not_both_open, Life, life_tape, life_reads, life_paid, same_life, words, not_ended, not_spent}

-- ## Lists

front_nil : {A : Type 0} (l r : List A) → [] ≡ l ++ r → l ≡ []
front_nil [] r e = refl
front_nil (x ∷ l) r e = not_cons x (l ++ r) e

no_front : {A : Type 0} (q d : List A) → d ≡ q ++ d → q ≡ []
no_front [] d e = refl
no_front (x ∷ q) d e =
    let n : length d ≡ suc (length q + length d) = ap length e ∙ ap suc (length-append q d) in
    absurd (let z : Prim.⊥ = omega arith in z)

-- two beginnings of one list: one begins with the other
abbrev Parted : {A : Type 0} → List A → List A → List A → List A → Type 0
Parted {A} a b c d = ((q : List A) × (c ≡ a ++ q) × (b ≡ q ++ d)) ⊎ ((q : List A) × (a ≡ c ++ q) × (d ≡ q ++ b))

parted_of : {A : Type 0} (a b c d : List A) → a ++ b ≡ c ++ d → Parted a b c d
parted_of [] b c d e = inl (c, refl, e)
parted_of (x ∷ a) b [] d e = inr (x ∷ a, refl, sym e)
parted_of (x ∷ a) b (y ∷ c) d e = by (parted_of a b c d cc)
  where
    same : x ≡ y
    same = cc

    by : Parted a b c d → Parted (x ∷ a) b (y ∷ c) d
    by (inl (q, f, g)) = inl (q, cc, g)
    by (inr (q, f, g)) = inr (q, cc, g)

cancel_back : {A : Type 0} (x y d : List A) → x ++ d ≡ y ++ d → x ≡ y
cancel_back x y d e = by (parted_of x d y d e)
  where
    by : Parted x d y d → x ≡ y
    by (inl (q, f, g)) = sym (f ∙ ap (λ l. x ++ l) (no_front q d g) ∙ append-nil x)
    by (inr (q, f, g)) = f ∙ ap (λ l. y ++ l) (no_front q d g) ∙ append-nil y

module _ {O : Type 0} where
  -- how the last entry ended is an outcome of its own
  ended_stops : (τ : List (Event O)) (x : Outcome) → StopsByItself x → StopsByItself (outcome_of τ x)
  ended_stops [] x f = f
  ended_stops (ev ∷ τ) x f = ended_stops τ (outcome_at ev.place ev.what x) (at ev.place ev.what)
    where
      last : (o : Option Place) (r : Reply) → StopsByItself (last_of o r x)
      last None (Completed c) = tt
      last None (Stop n m) = tt
      last None (Exit n) = tt
      last None (Cut c) = tt
      last (Some a) r = f

      at : (p : Place) (w : What O) → StopsByItself (outcome_at p w x)
      at p (Done h r) = last (rise_to h p) r
      at p (Unfound t i c) = tt
      at p w = f

  as_many : (τ σ : List (Event O)) (j k : ℕ) → τ ≡ σ → InProgress (suc j) τ → InProgress (suc k) σ → j ≡ k
  as_many τ σ j k e f g =
      let h : begun τ ≡ ended τ + suc k = subst (InProgress (suc k)) (sym e) g in
      let i : begun τ ≡ ended τ + suc j = f in
      omega arith

  -- the first step that the budget refuses
  first_refusal : (δ σ a b : List (Event O)) (p q : Place) → IsUncut δ → IsUncut σ → δ ++ spent_at p ∷ a ≡ σ ++ spent_at q ∷ b → δ ≡ σ
  first_refusal δ σ a b p q f g e = by (nested δ (spent_at p ∷ a) σ (spent_at q ∷ b) e)
    where
      one : (r : List (Event O)) → σ ≡ δ ++ r → spent_at p ∷ a ≡ r ++ spent_at q ∷ b → δ ≡ σ
      one [] h i = sym (h ∙ append-nil δ)
      one (ev ∷ r) h i =
          let same : ev ≡ spent_at p = (let c : ev ∷ (r ++ spent_at q ∷ b) ≡ spent_at p ∷ a = sym i in cc) in
          no_refusal σ δ ev r g h (subst (λ y. IsRefusal y.place y.what) (sym same) refl)

      two : (r : List (Event O)) → δ ≡ σ ++ r → spent_at q ∷ b ≡ r ++ spent_at p ∷ a → δ ≡ σ
      two [] h i = h ∙ append-nil σ
      two (ev ∷ r) h i =
          let same : ev ≡ spent_at q = (let c : ev ∷ (r ++ spent_at p ∷ a) ≡ spent_at q ∷ b = sym i in cc) in
          no_refusal δ σ ev r f h (subst (λ y. IsRefusal y.place y.what) (sym same) refl)

      by : Nested δ (spent_at p ∷ a) σ (spent_at q ∷ b) → δ ≡ σ
      by (inl (r, h, i)) = one r h i
      by (inr (r, h, i)) = two r h i

  -- in what is uncut no end from outside is read
  no_cut_read : {A : Type 0} (τ made r : List (Event O)) (a : List (Move O)) (c : Cause) → IsUncut τ → τ ≡ made ++ r → a ++ Come (Replied (Cut c)) ∷ [] ≡ moves_of made → A
  no_cut_read τ made r a c f e g =
      let all : moves_of τ ≡ a ++ Come (Replied (Cut c)) ∷ moves_of r = ap moves_of e ∙ moves_append made r ∙ ap (λ l. l ++ moves_of r) (sym g) ∙ append_assoc a (Come (Replied (Cut c)) ∷ []) (moves_of r) in
      no_end_in a c (moves_of r) (subst NoEnds all (no_ends τ (uncut_unended τ f)))

module _ {O I : Type 0} (prog : Table O I) (S : Tree O) (n : ℕ) where
  -- two lives that begin alike are the same
  meet : (w z v y : World O) → w.tree ≡ z.tree → w.moves ≡ z.moves → w.grants ≡ z.grants → Life prog w v → Life prog z y → (w.tape ≡ z.tape) × (v ≡ y)
  meet w z v y t m g a b =
      let h = determinism prog w z [] (wait idle never) v y None None t m g a b (life_tape prog w v a) (life_tape prog z y b) in
      (h.0, h.1)

  met : (a b : List (Move O)) (τ σ : List (Event O)) (v u : World O) → a ≡ b → Life prog (alone S a n τ) v → Life prog (alone S b n σ) u → (τ ≡ σ) × (v ≡ u)
  met a b τ σ v u e l k = meet (alone S a n τ) (alone S b n σ) v u refl e refl l k

  -- what is left after the open calls were ended
  ends_alike : (ms a b : List (Move O)) (τ σ ρ ψ : List (Event O)) (j k : ℕ) (r s : Reply) (v u : World O) → a ≡ b → j ≡ k → r ≡ s → Life prog (unwound (alone S ms n τ) a j r ρ) v → Life prog (unwound (alone S ms n σ) b k s ψ) u → u.tree ≡ v.tree
  ends_alike ms a b τ σ ρ ψ j k r s v u e f g l m =
      let h = meet (unwound (alone S ms n τ) a j r ρ) (unwound (alone S ms n σ) b k s ψ) v u refl (λ i. e i ++ copies (f i) (Come (Replied (g i)))) refl l m in
      ap (λ (y : World O). y.tree) (sym h.1)

  -- a life with more moves and another one, which halts where it has read all
  read_all : (ms : List (Move O)) (τ : List (Event O)) (u : World O) → Life prog (alone S ms n τ) u → u.moves ≡ [] → ms ≡ moves_of τ
  read_all ms τ u l e = life_reads prog (alone S ms n τ) u l ∙ ap (λ y. moves_of τ ++ y) e ∙ append-nil (moves_of τ)

  -- where a move doesn't fit, no end from outside would have
  not_unfit : {A : Type 0} (ms a rest : List (Move O)) (τ σ ρ : List (Event O)) (k : ℕ) (u v : World O) → Life prog (alone S ms n τ) u → IsUncut τ → ms ≡ a ++ Come (Replied (Cut Above)) ∷ rest →
      Life prog (unwound (alone S ms n σ) a (suc k) (Cut Above) ρ) v → v.moves ≡ [] → A
  not_unfit {A} ms a rest τ σ ρ k u v d un e l f =
      by (runs_meet j.0 rest (copies k end) prog w front ρ (e ∙ sym (append_assoc a (end ∷ []) rest)) [] (wait idle never) u None v None d (subst (λ y. Life prog y v) same l))
    where
      end : Move O
      end = Come (Replied (Cut Above))

      front : List (Move O)
      front = a ++ end ∷ []

      w : World O
      w = alone S ms n τ

      j : (k : ℕ) × (n ≡ steps_of τ + k)
      j = life_paid prog w u n d refl

      same : unwound (alone S ms n σ) a (suc k) (Cut Above) ρ ≡ record { tree = S; moves = front ++ copies k end; grants = Budget (steps_of τ + j.0); tape = ρ }
      same = λ i. record { tree = S; moves = sym (append_assoc a (end ∷ []) (copies k end)) i; grants = Budget (j.1 i); tape = ρ }

      parted : (made r1 r2 : List (Event O)) → τ ≡ made ++ r1 → IsStop w r1 ⊎ ((front ≡ moves_of made) × AtMove r1 × AtMove r2) → A
      parted made [] r2 g (inl h) = words prog S ms n (h.1 refl)
      parted made (ev ∷ r) r2 g (inl h) = no_refusal τ made ev r un g h.0
      parted made r1 r2 g (inr (x, y, z)) = no_cut_read τ made r1 a Above un g x

      by : Alike j.0 rest (copies k end) w front ρ u None v None → A
      by (inr g) = parted g.made g.rest1 g.rest2 g.first g.at
      by (inl g) =
          let none : g.left ≡ [] = front_nil g.left (copies k end) (sym f ∙ ap (λ (y : World O). y.moves) g.world) in
          let read : front ≡ moves_of g.made = g.used ∙ ap (λ y. moves_of g.made ++ y) none ∙ append-nil (moves_of g.made) in
          no_cut_read τ g.made u.tape a Above un g.first read

  -- the life that the budget ended, with the moves alone that were read before
  alone_spent : (ms a : List (Move O)) (δ ρ : List (Event O)) (k : ℕ) (p : Place) (v : World O) → moves_of δ ≡ a → Life prog (unwound (alone S ms n δ) a k (Cut Over) (δ ++ spent_at p ∷ ρ)) v → v.moves ≡ [] →
      (ψ : List (Event O)) × (u : World O) × Life prog (alone S a n (δ ++ spent_at p ∷ ψ)) u
  alone_spent ms a δ ρ k p v e l f = by (part prog (runs_derived prog w [] (wait idle never) v None l) a (copies k (Come (Replied (Cut Over)))) refl)
    where
      w : World O
      w = unwound (alone S ms n δ) a k (Cut Over) (δ ++ spent_at p ∷ ρ)

      Found : Type 0
      Found = (ψ : List (Event O)) × (u : World O) × Life prog (alone S a n (δ ++ spent_at p ∷ ψ)) u

      there : (made : List (Event O)) (u : World O) → Life prog (alone S a n made) u → (ψ : List (Event O)) → made ≡ δ ++ spent_at p ∷ ψ → Found
      there made u d ψ g = (ψ, u, subst (λ y. Life prog (alone S a n y) u) g d)

      further : (made rest : List (Event O)) (u : World O) → Life prog (alone S a n made) u → u.moves ≡ [] → AtMove rest → Nested δ (spent_at p ∷ ρ) made rest → Found
      further made rest u d m at (inl ([], g, h)) = not_at prog n p ρ (subst AtMove (sym h) at)
      further made rest u d m at (inl (ev ∷ q, g, h)) =
          let same : ev ≡ spent_at p = (let c : ev ∷ (q ++ rest) ≡ spent_at p ∷ ρ = sym h in cc) in
          there made u d q (g ∙ ap (λ y. δ ++ y ∷ q) same)
      further made rest u d m at (inr ([], g, h)) = not_at prog n p ρ (subst AtMove h at)
      further made rest u d m at (inr (ev ∷ q, g, h)) = no_longer made (q ++ spent_at p ∷ ρ) ev q (subst AtMove h at) (ap moves_of (sym g) ∙ e ∙ read_all a made u d m)

      by : Parts prog w [] (wait idle never) v None a (copies k (Come (Replied (Cut Over)))) → Found
      by (inl g) =
          let whole : g.made ++ [] ≡ δ ++ spent_at p ∷ ρ = ap (λ y. g.made ++ y) (sym (life_tape prog w v l)) ∙ sym g.tape in
          there (g.made ++ []) _ (derived_runs prog (g.runs [])) ρ whole
      by (inr g) = stop g.beyond
        where
          d : Life prog (alone S a n g.made) g.last
          d = derived_runs prog g.runs

          stop : (g.rest ≡ []) ⊎ ((g.last.moves ≡ []) × AtMove g.rest) → Found
          stop (inl h) = there g.made g.last d ρ (sym (append-nil g.made) ∙ ap (λ y. g.made ++ y) (sym h) ∙ sym g.tape)
          stop (inr (h, i)) = further g.made g.rest g.last d h i (nested δ (spent_at p ∷ ρ) g.made g.rest g.tape)

  -- two lives that the budget ended, of which the second was handed as much or more
  spent_alike : (a q : List (Move O)) (δ σ ρ ψ : List (Event O)) (p t : Place) (u v : World O) → IsUncut δ → IsUncut σ → Life prog (alone S a n (δ ++ spent_at p ∷ ρ)) u → Life prog (alone S (a ++ q) n (σ ++ spent_at t ∷ ψ)) v → δ ≡ σ
  spent_alike a q δ σ ρ ψ p t u v f g l m = by (part prog (runs_derived prog (alone S (a ++ q) n whole) [] (wait idle never) v None m) a q refl)
    where
      whole : List (Event O)
      whole = σ ++ spent_at t ∷ ψ

      by : Parts prog (alone S (a ++ q) n whole) [] (wait idle never) v None a q → δ ≡ σ
      by (inl h) =
          let tape : h.made ++ [] ≡ whole = ap (λ y. h.made ++ y) (sym (life_tape prog (alone S (a ++ q) n whole) v m)) ∙ sym h.tape in
          let same = met a a (δ ++ spent_at p ∷ ρ) (h.made ++ []) u _ refl l (derived_runs prog (h.runs [])) in
          first_refusal δ σ ρ ψ p t f g (same.0 ∙ tape)
      by (inr h) =
          let same = met a a (δ ++ spent_at p ∷ ρ) h.made u h.last refl l (derived_runs prog h.runs) in
          let tape : whole ≡ δ ++ spent_at p ∷ (ρ ++ h.rest) = h.tape ∙ ap (λ y. y ++ h.rest) (sym same.0) ∙ append_assoc δ (spent_at p ∷ ρ) h.rest in
          first_refusal δ σ (ρ ++ h.rest) ψ p t f g (sym tape)

  spent_so : (ms a b r s : List (Move O)) (δ σ ρ ψ : List (Event O)) (j k : ℕ) (p t : Place) (v u : World O) → ms ≡ a ++ r → ms ≡ b ++ s → moves_of δ ≡ a → moves_of σ ≡ b → IsUncut δ → IsUncut σ →
      Life prog (unwound (alone S ms n δ) a j (Cut Over) (δ ++ spent_at p ∷ ρ)) v → v.moves ≡ [] → Life prog (unwound (alone S ms n σ) b k (Cut Over) (σ ++ spent_at t ∷ ψ)) u → u.moves ≡ [] → δ ≡ σ
  spent_so ms a b r s δ σ ρ ψ j k p t v u e f x y g h l m d c =
      let one = alone_spent ms a δ ρ j p v x l m in
      let two = alone_spent ms b σ ψ k t u y d c in
      by one two (parted_of a r b s (sym e ∙ f))
    where
      by : ((ψ2 : List (Event O)) × (u2 : World O) × Life prog (alone S a n (δ ++ spent_at p ∷ ψ2)) u2) → ((ψ2 : List (Event O)) × (u2 : World O) × Life prog (alone S b n (σ ++ spent_at t ∷ ψ2)) u2) → Parted a r b s → δ ≡ σ
      by one two (inl (q, i, z)) = spent_alike a q δ σ one.0 two.0 p t one.1 two.1 g h one.2 (subst (λ (l : List (Move O)). Life prog (alone S l n (σ ++ spent_at t ∷ two.0)) two.1) i two.2)
      by one two (inr (q, i, z)) = sym (spent_alike b q σ δ two.0 one.0 t p two.1 one.1 h g two.2 (subst (λ (l : List (Move O)). Life prog (alone S l n (δ ++ spent_at p ∷ one.0)) one.1) i one.2))

  -- two that are ended by an answer
  ended_where : (ms a b r s : List (Move O)) (τ σ : List (Event O)) (c d : Cause) (u v : World O) → ms ≡ a ++ Come (Replied (Cut c)) ∷ r → ms ≡ b ++ Come (Replied (Cut d)) ∷ s → Life prog (alone S a n τ) u → u.moves ≡ [] → IsUncut τ →
      Life prog (alone S b n σ) v → v.moves ≡ [] → IsUncut σ → a ≡ b
  ended_where ms a b r s τ σ c d u v e f l lm un k km uk = by (parted_of a (Come (Replied (Cut c)) ∷ r) b (Come (Replied (Cut d)) ∷ s) (sym e ∙ f))
    where
      in_read : {A : Type 0} (x : List (Move O)) (ω : List (Event O)) (y : World O) → Life prog (alone S x n ω) y → y.moves ≡ [] → IsUncut ω → (z : List (Move O)) (g : Cause) (q : List (Move O)) → x ≡ z ++ Come (Replied (Cut g)) ∷ q → A
      in_read x ω y h m w z g q i = no_end_in z g q (subst NoEnds (sym (read_all x ω y h m) ∙ i) (no_ends ω (uncut_unended ω w)))

      by : Parted a (Come (Replied (Cut c)) ∷ r) b (Come (Replied (Cut d)) ∷ s) → a ≡ b
      by (inl ([], g, h)) = sym (g ∙ append-nil a)
      by (inl (m ∷ q, g, h)) =
          let first : m ≡ Come (Replied (Cut c)) = (let z : m ∷ (q ++ Come (Replied (Cut d)) ∷ s) ≡ Come (Replied (Cut c)) ∷ r = sym h in cc) in
          in_read b σ v k km uk a c q (g ∙ ap (λ y. a ++ y ∷ q) first)
      by (inr ([], g, h)) = g ∙ append-nil b
      by (inr (m ∷ q, g, h)) =
          let first : m ≡ Come (Replied (Cut d)) = (let z : m ∷ (q ++ Come (Replied (Cut c)) ∷ r) ≡ Come (Replied (Cut d)) ∷ s = sym h in cc) in
          in_read a τ u l lm un b d q (g ∙ ap (λ y. b ++ y ∷ q) first)

  -- one that is ended by an answer isn't spent
  ended_not_spent : {A : Type 0} (ms a b r s : List (Move O)) (τ σ ρ : List (Event O)) (c : Cause) (k : ℕ) (p : Place) (u v : World O) → ms ≡ a ++ Come (Replied (Cut c)) ∷ r → Life prog (alone S a n τ) u → IsUncut τ →
      ms ≡ b ++ s → moves_of σ ≡ b → IsUncut σ → Life prog (unwound (alone S ms n σ) b k (Cut Over) (σ ++ spent_at p ∷ ρ)) v → A
  ended_not_spent {A} ms a b r s τ σ ρ c k p u v e l un f m uk d = by (parted_of a (Come (Replied (Cut c)) ∷ r) b s (sym e ∙ f))
    where
      by : Parted a (Come (Replied (Cut c)) ∷ r) b s → A
      by (inl ([], g, h)) = not_spent prog S a n τ σ u v b [] k p ρ l un (sym (g ∙ append-nil a) ∙ sym (append-nil b)) m d
      by (inl (y ∷ q, g, h)) =
          let first : y ≡ Come (Replied (Cut c)) = (let z : y ∷ (q ++ s) ≡ Come (Replied (Cut c)) ∷ r = sym h in cc) in
          no_end_in a c q (subst NoEnds (m ∙ g ∙ ap (λ x. a ++ x ∷ q) first) (no_ends σ (uncut_unended σ uk)))
      by (inr (q, g, h)) = not_spent prog S a n τ σ u v b q k p ρ l un g m d

  module _ (ms : List (Move O)) (above : AreFromAbove ms) where
    -- the end from outside that is read is one by what is above
    by_above : (a rest l : List (Move O)) (c : Cause) → AreFromAbove l → l ≡ a ++ Come (Replied (Cut c)) ∷ rest → c ≡ Above
    by_above [] rest l c f e = is_above c (subst AreFromAbove e f)
      where
        is_above : (d : Cause) → AreFromAbove (Come (Replied (Cut d)) ∷ rest) → d ≡ Above
        is_above Above g = refl
        is_above Over g = absurd g
    by_above (m ∷ a) rest [] c f e = not_cons m (a ++ Come (Replied (Cut c)) ∷ rest) e
    by_above (m ∷ a) rest (x ∷ l) c f e = by_above a rest l c (later x l f) cc
      where
        later : (y : Move O) (k : List (Move O)) → AreFromAbove (y ∷ k) → AreFromAbove k
        later (Come (Replied (Cut Above))) k g = g
        later (Come (Replied (Cut Over))) k g = absurd g
        later (Come (Replied (Completed d))) k g = g
        later (Come (Replied (Stop i j))) k g = g
        later (Come (Replied (Exit i))) k g = g
        later (Come (Heard d)) k g = g
        later (Come Nobody) k g = g
        later (Enter d i) k g = g
        later (Born o b) k g = g
        later Fall k g = g

    as_above : (a rest : List (Move O)) (c : Cause) → ms ≡ a ++ Come (Replied (Cut c)) ∷ rest → ms ≡ a ++ Come (Replied (Cut Above)) ∷ rest
    as_above a rest c e = e ∙ ap (λ d. a ++ Come (Replied (Cut d)) ∷ rest) (by_above a rest ms c above e)

    -- all that another reaction can be
    abbrev Same : World O → Outcome → List (Event O) → World O → Outcome → List (Event O) → Type 0
    Same v x τ u y σ = (y ≡ x) × (σ ≡ τ) × (u.tree ≡ v.tree)

    abbrev Either : World O → Outcome → List (Event O) → World O → Outcome → List (Event O) → Type 0
    Either v x τ u y σ = Same v x τ u y σ ⊎ (StopsByItself x ⊎ StopsByItself y)

    abbrev Is : World O → Type 0
    Is z = z ≡ alone S ms n z.tape

    -- the worlds are those in which it is alone
    moves_is : (z : World O) → Is z → (l : List (Move O)) → z.moves ≡ l → ms ≡ l
    moves_is z e l f = sym (ap (λ (j : World O). j.moves) e) ∙ f

    after_uncalled : (z v : World O) (m : Move O) (rest : List (Move O)) → Is z → Life prog z v → IsUncut z.tape → InProgress 0 z.tape → v.moves ≡ m ∷ rest →
        (z2 u : World O) (y : Outcome) → Reacts prog z2 u y → Is z2 → Either v Misfit z.tape u y z2.tape
    after_uncalled z v m rest e l un pr f z2 u y (over w u2 y2 k us ps qs rs) g = inr (inr (subst StopsByItself (sym qs) (ended_stops z2.tape Finished tt)))
    after_uncalled z v m rest e l un pr f z2 u y (waiting w u2 j k us ps qs) g = inr (inr tt)
    after_uncalled z v m rest e l un pr f z2 u y (uncalled w u2 m2 rest2 k us ps os qs) g =
        let h = same_life prog S ms n z.tape z2.tape v u (subst (λ j. Life prog j v) e l) (subst (λ j. Life prog j u) g k) in
        inl (refl, sym h.0, ap (λ (j : World O). j.tree) (sym h.1))
    after_uncalled z v m rest e l un pr f z2 u y (unfit w u1 u2 j a m2 rest2 ρ k us ps b c k2 d) g =
        let h = same_life prog S ms n z.tape z2.tape v u1 (subst (λ j. Life prog j v) e l) (subst (λ j. Life prog j u1) g k) in
        not_both_open z.tape z2.tape j h.0 pr ps
    after_uncalled z v m rest e l un pr f z2 u y (ended_so w u1 u2 j a c rest2 ρ b k d us ps k2 q) g =
        not_ended prog S ms n z.tape z2.tape v u1 a rest2 c j (subst (λ j. Life prog j v) e l) un pr (moves_is z2 g _ b) (subst (λ j. Life prog (handed j a) u1) g k) d us ps
    after_uncalled z v m rest e l un pr f z2 u y (spent w u2 j a rest2 p ρ b c us ps k d) g =
        not_spent prog S ms n z.tape z2.tape v u a rest2 j p ρ (subst (λ j. Life prog j v) e l) un (moves_is z2 g _ b) c (subst (λ i. Life prog (unwound i a j (Cut Over) (z2.tape ++ spent_at p ∷ ρ)) u) g k)

    after_unfit : (z u1 v : World O) (i : ℕ) (a : List (Move O)) (m : Move O) (rest : List (Move O)) (ψ : List (Event O)) → Is z → Life prog z u1 → IsUncut z.tape → InProgress (suc i) z.tape → u1.moves ≡ m ∷ rest → z.moves ≡ a ++ m ∷ rest →
        Life prog (unwound z a (suc i) (end_of (outcome_of z.tape Finished)) ψ) v → (z2 u : World O) (y : Outcome) → Reacts prog z2 u y → Is z2 → Either v Misfit z.tape u y z2.tape
    after_unfit z u1 v i a m rest ψ e l un pr f b l2 z2 u y (over w u2 y2 k us ps qs rs) g = inr (inr (subst StopsByItself (sym qs) (ended_stops z2.tape Finished tt)))
    after_unfit z u1 v i a m rest ψ e l un pr f b l2 z2 u y (waiting w u2 j k us ps qs) g = inr (inr tt)
    after_unfit z u1 v i a m rest ψ e l un pr f b l2 z2 u y (uncalled w u2 m2 rest2 k us ps os qs) g =
        let h = same_life prog S ms n z.tape z2.tape u1 u (subst (λ j. Life prog j u1) e l) (subst (λ j. Life prog j u) g k) in
        not_both_open z2.tape z.tape i (sym h.0) ps pr
    after_unfit z u1 v i a m rest ψ e l un pr f b l2 z2 u y (unfit w u3 u2 j a2 m2 rest2 ρ k us ps b2 c2 k2 d) g =
        let first = subst (λ j. Life prog j u1) e l in
        let second = subst (λ j. Life prog j u3) g k in
        let h = same_life prog S ms n z.tape z2.tape u1 u3 first second in
        let one : a ≡ moves_of z.tape = cancel_back a (moves_of z.tape) (m ∷ rest) (sym (moves_is z e _ b) ∙ life_reads prog (alone S ms n z.tape) u1 first ∙ ap (λ x. moves_of z.tape ++ x) f) in
        let two : a2 ≡ moves_of z2.tape = cancel_back a2 (moves_of z2.tape) (m2 ∷ rest2) (sym (moves_is z2 g _ c2) ∙ life_reads prog (alone S ms n z2.tape) u3 second ∙ ap (λ x. moves_of z2.tape ++ x) b2) in
        inl (
          refl,
          sym h.0,
          ends_alike ms a a2 z.tape z2.tape ψ ρ (suc i) (suc j) (end_of (outcome_of z.tape Finished)) (end_of (outcome_of z2.tape Finished)) v u (one ∙ ap moves_of h.0 ∙ sym two) (ap suc (as_many z.tape z2.tape i j h.0 pr ps))
              (ap (λ τ. end_of (outcome_of τ Finished)) h.0)
              (subst (λ x. Life prog (unwound x a (suc i) (end_of (outcome_of z.tape Finished)) ψ) v) e l2)
              (subst (λ x. Life prog (unwound x a2 (suc j) (end_of (outcome_of z2.tape Finished)) ρ) u) g k2),
        )
    after_unfit z u1 v i a m rest ψ e l un pr f b l2 z2 u y (ended_so w u3 u2 j a2 c rest2 ρ b2 k d us ps k2 q) g =
        not_unfit ms a2 rest2 z.tape z2.tape ρ j u1 u (subst (λ j. Life prog j u1) e l) un (as_above a2 rest2 c (moves_is z2 g _ b2)) (subst (λ x. Life prog (unwound x a2 (suc j) (Cut Above) ρ) u) g k2) q
    after_unfit z u1 v i a m rest ψ e l un pr f b l2 z2 u y (spent w u2 j a2 rest2 p ρ b2 c us ps k d) g =
        not_spent prog S ms n z.tape z2.tape u1 u a2 rest2 j p ρ (subst (λ j. Life prog j u1) e l) un (moves_is z2 g _ b2) c (subst (λ i. Life prog (unwound i a2 j (Cut Over) (z2.tape ++ spent_at p ∷ ρ)) u) g k)

    after_ended : (z u1 v : World O) (i : ℕ) (a : List (Move O)) (c : Cause) (rest : List (Move O)) (ψ : List (Event O)) → Is z → z.moves ≡ a ++ Come (Replied (Cut c)) ∷ rest → Life prog (handed z a) u1 → u1.moves ≡ [] → IsUncut z.tape →
        InProgress (suc i) z.tape → Life prog (unwound z a (suc i) (Cut Above) ψ) v → v.moves ≡ [] → (z2 u : World O) (y : Outcome) → Reacts prog z2 u y → Is z2 → Either v Ended z.tape u y z2.tape
    after_ended z u1 v i a c rest ψ e b l f un pr l2 q z2 u y (over w u2 y2 k us ps qs rs) g = inr (inr (subst StopsByItself (sym qs) (ended_stops z2.tape Finished tt)))
    after_ended z u1 v i a c rest ψ e b l f un pr l2 q z2 u y (waiting w u2 j k us ps qs) g = inr (inr tt)
    after_ended z u1 v i a c rest ψ e b l f un pr l2 q z2 u y (uncalled w u2 m2 rest2 k us ps os qs) g =
        not_ended prog S ms n z2.tape z.tape u u1 a rest c i (subst (λ j. Life prog j u) g k) us ps (moves_is z e _ b) (subst (λ j. Life prog (handed j a) u1) e l) f un pr
    after_ended z u1 v i a c rest ψ e b l f un pr l2 q z2 u y (unfit w u3 u2 j a2 m2 rest2 ρ k us ps b2 c2 k2 d) g =
        not_unfit ms a rest z2.tape z.tape ψ i u3 v (subst (λ j. Life prog j u3) g k) us (as_above a rest c (moves_is z e _ b)) (subst (λ x. Life prog (unwound x a (suc i) (Cut Above) ψ) v) e l2) q
    after_ended z u1 v i a c rest ψ e b l f un pr l2 q z2 u y (ended_so w u3 u2 j a2 c2 rest2 ρ b2 k d us ps k2 r) g =
        let first = subst (λ j. Life prog (handed j a) u1) e l in
        let second = subst (λ j. Life prog (handed j a2) u3) g k in
        let same : a ≡ a2 = ended_where ms a a2 rest rest2 z.tape z2.tape c c2 u1 u3 (moves_is z e _ b) (moves_is z2 g _ b2) first f un second d us in
        let h = met a a2 z.tape z2.tape u1 u3 same first second in
        inl (
          refl,
          sym h.0,
          ends_alike ms a a2 z.tape z2.tape ψ ρ (suc i) (suc j) (Cut Above) (Cut Above) v u same (ap suc (as_many z.tape z2.tape i j h.0 pr ps)) refl (subst (λ x. Life prog (unwound x a (suc i) (Cut Above) ψ) v) e l2)
              (subst (λ x. Life prog (unwound x a2 (suc j) (Cut Above) ρ) u) g k2),
        )
    after_ended z u1 v i a c rest ψ e b l f un pr l2 q z2 u y (spent w u2 j a2 rest2 p ρ b2 c2 us ps k d) g =
        ended_not_spent ms a a2 rest rest2 z.tape z2.tape ρ c j p u1 u (moves_is z e _ b) (subst (λ j. Life prog (handed j a) u1) e l) un (moves_is z2 g _ b2) c2 us (subst (λ i. Life prog (unwound i a2 j (Cut Over) (z2.tape ++ spent_at p ∷ ρ)) u) g k)

    after_spent : (z v : World O) (i : ℕ) (a rest : List (Move O)) (p : Place) (ψ : List (Event O)) → Is z → z.moves ≡ a ++ rest → moves_of z.tape ≡ a → IsUncut z.tape → InProgress (suc i) z.tape →
        Life prog (unwound z a i (Cut Over) (z.tape ++ spent_at p ∷ ψ)) v → v.moves ≡ [] → (z2 u : World O) (y : Outcome) → Reacts prog z2 u y → Is z2 → Either v Spent z.tape u y z2.tape
    after_spent z v i a rest p ψ e b c un pr l f z2 u y (over w u2 y2 k us ps qs rs) g = inr (inr (subst StopsByItself (sym qs) (ended_stops z2.tape Finished tt)))
    after_spent z v i a rest p ψ e b c un pr l f z2 u y (waiting w u2 j k us ps qs) g = inr (inr tt)
    after_spent z v i a rest p ψ e b c un pr l f z2 u y (uncalled w u2 m2 rest2 k us ps os qs) g =
        not_spent prog S ms n z2.tape z.tape u v a rest i p ψ (subst (λ j. Life prog j u) g k) us (moves_is z e _ b) c (subst (λ j. Life prog (unwound j a i (Cut Over) (z.tape ++ spent_at p ∷ ψ)) v) e l)
    after_spent z v i a rest p ψ e b c un pr l f z2 u y (unfit w u3 u2 j a2 m2 rest2 ρ k us ps b2 c2 k2 d) g =
        not_spent prog S ms n z2.tape z.tape u3 v a rest i p ψ (subst (λ j. Life prog j u3) g k) us (moves_is z e _ b) c (subst (λ j. Life prog (unwound j a i (Cut Over) (z.tape ++ spent_at p ∷ ψ)) v) e l)
    after_spent z v i a rest p ψ e b c un pr l f z2 u y (ended_so w u3 u2 j a2 c2 rest2 ρ b2 k d us ps k2 r) g =
        ended_not_spent ms a2 a rest2 rest z2.tape z.tape ψ c2 i p u3 v (moves_is z2 g _ b2) (subst (λ j. Life prog (handed j a2) u3) g k) us (moves_is z e _ b) c un (subst (λ j. Life prog (unwound j a i (Cut Over) (z.tape ++ spent_at p ∷ ψ)) v) e l)
    after_spent z v i a rest p ψ e b c un pr l f z2 u y (spent w u2 j a2 rest2 t ρ b2 c2 us ps k d) g =
        let first = subst (λ j. Life prog (unwound j a i (Cut Over) (z.tape ++ spent_at p ∷ ψ)) v) e l in
        let second = subst (λ x. Life prog (unwound x a2 j (Cut Over) (z2.tape ++ spent_at t ∷ ρ)) u) g k in
        let same : z.tape ≡ z2.tape = spent_so ms a a2 rest rest2 z.tape z2.tape ψ ρ i j p t v u (moves_is z e _ b) (moves_is z2 g _ b2) c c2 un us first f second d in
        inl (
          refl,
          sym same,
          ends_alike ms a a2 z.tape z2.tape (z.tape ++ spent_at p ∷ ψ) (z2.tape ++ spent_at t ∷ ρ) i j (Cut Over) (Cut Over) v u (sym c ∙ ap moves_of same ∙ c2) (as_many z.tape z2.tape i j same pr ps) refl first second,
        )

    both : (z v : World O) (x : Outcome) → Reacts prog z v x → Is z → (z2 u : World O) (y : Outcome) → Reacts prog z2 u y → Is z2 → Either v x z.tape u y z2.tape
    both z v x (over w v2 x2 l us ps qs rs) e z2 u y r g = inr (inl (subst StopsByItself (sym qs) (ended_stops z.tape Finished tt)))
    both z v x (waiting w v2 k l us ps qs) e z2 u y r g = inr (inl tt)
    both z v x (uncalled w v2 m rest l us ps os qs) e z2 u y r g = after_uncalled z v m rest e l us ps qs z2 u y r g
    both z v x (unfit w u1 v2 k a m rest ψ l us ps b c l2 d) e z2 u y r g = after_unfit z u1 v k a m rest ψ e l us ps b c l2 z2 u y r g
    both z v x (ended_so w u1 v2 k a c rest ψ b l d us ps l2 q) e z2 u y r g = after_ended z u1 v k a c rest ψ e b l d us ps l2 q z2 u y r g
    both z v x (spent w v2 k a rest p ψ b c us ps l d) e z2 u y r g = after_spent z v k a rest p ψ e b c us ps l d z2 u y r g

module _ {O I : Type 0} where
  pub one_outcome : OneOutcome O I
  one_outcome prog S ms n x y outs told V W above a b = by (both prog S n ms above (alone S ms n a.tape) a.last x a.run refl (alone S ms n b.tape) b.last y b.run refl)
    where
      by : Either prog S n ms above a.last x a.tape b.last y b.tape → (y ≡ x) × (told ≡ outs) × (W ≡ V)
      by (inl h) = (h.0, b.told ∙ ap outs_of h.1 ∙ sym a.told, b.left ∙ h.2 ∙ sym a.left)
      by (inr (inl f)) = one_reaction prog S ms n x y outs told V W a f b
      by (inr (inr f)) = let h = one_reaction prog S ms n y x told outs W V b f a in (sym h.0, sym h.1, sym h.2)
