-- A reaction that comes to its end is the only one.
use Rattle.std.proofs.Common.{sym, ◌≡◌, ℕ, suc, List, [], ◌∷◌, ◌++◌, refl, ◌∙◌, ap, subst, append-nil}
use Rattle.tcl_core.specs.Endings.Reply.{Cut}
use Rattle.tcl_core.specs.Endings.Cause.{Over}
use Rattle.tcl_core.specs.Trees.{Tree, Event, Move}
use Rattle.tcl_core.specs.Programs.{Table}
use Rattle.tcl_core.specs.Runs.{World}
use Rattle.tcl_core.specs.Views.{moves_of}
use Rattle.tcl_core.specs.Lives.{Outcome, Reacts, alone, outs_of, outcome_of, IsUncut, InProgress, AllRead, handed, unwound, spent_at}
use Rattle.tcl_core.specs.Lives.Outcome.{Waiting, Finished}
use Rattle.tcl_core.specs.Lives.Reacts.{over, waiting, uncalled, unfit, ended_so, spent}
use Rattle.tcl_core.specs.Laws.{StopsByItself, OneReaction}
use Rattle.tcl_core.proofs.Beginnings.{NoEnds, no_ends, no_end_in}
use Rattle.tcl_core.proofs.LifeMoves.{not_cons, uncut_unended, not_both_open, Life, life_reads, same_life, not_ended, not_spent}

module _ {O : Type 0} where
  nothing_read : (x : Outcome) (ms : List (Move O)) → x ≡ Finished → AllRead x ms → ms ≡ []
  nothing_read x ms e f = let g : AllRead Finished ms = subst (λ y. AllRead y ms) e f in g

  one_move : {A : Type 0} (ms : List (Move O)) (m : Move O) (rest : List (Move O)) → ms ≡ [] → ms ≡ m ∷ rest → A
  one_move ms m rest e f = not_cons m rest (sym e ∙ f)

module _ {O I : Type 0} (prog : Table O I) where
  module _ (S : Tree O) (ms : List (Move O)) (n : ℕ) where
    -- all that another reaction can be
    abbrev Same : World O → Outcome → List (Event O) → World O → Outcome → List (Event O) → Type 0
    Same v x τ u y σ = (y ≡ x) × (σ ≡ τ) × (u.tree ≡ v.tree)

    same_as : (z v : World O) (x : Outcome) (τ : List (Event O)) → Life prog (alone S ms n τ) v → IsUncut τ → InProgress 0 τ → x ≡ outcome_of τ Finished → AllRead x v.moves → (u : World O) (y : Outcome) → Reacts prog z u y → z ≡ alone S ms n z.tape → Same v x τ u y z.tape
    same_as z v x τ d un pr q r u y (over z2 u2 y2 l us ps qs rs) e =
        let h : (τ ≡ z.tape) × (v ≡ u) = same_life prog S ms n τ z.tape v u d (subst (λ j. Life prog j u) e l) in
        (qs ∙ ap (λ j. outcome_of j Finished) (sym h.0) ∙ sym q, sym h.0, ap (λ j. j.tree) (sym h.1))
    same_as z v x τ d un pr q r u y (waiting z2 u2 k l us ps qs) e =
        let h : (τ ≡ z.tape) × (v ≡ u) = same_life prog S ms n τ z.tape v u d (subst (λ j. Life prog j u) e l) in
        not_both_open τ z.tape k h.0 pr ps
    same_as z v x τ d un pr q r u y (uncalled z2 u2 m rest l us ps qs rs) e =
        let h : (τ ≡ z.tape) × (v ≡ u) = same_life prog S ms n τ z.tape v u d (subst (λ j. Life prog j u) e l) in
        one_move v.moves m rest (nothing_read x v.moves (q ∙ ap (λ j. outcome_of j Finished) h.0 ∙ qs) r) (ap (λ j. j.moves) h.1 ∙ rs)
    same_as z v x τ d un pr q r u y (unfit z2 u1 u2 k ms1 m rest ρ l us ps a b l2 c) e =
        let h : (τ ≡ z.tape) × (v ≡ u1) = same_life prog S ms n τ z.tape v u1 d (subst (λ j. Life prog j u1) e l) in
        not_both_open τ z.tape k h.0 pr ps
    same_as z v x τ d un pr q r u y (ended_so z2 u1 u2 k ms1 c rest ρ a l b us ps l2 f) e =
        not_ended prog S ms n τ z.tape v u1 ms1 rest c k d un pr (sym (ap (λ j. j.moves) e) ∙ a) (subst (λ j. Life prog (handed j ms1) u1) e l) b us ps
    same_as z v x τ d un pr q r u y (spent z2 u2 k ms2 rest p ρ a b us ps l c) e =
        not_spent prog S ms n τ z.tape v u ms2 rest k p ρ d un (sym (ap (λ j. j.moves) e) ∙ a) b (subst (λ j. Life prog (unwound j ms2 k (Cut Over) (z.tape ++ spent_at p ∷ ρ)) u) e l)

    -- one that waits
    waits_as : (z v : World O) (j : ℕ) (τ : List (Event O)) → Life prog (alone S ms n τ) v → IsUncut τ → InProgress (suc j) τ → v.moves ≡ [] → (u : World O) (y : Outcome) → Reacts prog z u y → z ≡ alone S ms n z.tape → Same v Waiting τ u y z.tape
    waits_as z v j τ d un pr r u y (over z2 u2 y2 l us ps qs rs) e =
        let h : (τ ≡ z.tape) × (v ≡ u) = same_life prog S ms n τ z.tape v u d (subst (λ i. Life prog i u) e l) in
        not_both_open z.tape τ j (sym h.0) ps pr
    waits_as z v j τ d un pr r u y (waiting z2 u2 k l us ps qs) e =
        let h : (τ ≡ z.tape) × (v ≡ u) = same_life prog S ms n τ z.tape v u d (subst (λ i. Life prog i u) e l) in
        (refl, sym h.0, ap (λ i. i.tree) (sym h.1))
    waits_as z v j τ d un pr r u y (uncalled z2 u2 m rest l us ps qs rs) e =
        let h : (τ ≡ z.tape) × (v ≡ u) = same_life prog S ms n τ z.tape v u d (subst (λ i. Life prog i u) e l) in
        not_both_open z.tape τ j (sym h.0) ps pr
    waits_as z v j τ d un pr r u y (unfit z2 u1 u2 k ms1 m rest ρ l us ps a b l2 c) e =
        let h : (τ ≡ z.tape) × (v ≡ u1) = same_life prog S ms n τ z.tape v u1 d (subst (λ i. Life prog i u1) e l) in
        one_move v.moves m rest r (ap (λ i. i.moves) h.1 ∙ a)
    waits_as z v j τ d un pr r u y (ended_so z2 u1 u2 k ms1 c rest ρ a l b us ps l2 f) e =
        let all : ms ≡ moves_of τ = life_reads prog (alone S ms n τ) v d ∙ ap (λ i. moves_of τ ++ i) r ∙ append-nil (moves_of τ) in
        no_end_in ms1 c rest (subst NoEnds (sym all ∙ sym (ap (λ i. i.moves) e) ∙ a) (no_ends τ (uncut_unended τ un)))
    waits_as z v j τ d un pr r u y (spent z2 u2 k ms2 rest p ρ a b us ps l c) e =
        not_spent prog S ms n τ z.tape v u ms2 rest k p ρ d un (sym (ap (λ i. i.moves) e) ∙ a) b (subst (λ i. Life prog (unwound i ms2 k (Cut Over) (z.tape ++ spent_at p ∷ ρ)) u) e l)

    first_so : (z v : World O) (x : Outcome) → Reacts prog z v x → StopsByItself x → z ≡ alone S ms n z.tape → (u : World O) (y : Outcome) (z2 : World O) → Reacts prog z2 u y → z2 ≡ alone S ms n z2.tape → Same v x z.tape u y z2.tape
    first_so z v x (over z1 v1 x1 l us ps qs rs) f e u y z2 b g = same_as z2 v x z.tape (subst (λ j. Life prog j v) e l) us ps qs rs u y b g
    first_so z v x (waiting z1 v1 k l us ps qs) f e u y z2 b g = waits_as z2 v k z.tape (subst (λ j. Life prog j v) e l) us ps qs u y b g
    first_so z v x (uncalled z1 v1 m rest l us ps qs rs) f e u y z2 b g = absurd f
    first_so z v x (unfit z1 u1 v1 k ms1 m rest ρ l us ps a b2 l2 c) f e u y z2 b g = absurd f
    first_so z v x (ended_so z1 u1 v1 k ms1 c rest ρ a l b2 us ps l2 f2) f e u y z2 b g = absurd f
    first_so z v x (spent z1 v1 k ms2 rest p ρ a b2 us ps l c) f e u y z2 b g = absurd f

module _ {O I : Type 0} where
  pub one_reaction : OneReaction O I
  one_reaction prog S ms n x y outs told V W a d b =
      let h : (y ≡ x) × (b.tape ≡ a.tape) × (b.last.tree ≡ a.last.tree) = first_so prog S ms n (alone S ms n a.tape) a.last x a.run d refl b.last y (alone S ms n b.tape) b.run refl in
      (h.0, b.told ∙ ap outs_of h.1 ∙ sym a.told, b.left ∙ h.2 ∙ sym a.left)
