-- What the playing of moves comes to is what the tree does by itself.
use Rattle.std.proofs.Common.{sym, ◌≡◌, ℕ, suc, ℤ, List, [], ◌∷◌, ◌++◌, Option, Some, None, refl, ◌∙◌, ap, subst, append-nil}
use Rattle.tcl_core.specs.Endings.{Reply}
use Rattle.tcl_core.specs.Endings.Reply.{Cut}
use Rattle.tcl_core.specs.Endings.Cause.{Above, Over}
use Rattle.tcl_core.specs.Entries.{Answer}
use Rattle.tcl_core.specs.Entries.Answer.{Replied}
use Rattle.tcl_core.specs.Trees.{Tree, Event, Move, asked}
use Rattle.tcl_core.specs.Trees.Grants.{Budget}
use Rattle.tcl_core.specs.Trees.Move.{Born, Fall, Enter, Come}
use Rattle.tcl_core.specs.Programs.{Table}
use Rattle.tcl_core.specs.Programs.Prog.{wait}
use Rattle.tcl_core.specs.Runs.{World}
use Rattle.tcl_core.specs.Rules.{Derives}
use Rattle.tcl_core.specs.Views.{moves_of}
use Rattle.tcl_core.specs.Lives
use Rattle.tcl_core.specs.Lives.{AllRead, InProgress, Outcome, React, Reacts, alone, begun, copies, end_of, ended, idle, never, outcome_of, outs_of, spent_at, unwound}
use Rattle.tcl_core.specs.Lives.Outcome.{Finished, Waiting, Ended, Exited, Spent, Misfit}
use Rattle.tcl_core.proofs.Following.{handed, handed-all}
use Rattle.tcl_core.proofs.MoreMoves.{asked_more}
use Rattle.tcl_core.proofs.RuleLaws.{derived_runs}
use Rattle.tcl_reactions.specs.Laws.{PlayedIsReact}
use Rattle.tcl_reactions.specs.Playing.{Fate, IsEnd, IsOver, Lived, NoEntryNext, OverBy, Player, beginner, last_end, left_by, outcome, outcome_by, outcome_with, tree_left}
use Rattle.tcl_reactions.specs.Playing.Fate.{Waits, Unfits, EndsAbove, Spends}
use Rattle.tcl_reactions.proofs.Ways.{Calm, IsBudget, Rest, Way, ahead}
use Rattle.tcl_reactions.proofs.Leads.{May, StopsAt, rest, way_end, world}
use Rattle.tcl_reactions.proofs.Played.{Becomes, Ends, Life, Prefixed, Rests, over_of}
use Rattle.tcl_reactions.proofs.Played.Ends.{halts_at, unwound_at}
use Rattle.tcl_reactions.proofs.Played.Becomes.{on, exits, stops}
use Rattle.tcl_reactions.proofs.Played.Rests.{rests}

calm_may : (O : Type 0) (x : Outcome) (r : Reply) → Calm x → IsEnd (Replied r) → May {O = O} EndsAbove x r
calm_may O (Exited n) r c e = absurd c
calm_may O x r c e = e

-- after an exit that exit alone ends the calls
may_unfit : (O : Type 0) (x : Outcome) → May {O = O} Unfits x (end_of x)
may_unfit O (Exited n) = refl
may_unfit O x = tt

module _ {O : Type 0} where
  -- what these happenings read, and then the rest
  handed_more : (τ : List (Event O)) (l : List (Move O)) → handed τ l ≡ moves_of τ ++ l
  handed_more [] l = refl
  handed_more (ev ∷ τ) l = ap (asked ev.place ev.what) (handed_more τ l) ∙ sym (asked_more ev.place ev.what (moves_of τ) l)

  by_fate : (f : Option (Fate O)) (x : Outcome) (ms : List (Move O)) (g : Option (Fate O)) → f ≡ g → outcome_by f x ms ≡ outcome_by g x ms
  by_fate f x ms g e = ap (λ h. outcome_by h x ms) e

module _ {O I : Type 0} (prog : Table O I) (S : Tree O) (ms : List (Move O)) (n : ℕ) where
  abbrev start : Player O
  start = beginner ms n

  as_react : (z : Player O) (V W : Tree O) (x : Outcome) → outcome z ≡ x → tree_left z V ≡ W → React prog S ms n x z.outs W → React prog S ms n (outcome z) z.outs (tree_left z V)
  as_react z V W x e f r = subst (λ y. React prog S ms n y z.outs (tree_left z V)) (sym e) (subst (λ y. React prog S ms n x z.outs y) (sym f) r)

  -- the life of the tree by itself, in the worlds in which the happenings are ahead
  module _ (j : ℕ) (τ : List (Event O)) (u : Player O) (w : Way j start τ u) where
    left_so : ms ≡ moves_of τ ++ u.left
    left_so = w.moves ∙ handed_more τ u.left

    told_so : u.outs ≡ outs_of τ
    told_so = w.outs

    last_so : last_end u ≡ outcome_of τ Finished
    last_so = way_end j start u τ w

    -- with all moves
    whole : (v : World O) → Derives prog (ahead S τ (rest u.left (Budget u.steps) [])) [] (wait idle never) v None → Lives.Lives prog (alone S ms n τ) v None
    whole v d = derived_runs prog (subst (λ x. Derives prog x [] (wait idle never) v None) (λ i. record { tree = S; moves = sym w.moves i; grants = sym w.steps i; tape = append-nil τ i }) d)

    -- with these alone
    part : (v : World O) → Derives prog (ahead S τ (rest [] (Budget u.steps) [])) [] (wait idle never) v None → Lives.Lives prog (Lives.handed (alone S ms n τ) (moves_of τ)) v None
    part v d = derived_runs prog (subst (λ x. Derives prog x [] (wait idle never) v None) (λ i. record { tree = S; moves = handed-all τ i; grants = sym w.steps i; tape = append-nil τ i }) d)

    -- and with ends of the open calls after them
    with_ends : (k : ℕ) (r : Reply) (σ : List (Event O)) (v : World O) → Derives prog (ahead S τ (rest (copies k (Come (Replied r))) (Budget u.steps) σ)) [] (wait idle never) v None → Lives.Lives prog (unwound (alone S ms n τ) (moves_of τ) k r (τ ++ σ)) v None
    with_ends k r σ v d =
        derived_runs prog (subst (λ x. Derives prog x [] (wait idle never) v None) (λ i. record { tree = S; moves = handed_more τ (copies k (Come (Replied r))) i; grants = sym w.steps i; tape = τ ++ σ }) d)

  budget : (k : ℕ) → IsBudget (Budget k)
  budget k = (k, refl)

  -- all entries came to their end
  finished : (V : Tree O) (z : Player O) (τ : List (Event O)) → Prefixed prog S start τ V z → last_end z ≡ Finished → z.left ≡ [] → React prog S ms n Finished z.outs V
  finished V z τ p last l =
      let y : Rest O = rest z.left (Budget z.steps) [] in
      record {
        tape = τ;
        last = ahead V [] y;
        run = Reacts.over (alone S ms n τ) (ahead V [] y) Finished (whole 0 τ z p.way (ahead V [] y) (p.builds y (budget z.steps) (ahead V [] y) None (Derives.unanswered (ahead V [] y) [] idle never refl l refl)))
            p.way.uncut p.way.owed (sym last ∙ last_so 0 τ z p.way) l;
        told = told_so 0 τ z p.way;
        left = refl;
      }

  -- an answer comes where no call is open
  uncalled : (V : Tree O) (z : Player O) (τ : List (Event O)) (a : Answer) (l : List (Move O)) → Prefixed prog S start τ V z → last_end z ≡ Finished → z.left ≡ Come a ∷ l → React prog S ms n Misfit z.outs V
  uncalled V z τ a l p last e =
      let y : Rest O = rest z.left (Budget z.steps) [] in
      record {
        tape = τ;
        last = ahead V [] y;
        run = Reacts.uncalled (alone S ms n τ) (ahead V [] y) (Come a) l (whole 0 τ z p.way (ahead V [] y) (p.builds y (budget z.steps) (ahead V [] y) None (Derives.unfit (ahead V [] y) [] idle never (Come a) l refl e refl refl)))
            p.way.uncut p.way.owed (sym (last_so 0 τ z p.way) ∙ last) e;
        told = told_so 0 τ z p.way;
        left = refl;
      }

  -- the last entry ended by an exit
  exited : (V : Tree O) (z : Player O) (τ : List (Event O)) (k : ℤ) → Life prog S start 0 τ z (Rests V) → last_end z ≡ Exited k → React prog S ms n (Exited k) z.outs V
  exited V z τ k p last =
      let y : Rest O = rest z.left (Budget z.steps) [] in
      record {
        tape = τ;
        last = ahead V [] y;
        run = Reacts.over (alone S ms n τ) (ahead V [] y) (Exited k) (whole 0 τ z p.way (ahead V [] y) (p.runs y (budget z.steps) (ahead V [] y) None (rests y refl))) p.way.uncut p.way.owed (sym last ∙ last_so 0 τ z p.way) tt;
        told = told_so 0 τ z p.way;
        left = refl;
      }

  -- all moves are read, and a call is open
  waited : (V R Q : Tree O) (u : Player O) (j : ℕ) (τ : List (Event O)) (σ : Reply → List (Event O)) → Life prog S start (suc j) τ u (Ends (Waits R) Q V u j σ) → StopsAt (Waits R) Q σ u → React prog S ms n Waiting u.outs R
  waited V R Q u j τ σ p s =
      let y : Rest O = rest u.left (Budget u.steps) [] in
      record {
        tape = τ;
        last = ahead Q [] y;
        run = Reacts.waiting (alone S ms n τ) (ahead Q [] y) j (whole (suc j) τ u p.way (ahead Q [] y) (p.runs y (budget u.steps) (ahead Q [] y) None (halts_at y s.1 refl))) p.way.uncut p.way.owed s.1;
        told = told_so (suc j) τ u p.way;
        left = s.0;
      }

  -- a call is ended from outside
  ended_above : (V Q : Tree O) (u : Player O) (j : ℕ) (τ : List (Event O)) (σ : Reply → List (Event O)) → Life prog S start (suc j) τ u (Ends EndsAbove Q V u j σ) → StopsAt EndsAbove Q σ u → React prog S ms n Ended u.outs V
  ended_above V Q u j τ σ p s =
      let y : Rest O = rest [] (Budget u.steps) [] in
      let x : Rest O = rest (copies (suc j) (Come (Replied (Cut Above)))) (Budget u.steps) (σ (Cut Above)) in
      let v : World O = world V [] (Budget u.steps) [] in
      record {
        tape = τ;
        last = v;
        run = Reacts.ended_so (alone S ms n τ) (ahead Q [] y) v j (moves_of τ) s.0 s.1 (τ ++ σ (Cut Above)) (left_so (suc j) τ u p.way ∙ ap (λ l. moves_of τ ++ l) s.2)
            (part (suc j) τ u p.way (ahead Q [] y) (p.runs y (budget u.steps) (ahead Q [] y) None (halts_at y refl refl))) refl p.way.uncut p.way.owed
            (with_ends (suc j) τ u p.way (suc j) (Cut Above) (σ (Cut Above)) v (p.runs x (budget u.steps) v None (unwound_at (Cut Above) (Budget u.steps) (calm_may O (last_end u) (Cut Above) s.3 tt) tt))) refl;
        told = told_so (suc j) τ u p.way;
        left = refl;
      }

  -- a move doesn't fit the open call
  misfit : (V Q : Tree O) (u : Player O) (j : ℕ) (τ : List (Event O)) (σ : Reply → List (Event O)) → Life prog S start (suc j) τ u (Ends Unfits Q V u j σ) → StopsAt Unfits Q σ u → React prog S ms n Misfit u.outs V
  misfit V Q u j τ σ p s =
      let r : Reply = end_of (outcome_of τ Finished) in
      let y : Rest O = rest u.left (Budget u.steps) [] in
      let x : Rest O = rest (copies (suc j) (Come (Replied r))) (Budget u.steps) (σ r) in
      let v : World O = world V [] (Budget u.steps) [] in
      record {
        tape = τ;
        last = v;
        run = Reacts.unfit (alone S ms n τ) (ahead Q [] y) v j (moves_of τ) s.0 s.1 (τ ++ σ r)
            (whole (suc j) τ u p.way (ahead Q [] y) (p.runs y (budget u.steps) (ahead Q [] y) None (halts_at y refl refl))) p.way.uncut p.way.owed s.2 (left_so (suc j) τ u p.way ∙ ap (λ l. moves_of τ ++ l) s.2)
            (with_ends (suc j) τ u p.way (suc j) r (σ r) v (p.runs x (budget u.steps) v None (unwound_at r (Budget u.steps) (subst (λ q. May {O = O} Unfits q r) (sym (last_so (suc j) τ u p.way)) (may_unfit O (outcome_of τ Finished))) tt))) refl;
        told = told_so (suc j) τ u p.way;
        left = refl;
      }

  -- no step is left
  spent : (V Q : Tree O) (u : Player O) (j : ℕ) (τ : List (Event O)) (σ : Reply → List (Event O)) → Life prog S start (suc j) τ u (Ends Spends Q V u j σ) → StopsAt Spends Q σ u → React prog S ms n Spent u.outs V
  spent V Q u j τ σ p s =
      let x : Rest O = rest (copies j (Come (Replied (Cut Over)))) (Budget u.steps) (σ (Cut Over)) in
      let v : World O = world V [] (Budget u.steps) [] in
      let l : Lives.Lives prog (unwound (alone S ms n τ) (moves_of τ) j (Cut Over) (τ ++ σ (Cut Over))) v None =
      with_ends (suc j) τ u p.way j (Cut Over) (σ (Cut Over)) v (p.runs x (budget u.steps) v None (unwound_at (Cut Over) (Budget u.steps) refl (ap Budget s.2))) in
      record {
        tape = τ;
        last = v;
        run = Reacts.spent (alone S ms n τ) v j (moves_of τ) u.left s.0 s.1 (left_so (suc j) τ u p.way) refl p.way.uncut p.way.owed
            (subst (λ q. Lives.Lives prog (unwound (alone S ms n τ) (moves_of τ) j (Cut Over) (τ ++ q)) v None) s.3 l) refl;
        told = told_so (suc j) τ u p.way;
        left = refl;
      }

  stopped : (V Q : Tree O) (z u : Player O) (j : ℕ) (f : Fate O) (τ : List (Event O)) (σ : Reply → List (Event O)) → Life prog S start (suc j) τ u (Ends f Q V u j σ) → StopsAt f Q σ u → React prog S ms n (outcome_by (Some f) (last_end z) z.left) u.outs (left_by (Some f) V)
  stopped V Q z u j (Waits R) τ σ p s = waited V R Q u j τ σ p s
  stopped V Q z u j Unfits τ σ p s = misfit V Q u j τ σ p s
  stopped V Q z u j EndsAbove τ σ p s = ended_above V Q u j τ σ p s
  stopped V Q z u j Spends τ σ p s = spent V Q u j τ σ p s

  as_outcome : (z : Player O) → z.fate ≡ None → (x : Outcome) → last_end z ≡ x → (l : List (Move O)) → z.left ≡ l → outcome z ≡ outcome_with x l
  as_outcome z f x e l g = ap (λ h. outcome_by h (last_end z) z.left) f ∙ ap (λ y. outcome_with y z.left) e ∙ ap (λ k. outcome_with x k) g

  goes_on : (V : Tree O) (z : Player O) (τ : List (Event O)) → Prefixed prog S start τ V z → last_end z ≡ Finished → (l : List (Move O)) → z.left ≡ l → NoEntryNext l → React prog S ms n (outcome z) z.outs (tree_left z V)
  goes_on V z τ p last [] e g = as_react z V V Finished (as_outcome z p.way.goes_on Finished last [] e) (ap (λ h. left_by h V) p.way.goes_on) (finished V z τ p last e)
  goes_on V z τ p last (Come a ∷ l) e g = as_react z V V Misfit (as_outcome z p.way.goes_on Finished last (Come a ∷ l) e) (ap (λ h. left_by h V) p.way.goes_on) (uncalled V z τ a l p last e)
  goes_on V z τ p last (Enter t i ∷ l) e g = absurd g
  goes_on V z τ p last (Born o b ∷ l) e g = absurd g
  goes_on V z τ p last (Fall ∷ l) e g = absurd g

  pub react : (V : Tree O) (z : Player O) → Lived prog S start V z → IsOver z → React prog S ms n (outcome z) z.outs (tree_left z V)
  react V z l o = by (over_of prog S start l refl refl)
    where
      by : Becomes prog S start V z → React prog S ms n (outcome z) z.outs (tree_left z V)
      by (on τ p last) =
          let x : OverBy {O = O} None Finished z.left = subst (λ q. OverBy None q z.left) last (subst (λ f. OverBy f (last_end z) z.left) p.way.goes_on o) in
          goes_on V z τ p last z.left refl x
      by (exits τ k p last) = as_react z V V (Exited k) (as_outcome z p.way.goes_on (Exited k) last z.left refl) (ap (λ h. left_by h V) p.way.goes_on) (exited V z τ k p last)
      by (stops τ u j f Q σ p h q s) =
          as_react z V (left_by (Some f) V) (outcome_by (Some f) (last_end z) z.left) (by_fate z.fate (last_end z) z.left (Some f) h) (ap (λ g. left_by g V) h)
          (subst (λ x. React prog S ms n (outcome_by (Some f) (last_end z) z.left) x (left_by (Some f) V)) (sym q) (stopped V Q z u j f τ σ p s))

module _ {O I : Type 0} where
  pub played_is_react : PlayedIsReact O I
  played_is_react prog S V ms n z l o = react prog S ms n V z l o
