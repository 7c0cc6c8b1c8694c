-- What a subtree does up to where it is dropped is what it does by itself with the moves until then.
use Rattle.std.proofs.Common.{sym, ◌≡◌, inl, inr, ℕ, suc, ◌+◌, Bool, List, [], ◌∷◌, ◌++◌, Option, Some, None, length, refl, ◌∙◌, ap, subst, arith, append-nil, append_assoc, length-append}
use Rattle.tcl_core.specs.Paths.{Path, Place, rise_to}
use Rattle.tcl_core.specs.Endings.{Reply, Completion}
use Rattle.tcl_core.specs.Entries.{Entry}
use Rattle.tcl_core.specs.Trees.{Event, Grant, Grants, Move, Node, Tree, What, asked, at, effect, granted}
use Rattle.tcl_core.specs.Trees.Grant.{Allow}
use Rattle.tcl_core.specs.Trees.Grants.{Listed, Budget}
use Rattle.tcl_core.specs.Trees.Move.{Born, Fall, Enter, Come}
use Rattle.tcl_core.specs.Trees.What.{Made, Dropped, In, Done, Unfound}
use Rattle.tcl_core.specs.Programs.{Prog, Table}
use Rattle.tcl_core.specs.Programs.Prog.{wait}
use Rattle.tcl_core.specs.Runs.{World, Step, Ending, Runs, RunsIn, Visits}
use Rattle.tcl_core.specs.Rules.{Derives, IsNoExit}
use Rattle.tcl_core.specs.Rules.Derives.{entered, entered_halted, unanswered, unfound}
use Rattle.tcl_core.specs.Views.{moves_of}
use Rattle.tcl_core.specs.Lives.{Outcome, idle, never, outcome_at, outcome_of, ending_of}
use Rattle.tcl_core.specs.Lives.Outcome.{Finished}
use Rattle.tcl_core.specs.Laws.{AtMove, more_grants, with_more}
use Rattle.tcl_core.proofs.RuleLaws.{runs_derived}
use Rattle.tcl_core.proofs.Keeping.{KeepsSteps, derived_keep}
use Rattle.tcl_core.proofs.MoreMoves.{more_moves}
use Rattle.tcl_core.proofs.Budgets.{words_for}
use Rattle.tcl_core.proofs.Balance.{Owes, dones, ins, halted_more, owes, visit_owes}
use Rattle.tcl_core.proofs.Reacting.{IsHanded, IsLasting, balanced_after, exits_idle, handed_step, lift_visits, never_halts}
use Rattle.tcl_core.proofs.Halts.{halted_tape}
use Rattle.tcl_core.proofs.Parting.{Beyond, Goes, Result, Run_of, Stops, cut, part}
use Rattle.tcl_core.proofs.Lending.{moves_append}
use Rattle.tcl_core.proofs.LifeMoves.{not_cons}
use Rattle.tcl_core.proofs.Beginnings.{Nested, nested}

abbrev halted : Ending
halted = None

pub no_cons : {A B : Type 0} (x : B) (xs : List B) → x ∷ xs ≡ [] → A
no_cons x xs e = not_cons x xs (sym e)

pub not_nil : {A B : Type 0} (b : List B) (x : B) (r : List B) → b ++ x ∷ r ≡ [] → A
not_nil [] x r e = no_cons x r e
not_nil (y ∷ b) x r e = no_cons y (b ++ x ∷ r) e

-- a list with something behind it is longer
no_longer_list : {A B : Type 0} (a : List B) (m : B) (b c : List B) → a ≡ (a ++ m ∷ b) ++ c → A
no_longer_list a m b c e =
    let n : length a ≡ length (a ++ m ∷ b) + length c = ap length e ∙ length-append (a ++ m ∷ b) c in
    let l : length (a ++ m ∷ b) ≡ length a + suc (length b) = length-append a (m ∷ b) in
    absurd (let z : Prim.⊥ = omega arith in z)

cancel_front : {B : Type 0} (a x y : List B) → a ++ x ≡ a ++ y → x ≡ y
cancel_front [] x y e = e
cancel_front (z ∷ a) x y e = cancel_front a x y cc

module _ {O : Type 0} where
  abbrev dropped : What O
  dropped = Dropped

  abbrev pub drop : Event O
  drop = record { place = []; what = Dropped }

  pub is_no_drop : {A : Type 0} (p : Place) (x : What O) → record { place = p; what = x } ≡ drop → (x ≡ Dropped → A) → A
  is_no_drop p x e f = f (ap (λ (ev : Event O). ev.what) e)

  pub in_no_drop : {A : Type 0} (i : Entry) → In None i ≡ dropped → A
  in_no_drop i e = absurd (bad e)
    where
      bad : In None i ≡ dropped → Prim.⊥
      bad f = cc

  pub unfound_no_drop : {A : Type 0} (t : Path) (i : Entry) (c : Completion) → Unfound t i c ≡ dropped → A
  unfound_no_drop t i c e = absurd (bad e)
    where
      bad : Unfound t i c ≡ dropped → Prim.⊥
      bad f = cc

  done_no_drop : {A : Type 0} (r : Reply) → Done None r ≡ dropped → A
  done_no_drop r e = absurd (bad e)
    where
      bad : Done None r ≡ dropped → Prim.⊥
      bad f = cc

  made_no_drop : {A : Type 0} (o : O) (s : Bool) → Made o s ≡ Dropped → A
  made_no_drop o s e = absurd (bad e)
    where
      bad : Made o s ≡ Dropped → Prim.⊥
      bad f = cc

  -- the world in which just these are yet to happen, with a word more
  abbrev pub only : World O → List (Event O) → World O
  only z b = record { tree = z.tree; moves = moves_of b; grants = more_grants (Allow ∷ []) z.grants; tape = b }

  -- what a run reads is what its happenings read
  abbrev Reading : World O → World O → Type 0
  Reading w u = (pre : List (Event O)) × (w.tape ≡ pre ++ u.tape) × (w.moves ≡ moves_of pre ++ u.moves)

  asked_front : (p : Place) (x : What O) (a b : List (Move O)) → asked p x (a ++ b) ≡ asked p x a ++ b
  asked_front p (In h i) a b = by (rise_to h p)
    where
      by : (o : Option Place) → Rattle.tcl_core.specs.Trees.where_none o (Enter p i) (a ++ b) ≡ Rattle.tcl_core.specs.Trees.where_none o (Enter p i) a ++ b
      by None = refl
      by (Some z) = refl
  asked_front p (Rattle.tcl_core.specs.Trees.What.Back h y) a b = by (rise_to h p)
    where
      by : (o : Option Place) → Rattle.tcl_core.specs.Trees.where_none o (Come y) (a ++ b) ≡ Rattle.tcl_core.specs.Trees.where_none o (Come y) a ++ b
      by None = refl
      by (Some z) = refl
  asked_front p (Unfound t i c) a b = refl
  asked_front [] (Made o s) a b = refl
  asked_front (y ∷ p) (Made o s) a b = refl
  asked_front [] Dropped a b = refl
  asked_front (y ∷ p) Dropped a b = refl
  asked_front p x a b = refl

  reading_step : (w : World O) → KeepsSteps (Reading w)
  reading_step w u p x v due s (pre, f, g) =
      let ev : Event O = record { place = p; what = x } in
      let m : moves_of (pre ++ ev ∷ []) ++ v.moves ≡ moves_of pre ++ u.moves =
      ap (λ l. l ++ v.moves) (moves_append pre (ev ∷ [])) ∙ append_assoc (moves_of pre) (asked p x []) v.moves ∙ ap (λ l. moves_of pre ++ l) (sym (asked_front p x [] v.moves) ∙ sym s.moves) in
      (pre ++ ev ∷ [], f ∙ ap (λ l. pre ++ l) s.tape ∙ sym (append_assoc pre (ev ∷ []) v.tape), g ∙ sym m)

  abbrev Ending_as : Outcome → World O → Type 0
  Ending_as z u = (x : Outcome) × (z ≡ outcome_of u.tape x)

  ending_step : (z : Outcome) → KeepsSteps (Ending_as z)
  ending_step z w p x v due s (y, f) = (outcome_at p x y, f ∙ ap (λ τ. outcome_of τ y) s.tape)

  -- the words of more happenings
  pub words_more : (a : List (Event O)) (gs : Grants) → more_grants (Allow ∷ []) (words_for a gs) ≡ words_for a (more_grants (Allow ∷ []) gs)
  words_more [] gs = refl
  words_more (ev ∷ a) gs = Rattle.tcl_core.proofs.MoreMoves.granted_more ev.place ev.what (words_for a gs) (Allow ∷ []) ∙ ap (granted ev.place ev.what) (words_more a gs)

module _ {O I : Type 0} (prog : Table O I) where
  -- what it reads of the moves
  reads_them : {w : World O} {p : Place} {x : Prog O I} {v : World O} {e : Ending} (made : List (Event O)) → Derives prog w p x v e → w.tape ≡ made ++ v.tape → v.tape ≡ [] → w.moves ≡ moves_of made ++ v.moves
  reads_them {w} {p} {x} {v} {e} made d t n =
      let r : Reading w v = derived_keep (Reading w) (reading_step w) prog d ([], refl, refl) in
      let same : r.0 ≡ made = sym (append-nil r.0) ∙ ap (λ l. r.0 ++ l) (sym n) ∙ sym r.1 ∙ t ∙ ap (λ l. made ++ l) n ∙ append-nil made in
      r.2 ∙ ap (λ l. moves_of l ++ v.moves) same

  -- the life up to the drop
  pub record UpTo (z : World O) (b : List (Event O)) : Type 0 where
    pub last : World O
    pub life : Derives prog (only z b) [] (wait idle never) last None
    pub moves : last.moves ≡ []
    pub outcome : ins [] b ≡ dones [] b → outcome_of b Finished ≡ Finished

  abbrev pub Goes_to : ℕ → Type 0
  Goes_to n = (z y : World O) (b r : List (Event O)) → IsHanded z → IsLasting b → ins [] z.tape ≡ dones [] z.tape → y.tape ≡ [] → RunsIn prog n z [] (wait idle never) y None → z.tape ≡ b ++ drop ∷ r → UpTo z b

  here : (z : World O) → UpTo z []
  here z = record { last = only z []; life = unanswered (only z []) [] idle never refl refl refl; moves = refl; outcome = λ q. refl }

  -- one happening of the tree as a whole
  pub at_top_drop : (z u : World O) (b r : List (Event O)) → IsLasting b → Step z [] Dropped u → z.tape ≡ b ++ drop ∷ r → UpTo z b
  at_top_drop z u [] r l t e = here z
  at_top_drop z u (ev ∷ b) r l t e =
      let q : record { place = []; what = Dropped } ∷ u.tape ≡ ev ∷ (b ++ drop ∷ r) = sym t.tape ∙ e in
      let same : drop ≡ ev = cc in
      let g : Rattle.tcl_core.proofs.Reacting.Lasting {O = O} [] Dropped = subst (λ (y : Event O). Rattle.tcl_core.proofs.Reacting.Lasting y.place y.what) (sym same) l.0 in
      absurd (g refl)

  pub at_top_made : {A : Type 0} (o : O) (s : Bool) (z u : World O) (b r : List (Event O)) → IsLasting b → Step z [] (Made o s) u → z.tape ≡ b ++ drop ∷ r → A
  at_top_made o s z u [] r l t e =
      let q : record { place = []; what = Made o s } ∷ u.tape ≡ drop ∷ r = sym t.tape ∙ e in
      let same : record { place = []; what = Made o s } ≡ drop = cc in
      is_no_drop [] (Made o s) same (λ f. made_no_drop o s f)
  at_top_made o s z u (ev ∷ b) r l t e =
      let q : record { place = []; what = Made o s } ∷ u.tape ≡ ev ∷ (b ++ drop ∷ r) = sym t.tape ∙ e in
      let same : record { place = []; what = Made o s } ≡ ev = cc in
      let g : Rattle.tcl_core.proofs.Reacting.Lasting [] (Made o s) = subst (λ (y : Event O). Rattle.tcl_core.proofs.Reacting.Lasting y.place y.what) (sym same) l.0 in
      absurd (g refl)

  -- an entry that finds nobody, before the drop
  pub unfound_to : (z u : World O) (t : Path) (i : Entry) (b : List (Event O)) → z.tree t ≡ None → Step z [] (Unfound t i (prog.lost t)) u → UpTo u b → UpTo z (record { place = []; what = Unfound t i (prog.lost t) } ∷ b)
  unfound_to z u t i b here s g = record {
    last = g.last;
    life = unfound (only z (record { place = []; what = Unfound t i (prog.lost t) } ∷ b)) [] idle never t i (only u b) g.last None refl here (record { tape = refl; tree = s.tree; moves = refl; grants = ap (more_grants (Allow ∷ [])) s.grants }) g.life;
    moves = g.moves;
    outcome = g.outcome;
  }

  -- AN ENTRY
  module _ (z u : World O) (t : Path) (i : Entry) (r : Reply) (v : Visits prog (Runs prog) z None t i u (Some r)) (b later : List (Event O)) (handed : IsHanded z) where
    abbrev into : Event O
    into = record { place = t; what = In None i }

    abbrev out : Event O
    out = record { place = t; what = Done None r }

    abbrev more : World O → World O
    more w = with_more [] (Allow ∷ []) w

    step_in : Step (only z (into ∷ b)) t (In None i) (cut (more v.entered) (moves_of b) b)
    step_in = record { tape = refl; tree = v.entry.tree; moves = refl; grants = ap (more_grants (Allow ∷ [])) v.entry.grants }

    inner : Derives prog (more v.entered) t (prog.entry i) (more v.left) (Some r)
    inner = runs_derived prog (more v.entered) t (prog.entry i) (more v.left) (Some r) (more_moves prog v.entered t (prog.entry i) v.left r [] (Allow ∷ []) v.run)

    inside_handed : IsHanded v.entered
    inside_handed = handed_step z t (In None i) v.entered tt v.entry handed

    abbrev after_it : List (Move O)
    after_it = moves_of (drop ∷ later)

    moves_there : v.entered.tape ≡ b ++ drop ∷ later → (more v.entered).moves ≡ moves_of b ++ after_it
    moves_there e = append-nil v.entered.moves ∙ inside_handed ∙ ap moves_of e ∙ moves_append b (drop ∷ later)

    abbrev Parted : Type 0
    Parted = Result (more v.entered) (more v.left) (Run_of prog (more v.entered) (moves_of b) t (prog.entry i)) (Some r) after_it

    parted : v.entered.tape ≡ b ++ drop ∷ later → Parted
    parted e = part prog inner (moves_of b) after_it (moves_there e)

    -- it halts in it
    halts_in : (last : World O) → Derives prog (cut (more v.entered) (moves_of b) b) t (prog.entry i) last None → last.moves ≡ [] → UpTo z (into ∷ b)
    halts_in last d m =
        let n : last.tape ≡ [] = halted_tape prog d refl in
        let o : Owes [] (cut (more v.entered) (moves_of b) b) last None = owes [] prog d in
        let s : ins [] (into ∷ b) + dones [] last.tape ≡ dones [] (into ∷ b) + ins [] last.tape + suc o.open_ins = halted_more [] (only z (into ∷ b)) (cut (more v.entered) (moves_of b) b) last None t i refl step_in o in
        let i0 : ins [] last.tape ≡ 0 = ap (ins []) n in
        let d0 : dones [] last.tape ≡ 0 = ap (dones []) n in
        record {
          last = last;
          life = entered_halted (only z (into ∷ b)) [] idle never t i (cut (more v.entered) (moves_of b) b) last refl v.stands step_in d;
          moves = m;
          outcome = λ q. absurd (let y : Prim.⊥ = omega arith in y);
        }

    stops_there : Stops (more v.entered) (Run_of prog (more v.entered) (moves_of b) t (prog.entry i)) → v.entered.tape ≡ b ++ drop ∷ later → UpTo z (into ∷ b)
    stops_there g e = by (nested g.made g.rest b (drop ∷ later) (sym g.tape ∙ e))
      where
        n : g.last.tape ≡ []
        n = halted_tape prog g.runs refl

        read : moves_of b ≡ moves_of g.made ++ g.last.moves
        read = reads_them g.made g.runs (sym (append-nil g.made) ∙ ap (λ l. g.made ++ l) (sym n)) n

        same : b ≡ g.made → UpTo z (into ∷ b)
        same f = halts_in g.last (subst (λ τ. Derives prog (cut (more v.entered) (moves_of b) τ) t (prog.entry i) g.last None) (sym f) g.runs)
            (sym (cancel_front (moves_of g.made) [] g.last.moves (append-nil (moves_of g.made) ∙ ap moves_of (sym f) ∙ read)))

        further : (q : List (Event O)) → b ≡ g.made ++ q → g.rest ≡ q ++ drop ∷ later → Beyond g.last.moves g.rest → UpTo z (into ∷ b)
        further [] f h x = same (f ∙ append-nil g.made)
        further (ev ∷ q) f h (inl x) = no_cons ev (q ++ drop ∷ later) (sym h ∙ x)
        further (ev ∷ q) f h (inr (x, y)) =
            let one : (m : Move O) × (asked ev.place ev.what (moves_of q) ≡ m ∷ moves_of q) = (let w : AtMove (ev ∷ (q ++ drop ∷ later)) = subst AtMove h y in w (moves_of q)) in
            let m : moves_of g.made ++ moves_of (ev ∷ q) ≡ moves_of g.made ++ [] = sym (moves_append g.made (ev ∷ q)) ∙ ap moves_of (sym f) ∙ read ∙ ap (λ l. moves_of g.made ++ l) x in
            no_cons one.0 (moves_of q) (sym one.1 ∙ cancel_front (moves_of g.made) (moves_of (ev ∷ q)) [] m)

        beyond_it : (q : List (Event O)) → g.made ≡ b ++ q → drop ∷ later ≡ q ++ g.rest → UpTo z (into ∷ b)
        beyond_it [] f h = same (sym (append-nil b) ∙ sym f)
        beyond_it (ev ∷ q) f h =
            let first : drop ≡ ev = cc in
            let reads : moves_of (ev ∷ q) ≡ Fall ∷ moves_of q = ap (λ (y : Event O). asked y.place y.what (moves_of q)) (sym first) in
            let m : moves_of g.made ≡ moves_of b ++ Fall ∷ moves_of q = ap moves_of f ∙ moves_append b (ev ∷ q) ∙ ap (λ l. moves_of b ++ l) reads in
            no_longer_list (moves_of b) Fall (moves_of q) g.last.moves (read ∙ ap (λ l. l ++ g.last.moves) m)

        by : Nested g.made g.rest b (drop ∷ later) → UpTo z (into ∷ b)
        by (inl (q, f, h)) = further q f h g.beyond
        by (inr (q, f, h)) = beyond_it q f h

    -- it comes to its end, and the life goes on
    goes_past : (made left : List (Event O)) (m : List (Move O)) → b ≡ made ++ out ∷ left → ((σ : List (Event O)) → Derives prog (cut (more v.entered) (moves_of b) (made ++ σ)) t (prog.entry i) (cut (more v.left) m σ) (Some r)) → IsNoExit r → ending_of r ≡ Finished → UpTo u left → UpTo z (into ∷ b)
    goes_past made left m f runs nx fin g =
        let d : Derives prog (cut (more v.entered) (moves_of b) b) t (prog.entry i) (cut (more v.left) m (out ∷ left)) (Some r) = subst (λ τ. Derives prog (cut (more v.entered) (moves_of b) τ) t (prog.entry i) (cut (more v.left) m (out ∷ left)) (Some r)) (sym f) (runs (out ∷ left)) in
        let h : m ≡ moves_of left = derived_keep IsHanded handed_step prog d refl in
        let step_out : Step (cut (more v.left) m (out ∷ left)) t (Done None r) (only u left) = record { tape = refl; tree = v.leaving.tree; moves = h; grants = ap (more_grants (Allow ∷ [])) v.leaving.grants } in
        let o : Owes [] (only z (into ∷ b)) (only u left) (Some r) = visit_owes [] (only z (into ∷ b)) (cut (more v.entered) (moves_of b) b) (cut (more v.left) m (out ∷ left)) (only u left) None t i r step_in (owes [] prog d) step_out in
        let s : ins [] (into ∷ b) + dones [] left ≡ dones [] (into ∷ b) + ins [] left + o.open_ins = o.sum in
        let n0 : o.open_ins ≡ 0 = o.none_left r refl in
        let k : Ending_as (outcome_of (into ∷ b) Finished) (cut (more v.left) m (out ∷ left)) = derived_keep (Ending_as (outcome_of (into ∷ b) Finished)) (ending_step (outcome_of (into ∷ b) Finished)) prog d (Finished, refl) in
        record {
          last = g.last;
          life = entered (only z (into ∷ b)) [] idle never t i (cut (more v.entered) (moves_of b) b) (cut (more v.left) m (out ∷ left)) (only u left) g.last r None refl v.stands step_in d step_out nx g.life;
          moves = g.moves;
          outcome = λ q. k.1 ∙ ap (outcome_of left) fin ∙ g.outcome (omega arith);
        }

    -- what follows it
    abbrev Follows_so : Type 0
    Follows_so = (left : List (Event O)) → IsLasting left → u.tape ≡ left ++ drop ∷ later → IsNoExit r × (ending_of r ≡ Finished) × UpTo u left

    lasting_back : (a : List (Event O)) (ev : Event O) (c : List (Event O)) → IsLasting (a ++ ev ∷ c) → IsLasting c
    lasting_back [] ev c f = f.1
    lasting_back (y ∷ a) ev c f = lasting_back a ev c f.1

    ends_there : Goes (more v.entered) (more v.left) (Run_of prog (more v.entered) (moves_of b) t (prog.entry i)) (Some r) after_it → v.entered.tape ≡ b ++ drop ∷ later → IsLasting b → Follows_so → UpTo z (into ∷ b)
    ends_there g e l on = by (nested g.made (out ∷ u.tape) b (drop ∷ later) (ap (λ τ. g.made ++ τ) (sym v.leaving.tape) ∙ sym g.tape ∙ e))
      where
        further : (q : List (Event O)) → b ≡ g.made ++ q → out ∷ u.tape ≡ q ++ drop ∷ later → UpTo z (into ∷ b)
        further [] f h = let same : out ≡ drop = cc in is_no_drop t (Done None r) same (λ j. done_no_drop r j)
        further (ev ∷ q) f h =
            let same : out ≡ ev = cc in
            let rest : u.tape ≡ q ++ drop ∷ later = cc in
            let f2 : b ≡ g.made ++ out ∷ q = f ∙ ap (λ y. g.made ++ y ∷ q) (sym same) in
            let x : IsNoExit r × (ending_of r ≡ Finished) × UpTo u q = on q (lasting_back g.made out q (subst IsLasting f2 l)) rest in
            goes_past g.made q g.left f2 g.runs x.0 x.1 x.2

        beyond_it : (q : List (Event O)) → g.made ≡ b ++ q → drop ∷ later ≡ q ++ out ∷ u.tape → UpTo z (into ∷ b)
        beyond_it [] f h = let same : out ≡ drop = cc in is_no_drop t (Done None r) same (λ j. done_no_drop r j)
        beyond_it (ev ∷ q) f h =
            let first : drop ≡ ev = cc in
            let reads : moves_of (ev ∷ q) ≡ Fall ∷ moves_of q = ap (λ (y : Event O). asked y.place y.what (moves_of q)) (sym first) in
            let m : moves_of g.made ≡ moves_of b ++ Fall ∷ moves_of q = ap moves_of f ∙ moves_append b (ev ∷ q) ∙ ap (λ l. moves_of b ++ l) reads in
            let read : moves_of b ≡ moves_of g.made ++ g.left = reads_them g.made (g.runs []) refl refl in
            no_longer_list (moves_of b) Fall (moves_of q) g.left (read ∙ ap (λ l. l ++ g.left) m)

        by : Nested g.made (out ∷ u.tape) b (drop ∷ later) → UpTo z (into ∷ b)
        by (inl (q, f, h)) = further q f h
        by (inr (q, f, h)) = beyond_it q f h

    by_part : Parted → v.entered.tape ≡ b ++ drop ∷ later → IsLasting b → Follows_so → UpTo z (into ∷ b)
    by_part (inl g) e l on = ends_there g e l on
    by_part (inr g) e l on = stops_there g e

    pub visited : v.entered.tape ≡ b ++ drop ∷ later → IsLasting b → Follows_so → UpTo z (into ∷ b)
    visited e l on = by_part (parted e) e l on

    pub handed_after : IsHanded u
    handed_after = handed_step v.left t (Done None r) u tt v.leaving (derived_keep IsHanded handed_step prog (runs_derived prog v.entered t (prog.entry i) v.left (Some r) v.run) inside_handed)
