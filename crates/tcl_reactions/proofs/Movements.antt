-- The life of a tree to which an outside hands in entries, with a budget, is what the tree does by itself with its moves.
use Rattle.std.proofs.Common.{sym, ◌≡◌, ℕ, suc, ◌+◌, List, [], ◌∷◌, ◌++◌, Option, Some, None, refl, ◌∙◌, ap, subst, arith, append-nil, append_assoc}
use Rattle.tcl_core.specs.Paths.{Path, Place}
use Rattle.tcl_core.specs.Endings.{Reply}
use Rattle.tcl_core.specs.Endings.Reply.{Completed, Stop, Exit, Cut}
use Rattle.tcl_core.specs.Entries.{Entry}
use Rattle.tcl_core.specs.Trees.{Tree, Node, Event, What, asked, effect, paid}
use Rattle.tcl_core.specs.Trees.What.{Charged, In, Done, Unfound}
use Rattle.tcl_core.specs.Programs.{Prog, Table, Wait}
use Rattle.tcl_core.specs.Rules.{IsNoExit}
use Rattle.tcl_core.specs.Views.{moves_of, steps_of}
use Rattle.tcl_core.specs.Execution.{Chain, Crossings, Executes, Open, answers_to, calls_after, event, more, none}
use Rattle.tcl_core.specs.Lives.{Outcome, React, ending_of, outcome_of, outs_of, told}
use Rattle.tcl_core.specs.Lives.Outcome.{Finished, Waiting, Exited, Ended, Spent, Misfit}
use Rattle.tcl_core.proofs.Beginnings.{outs_append}
use Rattle.tcl_core.proofs.Callers.{fit}
use Rattle.tcl_core.proofs.Following.{called_on, chain-append, handed, handed-all, makes}
use Rattle.tcl_reactions.specs.Moving
use Rattle.tcl_reactions.specs.Moving.{Budgeted, Halt, IsWhole, Moved, beginning, budget_of, budgeted, as_outcome, result_by}
use Rattle.tcl_reactions.specs.Moving.Halt.{Cuts, Spends, Refuses}
use Rattle.tcl_reactions.specs.Playing as playing
use Rattle.tcl_reactions.specs.Playing.{EndsThere, IsOver, OverBy, Player, beginner, last_end, outcome, outcome_by, outcome_with, plays, telling, tree_left, left_by}
use Rattle.tcl_reactions.proofs.Along.{along, then_both}
use Rattle.tcl_reactions.proofs.Backwards.{Both, Calmly, Leads, Marks, None_left, After, Ready, both, calm_after, changed, comes_in, counts, fate_by, finds_nobody, is_done, passes_by, player, stands}
use Rattle.tcl_reactions.proofs.Mapped.{comes_along}
use Rattle.tcl_reactions.proofs.Reacted.{played_is_react}
use Rattle.tcl_reactions.proofs.Turns.{done_end, done_on, done_over, not_some, unfound_end}
use Rattle.tcl_reactions.proofs.Ways.{Calm}

-- ## What the outside goes through

module _ {O S : Type 0} (goes : Tree O → S → Wait → Event O → S → Type 0) where
  paid_plus : (x : What O) (a b : ℕ) → paid x (a + b) ≡ paid x a + b
  paid_plus Charged a b = let e : suc (a + b) ≡ suc a + b = omega arith in e
  paid_plus x a b = refl

  -- the happenings until the life is over, and what the player made of them
  record Until (cs : Open) (T : Tree O) (y : Both goes) (ds : Open) (V : Tree O) (z : Both goes) : Type 0 where
    pub tape : List (Event O)
    pub calls : Open
    pub during : Tree O
    pub chain : Chain (Crossings goes) cs T y.0.outside tape calls during z.0.outside
    pub moves : y.1.left ≡ handed tape z.1.left
    pub steps : y.1.steps ≡ steps_of tape + z.1.steps
    pub outs : z.1.outs ≡ y.1.outs ++ outs_of tape
    pub whole : z.0.halt ≡ None → (calls ≡ ds) × (during ≡ V)

  -- once it is over nothing more is read, paid or told
  record Quiet (y z : Both goes) : Type 0 where
    pub halt : (f : Halt) × (z.0.halt ≡ Some f)
    pub outside : z.0.outside ≡ y.0.outside
    pub moves : y.1.left ≡ z.1.left
    pub steps : y.1.steps ≡ z.1.steps
    pub outs : z.1.outs ≡ y.1.outs

  quiet : {cs ds : Open} {T V : Tree O} {y z : Both goes} {τ : List (Event O)} → Chain (both goes) cs T y τ ds V z → (f : Halt) → y.0.halt ≡ Some f → Quiet y z
  quiet (none {o = y}) f e = record { halt = (f, e); outside = refl; moves = refl; steps = refl; outs = refl }
  quiet {cs} {ds} {T} {V} {y} {z} (more {u = u} {ev = ev} g rest) f e = by g.marks (λ h off. quiet rest h off)
    where
      by : Marks goes T (answers_to ev.place ev.what cs) ev y u → ((h : Halt) → u.0.halt ≡ Some h → Quiet u z) → Quiet y z
      by (counts on t m k o) after = not_some y.0.halt f on e
      by (passes_by h off same m k o) after =
          let r : Quiet u z = after h off in
          record { halt = r.halt; outside = r.outside ∙ same; moves = m ∙ r.moves; steps = k ∙ r.steps; outs = r.outs ∙ o }

  until : {cs ds : Open} {T V : Tree O} {y z : Both goes} {τ : List (Event O)} → Chain (both goes) cs T y τ ds V z → Until cs T y ds V z
  until (none {cs} {T} {o = y}) = record {
    tape = [];
    calls = cs;
    during = T;
    chain = none;
    moves = refl;
    steps = let e : y.1.steps ≡ 0 + y.1.steps = omega arith in e;
    outs = sym (append-nil y.1.outs);
    whole = λ n. (refl, refl);
  }
  until {cs} {ds} {T} {V} {y} {z} (more {u = u} {ev = ev} g rest) = by g.marks (until rest) (λ h off. quiet rest h off)
    where
      by : Marks goes T (answers_to ev.place ev.what cs) ev y u → Until (calls_after T ev.place ev.what cs) (effect ev.place ev.what T) u ds V z → ((h : Halt) → u.0.halt ≡ Some h → Quiet u z) → Until cs T y ds V z
      by (counts on t m k o) r over =
          record {
            tape = ev ∷ r.tape;
            calls = r.calls;
            during = r.during;
            chain = more t r.chain;
            moves = m ∙ ap (asked ev.place ev.what) r.moves;
            steps = k ∙ ap (paid ev.what) r.steps ∙ paid_plus ev.what (steps_of r.tape) z.1.steps;
            outs = r.outs ∙ ap (λ l. l ++ outs_of r.tape) o ∙ append_assoc y.1.outs (told ev.place ev.what []) (outs_of r.tape) ∙ ap (λ l. y.1.outs ++ l) (sym (outs_append (ev ∷ []) r.tape));
            whole = r.whole;
          }
      by (passes_by h off same m k o) later over =
          let r : Quiet u z = over h off in
          let steps : y.1.steps ≡ z.1.steps = k ∙ r.steps in
          record {
            tape = [];
            calls = cs;
            during = T;
            chain = subst (λ (v : S). Chain (Crossings goes) cs T y.0.outside [] cs T v) (sym (r.outside ∙ same)) none;
            moves = m ∙ r.moves;
            steps = let e : y.1.steps ≡ 0 + z.1.steps = omega arith in e;
            outs = r.outs ∙ o ∙ sym (append-nil y.1.outs);
            whole = λ n. not_some z.0.halt r.halt.0 n r.halt.1;
          }

-- ## Entry by entry

no_exit : (r : Reply) → Calm (ending_of r) → IsNoExit r
no_exit (Completed c) k = tt
no_exit (Stop n m) k = tt
no_exit (Cut c) k = tt
no_exit (Exit n) k = k

module _ {O I S : Type 0} (goes : Tree O → S → Wait → Event O → S → Type 0) (prog : Table O I) where
  -- the player by itself
  alone_too : {T V : Tree O} {y z : Both goes} {p : Place} {x : Prog O I} {r : Reply} → Executes (both goes) prog T y p x V z r → Executes (Crossings plays) prog T y.1 p x V z.1 r
  alone_too run = comes_along (both goes) (Crossings plays) (λ (y : Both goes). y.1) (λ T y s ev z b. b.along) prog run

  -- a life of both
  record Lasts (T : Tree O) (y : Both goes) (V : Tree O) (z : Both goes) (x : Outcome) : Type 0 where
    pub lived : playing.Lived prog T y.1 V z.1
    pub events : List (Event O)
    pub chain : Chain (both goes) [] T y events [] V z
    pub ends : z.1.fate ≡ None → last_end z.1 ≡ x

  ends_so : (V : Tree O) (t : Path) (r : Reply) (o z : Player O) → Crossings plays V o None (event t (Done None r)) z → z.fate ≡ None → last_end z ≡ ending_of r
  ends_so V t r o z s n = by o.fate refl
    where
      by : (f : Option (playing.Fate O)) → o.fate ≡ f → last_end z ≡ ending_of r
      by None e = done_end t r o z (done_on V t r o z s e)
      by (Some f) e = not_some z.fate f n (ap (λ w. w.fate) (done_over V t r f o z s e) ∙ e)

  one_more : {T U V : Tree O} {y u w v z : Both goes} {node : Node O} (t : Path) (e : Entry) (r : Reply) → Lasts T y U u Finished → U t ≡ Some node → both goes U u None (event t (In None e)) w →
      Executes (both goes) prog U w t (prog.entry e) V v r → both goes V v None (event t (Done None r)) z → Lasts T y V z (ending_of r)
  one_more {T} {U} {V} {y} {u} {w} {v} {z} t e r l here s1 run s2 =
      let x : Prog O I = prog.entry e in
      let made = makes (both goes) prog (fit x (prog.entries_call e)) run in
      let into : playing.HandsIn u.1 t e w.1 = s1.along.told in
      record {
        lived = playing.Lived.entered t e r l.lived into.0 (l.ends into.0) here s1.along.told (alone_too run) s2.along.told;
        events = l.events ++ event t (In None e) ∷ (made.events ++ event t (Done None r) ∷ []);
        chain = chain-append (both goes) l.chain (more s1 (chain-append (both goes) (called_on (both goes) x (prog.entries_call e) made.chain) (more s2 none)));
        ends = ends_so V t r v.1 z.1 s2.along;
      }

  -- or one more that finds nobody
  one_unfound : {T U : Tree O} {y u z : Both goes} (t : Path) (e : Entry) → Lasts T y U u Finished → U t ≡ None → both goes U u None (event [] (Unfound t e (prog.lost t))) z → Lasts T y U z Finished
  one_unfound {T} {U} {y} {u} {z} t e l nobody s =
      let found : playing.FindsNobody u.1 t e (prog.lost t) z.1 = s.along.told in
      record {
        lived = playing.Lived.unfound t e l.lived found.1.0 (l.ends found.1.0) nobody s.along.told;
        events = l.events ++ event [] (Unfound t e (prog.lost t)) ∷ [];
        chain = chain-append (both goes) l.chain (more s none);
        ends = λ n. unfound_end t e (prog.lost t) u.1 z.1 found;
      }

  lives : {T : Tree O} {b : Budgeted S} {V : Tree O} {c : Budgeted S} {x : Outcome} → Moving.Lived (budgeted goes) prog T b V c x → Leads goes b c (Calmly b.halt) (λ y z. last_end y.1 ≡ Finished → Lasts T y V z x) (λ outs. Calm x → Calmly c.halt outs)
  lives {T} {b = b} Moving.Lived.begun = stands goes b (Calmly b.halt) (λ outs. Calm Finished → Calmly b.halt outs) (λ y z. last_end y.1 ≡ Finished → Lasts T y T z Finished) (λ y e. record { lived = playing.Lived.begun; events = []; chain = none; ends = λ f. e }) (λ outs a k. a)
  lives {T} {b = b} (Moving.Lived.entered {U} {V} {u} {w} {v} {z} t i r l here s1 run s2) =
      changed goes (then_both goes (lives l) (λ outs g. g tt) (then_both goes (comes_in goes U u t i w (record { told = s1 })) (λ outs g. g) (then_both goes (along goes prog run) (λ outs g. tt) (is_done goes V v t r z (record { told = s2 })))))
      (λ y q m e. one_more t i r (m.1 e) here m.2.1 m.2.2.1 m.2.2.2) (λ outs g k. calm_after r (no_exit r k) z.halt outs g)
  lives {T} {b = b} (Moving.Lived.unfound {U} {u} {z} t i l nobody s) =
      changed goes (then_both goes (lives l) (λ outs g. g tt) (finds_nobody goes U u t i (prog.lost t) z (record { told = s }))) (λ y q m e. one_unfound t i (m.1 e) nobody m.2) (λ outs g k. calm_after (Completed (prog.lost t)) tt z.halt outs g)

-- ## All of it

never_spent : (n : ℕ) → None ≡ Some Spends → n ≡ 0
never_spent n u = not_some None Spends refl u

ends_there : (O : Type 0) (x : Outcome) → EndsThere {O = O} x []
ends_there O (Exited n) = tt
ends_there O Finished = tt
ends_there O Waiting = tt
ends_there O Ended = tt
ends_there O Spent = tt
ends_there O Misfit = tt

module _ {O I S : Type 0} (goes : Tree O → S → Wait → Event O → S → Type 0) (prog : Table O I) where
  ending_kept : (r : Reply) → outcome_with {O = O} (ending_of r) [] ≡ ending_of r
  ending_kept (Completed c) = refl
  ending_kept (Stop n m) = refl
  ending_kept (Exit n) = refl
  ending_kept (Cut c) = refl

  outcome_kept : {T V : Tree O} {b c : Budgeted S} {x : Outcome} → Moving.Lived (budgeted goes) prog T b V c x → outcome_with {O = O} x [] ≡ x
  outcome_kept Moving.Lived.begun = refl
  outcome_kept (Moving.Lived.entered t i r l here s1 run s2) = ending_kept r
  outcome_kept (Moving.Lived.unfound t i l nobody s) = refl

  module _ (T V : Tree O) (o : S) (limit : ℕ) (c : Budgeted S) (x : Outcome) (life : Moving.Lived (budgeted goes) prog T (beginning o limit) V c x) where
    -- with which steps the player ends, which of its budget it doesn't need, and by what its playing is over
    module _ (k d : ℕ) (n : None_left c.halt k) (left : k + d ≡ c.left) where
      leads : Leads goes (beginning o limit) c (λ outs. Calm (outcome_of outs Finished)) (λ y z. last_end y.1 ≡ Finished → Lasts goes prog T y V z x) (λ outs. Calm x → Calmly c.halt outs)
      leads = lives goes prog life

      ready : Ready goes (beginning o limit) c [] k (λ outs. Calm (outcome_of outs Finished)) (λ y z. last_end y.1 ≡ Finished → Lasts goes prog T y V z x) (λ outs. Calm x → Calmly c.halt outs)
      ready = leads.back [] k n

      after : After goes (beginning o limit) c [] ready.moves k ready.steps [] (λ y z. last_end y.1 ≡ Finished → Lasts goes prog T y V z x) (λ outs. Calm x → Calmly c.halt outs)
      after = ready.after [] tt

      abbrev at_last : Player O
      at_last = player c.halt [] k after.outs_then

      lasts : Lasts goes prog T (beginning o limit, beginner ready.moves ready.steps) V (c, at_last) x
      lasts = after.run refl

      all : Until goes [] T (beginning o limit, beginner ready.moves ready.steps) [] V (c, at_last)
      all = until goes lasts.chain

      paid_so : ready.steps + d ≡ limit
      paid_so = ready.paid_so d left

      over : (f : Option Halt) (last : Outcome) → OverBy {O = O} (fate_by f) last []
      over None last = ends_there O last
      over (Some Cuts) last = tt
      over (Some Spends) last = tt
      over (Some Refuses) last = tt

      react : React prog T ready.moves ready.steps (outcome at_last) after.outs_then (tree_left at_last V)
      react = played_is_react prog T V ready.moves ready.steps at_last lasts.lived (over c.halt (last_end at_last))

      moved : (r : Moving.Result) → result_by c.halt x ≡ r → outcome at_last ≡ as_outcome r → tree_left at_last V ≡ V → IsWhole r all.calls all.during V → ready.steps ≡ budget_of r (steps_of all.tape) limit → Moved goes prog T o limit r V c.outside
      moved r is e f whole budget = record {
        tape = all.tape;
        calls = all.calls;
        during = all.during;
        chain = all.chain;
        within = let a : ready.steps ≡ steps_of all.tape + k = all.steps in let b : ready.steps + d ≡ limit = paid_so in omega arith;
        whole = whole;
        reacts =
            let r1 : React prog T (moves_of all.tape) ready.steps (outcome at_last) after.outs_then (tree_left at_last V) = subst (λ l. React prog T l ready.steps (outcome at_last) after.outs_then (tree_left at_last V)) (all.moves ∙ handed-all all.tape) react in
            let r2 : React prog T (moves_of all.tape) (budget_of r (steps_of all.tape) limit) (outcome at_last) after.outs_then (tree_left at_last V) =
            subst (λ l. React prog T (moves_of all.tape) l (outcome at_last) after.outs_then (tree_left at_last V)) budget r1 in
            let r3 : React prog T (moves_of all.tape) (budget_of r (steps_of all.tape) limit) (as_outcome r) after.outs_then (tree_left at_last V) =
            subst (λ l. React prog T (moves_of all.tape) (budget_of r (steps_of all.tape) limit) l after.outs_then (tree_left at_last V)) e r2 in
            let r4 : React prog T (moves_of all.tape) (budget_of r (steps_of all.tape) limit) (as_outcome r) (outs_of all.tape) (tree_left at_last V) =
            subst (λ l. React prog T (moves_of all.tape) (budget_of r (steps_of all.tape) limit) (as_outcome r) l (tree_left at_last V)) all.outs r3 in
            subst (λ l. React prog T (moves_of all.tape) (budget_of r (steps_of all.tape) limit) (as_outcome r) (outs_of all.tape) l) f r4;
      }

    none_left_at : (h : Option Halt) (k : ℕ) → c.halt ≡ h → None_left h k → None_left c.halt k
    none_left_at h k e n = subst (λ g. None_left g k) (sym e) n

    as_fate : (h : Option Halt) (k d : ℕ) (n : None_left c.halt k) (left : k + d ≡ c.left) → c.halt ≡ h → outcome (at_last k d n left) ≡ outcome_by {O = O} (fate_by h) (last_end (at_last k d n left)) []
    as_fate h k d n left e = ap (λ g. outcome_by {O = O} (fate_by g) (last_end (at_last k d n left)) []) e

    as_left : (h : Option Halt) (k d : ℕ) (n : None_left c.halt k) (left : k + d ≡ c.left) → c.halt ≡ h → tree_left (at_last k d n left) V ≡ left_by {O = O} (fate_by h) V
    as_left h k d n left e = ap (λ g. left_by {O = O} (fate_by g) V) e

    none_more : (k : ℕ) → k + 0 ≡ k
    none_more k = omega arith

    limit_so : (k : ℕ) → k + 0 ≡ limit → k ≡ limit
    limit_so k e = omega arith

    pub reacts : Moved goes prog T o limit (result_by c.halt x) V c.outside
    reacts = by c.halt refl
      where
        by : (h : Option Halt) → c.halt ≡ h → Moved goes prog T o limit (result_by h x) V c.outside
        by None e =
            let n : None_left c.halt c.left = none_left_at None c.left e tt in
            let l : c.left + 0 ≡ c.left = none_more c.left in
            moved c.left 0 n l (Moving.By x) (ap (λ g. result_by g x) e)
            (as_fate None c.left 0 n l e ∙ ap (λ q. outcome_with {O = O} q []) ((lasts c.left 0 n l).ends (ap fate_by e)) ∙ outcome_kept life) (as_left None c.left 0 n l e) ((all c.left 0 n l).whole e) (limit_so _ (paid_so c.left 0 n l))
        by (Some Cuts) e =
            let n : None_left c.halt c.left = none_left_at (Some Cuts) c.left e tt in
            let l : c.left + 0 ≡ c.left = none_more c.left in
            moved c.left 0 n l (Moving.Halted Cuts) (ap (λ g. result_by g x) e) (as_fate (Some Cuts) c.left 0 n l e) (as_left (Some Cuts) c.left 0 n l e) tt (limit_so _ (paid_so c.left 0 n l))
        by (Some Spends) e =
            let n : None_left c.halt 0 = none_left_at (Some Spends) 0 e refl in
            let z : c.left ≡ 0 = (lives goes prog life).zero_stays (λ u. never_spent limit u) e in
            let l : 0 + 0 ≡ c.left = omega arith in
            moved 0 0 n l (Moving.Halted Spends) (ap (λ g. result_by g x) e) (as_fate (Some Spends) 0 0 n l e) (as_left (Some Spends) 0 0 n l e) tt (limit_so _ (paid_so 0 0 n l))
        by (Some Refuses) e =
            let n : None_left c.halt 0 = none_left_at (Some Refuses) 0 e refl in
            let l : 0 + c.left ≡ c.left = omega arith in
            moved 0 c.left n l (Moving.Halted Refuses) (ap (λ g. result_by g x) e) (as_fate (Some Refuses) 0 c.left n l e) (as_left (Some Refuses) 0 c.left n l e) tt
            (let a = (all 0 c.left n l).steps in let b : (ready 0 c.left n l).steps ≡ steps_of (all 0 c.left n l).tape = omega arith in b)
