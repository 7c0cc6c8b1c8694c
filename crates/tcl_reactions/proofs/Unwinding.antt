-- A run that waits for an answer, where each call that is open is ended from outside.
use Rattle.tcl_core.proofs.Callers.{or_lost_all}
use Rattle.std.proofs.Common.{◌≡◌, ◌⊎◌, inl, inr, ℕ, zero, suc, ◌+◌, ℤ, Bool, true, false, List, [], ◌∷◌, ◌++◌, Option, Some, None, length, refl, sym, ◌∙◌, ap, subst, arith, append_assoc, append-nil}
use Rattle.tcl_core.specs.Paths.{Path, Place, Height, rise_to}
use Rattle.tcl_core.specs.Endings.{Completion, IsQuit, Meter, Reply, refusal}
use Rattle.tcl_core.specs.Endings.Meter.{Count, Depth}
use Rattle.tcl_core.specs.Endings.Kind.{Full}
use Rattle.tcl_core.specs.Endings.Reply.{Completed, Stop, Exit, Cut}
use Rattle.tcl_core.specs.Endings.Cause.{Above}
use Rattle.tcl_core.specs.Entries.{Entry, Said}
use Rattle.tcl_core.specs.Entries.Answer.{Replied}
use Rattle.tcl_core.specs.Entries.Said.{Finished, Told, Missed}
use Rattle.tcl_core.specs.Execution.{event}
use Rattle.tcl_core.specs.Lives
use Rattle.tcl_core.specs.Lives.{begun, begun_at, copies, ended, ended_at, idle, never}
use Rattle.tcl_core.specs.Programs.{Act, Calls_only, Deed, Prog, Table, Wait, Wrap, blocked, closes, decide, is_deep, is_spent, metered, opens, spot, or_lost}
use Rattle.tcl_core.specs.Programs.Act.{Look, Change, Charge, Limit, LimitDepth, Make, Drop}
use Rattle.tcl_core.specs.Programs.Prog.{done, exit, act, go, inside, call, wait}
use Rattle.tcl_core.specs.Programs.Wrap.{Deeper, Framed}
use Rattle.tcl_core.specs.Rules.{Derives, IsNoExit}
use Rattle.tcl_core.specs.Rules.Derives.{completed, exited, acted, refused, unheard, went, passed, halted, wrapped, wrapped_passed, wrapped_halted, too_deep, shut, unheard_inside, called, called_passed, called_halted, unreached, called_out, unanswered, unfit, answered, heard, missed, answered_passed, entered, entered_halted, entered_exiting, born, fallen, unfound}
use Rattle.tcl_core.specs.Runs
use Rattle.tcl_core.specs.Runs.{Ending, Exiting, Exits, RunsIn, Stays, Step, Waits, World, ends_call, fits, height_of, reached, returned, Enters}
use Rattle.tcl_core.specs.Trees.{Event, Grants, Move, Node, Tree, What, at, depth_of, effect, granted}
use Rattle.tcl_core.specs.Trees.Grants.{Budget}
use Rattle.tcl_core.specs.Trees.Move.{Born, Fall, Enter, Come}
use Rattle.tcl_core.specs.Trees.What.{Made, Dropped, Out, In, Done, Back, Unfound}
use Rattle.tcl_core.proofs.Balance.{Owes, dones, ins, owes}
use Rattle.tcl_core.proofs.Keeping.{KeepsSteps, derived_keep}
use Rattle.tcl_core.proofs.LifeMoves.{not_cons}
use Rattle.tcl_core.proofs.MoreMoves.{none_not}
use Rattle.tcl_core.proofs.Parting.{back_reads, back_silent, closes_silent}
use Rattle.tcl_core.proofs.TreeLaws.{any_close, reached_at}
use Rattle.tcl_core.proofs.PathLaws.{not_both, rise_back}
use Rattle.tcl_core.proofs.Plain.{IsPlain, closes_plain, decide_plain, opens_plain}
use Rattle.tcl_core.proofs.Reacting.{exits_idle}
use Rattle.tcl_core.proofs.Refusals.{carried_is}
use Rattle.tcl_core.proofs.RuleLaws.{runs_derived}
use Rattle.tcl_reactions.proofs.Before.{begun_ins, ended_dones}
use Rattle.tcl_reactions.proofs.Exiting.{IsExit}
use Rattle.tcl_reactions.proofs.Extending.{extended, longer, step_longer}

some_none : {A : Type 0} (r : Reply) → Some r ≡ None → A
some_none r e = none_not r (sym e)

copies_last : (A : Type 0) (k : ℕ) (x : A) (l : List A) → copies (suc k) x ++ l ≡ copies k x ++ x ∷ l
copies_last A zero x l = refl
copies_last A (suc k) x l = ap (λ m. x ∷ m) (copies_last A k x l)

-- ## Entries in progress

module _ {O : Type 0} where
  abbrev Balanced : World O → World O → Type 0
  Balanced w u = begun w.tape + ended u.tape ≡ ended w.tape + begun u.tape

  abbrev pub Owing : World O → ℕ → Type 0
  Owing w j = begun w.tape ≡ ended w.tape + j

  balanced_then : (w u v : World O) → Balanced w u → Balanced u v → Balanced w v
  balanced_then w u v f g =
      let a : begun w.tape + ended u.tape ≡ ended w.tape + begun u.tape = f in
      let b : begun u.tape + ended v.tape ≡ ended u.tape + begun v.tape = g in
      omega arith

  step_balanced : (w : World O) (p : Place) (x : What O) (u : World O) → Step w p x u → ((n : ℕ) → begun_at p x n ≡ n) → ((n : ℕ) → ended_at p x n ≡ n) → Balanced w u
  step_balanced w p x u s f g =
      let a : begun w.tape ≡ begun u.tape = ap begun s.tape ∙ f (begun u.tape) in
      let b : ended w.tape ≡ ended u.tape = ap ended s.tape ∙ g (ended u.tape) in
      omega arith

  plain_begun : (p : Place) (x : What O) (n : ℕ) → IsPlain x → begun_at p x n ≡ n
  plain_begun p (In h i) n f = absurd f
  plain_begun p x n f = refl

  plain_ended : (p : Place) (x : What O) (n : ℕ) → IsPlain x → ended_at p x n ≡ n
  plain_ended p (Done h r) n f = absurd f
  plain_ended p x n f = refl

  plain_balanced : (w : World O) (p : Place) (x : What O) (u : World O) → Step w p x u → IsPlain x → Balanced w u
  plain_balanced w p x u s f = step_balanced w p x u s (λ n. plain_begun p x n f) (λ n. plain_ended p x n f)

  visit_balanced : (w inner left told : World O) (h : Height) (t : Place) (i : Entry) (r : Reply) → Step w t (In h i) inner → Balanced inner left → Step left t (Done h r) told → Balanced w told
  visit_balanced w inner left told h t i r s1 b s2 = by (rise_to h t) (ap begun s1.tape) (ap ended s2.tape)
    where
      by : (o : Option Place) → begun w.tape ≡ Lives.one_more o (begun inner.tape) → ended left.tape ≡ Lives.one_more o (ended told.tape) → Balanced w told
      by o f g =
          let c : begun inner.tape + ended left.tape ≡ ended inner.tape + begun left.tape = b in
          let d : ended w.tape ≡ ended inner.tape = ap ended s1.tape in
          let e : begun left.tape ≡ begun told.tape = ap begun s2.tape in
          at_most o f g c d e
        where
          at_most : (o : Option Place) → begun w.tape ≡ Lives.one_more o (begun inner.tape) → ended left.tape ≡ Lives.one_more o (ended told.tape) → begun inner.tape + ended left.tape ≡ ended inner.tape + begun left.tape → ended w.tape ≡ ended inner.tape → begun left.tape ≡ begun told.tape →
              begun w.tape + ended told.tape ≡ ended w.tape + begun told.tape
          at_most None f g c d e = let f1 : begun w.tape ≡ suc (begun inner.tape) = f in let g1 : ended left.tape ≡ suc (ended told.tape) = g in omega arith
          at_most (Some a) f g c d e = let f1 : begun w.tape ≡ begun inner.tape = f in let g1 : ended left.tape ≡ ended told.tape = g in omega arith

  owing : (w u : World O) (j : ℕ) → Balanced w u → Owing u j → Owing w j
  owing w u j f g =
      let a : begun w.tape + ended u.tape ≡ ended w.tape + begun u.tape = f in
      let b : begun u.tape ≡ ended u.tape + j = g in
      let c : begun w.tape ≡ ended w.tape + j = omega arith in
      c

  -- ## No entry that exits comes last

  abbrev pub NoExitLast : World O → Type 0
  NoExitLast w = (front : List (Event O)) (ev : Event O) → IsExit ev.what → w.tape ≡ front ++ ev ∷ [] → Prim.⊥

  no_exit_step : KeepsSteps NoExitLast
  no_exit_step w p x v due s f front ev e q = f (event p x ∷ front) ev e (s.tape ∙ ap (λ l. event p x ∷ l) q)

  after_step : (w : World O) (p : Place) (x : What O) (v : World O) → Step w p x v → NoExitLast w → NoExitLast v
  after_step w p x v s f front ev e q = f (event p x ∷ front) ev e (s.tape ∙ ap (λ l. event p x ∷ l) q)

  -- ## Under a budget each act comes to something

  metered_budget : {A : Type 0} (m : Meter) (y : What O) (b : Option ℕ) (n : ℕ) → metered m y b (Budget n) ≡ None → A
  metered_budget m y (Some j) n e = absurd (not_both e refl)
  metered_budget Count y None zero e = absurd (not_both e refl)
  metered_budget Count y None (suc n) e = absurd (not_both e refl)
  metered_budget Depth y None n e = absurd (not_both e refl)

  decide_budgeted : {A : Type 0} (d : Act O) (T : Tree O) (p : Place) (n : ℕ) → decide d T p (Budget n) ≡ None → A
  decide_budgeted Charge T p n e = metered_budget Count Rattle.tcl_core.specs.Trees.What.Charged (blocked is_spent T p) n e
  decide_budgeted Look T p n e = absurd (not_both e refl)
  decide_budgeted (Change o) T p n e = absurd (not_both e refl)
  decide_budgeted (Limit l) T p n e = absurd (not_both e refl)
  decide_budgeted (LimitDepth l) T p n e = absurd (not_both e refl)
  decide_budgeted (Make name o s) T p n e = absurd (not_both e refl)
  decide_budgeted (Drop name) T p n e = absurd (not_both e refl)

  opens_budgeted : {A : Type 0} (b : Wrap O) (T : Tree O) (p : Place) (n : ℕ) → opens b T p (Budget n) ≡ None → A
  opens_budgeted Deeper T p n e = metered_budget Depth Rattle.tcl_core.specs.Trees.What.Nested (blocked is_deep T p) n e
  opens_budgeted (Framed o back) T p n e = absurd (not_both e refl)

  closes_granted : (p : Place) (b : Wrap O) (m n : Option (Node O)) (gs : Grants) → gs ≡ granted p (closes b m n) gs
  closes_granted p b m n gs = any_close (λ x. gs ≡ granted p x gs) b m n refl refl (λ o. refl)

  -- the end of a call from outside
  abbrev pub ending : Move O
  ending = Come (Replied (Cut Above))

  abbrev placed : Tree O → List (Move O) → Grants → List (Event O) → World O
  placed U ms gs τ = record { tree = U; moves = ms; grants = gs; tape = τ }

module _ {O I : Type 0} where
  -- a program that calls, or that waits for the answer to a call
  abbrev Calling : Prog O I → Type 0
  Calling (wait None k) = Prim.⊥
  Calling (wait (Some c) k) = (a : Said) → Calls_only (k a)
  Calling x = Calls_only x

  calling : (x : Prog O I) → Calls_only x → Calling x
  calling (done c) f = f
  calling (exit n) f = f
  calling (act d k) f = f
  calling (go i k) f = f
  calling (inside b i k) f = f
  calling (call h down i lost k) f = f
  calling (wait s k) f = absurd f

  goes_on : (s : Wait) (k : Said → Prog O I) (a : Said) → Calling (wait s k) → Calls_only (k a)
  goes_on None k a f = absurd f
  goes_on (Some c) k a f = f a

  may_end : (T : Tree O) (p : Place) (s : Wait) (k : Said → Prog O I) → Calling (wait s k) → fits T p s (ending {O = O}) ≡ true
  may_end T p None k f = absurd f
  may_end T p (Some (h, i, d)) k f = by (Runs.gone d T p) h
    where
      by : (g : Option ℕ) (h : Height) → Runs.is_told g h i (Replied (Cut Above)) ≡ true
      by None None = refl
      by None (Some h) = refl
      by (Some l) None = refl
      by (Some l) (Some h) = refl

module _ {O I : Type 0} (prog : Table O I) where
  -- How a run goes on that waits with so many entries in progress in it: the call that is open is ended from outside, and so are all
  -- that are open then; this happens, and this tree is left.
  pub record Unwound (w : World O) (p : Place) (x : Prog O I) (gs : Grants) : Type 0 where
    pub count : ℕ
    pub events : List (Event O)
    pub tree : Tree O
    pub owes_so : Owing w count
    pub runs : (ms : List (Move O)) (τ : List (Event O)) → Derives prog (longer w (copies (suc count) ending ++ ms) (events ++ τ)) p x (placed tree ms gs τ) (Some (Cut Above))

  run_balanced : {w : World O} {p : Place} {x : Prog O I} {v : World O} {r : Reply} → Derives prog w p x v (Some r) → Balanced w v
  run_balanced {w} {p} {x} {v} {r} d =
      let o : Owes [] w v (Some r) = owes [] prog d in
      let z : o.open_ins ≡ 0 = o.none_left r refl in
      let f : ins [] w.tape + dones [] v.tape ≡ dones [] w.tape + ins [] v.tape + o.open_ins = o.sum in
      let a : begun w.tape ≡ ins [] w.tape = begun_ins w.tape in
      let b : begun v.tape ≡ ins [] v.tape = begun_ins v.tape in
      let c : ended w.tape ≡ dones [] w.tape = ended_dones w.tape in
      let e : ended v.tape ≡ dones [] v.tape = ended_dones v.tape in
      omega arith

  on : (w u : World O) (p q : Place) (x y : Prog O I) (gs : Grants) → Balanced w u → Unwound u q y gs →
      ((ms : List (Move O)) (τ : List (Event O)) (z : World O) → Derives prog (longer u ms τ) q y z (Some (Cut Above)) → Derives prog (longer w ms τ) p x z (Some (Cut Above))) → Unwound w p x gs
  on w u p q x y gs b a f = record {
    count = a.count;
    events = a.events;
    tree = a.tree;
    owes_so = owing w u a.count b a.owes_so;
    runs = λ ms τ. f (copies (suc a.count) ending ++ ms) (a.events ++ τ) (placed a.tree ms gs τ) (a.runs ms τ);
  }

  abbrev st : (ms : List (Move O)) (τ : List (Event O)) (w : World O) (p : Place) (x : What O) (u : World O) → Step w p x u → Step (longer w ms τ) p x (longer u ms τ)
  st ms τ w p x u s = step_longer ms τ w p x u s

  ex : (ms : List (Move O)) (τ : List (Event O)) {w : World O} {p : Place} {x : Prog O I} {v : World O} {r : Reply} → Derives prog w p x v (Some r) → Derives prog (longer w ms τ) p x (longer v ms τ) (Some r)
  ex ms τ d = extended prog ms τ d _ refl

  -- the call that is open is ended
  ends_here : (w : World O) (p : Place) (s : Wait) (k : Said → Prog O I) → rise_to (height_of s) p ≡ None → Calling (wait s k) → w.moves ≡ [] → w.tape ≡ [] → Unwound w p (wait s k) w.grants
  ends_here w p s k f c m t = record {
    count = 0;
    events = event p (Back (height_of s) (Replied (Cut Above))) ∷ [];
    tree = w.tree;
    owes_so = let a : begun w.tape ≡ 0 = ap begun t in let b : ended w.tape ≡ 0 = ap ended t in let e : begun w.tape ≡ ended w.tape + 0 = omega arith in e;
    runs =
        λ ms τ.
        answered_passed (longer w (ending ∷ ms) (event p (Back (height_of s) (Replied (Cut Above))) ∷ τ)) p s k (Cut Above) (placed w.tree ms w.grants τ) tt f (may_end w.tree p s k c)
        (record { tape = ap (λ l. l ++ event p (Back (height_of s) (Replied (Cut Above))) ∷ τ) t; tree = refl; moves = ap (λ l. l ++ ending ∷ ms) m ∙ back_reads prog p (height_of s) (Replied (Cut Above)) f ms; grants = refl });
  }

  -- a wrapped evaluation is ended, and what the wrap did is undone
  closing : (w inner : World O) (p : Place) (b : Wrap O) (i : I) (k : Completion → Prog O I) (x : Deed O) (gs : Grants) → opens b w.tree p w.grants ≡ Some x → x.2 ≡ Rattle.tcl_core.specs.Programs.Next.On → Step w (spot p x.0) x.1 inner → Unwound inner p (prog.program i) gs → Unwound w p (inside b i k) gs
  closing w inner p b i k x gs g on s a = record {
    count = a.count;
    events = a.events ++ back ∷ [];
    tree = U;
    owes_so = owing w inner a.count (plain_balanced w (spot p x.0) x.1 inner s (opens_plain b w.tree p w.grants x g)) a.owes_so;
    runs =
        λ ms τ.
        subst (λ l. Derives prog (longer w (copies (suc a.count) ending ++ ms) l) p (inside b i k) (placed U ms gs τ) (Some (Cut Above))) (sym (append_assoc a.events (back ∷ []) τ))
        (wrapped_passed (longer w (copies (suc a.count) ending ++ ms) (a.events ++ back ∷ τ)) p b i k x (longer inner (copies (suc a.count) ending ++ ms) (a.events ++ back ∷ τ)) (placed a.tree ms gs (back ∷ τ)) (placed U ms gs τ) (Cut Above) tt g on
        (st (copies (suc a.count) ending ++ ms) (a.events ++ back ∷ τ) w (spot p x.0) x.1 inner s) (a.runs ms (back ∷ τ))
        (record { tape = refl; tree = refl; moves = sym (closes_silent p b (inner.tree p) (a.tree p) ms); grants = closes_granted p b (inner.tree p) (a.tree p) gs }));
  }
    where
      back : Event O
      back = event p (closes b (inner.tree p) (a.tree p))

      U : Tree O
      U = effect p (closes b (inner.tree p) (a.tree p)) a.tree

  -- an entry is ended, and so is the call in which it came in
  ending_entry : (w inner : World O) (p : Place) (s : Wait) (k : Said → Prog O I) (t : Path) (i : Entry) (gs : Grants) {node : Node O} → rise_to (height_of s) p ≡ None → w.tree t ≡ Some node → Calling (wait s k) → Step w t (In None i) inner → Unwound inner t (prog.entry i) gs → Unwound w p (wait s k) gs
  ending_entry w inner p s k t i gs f here c s1 a = record {
    count = suc a.count;
    events = a.events ++ gone ∷ back ∷ [];
    tree = a.tree;
    owes_so =
        let b : begun w.tape ≡ suc (begun inner.tape) = ap begun s1.tape in
        let d : ended w.tape ≡ ended inner.tape = ap ended s1.tape in
        let e : begun inner.tape ≡ ended inner.tape + a.count = a.owes_so in
        let g : begun w.tape ≡ ended w.tape + suc a.count = omega arith in
        g;
    runs =
        λ ms τ.
        subst (λ l. Derives prog (longer w (copies (suc (suc a.count)) ending ++ ms) l) p (wait s k) (placed a.tree ms gs τ) (Some (Cut Above))) (sym (append_assoc a.events (gone ∷ back ∷ []) τ))
        (subst (λ l. Derives prog (longer w l (a.events ++ gone ∷ back ∷ τ)) p (wait s k) (placed a.tree ms gs τ) (Some (Cut Above))) (sym (copies_last (Move O) (suc a.count) ending ms))
        (entered (longer w (moves ms) (a.events ++ gone ∷ back ∷ τ)) p s k t i (longer inner (moves ms) (a.events ++ gone ∷ back ∷ τ)) (placed a.tree (ending ∷ ms) gs (gone ∷ back ∷ τ)) (placed a.tree (ending ∷ ms) gs (back ∷ τ)) (placed a.tree ms gs τ) (Cut Above) (Some (Cut Above)) f here
        (st (moves ms) (a.events ++ gone ∷ back ∷ τ) w t (In None i) inner s1) (a.runs (ending ∷ ms) (gone ∷ back ∷ τ)) (record { tape = refl; tree = refl; moves = refl; grants = refl }) tt
        (answered_passed (placed a.tree (ending ∷ ms) gs (back ∷ τ)) p s k (Cut Above) (placed a.tree ms gs τ) tt f (may_end a.tree p s k c)
        (record { tape = refl; tree = refl; moves = back_reads prog p (height_of s) (Replied (Cut Above)) f ms; grants = refl }))));
  }
    where
      gone : Event O
      gone = event t (Done None (Cut Above))

      back : Event O
      back = event p (Back (height_of s) (Replied (Cut Above)))

      moves : List (Move O) → List (Move O)
      moves ms = copies (suc a.count) ending ++ ending ∷ ms

  -- a call within the tree is ended
  ending_call : (w out inner : World O) (p a0 t : Place) (h : Height) (down : Path) (i : Entry) (lost : Completion) (k : Said → Prog O I) (gs : Grants) → rise_to h p ≡ Some a0 → Step w p (Out h down i) out → reached out.tree a0 down ≡ Some t → Step out t (In (Some (length down)) i) inner →
      Unwound inner t (prog.entry i) gs → Unwound w p (call h down i lost k) gs
  ending_call w out inner p a0 t h down i lost k gs f s1 g s2 a = record {
    count = a.count;
    events = a.events ++ gone ∷ back ∷ [];
    tree = a.tree;
    owes_so =
        let b : begun w.tape ≡ begun inner.tape = ap begun s1.tape ∙ ap begun s2.tape ∙ ap (λ o. Lives.one_more o (begun inner.tape)) within in
        let d : ended w.tape ≡ ended inner.tape = ap ended s1.tape ∙ ap ended s2.tape in
        let e : begun inner.tape ≡ ended inner.tape + a.count = a.owes_so in
        let j : begun w.tape ≡ ended w.tape + a.count = omega arith in
        j;
    runs =
        λ ms τ.
        subst (λ l. Derives prog (longer w (copies (suc a.count) ending ++ ms) l) p (call h down i lost k) (placed a.tree ms gs τ) (Some (Cut Above))) (sym (append_assoc a.events (gone ∷ back ∷ []) τ))
        (subst (λ r. Derives prog (longer w (copies (suc a.count) ending ++ ms) (a.events ++ gone ∷ back ∷ τ)) p (call h down i lost k) (placed a.tree ms gs τ) (Some r)) passes
        (called_passed (longer w (copies (suc a.count) ending ++ ms) (a.events ++ gone ∷ back ∷ τ)) p h down i lost k a0 t (longer out (copies (suc a.count) ending ++ ms) (a.events ++ gone ∷ back ∷ τ)) (longer inner (copies (suc a.count) ending ++ ms) (a.events ++ gone ∷ back ∷ τ))
        (placed a.tree ms gs (gone ∷ back ∷ τ)) (placed a.tree ms gs (back ∷ τ)) (placed a.tree ms gs τ) (Cut Above) f (st (copies (suc a.count) ending ++ ms) (a.events ++ gone ∷ back ∷ τ) w p (Out h down i) out s1) g
        (st (copies (suc a.count) ending ++ ms) (a.events ++ gone ∷ back ∷ τ) out t (In (Some (length down)) i) inner s2) (a.runs ms (gone ∷ back ∷ τ)) (record { tape = refl; tree = refl; moves = refl; grants = refl }) (subst IsQuit (sym passes) tt)
        (record { tape = refl; tree = refl; moves = sym (back_silent prog p a0 h (Replied told_so) f ms); grants = refl })));
  }
    where
      gone : Event O
      gone = event t (Done (Some (length down)) (Cut Above))

      told_so : Reply
      told_so = returned out.tree a.tree h p down (Cut Above)

      passes : told_so ≡ Cut Above
      passes = carried_is (Runs.gone (depth_of (out.tree p)) a.tree p) h p down (Cut Above) Above refl

      back : Event O
      back = event p (Back h (Replied told_so))

      within : rise_to (Some (length down)) t ≡ Some a0
      within = subst (λ z. rise_to (Some (length down)) z ≡ Some a0) (sym (reached_at (out.tree (a0 ++ down)) t (a0 ++ down) g)) (rise_back a0 down)

  exits_end : (w : World O) (p : Place) (s : Wait) (n : ℤ) (ms : List (Move O)) (v : World O) (e : Ending) → e ≡ None → Exits w p s n ms v e → w.tape ≡ []
  exits_end w p s n ms v e f a = by ms a
    where
      back : (l : Bool) → Exiting w p s n l v e → w.tape ≡ []
      back false x = x.tape
      back true x = some_none (Exit n) (sym x.1 ∙ f)

      by : (ms : List (Move O)) → Exits w p s n ms v e → w.tape ≡ []
      by [] x = x.tape
      by (Come y ∷ ms) x = back (ends_call s n y) x
      by (Born o l ∷ ms) x = x.tape
      by (Fall ∷ ms) x = x.tape
      by (Enter u i ∷ ms) x = x.tape

  exit_not_last : {A : Type 0} (left told : World O) (t : Place) (n : ℤ) → NoExitLast left → Step left t (Done None (Exit n)) told → told.tape ≡ [] → A
  exit_not_last left told t n f s e = absurd (f [] (event t (Done None (Exit n))) tt (s.tape ∙ ap (λ l. event t (Done None (Exit n)) ∷ l) e))

  later : {w : World O} {p : Place} {x : Prog O I} {v : World O} {e : Ending} → Derives prog w p x v e → NoExitLast w → NoExitLast v
  later d f = derived_keep NoExitLast no_exit_step prog d f

  no_moves : {A : Type 0} (w : World O) (m : Move O) (ms : List (Move O)) → w.moves ≡ [] → w.moves ≡ m ∷ ms → A
  no_moves w m ms e f = not_cons m ms (sym e ∙ f)

  -- how a run goes on that waits
  pub unwinding : {w : World O} {p : Place} {x : Prog O I} {v : World O} {e : Ending} (n : ℕ) → Derives prog w p x v e → e ≡ None → v.moves ≡ [] → v.grants ≡ Budget n → Calling x → NoExitLast w → Unwound w p x v.grants
  unwinding n (completed w p c) q m b f z = some_none _ q
  unwinding n (exited w p c) q m b f z = some_none _ q
  unwinding n (acted w p d y x u v e g on2 s a) q m b f z =
      on w u p p (act d y) (y (at w.tree p)) v.grants (plain_balanced w (spot p x.0) x.1 u s (decide_plain d w.tree p w.grants x g)) (unwinding n a q m b (calling (y (at w.tree p)) (f (at w.tree p))) (after_step w (spot p x.0) x.1 u s z))
      (λ ms τ o r. acted (longer w ms τ) p d y x (longer u ms τ) o (Some (Cut Above)) g on2 (st ms τ w (spot p x.0) x.1 u s) r)
  unwinding n (refused w p d y x r u g off s) q m b f z = some_none r q
  unwinding n (unheard w p d y g t) q m b f z = decide_budgeted d w.tree p n (ap (decide d w.tree p) (sym b) ∙ g)
  unwinding n (went w p i y u c v e a a2) q m b f z =
      on w u p p (go i y) (y c) v.grants (run_balanced a) (unwinding n a2 q m b (calling (y c) (f c)) (later a z))
      (λ ms τ o r. went (longer w ms τ) p i y (longer u ms τ) c o (Some (Cut Above)) (ex ms τ a) r)
  unwinding n (passed w p i y u r l a) q m b f z = some_none r q
  unwinding n (halted w p i y u a) q m b f z =
      on w w p p (go i y) (prog.program i) u.grants (let j : begun w.tape + ended w.tape ≡ ended w.tape + begun w.tape = omega arith in j) (unwinding n a refl m b (calling (prog.program i) (prog.programs_call i)) z)
      (λ ms τ o r. passed (longer w ms τ) p i y o (Cut Above) tt r)
  unwinding n (unheard_inside w p l i y g t) q m b f z = opens_budgeted l w.tree p n (ap (opens l w.tree p) (sym b) ∙ g)
  unwinding n (wrapped w p l i y x inner left closed v c e g on2 s a t d) q m b f z =
      on w closed p p (inside l i y) (y c) v.grants
      (balanced_then w inner closed (plain_balanced w (spot p x.0) x.1 inner s (opens_plain l w.tree p w.grants x g)) (balanced_then inner left closed (run_balanced a) (plain_balanced left p (closes l (inner.tree p) (left.tree p)) closed t (closes_plain l (inner.tree p) (left.tree p)))))
      (unwinding n d q m b (calling (y c) (f c)) (after_step left p (closes l (inner.tree p) (left.tree p)) closed t (later a (after_step w (spot p x.0) x.1 inner s z))))
      (λ ms τ o r. wrapped (longer w ms τ) p l i y x (longer inner ms τ) (longer left ms τ) (longer closed ms τ) o c (Some (Cut Above)) g on2 (st ms τ w (spot p x.0) x.1 inner s) (ex ms τ a) (st ms τ left p (closes l (inner.tree p) (left.tree p)) closed t) r)
  unwinding n (wrapped_passed w p l i y x inner left closed r k g on2 s a t) q m b f z = some_none r q
  unwinding n (wrapped_halted w p l i y x inner left g on2 s a) q m b f z = closing w inner p l i y x left.grants g on2 s (unwinding n a refl m b (calling (prog.program i) (prog.programs_call i)) (after_step w (spot p x.0) x.1 inner s z))
  unwinding n (too_deep w p l i y x u v e g deep s a) q m b f z =
      on w u p p (inside l i y) (y (refusal (Full Depth))) v.grants (plain_balanced w (spot p x.0) x.1 u s (opens_plain l w.tree p w.grants x g)) (unwinding n a q m b (calling (y (refusal (Full Depth))) (f (refusal (Full Depth)))) (after_step w (spot p x.0) x.1 u s z))
      (λ ms τ o r. too_deep (longer w ms τ) p l i y x (longer u ms τ) o (Some (Cut Above)) g deep (st ms τ w (spot p x.0) x.1 u s) r)
  unwinding n (shut w p l i y x r u g off s) q m b f z = some_none r q
  unwinding n (called w p h down i lost y a0 t out inner left told back v r c e g s1 j s2 x s3 so s4 d) q m b f z =
      on w back p p (call h down i lost y) (y (Finished c)) v.grants
      (balanced_then w out back (step_balanced w p (Out h down i) out s1 (λ k. refl) (λ k. refl)) (balanced_then out told back (visit_balanced out inner left told (Some (length down)) t i r s2 (run_balanced x) s3) (step_balanced told p _ back s4 (λ k. refl) (λ k. refl))))
      (unwinding n d q m b (calling (y (Finished c)) (f (Finished c))) (after_step told p _ back s4 (after_step left t _ told s3 (later x (after_step out t _ inner s2 (after_step w p _ out s1 z))))))
      (λ ms τ o k. called (longer w ms τ) p h down i lost y a0 t (longer out ms τ) (longer inner ms τ) (longer left ms τ) (longer told ms τ) (longer back ms τ) o r c (Some (Cut Above)) g (st ms τ w p _ out s1) j (st ms τ out t _ inner s2) (ex ms τ x) (st ms τ left t _ told s3) so (st ms τ told p _ back s4) k)
  unwinding n (called_passed w p h down i lost y a0 t out inner left told back r g s1 j s2 x s3 k s4) q m b f z = some_none _ q
  unwinding n (called_halted w p h down i lost y a0 t out inner left g s1 j s2 x) q m b f z =
      ending_call w out inner p a0 t h down i lost y left.grants g s1 j s2 (unwinding n x refl m b (calling (prog.entry i) (prog.entries_call i)) (after_step out t _ inner s2 (after_step w p _ out s1 z)))
  unwinding n (unreached w p h down i lost y a0 out back v e g s1 j s2 x) q m b f z =
      on w back p p (call h down i lost y) (y (Finished lost)) v.grants (balanced_then w out back (step_balanced w p (Out h down i) out s1 (λ k. refl) (λ k. refl)) (step_balanced out p _ back s2 (λ k. refl) (λ k. refl)))
      (unwinding n x q m b (calling (y (Finished lost)) (f (Finished lost))) (after_step out p _ back s2 (after_step w p _ out s1 z)))
      (λ ms τ o k. unreached (longer w ms τ) p h down i lost y a0 (longer out ms τ) (longer back ms τ) o (Some (Cut Above)) g (st ms τ w p _ out s1) j (st ms τ out p _ back s2) k)
  unwinding n (called_out w p h down i lost y u v e g s a) q m b f z =
      on w u p p (call h down i lost y) (wait (Some (h, i, depth_of (u.tree p))) (or_lost lost y)) v.grants (step_balanced w p (Out h down i) u s (λ k. refl) (λ k. refl)) (unwinding n a q m b (or_lost_all Calls_only lost y f) (after_step w p _ u s z))
      (λ ms τ o k. called_out (longer w ms τ) p h down i lost y (longer u ms τ) o (Some (Cut Above)) g (st ms τ w p _ u s) k)
  unwinding n (unanswered w p s y g j t) q m b f z = ends_here w p s y g f j t
  unwinding n (unfit w p s y a ms g j h t) q m b f z = no_moves w a ms m j
  unwinding n (answered w p s y c u v e g j t a) q m b f z =
      on w u p p (wait s y) (y (Finished c)) v.grants (step_balanced w p _ u t (λ k. refl) (λ k. refl)) (unwinding n a q m b (calling (y (Finished c)) (goes_on s y (Finished c) f)) (after_step w p _ u t z))
      (λ ms τ o k. answered (longer w ms τ) p s y c (longer u ms τ) o (Some (Cut Above)) g j (st ms τ w p _ u t) k)
  unwinding n (heard w p s y x u v e g j t a) q m b f z =
      on w u p p (wait s y) (y (Told x)) v.grants (step_balanced w p _ u t (λ k. refl) (λ k. refl)) (unwinding n a q m b (calling (y (Told x)) (goes_on s y (Told x) f)) (after_step w p _ u t z))
      (λ ms τ o k. heard (longer w ms τ) p s y x (longer u ms τ) o (Some (Cut Above)) g j (st ms τ w p _ u t) k)
  unwinding n (missed w p s y u v e g j t a) q m b f z =
      on w u p p (wait s y) (y Missed) v.grants (step_balanced w p _ u t (λ k. refl) (λ k. refl)) (unwinding n a q m b (calling (y Missed) (goes_on s y Missed f)) (after_step w p _ u t z))
      (λ ms τ o k. missed (longer w ms τ) p s y (longer u ms τ) o (Some (Cut Above)) g j (st ms τ w p _ u t) k)
  unwinding n (answered_passed w p s y r u l g j t) q m b f z = some_none r q
  unwinding n (entered w p s y t i inner left told v r e g here s1 x s2 l a) q m b f z =
      on w told p p (wait s y) (wait s y) v.grants (visit_balanced w inner left told None t i r s1 (run_balanced x) s2) (unwinding n a q m b f (after_step left t _ told s2 (later x (after_step w t _ inner s1 z))))
      (λ ms τ o k. entered (longer w ms τ) p s y t i (longer inner ms τ) (longer left ms τ) (longer told ms τ) o r (Some (Cut Above)) g here (st ms τ w t _ inner s1) (ex ms τ x) (st ms τ left t _ told s2) l k)
  unwinding n (entered_halted w p s y t i inner left g here s1 x) q m b f z =
      ending_entry w inner p s y t i left.grants g here f s1 (unwinding n x refl m b (calling (prog.entry i) (prog.entries_call i)) (after_step w t _ inner s1 z))
  unwinding n (entered_exiting w p s y t i inner left told v l e g here s1 x s2 a) q m b f z = exit_not_last left told t l (later x (after_step w t _ inner s1 z)) s2 (exits_end told p s l told.moves v e q a)
  unwinding n (born w p s y o c u v e g t a) q m b f z =
      on w u p p (wait s y) (wait s y) v.grants (step_balanced w [] _ u t (λ k. refl) (λ k. refl)) (unwinding n a q m b f (after_step w [] _ u t z)) (λ ms τ j k. born (longer w ms τ) p s y o c (longer u ms τ) j (Some (Cut Above)) g (st ms τ w [] _ u t) k)
  unwinding n (unfound w p s y t i u v e g here s1 a) q m b f z =
      on w u p p (wait s y) (wait s y) v.grants (step_balanced w [] _ u s1 (λ k. refl) (λ k. refl)) (unwinding n a q m b f (after_step w [] _ u s1 z)) (λ ms τ j k. unfound (longer w ms τ) p s y t i (longer u ms τ) j (Some (Cut Above)) g here (st ms τ w [] _ u s1) k)
  unwinding n (fallen w p s y u v e g t a) q m b f z =
      on w u p p (wait s y) (wait s y) v.grants (step_balanced w [] _ u t (λ k. refl) (λ k. refl)) (unwinding n a q m b f (after_step w [] _ u t z)) (λ ms τ j k. fallen (longer w ms τ) p s y (longer u ms τ) j (Some (Cut Above)) g (st ms τ w [] _ u t) k)

  -- ## A life

  -- How a life goes on: no entry is in progress; or so many are, and they are ended from outside.
  pub data Stood (w : World O) (gs : Grants) : Type 0 where
    quiet : begun w.tape ≡ ended w.tape → Stood w gs
    ends : (j : ℕ) (σ : List (Event O)) (U : Tree O) → begun w.tape ≡ ended w.tape + suc j → Derives prog (longer w (copies (suc j) ending) σ) [] (wait idle never) (placed U [] gs []) None → Stood w gs

  stood_on : (w u : World O) (gs : Grants) → Balanced w u → ((ms : List (Move O)) (τ : List (Event O)) (z : World O) → Derives prog (longer u ms τ) [] (wait idle never) z None → Derives prog (longer w ms τ) [] (wait idle never) z None) → Stood u gs → Stood w gs
  stood_on w u gs b f (quiet e) = quiet (let c : begun w.tape + ended u.tape ≡ ended w.tape + begun u.tape = b in omega (arith, e))
  stood_on w u gs b f (ends j σ U e d) = ends j σ U (owing w u (suc j) b e) (f (copies (suc j) ending) σ (placed U [] gs []) d)

  nothing_on : (w : World O) (gs : Grants) → w.tape ≡ [] → Stood w gs
  nothing_on w gs t = quiet (let a : begun w.tape ≡ 0 = ap begun t in let b : ended w.tape ≡ 0 = ap ended t in omega arith)

  entry_on : (w inner : World O) (t : Path) (i : Entry) (gs : Grants) {node : Node O} → w.tree t ≡ Some node → Step w t (In None i) inner → Unwound inner t (prog.entry i) gs → Stood w gs
  entry_on w inner t i gs here s1 a =
      ends a.count (a.events ++ gone ∷ []) a.tree
      (let b : begun w.tape ≡ suc (begun inner.tape) = ap begun s1.tape in
      let d : ended w.tape ≡ ended inner.tape = ap ended s1.tape in
      let e : begun inner.tape ≡ ended inner.tape + a.count = a.owes_so in
      omega arith)
      (entered (longer w over (a.events ++ gone ∷ [])) [] idle never t i (longer inner over (a.events ++ gone ∷ [])) (placed a.tree [] gs (gone ∷ [])) (placed a.tree [] gs []) (placed a.tree [] gs []) (Cut Above) None refl here
      (st over (a.events ++ gone ∷ []) w t (In None i) inner s1)
      (subst (λ l. Derives prog (longer inner l (a.events ++ gone ∷ [])) t (prog.entry i) (placed a.tree [] gs (gone ∷ [])) (Some (Cut Above))) (append-nil over) (a.runs [] (gone ∷ [])))
      (record { tape = refl; tree = refl; moves = refl; grants = refl }) tt (unanswered (placed a.tree [] gs []) [] idle never refl refl refl))
    where
      gone : Event O
      gone = event t (Done None (Cut Above))

      over : List (Move O)
      over = copies (suc a.count) ending

  Standing : ℕ → ℕ → Type 0
  Standing k n = (z y : World O) → y.moves ≡ [] → y.grants ≡ Budget k → NoExitLast z → RunsIn prog n z [] (wait idle never) y None → Stood z y.grants

  left_halted : (n : ℕ) (z left : World O) (entered_at : World O) (q : Path) (i : Entry) (k : ℕ) {node : Node O} → left.moves ≡ [] → left.grants ≡ Budget k → NoExitLast z → z.tree q ≡ Some node → Step z q (In None i) entered_at → Derives prog entered_at q (prog.entry i) left None → Stood z left.grants
  left_halted n z left inner q i k m b f here s d = entry_on z inner q i left.grants here s (unwinding k d refl m b (calling (prog.entry i) (prog.entries_call i)) (after_step z q (In None i) inner s f))

  stays_on : (k n : ℕ) → Standing k n → (u y : World O) (r : Reply) → y.moves ≡ [] → y.grants ≡ Budget k → NoExitLast u → Stays (RunsIn prog n) u [] idle never (Some r) y None → (Stood u y.grants × IsNoExit r) ⊎ (u.tape ≡ [])
  unfolding Standing
  stays_on k n ih u y (Completed c) m b f s = inl (ih u y m b f s, tt)
  stays_on k n ih u y (Stop l x) m b f s = inl (ih u y m b f s, tt)
  stays_on k n ih u y (Cut c) m b f s = inl (ih u y m b f s, tt)
  stays_on k n ih u y (Exit l) m b f s = inr (exits_idle u l u.moves y s).tape

  entry_past : (z inner left u : World O) (q : Path) (i : Entry) (r : Reply) (gs : Grants) {node : Node O} → z.tree q ≡ Some node → Step z q (In None i) inner → Derives prog inner q (prog.entry i) left (Some r) → Step left q (Done None r) u → (Stood u gs × IsNoExit r) ⊎ (u.tape ≡ []) → Stood z gs
  entry_past z inner left u q i r gs here s1 d s2 (inl g) =
      stood_on z u gs (visit_balanced z inner left u None q i r s1 (run_balanced d) s2)
      (λ ms τ o e. entered (longer z ms τ) [] idle never q i (longer inner ms τ) (longer left ms τ) (longer u ms τ) o r None refl here (st ms τ z q (In None i) inner s1) (ex ms τ d) (st ms τ left q (Done None r) u s2) g.1 e) g.0
  entry_past z inner left u q i r gs here s1 d s2 (inr t) =
      quiet (let c : begun z.tape + ended u.tape ≡ ended z.tape + begun u.tape = visit_balanced z inner left u None q i r s1 (run_balanced d) s2 in
      let a : begun u.tape ≡ 0 = ap begun t in
      let b : ended u.tape ≡ 0 = ap ended t in
      omega arith)

  stands_entry : (k n : ℕ) → Standing k n → (z y : World O) → y.moves ≡ [] → y.grants ≡ Budget k → NoExitLast z → (q : Path) (i : Entry) (x : Option (Node O)) → z.tree q ≡ x → Enters prog (RunsIn prog n) z [] idle never q i x y None → Stood z y.grants
  unfolding Standing
  stands_entry k n ih z y m b f q i None here (u, st2, h) =
      stood_on z u y.grants (step_balanced z [] (Unfound q i (prog.lost q)) u st2 (λ j. refl) (λ j. refl)) (λ l τ j d. unfound (longer z l τ) [] idle never q i (longer u l τ) j None refl here (st l τ z [] (Unfound q i (prog.lost q)) u st2) d) (ih u y m b (after_step z [] (Unfound q i (prog.lost q)) u st2 f) h)
  stands_entry k n ih z y m b f q i (Some x) here (u, None, v, s) =
      let same : y ≡ v.left = s.0 ∙ v.leaving in
      subst (λ j. Stood z j.grants) (sym same) (left_halted n z v.left v.entered q i k (ap (λ j. j.moves) (sym same) ∙ m) (ap (λ j. j.grants) (sym same) ∙ b) f here v.entry (runs_derived prog v.entered q (prog.entry i) v.left None (n, v.run)))
  stands_entry k n ih z y m b f q i (Some x) here (u, Some r, v, s) =
      let d = runs_derived prog v.entered q (prog.entry i) v.left (Some r) (n, v.run) in
      let g : NoExitLast u = after_step v.left q (Done None r) u v.leaving (later d (after_step z q (In None i) v.entered v.entry f)) in
      entry_past z v.entered v.left u q i r y.grants here v.entry d v.leaving (stays_on k n ih u y r m b g s)

  stands_next : (k n : ℕ) → Standing k n → (z y : World O) → y.moves ≡ [] → y.grants ≡ Budget k → NoExitLast z → (ms : List (Move O)) → Waits prog (RunsIn prog n) z [] idle never ms y None → Stood z y.grants
  unfolding Standing
  stands_next k n ih z y m b f [] h = nothing_on z y.grants h.tape
  stands_next k n ih z y m b f (Come x ∷ ms) h = nothing_on z y.grants h.tape
  stands_next k n ih z y m b f (Born o s ∷ ms) (u, st2, h) =
      stood_on z u y.grants (step_balanced z [] (Made o s) u st2 (λ j. refl) (λ j. refl)) (λ l τ j d. born (longer z l τ) [] idle never o s (longer u l τ) j None refl (st l τ z [] (Made o s) u st2) d) (ih u y m b (after_step z [] (Made o s) u st2 f) h)
  stands_next k n ih z y m b f (Fall ∷ ms) (u, st2, h) =
      stood_on z u y.grants (step_balanced z [] Dropped u st2 (λ j. refl) (λ j. refl)) (λ l τ j d. fallen (longer z l τ) [] idle never (longer u l τ) j None refl (st l τ z [] Dropped u st2) d) (ih u y m b (after_step z [] Dropped u st2 f) h)
  stands_next k n ih z y m b f (Enter q i ∷ ms) h = stands_entry k n ih z y m b f q i (z.tree q) refl h

  stands : (k n : ℕ) → Standing k n
  unfolding Standing
  stands k zero z y m b f g = absurd g
  stands k (suc n) z y m b f (g, h) = stands_next k n (stands k n) z y m b f z.moves h

  pub stood : (k n : ℕ) (z y : World O) → y.moves ≡ [] → y.grants ≡ Budget k → NoExitLast z → RunsIn prog n z [] (wait idle never) y None → Stood z y.grants
  unfolding Standing
  stood k n = stands k n
