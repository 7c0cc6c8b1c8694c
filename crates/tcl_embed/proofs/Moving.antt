-- What an outside with a budget makes of what it is told, and how lives go on.
use Rattle.std.proofs.Common.{◌≡◌, ℕ, zero, suc, ℤ, Bool, true, false, List, [], ◌≤◌, ◌<◌, ◌+◌, Option, Some, None, refl, sym, ap, subst, ◌∙◌, ◌⊎◌, arith, inl, inr}
use Rattle.std.specs.Option.{option_map}
use Rattle.std.specs.Prelude.{IfErr, IfOk, IfNone, IfSome, Result, Ok, Err, is_some}
use Rattle.tcl_core.specs.Endings.{Reply, ok}
use Rattle.tcl_core.specs.Endings.Cause.{Over}
use Rattle.tcl_core.specs.Endings.Meter.{Count}
use Rattle.tcl_core.specs.Endings.Reply.{Completed, Stop, Exit, Cut}
use Rattle.tcl_core.specs.Entries.{Answer, Entry}
use Rattle.tcl_core.specs.Entries.Answer.{Replied, Heard, Nobody}
use Rattle.tcl_core.specs.Execution.{Crossings, event}
use Rattle.tcl_core.specs.Lives as core_lives
use Rattle.tcl_core.specs.Lives.{limit_at}
use Rattle.tcl_core.specs.Paths.{Height, Path, rise, rise_to}
use Rattle.tcl_core.specs.Programs.{Wait}
use Rattle.tcl_core.specs.Runs.{Ending, carried, gone, is_told}
use Rattle.tcl_core.specs.Trees as core
use Rattle.tcl_core.specs.Trees.{Event, Node, What}
use Rattle.tcl_core.specs.Trees.What.{Back, Charged, Done, Dropped, In, Out, Refused, Unfound}
use Rattle.tcl_core.proofs.PathLaws.{not_both, rise_back}
use Rattle.tcl_core.specs.Views.{steps_of}
use Rattle.tcl_eval.specs.Waiting.{EndsEntry, ExitOf, MissesEntry}
use Rattle.tcl_flow.specs.Stopping as stopping
use Rattle.tcl_flow.specs.View.{completion_of}
use Rattle.tcl_language.specs.Table.{serve}
use Rattle.tcl_run.specs.Language.{language}
use Rattle.tcl_reactions.specs.Moving as moving
use Rattle.tcl_reactions.proofs.Mapped.{lives_along}
use Rattle.tcl_reactions.proofs.Movements.{reacts}
use Rattle.tcl_reactions.specs.Moving.{Goes, Lived, Moved, budgeted, halt_by}
use Rattle.tcl_reactions.specs.Playing.{IsEnd}
use Rattle.tcl_run.proofs.Endings.{IfEnded-all, IfEnded-more}
use Rattle.tcl_run.proofs.Losing.{lost_once, lost_twice}
use Rattle.tcl_run.proofs.Proceeding.{comes, given_up_after}
use Rattle.tcl_run.proofs.Quiet.{within_unchanged}
use Rattle.tcl_run.specs.Ends.{IfEnded, cause_of}
use Rattle.tcl_run.specs.Entering.{whole_entry}
use Rattle.tcl_run.specs.Notifying.{Notified, WasUnfound}
use Rattle.tcl_run.specs.Outsides.{AnswersFor, ComesNext, Enters, Going, Misses, Returns, told_to}
use Rattle.tcl_run.specs.Runs.{Comes, IsLoss, IsSteady, Proceeds, steps_at, ways}
use Rattle.tcl_run.specs.Runs.IsLoss.{lost, unlost}
use Rattle.tcl_run.specs.Runs.Proceeds.{given_up}
use Rattle.tcl_run.specs.declared.interruption.Interruption.{Interruption}
use Rattle.tcl_run.specs.declared.interruption.Interruption.TheVariants as interruption
use Rattle.tcl_run.specs.declared.outside.Happening.{Happening}
use Rattle.tcl_run.specs.declared.outside.Happening.TheVariants as happening
use Rattle.tcl_run.specs.declared.outside.Turn.{Turn}
use Rattle.tcl_run.specs.declared.outside.Turn.TheVariants as turn
use Rattle.tcl_text.specs.declared.integer.Integers.{Integers}
use Rattle.tcl_tree.specs.Own.{Own}
use Rattle.tcl_tree.specs.Gone.{Holds}
use Rattle.tcl_tree.specs.TreeOf.{Names, key_of, marks_of, tree_of}
use Rattle.tcl_tree.specs.declared.tree.Tree.{Tree as Table}
use Rattle.tcl_embed.specs.OpenMoves.{ComesOf, FindsNobody, GivesUp, GivesUpIn, GivesUpOn, IsDenied, IsGivenUp, KeepsCounts, Serves, between, within, budgeted_of, by_budget, grants, hands, halt_at, halt_of, last_end, result_of}
use Rattle.tcl_embed.proofs.Spending.{All, Denies, all_of, all_paid, counted_at_most, denied}
use Rattle.tcl_embed.specs.declared.moves.Outcome.{Outcome}
use Rattle.tcl_embed.specs.declared.moves.Outcome.TheVariants as outcome
use Rattle.tcl_eval.proofs.Starting.{some_way}
use Rattle.tcl_eval.specs.Running.{root_count}
use Rattle.tcl_embed.specs.declared.moves.Budgeted.{Budgeted}
use Rattle.tcl_embed.specs.declared.moves.Halt.{Halt}
use Rattle.tcl_embed.specs.declared.moves.Halt.TheVariants as halt

none_of : (h : Option Halt) → is_some h ≡ false → h ≡ None
none_of None e = refl
none_of (Some f) e = let clash : true ≡ false = e in absurd cc

some_of : (h : Option Halt) → is_some h ≡ true → (f : Halt) × (h ≡ Some f)
some_of None e = let clash : false ≡ true = e in absurd cc
some_of (Some f) e = (f, refl)

module _ {S : Type 0} (goes : Going S) where
  -- the outside in a state, with so many steps left, and why the life is over
  abbrev pub at : S → ℕ → Option Halt → Budgeted S
  at o n h = record { outside = o; left = n; halt = h }

  -- ## The life goes on

  enters : (T : core.Tree Own) (o : S) (n : ℕ) (p : Path) (up : ℕ) (a : Path) (down : Path) (i : Entry) (z : S) → Enters goes T o p up a down i z → Enters (by_budget goes) T (at o n None) p up a down i (at z n None)
  enters T o n p up a down i z g = record { between = at g.between n None; leaves = record { told = g.leaves; left_so = refl; halt_so = refl }; enters = record { told = g.enters; left_so = refl; halt_so = refl } }

  returns : (T : core.Tree Own) (o : S) (n : ℕ) (p : Path) (up : ℕ) (a : Path) (down : Path) (s r : Reply) (z : S) → rise up p ≡ Some a → Returns goes T o p up a down s r z → Returns (by_budget goes) T (at o n None) p up a down s r (at z n None)
  returns T o n p up a down s r z e g = record { between = at g.between n None; leaves = record { told = g.leaves; left_so = refl; halt_so = refl }; returns = record { told = g.returns; left_so = refl; halt_so = sym (ap (λ l. halt_by l (Replied r)) e) } }

  misses : (T : core.Tree Own) (o : S) (n : ℕ) (p : Path) (up : ℕ) (a : Path) (down : Path) (i : Entry) (r : Reply) (z : S) → rise up p ≡ Some a → Misses goes T o p up down i r z → Misses (by_budget goes) T (at o n None) p up down i r (at z n None)
  misses T o n p up a down i r z e g = record { between = at g.between n None; leaves = record { told = g.leaves; left_so = refl; halt_so = refl }; returns = record { told = g.returns; left_so = refl; halt_so = sym (ap (λ l. halt_by l (Replied r)) e) } }

  -- how an entry that finds nobody was handed in: the life went on then, and does so
  handed_on : (T : core.Tree Own) (o : S) (n : ℕ) (t : Path) (i : Entry) (before : Budgeted S) → by_budget goes T before None (event t (In None i)) (at o n None) → (before.halt ≡ None) × (before.left ≡ n) × goes T before.outside None (event t (In None i)) o
  handed_on T o n t i before g = by before.halt refl
    where
      by : (h : Option Halt) → before.halt ≡ h → (before.halt ≡ None) × (before.left ≡ n) × goes T before.outside None (event t (In None i)) o
      by None on =
          let met : Goes goes T (budgeted_of before) None (event t (In None i)) before.left None (budgeted_of (at o n None)) =
          subst (λ l. moving.meets_by goes (option_map halt_of l) T (budgeted_of before) None t (In None i) (budgeted_of (at o n None))) on g in
          (on, sym met.left_so, met.told)
      by (Some f) off =
          let past : Prim.⊥ × _ = subst (λ l. moving.meets_by goes (option_map halt_of l) T (budgeted_of before) None t (In None i) (budgeted_of (at o n None))) off g in
          absurd past.0

  unfound_on : (T : core.Tree Own) (o : S) (n : ℕ) (t : Path) (i : Entry) (r : Reply) (z : S) → WasUnfound goes T o t i r z → WasUnfound (by_budget goes) T (at o n None) t i r (at z n None)
  unfound_on T o n t i r z f c before is nobody g =
      let h = handed_on T o n t i before g in
      subst (λ l. moving.meets_by goes (option_map halt_of l) T (budgeted_of before) None [] (Unfound t i c) (budgeted_of (at z n None))) (sym h.0) (record { told = f c before.outside is nobody h.2; left_so = sym h.1; halt_so = refl })

  told_on : (hands : Type 0) (t : Table) (o : S) (n : ℕ) (w : Happening) (z : S) → Notified goes hands t o w z → Notified (by_budget goes) hands t (at o n None) w (at z n None)
  told_on hands t o n (happening.Dropped parent name) z f = λ T p q. record { told = f T p q; left_so = refl; halt_so = refl }
  told_on hands t o n (happening.Entered caller up down entry) z f = λ p a q e. enters (tree_of t) o n p up a down.now (whole_entry entry.now) z (f p a q e)
  told_on hands t o n (happening.Returned caller up down ended told) z f =
      let Inner : Reply → Reply → Type 0 = λ s r. (p a : Path) (d : ℕ) → Holds t caller p d → rise_to (Some up) p ≡ Some a → r ≡ carried (gone d (tree_of t) p) (Some up) p down.now s → Returns goes (tree_of t) o p up a down.now s r z in
      let Outer : Reply → Reply → Type 0 = λ s r. (p a : Path) (d : ℕ) → Holds t caller p d → rise_to (Some up) p ≡ Some a → r ≡ carried (gone d (tree_of t) p) (Some up) p down.now s → Returns (by_budget goes) (tree_of t) (at o n None) p up a down.now s r (at z n None) in
      IfEnded-more ended.now (λ s. IfEnded told.now (Inner s)) (λ s. IfEnded told.now (Outer s))
      (λ s x. IfEnded-more told.now (Inner s) (Outer s) (λ r g p a d q e is. returns (tree_of t) o n p up a down.now s r z e (g p a d q e is)) x) f
  told_on hands t o n (happening.Missed caller up down entry told) z f =
      IfEnded-more told.now (λ r. (p a : Path) → Names t caller p → rise_to (Some up) p ≡ Some a → Misses goes (tree_of t) o p up down.now (whole_entry entry.now) r z)
      (λ r. (p a : Path) → Names t caller p → rise_to (Some up) p ≡ Some a → Misses (by_budget goes) (tree_of t) (at o n None) p up down.now (whole_entry entry.now) r (at z n None))
      (λ r g p a q e. misses (tree_of t) o n p up a down.now (whole_entry entry.now) r z e (g p a q e)) f
  told_on hands t o n (happening.PassedTop caller up down entry) z f = λ p q e. record { told = f p q e; left_so = refl; halt_so = refl }
  told_on hands t o n (happening.EntryDone target ended) z f =
      IfEnded-more ended.now (λ r. goes (tree_of t) o None (event target.now (Done None r)) z) (λ r. by_budget goes (tree_of t) (at o n None) None (event target.now (Done None r)) (at z n None))
      (λ r g. record { told = g; left_so = refl; halt_so = refl }) f
  told_on hands t o n (happening.ExitCameBack caller up entry status) z f = λ h p d q e. record { told = f h p d q e; left_so = refl; halt_so = sym (ap (λ l. halt_by l (Replied (Exit status))) e) }
  told_on hands t o n (happening.Unfound target entry told) z f = λ h. IfEnded-more told.now (λ r. WasUnfound goes (tree_of t) o target.now (whole_entry entry.now) r z)
      (λ r. WasUnfound (by_budget goes) (tree_of t) (at o n None) target.now (whole_entry entry.now) r (at z n None)) (λ r. unfound_on (tree_of t) o n target.now (whole_entry entry.now) r z) (f h)

  pub notified_on : (hands : Type 0) (t : Table) (o : S) (n : ℕ) (h : Option Halt) (w : Happening) (z : S) → is_some h ≡ false → Notified goes hands t o w z → Notified (by_budget goes) hands t (at o n h) w (at z n h)
  notified_on hands t o n h w z e f = subst (λ g. Notified (by_budget goes) hands t (at o n g) w (at z n g)) (sym (none_of h e)) (told_on hands t o n w z f)

  -- ## It is over

  over_inner : (T : core.Tree Own) (o : S) (n : ℕ) (f : Halt) (p : Path) (h : Height) (r : Answer) (a : Path) → rise_to h p ≡ Some a → by_budget goes T (at o n (Some f)) None (event p (Back h r)) (at o n (Some f))
  over_inner T o n f p h r a e = (subst (λ l. moving.past l (IsEnd r)) (sym e) tt, refl)

  over_enters : (T : core.Tree Own) (o : S) (n : ℕ) (f : Halt) (p : Path) (up : ℕ) (a : Path) (down : Path) (i : Entry) → Enters (by_budget goes) T (at o n (Some f)) p up a down i (at o n (Some f))
  over_enters T o n f p up a down i = record { between = at o n (Some f); leaves = (tt, refl); enters = (subst (λ l. moving.past l Prim.⊥) (sym (rise_back a down)) tt, refl) }

  -- no entry is handed in any more
  handed_over : (T : core.Tree Own) (o : S) (n : ℕ) (f : Halt) (t : Path) (i : Entry) (before : Budgeted S) → by_budget goes T before None (event t (In None i)) (at o n (Some f)) → Prim.⊥
  handed_over T o n f t i before g = by before.halt refl
    where
      by : (h : Option Halt) → before.halt ≡ h → Prim.⊥
      by None on =
          let met : Goes goes T (budgeted_of before) None (event t (In None i)) before.left None (budgeted_of (at o n (Some f))) =
          subst (λ l. moving.meets_by goes (option_map halt_of l) T (budgeted_of before) None t (In None i) (budgeted_of (at o n (Some f)))) on g in
          not_both met.halt_so refl
      by (Some x) off =
          let past : Prim.⊥ × _ = subst (λ l. moving.meets_by goes (option_map halt_of l) T (budgeted_of before) None t (In None i) (budgeted_of (at o n (Some f)))) off g in
          past.0

  told_over : (hands : Type 0) (t : Table) (o : S) (n : ℕ) (f : Halt) (w : Happening) → Notified (by_budget goes) hands t (at o n (Some f)) w (at o n (Some f))
  told_over hands t o n f w =
      let b : Budgeted S = at o n (Some f) in
      within_unchanged (by_budget goes) hands t b w (λ T p. (tt, refl)) (λ p up a down i e. over_enters (tree_of t) o n f p up a down i)
      (λ p up a down s r e. record { between = b; leaves = (tt, refl); returns = over_inner (tree_of t) o n f p (Some up) (Replied r) a e })
      (λ p up a down i r e. record { between = b; leaves = (tt, refl); returns = over_inner (tree_of t) o n f p (Some up) (Replied r) a e })
      (λ caller up down entry is. subst (λ (v : Happening). Notified (by_budget goes) hands t b v b) (sym is) (λ p q e. (tt, refl)))
      (λ target ended is. subst (λ (v : Happening). Notified (by_budget goes) hands t b v b) (sym is) (IfEnded-all ended.now (λ r. by_budget goes (tree_of t) b None (event target.now (Done None r)) b) (λ r. (tt, refl))))
      (λ caller up entry status is. subst (λ (v : Happening). Notified (by_budget goes) hands t b v b) (sym is) (λ h p d q e. (subst (λ l. moving.past l (IsEnd (Replied (Exit status)))) (sym e) tt, refl)))
      (λ target entry told is. subst (λ (v : Happening). Notified (by_budget goes) hands t b v b) (sym is)
      (λ h. IfEnded-all told.now (λ r. WasUnfound (by_budget goes) (tree_of t) b target.now (whole_entry entry.now) r b) (λ r c before same nobody g. absurd (handed_over (tree_of t) o n f target.now (whole_entry entry.now) before g))))

  pub notified_over : (hands : Type 0) (t : Table) (o : S) (n : ℕ) (h : Option Halt) (w : Happening) → is_some h ≡ true → Notified (by_budget goes) hands t (at o n h) w (at o n h)
  notified_over hands t o n h w e = let g = some_of h e in subst (λ l. Notified (by_budget goes) hands t (at o n l) w (at o n l)) (sym g.1) (told_over hands t o n g.0 w)

  -- ## What comes next to an open call

  told_cut : (g : Option ℕ) (h : Height) (i : Entry) → is_told g h i (told_to g (Replied (Cut Over))) ≡ true
  told_cut None (Some h) i = refl
  told_cut None None i = refl
  told_cut (Some l) (Some h) i = refl
  told_cut (Some l) None i = refl

  over_so : (T : core.Tree Own) (o : S) (n : ℕ) (f : Halt) (p : Path) (s : Wait) (h : Height) (g : Option ℕ) → rise_to h p ≡ None → by_budget goes T (at o n (Some f)) s (event p (Back h (told_to g (Replied (Cut Over))))) (at o n (Some f))
  over_so T o n f p s h None top = (subst (λ l. moving.past l (IsEnd (Replied (Cut Over)))) (sym top) tt, refl)
  over_so T o n f p s h (Some l) top = (subst (λ l. moving.past l (IsEnd (Replied (Cut Over)))) (sym top) tt, refl)

  pub ended_over : (T : core.Tree Own) (o : S) (n : ℕ) (g : Option Halt) (p : Path) (d : ℕ) (h : Height) (i : Entry) → is_some g ≡ true → rise_to h p ≡ None → AnswersFor (by_budget goes) T (at o n g) p d h i (at o n g) (Replied (Cut Over))
  ended_over T o n g p d h i e top =
      let f = some_of g e in
      subst (λ l. AnswersFor (by_budget goes) T (at o n l) p d h i (at o n l) (Replied (Cut Over))) (sym f.1) (over_so T o n f.0 p (Some (h, i, d)) h (gone d T p) top, told_cut (gone d T p) h i)

  -- what a caller is told that is gone is an end from outside where the answer is one
  halt_told : (g : Option ℕ) (a : Answer) → halt_by None (told_to g a) ≡ halt_by None a
  halt_told None a = refl
  halt_told (Some n) (Replied (Completed c)) = refl
  halt_told (Some n) (Replied (Stop l k)) = refl
  halt_told (Some n) (Replied (Exit l)) = refl
  halt_told (Some n) (Replied (Cut c)) = refl
  halt_told (Some n) (Heard a) = refl
  halt_told (Some n) Nobody = refl

  answers : (T : core.Tree Own) (o : S) (n : ℕ) (p : Path) (d : ℕ) (h : Height) (i : Entry) (z : S) (a : Answer) (g : Option Halt) → rise_to h p ≡ None → option_map halt_of g ≡ halt_by None a → AnswersFor goes T o p d h i z a → AnswersFor (by_budget goes) T (at o n None) p d h i (at z n g) a
  answers T o n p d h i z a g top e f = (record { told = f.0; left_so = refl; halt_so = e ∙ sym (halt_told (gone d T p) a) ∙ sym (ap (λ l. halt_by l (told_to (gone d T p) a)) top) }, f.1)

  comes_on : (hands : Type 0) (T : core.Tree Own) (o : S) (n : ℕ) (p : Path) (d : ℕ) (h : Height) (i : Entry) (z : S) (t : Result Turn Interruption) → rise_to h p ≡ None → ComesNext goes hands T o p d h i z t → ComesNext (by_budget goes) hands T (at o n None) p d h i (at z n (halt_at t)) t
  comes_on hands T o n p d h i z (Ok (turn.Entry target entry)) top f = (record { told = f.0; left_so = refl; halt_so = refl }, f.1)
  comes_on hands T o n p d h i z (Ok (turn.Completed text)) top f = answers T o n p d h i z _ None top refl f
  comes_on hands T o n p d h i z (Ok (turn.Heard reply)) top f = answers T o n p d h i z _ None top refl f
  comes_on hands T o n p d h i z (Ok turn.Nobody) top f = answers T o n p d h i z Nobody None top refl f
  comes_on hands T o n p d h i z (Err interruption.Memory) top f = tt
  comes_on hands T o n p d h i z (Err (interruption.Completed c)) top f = answers T o n p d h i z _ None top refl f
  comes_on hands T o n p d h i z (Err (interruption.Stopped s)) top f = answers T o n p d h i z _ None top refl f
  comes_on hands T o n p d h i z (Err (interruption.Exited s)) top f = answers T o n p d h i z _ None top refl f
  comes_on hands T o n p d h i z (Err (interruption.Cut c)) top f = answers T o n p d h i z _ (Some halt.Cuts) top refl f

  pub comes_next : (hands : Type 0) (T : core.Tree Own) (o : S) (n : ℕ) (g : Option Halt) (p : Path) (d : ℕ) (h : Height) (i : Entry) (z : S) (t : Result Turn Interruption) → is_some g ≡ false → rise_to h p ≡ None → ComesNext goes hands T o p d h i z t →
      ComesNext (by_budget goes) hands T (at o n g) p d h i (at z n (halt_at t)) t
  comes_next hands T o n g p d h i z t e top f = subst (λ l. ComesNext (by_budget goes) hands T (at o n l) p d h i (at z n (halt_at t)) t) (sym (none_of g e)) (comes_on hands T o n p d h i z t top f)

  -- ## Steps

  pub refuses_over : (T : core.Tree Own) (o : S) (n : ℕ) (g : Option Halt) (p : Path) → is_some g ≡ true → by_budget goes T (at o n g) None (event p (Refused Count None)) (at o n g)
  refuses_over T o n g p e = let f = some_of g e in subst (λ l. by_budget goes T (at o n l) None (event p (Refused Count None)) (at o n l)) (sym f.1) (tt, refl)

  pub spends : (T : core.Tree Own) (o : S) (n : ℕ) (g : Option Halt) (p : Path) → is_some g ≡ false → n ≡ 0 → by_budget goes T (at o n g) None (event p (Refused Count None)) (at o n (Some halt.Spends))
  spends T o n g p e z = subst (λ l. by_budget goes T (at o n l) None (event p (Refused Count None)) (at o n (Some halt.Spends))) (sym (none_of g e))
      (inl (z, ap (λ k. record { outside = o; left = k; halt = Some moving.Spends }) z))

  pub refuses : (T : core.Tree Own) (o : S) (n : ℕ) (g : Option Halt) (p : Path) (z : S) → is_some g ≡ false → goes T o None (event p (Refused Count None)) z → by_budget goes T (at o n g) None (event p (Refused Count None)) (at z n (Some halt.Refuses))
  refuses T o n g p z e f = subst (λ l. by_budget goes T (at o n l) None (event p (Refused Count None)) (at z n (Some halt.Refuses))) (sym (none_of g e)) (inr (record { told = f; left_so = refl; halt_so = refl }))

  pub makes : (T : core.Tree Own) (o : S) (n k : ℕ) (g : Option Halt) (b : Bool) (p : Path) (z : S) → grants g n b ≡ true → k + 1 ≡ n → goes T o None (event p Charged) z → by_budget goes T (at o n g) None (event p Charged) (at z k g)
  makes T o n k None b p z e less f = let s : n ≡ suc k = omega arith in (k, s, record { told = f; left_so = refl; halt_so = refl })
  makes T o zero k (Some h) b p z e less f = let clash : false ≡ true = e in absurd cc
  makes T o (suc n) k (Some h) b p z e less f = let clash : false ≡ true = e in absurd cc

  -- the outside grants a step that is granted, where one is left
  pub granted_there : (g : Option Halt) (n : ℕ) (b : Bool) → grants g n b ≡ true → (b ≡ true) × (0 < n)
  granted_there None zero b e = let clash : false ≡ true = e in absurd cc
  granted_there None (suc n) b e = (e, omega arith)
  granted_there (Some h) zero b e = let clash : false ≡ true = e in absurd cc
  granted_there (Some h) (suc n) b e = let clash : false ≡ true = e in absurd cc

  pub grants_on : (g : Option Halt) (n : ℕ) (b : Bool) → is_some g ≡ false → 0 < n → grants g n b ≡ b
  grants_on None zero b e less = absurd (omega (arith, less))
  grants_on None (suc n) b e less = refl
  grants_on (Some h) n b e less = let clash : true ≡ false = e in absurd cc

  pub denies : (g : Option Halt) (n : ℕ) (b : Bool) → is_some g ≡ true → grants g n b ≡ false
  denies None n b e = let clash : false ≡ true = e in absurd cc
  denies (Some h) zero b e = refl
  denies (Some h) (suc n) b e = refl

  pub denies_zero : (g : Option Halt) (n : ℕ) (b : Bool) → n ≡ 0 → grants g n b ≡ false
  denies_zero None zero b e = refl
  denies_zero None (suc n) b e = absurd (omega (arith, e))
  denies_zero (Some h) zero b e = refl
  denies_zero (Some h) (suc n) b e = refl

  -- an entry that is handed in
  pub hands_on : (T : core.Tree Own) (o : S) (n : ℕ) (g : Option Halt) (t : Path) (i : Entry) (z : S) → is_some g ≡ false → goes T o None (event t (In None i)) z → by_budget goes T (at o n g) None (event t (In None i)) (at z n g)
  hands_on T o n g t i z e f = subst (λ l. by_budget goes T (at o n l) None (event t (In None i)) (at z n l)) (sym (none_of g e)) (record { told = f; left_so = refl; halt_so = refl })

-- ## Lives

-- an evaluation that didn't end for want of memory ended by some reply
ended_so : (A B : Reply → Type 0) (ended : Result (List ℕ) Interruption) (status : Option ℤ) → ExitOf ended status → IfEnded ended A → IfEnded ended B → (r : Reply) × A r × B r × (core_lives.ending_of r ≡ last_end status)
ended_so A B (Ok text) status m a b = (Completed (ok text), a, b, sym (ap last_end m))
ended_so A B (Err (interruption.Completed c)) status m a b = (Completed (completion_of c.value), a, b, sym (ap last_end m))
ended_so A B (Err (interruption.Stopped s)) status m a b = (stopping.reply_of s, a, b, sym (ap last_end m))
ended_so A B (Err (interruption.Exited n)) status m a b = (Exit n, a, b, sym (ap last_end m))
ended_so A B (Err (interruption.Cut c)) status m a b = (Cut (cause_of c), a, b, sym (ap last_end m))
ended_so A B (Err interruption.Memory) status m a b = absurd m

module _ {S : Type 0} (goes : Going S) (loses : S → S → Type 0) (old new : Table) (o u z : S) (p : Path) (i : Entry) where
  runs_of : (e : Result (List ℕ) Interruption) → EndsEntry (ways goes loses) old o p i new u e → IfEnded e (λ r. Comes goes (language (marks_of old).integers) (tree_of old) o p (serve (marks_of old).integers i) (tree_of new) u r)
  runs_of (Ok text) f = comes (f (marks_of old).integers refl)
  runs_of (Err (interruption.Completed c)) f = comes (f (marks_of old).integers refl)
  runs_of (Err (interruption.Stopped s)) f = comes (f (marks_of old).integers refl)
  runs_of (Err (interruption.Exited n)) f = comes (f (marks_of old).integers refl)
  runs_of (Err (interruption.Cut c)) f = comes (f (marks_of old).integers refl)
  runs_of (Err interruption.Memory) f = tt

  serves_so : (node : Node Own) → tree_of old p ≡ Some node → (ended : Result (List ℕ) Interruption) (status : Option ℤ) → ExitOf ended status → EndsEntry (ways goes loses) old o p i new u ended → IfEnded ended (λ r. goes (tree_of new) u None (event p (Done None r)) z) →
      Serves goes (marks_of old).integers (tree_of old) o p i (tree_of new) z (last_end status)
  serves_so node here ended status m a b =
      let x = ended_so (λ r. Comes goes (language (marks_of old).integers) (tree_of old) o p (serve (marks_of old).integers i) (tree_of new) u r)
      (λ r. goes (tree_of new) u None (event p (Done None r)) z) ended status m (runs_of ended a) b in
      record { node = node; stands = here; between = u; reply = x.0; runs = x.1; told = x.2; ends = x.3 }

  pub serves : {E : Type 0} (node : Node Own) → tree_of old p ≡ Some node → (ended : Result (List ℕ) Interruption) (status : Result (Option ℤ) E) → IfOk status (λ s. ExitOf ended s) → EndsEntry (ways goes loses) old o p i new u ended → IfEnded ended (λ r. goes (tree_of new) u None (event p (Done None r)) z) →
      IfOk status (λ s. Serves goes (marks_of old).integers (tree_of old) o p i (tree_of new) z (last_end s))
  serves node here ended (Ok s) m a b = serves_so node here ended s m a b
  serves node here ended (Err x) m a b = tt

-- one entry more
module _ {S : Type 0} (goes : Going S) (style : Integers) (T V : core.Tree Own) (t : Table) (o u w z : S) (target : Path) (i : Entry) (x : core_lives.Outcome) where
  on_as : Lived goes (language style) T o (tree_of t) u core_lives.Finished → goes (tree_of t) u None (event target (In None i)) w → Serves goes style (tree_of t) w target i V z x ⊎ FindsNobody goes (tree_of t) u target i V z x → Lived goes (language style) T o V z x
  on_as l s (inl r) = subst (λ y. Lived goes (language style) T o V z y) r.ends (moving.entered target i r.reply l r.stands s r.runs r.told)
  on_as l s (inr r) = subst (λ y. Lived goes (language style) T o V z y) r.ends (subst (λ U. Lived goes (language style) T o U z core_lives.Finished) (sym r.same) (moving.unfound target i l r.nobody r.told))

  pub goes_on : (marks_of t).integers ≡ style → Lived goes (language style) T o (tree_of t) u core_lives.Finished → ((R : core.Tree Own) → goes R u None (event target (In None i)) w) → ComesOf goes (marks_of t).integers (tree_of t) w target i V z x → Lived goes (language style) T o V z x
  goes_on e l s h = on_as l (s (tree_of t)) (subst (λ k. ComesOf goes k (tree_of t) w target i V z x) e h u (s (tree_of t)))

-- who stood at the path was served, or nobody is there
pub comes_served : {S E : Type 0} (goes : Going S) (style : Integers) (T V : core.Tree Own) (o z : S) (p target : Path) (i : Entry) (r : Result (Option ℤ) E) → p ≡ target → IfOk r (λ x. Serves goes style T o p i V z (last_end x)) → IfOk r (λ x. ComesOf goes style T o target i V z (last_end x))
comes_served goes style T V o z p target i (Ok x) e h = λ before g. inl (subst (λ (q : Path). Serves goes style T o q i V z (last_end x)) e h)
comes_served goes style T V o z p target i (Err f) e h = tt

pub comes_to_nobody : {S : Type 0} (goes : Going S) (t : Table) (o z : S) (p target : Path) (i : Entry) → p ≡ target → tree_of t p ≡ None → MissesEntry goes t o p i z → ComesOf goes (marks_of t).integers (tree_of t) o target i (tree_of t) z core_lives.Finished
comes_to_nobody goes t o z p target i e nobody h = subst (λ (q : Path). ComesOf goes (marks_of t).integers (tree_of t) o q i (tree_of t) z core_lives.Finished) e
    (λ before g. inr (record { nobody = nobody; told = h before g; same = refl; ends = refl }))

pub counts_kept : (old new : Table) → IsSteady old new → KeepsCounts old new
counts_kept old new s = record { top = s.counted.rises; in_use = s.counts; limit = s.counted.limit; within = s.counted.within }

-- ## Whether an entry comes next

pub hands_there : (h : Option Halt) (b : Bool) → is_some h ≡ false → hands h b ≡ b
hands_there None b e = refl
hands_there (Some f) b e = let clash : true ≡ false = e in absurd cc

pub hands_none : (h : Option Halt) (b : Bool) → is_some h ≡ true → hands h b ≡ false
hands_none None b e = let clash : false ≡ true = e in absurd cc
hands_none (Some f) b e = refl

-- a life that finished wasn't over before, nor by an exit
finished_by : (h : Option Halt) (e : Option ℤ) (b : Bool) → moving.By core_lives.Finished ≡ moving.result_by (option_map halt_of h) (last_end e) → (e ≡ None → hands h b ≡ false) → b ≡ false
finished_by None None b is f = f refl
finished_by None (Some n) b is f = absurd cc
finished_by (Some h) e b is f = absurd cc

pub finished_so : {S : Type 0} (P : S → Bool) (z : S) (b : Budgeted S) (h : Option Halt) (e : Option ℤ) (x : Outcome) → z ≡ b.outside → h ≡ b.halt → result_of x ≡ moving.result_by (option_map halt_of h) (last_end e) → (e ≡ None → hands b.halt (P b.outside) ≡ false) → x ≡ outcome.Finished → P z ≡ false
finished_so P z b h e x same halted is f done =
    ap P same ∙ finished_by b.halt e (P b.outside) (sym (ap result_of done) ∙ is ∙ ap (λ k. moving.result_by (option_map halt_of k) (last_end e)) halted) f

-- ## Where memory is wanted

module _ {S : Type 0} (goes : Going S) (loses : S → S → Type 0) where
  gave_up : (style : Integers) (T V : core.Tree Own) (o z : S) (t : Path) (i : Entry) (node : Node Own) → T t ≡ Some node → Proceeds (ways goes loses) (language style) T o t (serve style i) V z None → GivesUpIn (ways goes loses) style T o t i z
  gave_up style T V o z t i node here (given_up {last = last} b l) = record { node = node; stands = here; last = last; begun = b; lost = l }

  -- an entry came to its end, or didn't, and then it was given up
  pub gives_up_in : (old new : Table) (o u z : S) (p : Path) (i : Entry) (node : Node Own) → tree_of old p ≡ Some node → (ended : Result (List ℕ) Interruption) → EndsEntry (ways goes loses) old o p i new u ended → loses u z →
      GivesUpIn (ways goes loses) (marks_of old).integers (tree_of old) o p i z
  gives_up_in old new o u z p i node here ended a l =
      let Went : Ending → Type 0 = λ r. (style : Integers) → (marks_of old).integers ≡ style → Proceeds (ways goes loses) (language style) (tree_of old) o p (serve style i) (tree_of new) u r in
      some_way ended Went (GivesUpIn (ways goes loses) (marks_of old).integers (tree_of old) o p i z) a (λ r f. gave_up (marks_of old).integers (tree_of old) (tree_of new) o z p i node here (given_up_after (f (marks_of old).integers refl) (lost_once l)))

  -- one that was handed in to somebody, or to nobody
  pub gives_up_there : (style : Integers) (T : core.Tree Own) (o z : S) (p target : Path) (i : Entry) → p ≡ target → GivesUpIn (ways goes loses) style T o p i z → GivesUpOn (ways goes loses) style T o target i z
  gives_up_there style T o z p target i e h = λ before l. inl (subst (λ (q : Path). GivesUpIn (ways goes loses) style T o q i z) e h)

  pub gives_up_nowhere : (style : Integers) (T : core.Tree Own) (o z : S) (p target : Path) (i : Entry) → p ≡ target → T p ≡ None → IsLoss loses o z → GivesUpOn (ways goes loses) style T o target i z
  gives_up_nowhere style T o z p target i e nobody m = λ before l. inr (ap T (sym e) ∙ nobody, lost_twice (lost_once l) m)

  pub given_up_between : (style : Integers) (T U : core.Tree Own) (o u z : S) → Lived goes (language style) T o U u core_lives.Finished → loses u z → GivesUp (ways goes loses) style T o z
  given_up_between style T U o u z l e = record { last = u; stopped = between l; lost = lost_once e }

  pub given_up_within : (style : Integers) (T : core.Tree Own) (t : Table) (o u w z : S) (target : Path) (i : Entry) → (marks_of t).integers ≡ style → Lived goes (language style) T o (tree_of t) u core_lives.Finished → ((R : core.Tree Own) → goes R u None (event target (In None i)) w) → loses u w →
      GivesUpOn (ways goes loses) (marks_of t).integers (tree_of t) w target i z → GivesUp (ways goes loses) style T o z
  given_up_within style T t o u w z target i e l s handed h = by (subst (λ k. GivesUpOn (ways goes loses) k (tree_of t) w target i z) e h u handed)
    where
      by : GivesUpIn (ways goes loses) style (tree_of t) w target i z ⊎ ((tree_of t target ≡ None) × IsLoss loses u z) → GivesUp (ways goes loses) style T o z
      by (inl r) = record { last = r.last; stopped = within target i l r.stands (s (tree_of t)) r.begun; lost = r.lost }
      by (inr m) = record { last = u; stopped = between l; lost = m.1 }

  -- what was lost by an outside with a budget was lost by the outside
  pub lost_there : {o z : Budgeted S} → IsLoss (λ (a b : Budgeted S). IsLoss loses a.outside b.outside) o z → IsLoss loses o.outside z.outside
  lost_there unlost = unlost
  lost_there (lost a b) = lost_twice (lost_there a) b

-- ## What is said of results

pub some_more : {A E : Type 0} (r : Result (Option A) E) (P Q : A → Type 0) → ((a : A) → P a → Q a) → IfOk r (λ o. IfSome o P) → IfOk r (λ o. IfSome o Q)
some_more (Ok None) P Q f p = tt
some_more (Ok (Some a)) P Q f p = f a p
some_more (Err e) P Q f p = tt

pub none_more : {A E : Type 0} (r : Result (Option A) E) (P Q : Type 0) → (P → Q) → IfOk r (λ o. IfNone o P) → IfOk r (λ o. IfNone o Q)
none_more (Ok None) P Q f p = f p
none_more (Ok (Some a)) P Q f p = tt
none_more (Err e) P Q f p = tt

pub ok_more : {A E : Type 0} (r : Result A E) (P Q : A → Type 0) → ((a : A) → P a → Q a) → IfOk r P → IfOk r Q
ok_more (Ok a) P Q f p = f a p
ok_more (Err e) P Q f p = tt

pub err_more : {A E : Type 0} (r : Result A E) (P Q : Type 0) → (P → Q) → IfErr r (λ _. P) → IfErr r (λ _. Q)
err_more (Ok a) P Q f p = tt
err_more (Err e) P Q f p = f p

-- ## All of it

-- a life that goes on didn't end by an exit
pub not_exited : (e : Option ℤ) → is_some e ≡ false → last_end e ≡ core_lives.Finished
not_exited None f = refl
not_exited (Some n) f = let clash : true ≡ false = f in absurd cc

module _ {S : Type 0} (goes : Going S) where
  pub moved_so : (style : Integers) (T V : core.Tree Own) (o z : S) (limit : ℕ) (a b : Budgeted S) (h : Option Halt) (e : Option ℤ) (x : Outcome) → Lived (by_budget goes) (language style) T a V b (last_end e) → a ≡ at goes o limit None → z ≡ b.outside → h ≡ b.halt →
      result_of x ≡ moving.result_by (option_map halt_of h) (last_end e) → Moved goes (language style) T o limit (result_of x) V z
  moved_so style T V o z limit a b h e x life first same halted is =
      let began : Lived (by_budget goes) (language style) T (at goes o limit None) V b (last_end e) = subst (λ c. Lived (by_budget goes) (language style) T c V b (last_end e)) first life in
      let l : Lived (budgeted goes) (language style) T (moving.beginning o limit) V (budgeted_of b) (last_end e) = lives_along (by_budget goes) (budgeted goes) budgeted_of (λ U c s ev u t. t) (language style) began in
      let by : result_of x ≡ moving.result_by (option_map halt_of b.halt) (last_end e) = is ∙ ap (λ k. moving.result_by (option_map halt_of k) (last_end e)) halted in
      subst (λ u. Moved goes (language style) T o limit (result_of x) V u) (sym same)
      (subst (λ r. Moved goes (language style) T o limit r V b.outside) (sym by) (reacts goes (language style) T V o limit (budgeted_of b) (last_end e) l))

  -- where the outside refused a step
  refused_by : (h : Option moving.Halt) (y : core_lives.Outcome) → moving.Halted moving.Refuses ≡ moving.result_by h y → h ≡ Some moving.Refuses
  refused_by None y e = cc
  refused_by (Some f) y e = let same : moving.Refuses ≡ f = cc in ap Some (sym same)

  -- all that the outside went through
  went : (style : Integers) (T V : core.Tree Own) (o : S) (limit : ℕ) (a b : Budgeted S) (e : Option ℤ) → Lived (by_budget goes) (language style) T a V b (last_end e) → a ≡ at goes o limit None → All goes (language style) T (moving.beginning o limit) V (budgeted_of b)
  went style T V o limit a b e life first =
      let began : Lived (by_budget goes) (language style) T (at goes o limit None) V b (last_end e) = subst (λ c. Lived (by_budget goes) (language style) T c V b (last_end e)) first life in
      all_of goes (language style) (lives_along (by_budget goes) (budgeted goes) budgeted_of (λ U c s ev u t. t) (language style) began)

  pub denied_so : (style : Integers) (T V : core.Tree Own) (o z : S) (limit : ℕ) (a b : Budgeted S) (h : Option Halt) (e : Option ℤ) (x : Outcome) → Lived (by_budget goes) (language style) T a V b (last_end e) → a ≡ at goes o limit None → z ≡ b.outside → h ≡ b.halt →
      result_of x ≡ moving.result_by (option_map halt_of h) (last_end e) → x ≡ outcome.Denied → IsDenied goes T o limit z
  denied_so style T V o z limit a b h e x life first same halted is refused =
      let all = went style T V o limit a b e life first in
      let by : moving.Halted moving.Refuses ≡ moving.result_by (option_map halt_of b.halt) (last_end e) = sym (ap result_of refused) ∙ is ∙ ap (λ k. moving.result_by (option_map halt_of k) (last_end e)) halted in
      let r : Denies goes [] T o limit b.outside = denied goes all.chain refl (refused_by (option_map halt_of b.halt) (last_end e) by) in
      record { tape = r.tape; calls = r.calls; during = r.during; last = r.last; place = r.place; chain = r.chain; refused = subst (λ u. goes r.during r.last None (event r.place (Refused Count None)) u) (sym same) r.refused; within = r.within }

  -- the root is counted at most by the budget
  pub bounded_so : (old new : Table) (o : S) (limit : ℕ) (a b : Budgeted S) (e : Option ℤ) → Lived (by_budget goes) (language (marks_of old).integers) (tree_of old) a (tree_of new) b (last_end e) → a ≡ at goes o limit None → root_count new ≤ root_count old + limit
  bounded_so old new o limit a b e life first =
      let all = went (marks_of old).integers (tree_of old) (tree_of new) o limit a b e life first in
      let few : root_count new ≤ root_count old + steps_of all.events = counted_at_most (Crossings (budgeted goes)) all.chain in
      let sum : steps_of all.events + b.left ≡ limit = all_paid goes all.chain in
      omega arith

  pub given_up_so : (loses : S → S → Type 0) (style : Integers) (T : core.Tree Own) (o u : S) (limit : ℕ) (a z : Budgeted S) → a ≡ at goes o limit None → u ≡ z.outside → GivesUp (ways (by_budget goes) (λ c d. IsLoss loses c.outside d.outside)) style T a z → IsGivenUp (ways goes loses) style T o limit u
  given_up_so loses style T o u limit a z first e f =
      let r : GivesUp (ways (by_budget goes) (λ c d. IsLoss loses c.outside d.outside)) style T (at goes o limit None) z = subst (λ c. GivesUp (ways (by_budget goes) (λ b d. IsLoss loses b.outside d.outside)) style T c z) first f in
      record { last = r.last; stopped = r.stopped; lost = subst (λ v. IsLoss loses r.last.outside v) (sym e) (lost_there goes loses r.lost) }

pub counts_marked : (old last new : Table) → KeepsCounts old last → tree_of new ≡ tree_of last → key_of new ≡ key_of last → KeepsCounts old new
counts_marked old last new h same same_keys = record {
  top = let x = h.top in let e = counts [] in omega arith;
  in_use = λ q k used was is_now. let x = h.in_use q k used was (sym (ap (λ f. f q) same_keys) ∙ is_now) in let e = counts q in omega arith;
  limit = λ r. ap (λ (X : core.Tree Own). limit_at (X [])) same ∙ h.limit r;
  within = λ r b p q. let x = h.within r b p q in let e = counts [] in omega arith;
}
  where
    counts : (q : Path) → steps_at (tree_of new) q ≡ steps_at (tree_of last) q
    counts q = ap (λ (X : core.Tree Own). steps_at X q) same
