-- What calls nobody outside is told of nobody there.
use Rattle.std.proofs.Common.{◌≡◌, List, [], ◌∷◌, ◌++◌, Option, Some, None, length, refl, sym, ◌∙◌, ap, subst}
use Rattle.std.proofs.Common.{inl, inr}
use Rattle.tcl_core.specs.Endings.{Reply}
use Rattle.tcl_core.specs.Entries.{Entry}
use Rattle.tcl_core.specs.Laws.{AreInward, Inward, rest}
use Rattle.tcl_core.specs.Lives.{put}
use Rattle.tcl_core.specs.Paths.{Path, Place, Height, strip, rise_to}
use Rattle.tcl_core.specs.Programs.{Calls_only, Prog, Table, Wait, spot, closes}
use Rattle.tcl_core.specs.Rules.{Derives}
use Rattle.tcl_core.specs.Rules.Derives.{completed, exited, acted, refused, unheard, went, passed, halted, wrapped, wrapped_passed, wrapped_halted, too_deep, shut, unheard_inside, called, called_passed, called_halted, unreached, called_out, unanswered, unfit, answered, heard, missed, answered_passed, entered, entered_halted, entered_exiting, born, fallen, unfound}
use Rattle.tcl_core.specs.Runs.{Ending, Step, World, where_stands}
use Rattle.tcl_core.specs.Execution.{before, event}
use Rattle.tcl_core.specs.Trees.{Event, Node, Tree, What, seen_what}
use Rattle.tcl_core.specs.Trees.What.{Out, In, Done, Back, Dropped, Unfound}
use Rattle.tcl_core.specs.Views.{from_above, kept, view}
use Rattle.tcl_core.proofs.Inward.{untouched, goes_to, past as out_of}
use Rattle.tcl_core.proofs.PathLaws.{not_both, rise_back, strip_own}
use Rattle.tcl_core.proofs.Plain.{IsPlain, closes_plain, decide_plain, opens_plain}
use Rattle.tcl_core.proofs.RuleLaws.{runs_derived}
use Rattle.tcl_core.proofs.TreeLaws.{spot_in, reached_at}
use Rattle.tcl_recorder.specs.Boundary.{boundary, past, past_the_top}
use Rattle.tcl_isolation.specs.Visits.{CallsNobody, WatchedVisit, visit}
use Rattle.tcl_isolation.proofs.Records.{Kind, kind}

-- ## From the record

module _ {O : Type 0} where
  pub unseen_above : (b : Option Place) (x : What O) (τ : List (Event O)) → past_the_top (from_above b x τ) ≡ past_the_top τ
  unseen_above None x τ = refl
  unseen_above (Some z) Dropped τ = refl
  unseen_above (Some z) _ τ = refl

  nobody_later : (p : Place) (x : What O) (τ : List (Event O)) → Kind p x → CallsNobody (past p x τ) → CallsNobody τ
  nobody_later p x τ (inl e) f = subst CallsNobody (e τ) f
  nobody_later p x τ (inr e) f = let g : CallsNobody (event p x ∷ τ) = subst CallsNobody (e τ) f in g.1

  inward_out : (o : Option Place) (q : Place) (h : Height) (down : Path) (i : Entry) (τ : List (Event O)) → rise_to h q ≡ o → CallsNobody (put o q (Out h down i) τ) → (rise_to h q ≡ None → Prim.⊥) × CallsNobody τ
  inward_out None q h down i τ e f = absurd f.0
  inward_out (Some a) q h down i τ e f = ((λ n. not_both n e), f)

  inward_one : (s b : Option Place) (x : What O) (τ : List (Event O)) → CallsNobody (past_the_top (kept s b x τ)) → Inward s x × CallsNobody (past_the_top τ)
  inward_one None b x τ f = (tt, subst CallsNobody (unseen_above b x τ) f)
  inward_one (Some q) b (Out h down i) τ f = inward_out (rise_to h q) q h down i (past_the_top τ) refl f
  inward_one (Some q) b (Unfound t i c) τ f = (tt, f.1.1)
  inward_one (Some q) b x τ f = (tt, nobody_later q (seen_what q x) (past_the_top τ) (kind q (seen_what q x) tt) f)

  pub inward : (c : Place) (τ : List (Event O)) → CallsNobody (boundary c τ) → AreInward c τ
  inward c [] f = tt
  inward c (ev ∷ τ) f = let g : Inward (strip c ev.place) ev.what × CallsNobody (past_the_top (view c τ)) = inward_one (strip c ev.place) (strip ev.place c) ev.what (view c τ) f in (g.0, inward c τ g.1)

-- ## Nothing comes from past the top of the whole tree

module _ {O : Type 0} where
  abbrev pub Unheard : Place → What O → Type 0
  Unheard p (In h i) = rise_to h p ≡ None → Prim.⊥
  Unheard p (Back h a) = rise_to h p ≡ None → Prim.⊥
  Unheard p x = Unit {0}

  abbrev pub AreUnheard : List (Event O) → Type 0
  AreUnheard [] = Unit {0}
  AreUnheard (ev ∷ τ) = Unheard ev.place ev.what × AreUnheard τ

  unheard_plain : (p : Place) (x : What O) → IsPlain x → Unheard p x
  unheard_plain p (In h i) f = absurd f
  unheard_plain p (Back h a) f = absurd f
  unheard_plain p _ f = tt

  pub unheard_front : (σ τ : List (Event O)) → AreUnheard (σ ++ τ) → AreUnheard σ
  unheard_front [] τ f = tt
  unheard_front (ev ∷ σ) τ f = (f.0, unheard_front σ τ f.1)

module _ {O : Type 0} (c : Place) where
  -- what is left of a world still calls nobody outside, and nothing came
  abbrev Quiet : World O → World O → Type 0
  Quiet w v = AreInward c v.tape × (AreUnheard v.tape → AreUnheard w.tape)

  here : (w : World O) → AreInward c w.tape → Quiet w w
  here w f = (f, λ k. k)

  one : (w : World O) (p q : Place) (x : What O) (u : World O) → strip c p ≡ Some q → Step w p x u → AreInward c w.tape → Inward (Some q) x × AreInward c u.tape
  one w p q x u e s f =
      let g : Inward (strip c p) x × AreInward c u.tape = subst (AreInward c) s.tape f in
      (subst (λ o. Inward o x) e g.0, g.1)

  step : (w : World O) (p q : Place) (x : What O) (u v : World O) → strip c p ≡ Some q → Unheard p x → Step w p x u → AreInward c w.tape → (AreInward c u.tape → Quiet u v) → Quiet w v
  step w p q x u v e h s f g = let b : Quiet u v = g (one w p q x u e s f).1 in (b.0, λ k. subst AreUnheard (sym s.tape) (h, b.1 k))

  run : (w u v : World O) → Quiet w u → (AreInward c u.tape → Quiet u v) → Quiet w v
  run w u v a g = let b : Quiet u v = g a.0 in (b.0, λ k. a.1 (b.1 k))

  -- it comes in there from within the tree
  comes_in : (a : Place) (down : Path) (t : Place) (n : Option (Node O)) → where_stands n (a ++ down) ≡ Some t → rise_to (Some (length down)) t ≡ None → Prim.⊥
  comes_in a down t n j e = not_both e (ap (rise_to (Some (length down))) (reached_at n t (a ++ down) j) ∙ rise_back a down)

module _ {O I : Type 0} (c : Place) (prog : Table O I) where
  pub keep : {w : World O} {p : Place} {x : Prog O I} {v : World O} {e : Ending} → Derives prog w p x v e → (q : Place) → strip c p ≡ Some q → Calls_only x → AreInward c w.tape → Quiet c w v
  keep (completed w p y) q n f h = here c w h
  keep (exited w p y) q n f h = here c w h
  keep (acted w p d k x u v e g on s a) q n f h = step c w _ (spot q x.0) x.1 u v (spot_in c p q x.0 n) (unheard_plain _ x.1 (decide_plain d w.tree p w.grants x g)) s h (λ j. keep a q n (f _) j)
  keep (refused w p d k x r u g off s) q n f h = step c w _ (spot q x.0) x.1 u u (spot_in c p q x.0 n) (unheard_plain _ x.1 (decide_plain d w.tree p w.grants x g)) s h (λ j. here c u j)
  keep (unheard w p d k g t) q n f h = here c w h
  keep (went w p i k u y v e a b) q n f h = run c w u v (keep a q n (prog.programs_call i) h) (λ j. keep b q n (f y) j)
  keep (passed w p i k u r l a) q n f h = keep a q n (prog.programs_call i) h
  keep (halted w p i k u a) q n f h = keep a q n (prog.programs_call i) h
  keep (wrapped w p b i k x inner left closed v y e g on s a t d) q n f h =
      step c w _ (spot q x.0) x.1 inner v (spot_in c p q x.0 n) (unheard_plain _ x.1 (opens_plain b w.tree p w.grants x g)) s h (λ j. run c inner left v (keep a q n (prog.programs_call i) j)
      (λ j2. step c left p q _ closed v n (unheard_plain p (closes b (inner.tree p) (left.tree p)) (closes_plain b (inner.tree p) (left.tree p))) t j2 (λ j3. keep d q n (f y) j3)))
  keep (wrapped_passed w p b i k x inner left closed r l g on s a t) q n f h =
      step c w _ (spot q x.0) x.1 inner closed (spot_in c p q x.0 n) (unheard_plain _ x.1 (opens_plain b w.tree p w.grants x g)) s h (λ j. run c inner left closed (keep a q n (prog.programs_call i) j)
      (λ j2. step c left p q _ closed closed n (unheard_plain p (closes b (inner.tree p) (left.tree p)) (closes_plain b (inner.tree p) (left.tree p))) t j2 (λ j3. here c closed j3)))
  keep (wrapped_halted w p b i k x inner left g on s a) q n f h = step c w _ (spot q x.0) x.1 inner left (spot_in c p q x.0 n) (unheard_plain _ x.1 (opens_plain b w.tree p w.grants x g)) s h (λ j. keep a q n (prog.programs_call i) j)
  keep (too_deep w p b i k x u v e g deep s a) q n f h = step c w _ (spot q x.0) x.1 u v (spot_in c p q x.0 n) (unheard_plain _ x.1 (opens_plain b w.tree p w.grants x g)) s h (λ j. keep a q n (f _) j)
  keep (shut w p b i k x r u g off s) q n f h = step c w _ (spot q x.0) x.1 u u (spot_in c p q x.0 n) (unheard_plain _ x.1 (opens_plain b w.tree p w.grants x g)) s h (λ j. here c u j)
  keep (unheard_inside w p b i k g t) q n f h = here c w h
  keep (called w p h down i lost k a t out inner left told back v r y e g s1 j s2 x s3 so s4 b) q n f m =
      let o : Inward {O = O} (Some q) (Out h down i) × AreInward c out.tape = one c w p q (Out h down i) out n s1 m in
      let z : (z : Place) × (strip c t ≡ Some z) = goes_to c p q a h down t (out.tree (a ++ down)) n g o.0 j in
      step c w p q _ out v n tt s1 m (λ l. step c out t z.0 _ inner v z.1 (comes_in c a down t (out.tree (a ++ down)) j) s2 l (λ l2. run c inner left v (keep x z.0 z.1 (prog.entries_call i) l2)
      (λ l3. step c left t z.0 _ told v z.1 tt s3 l3 (λ l4. step c told p q _ back v n (λ up. not_both up g) s4 l4 (λ l5. keep b q n (f _) l5)))))
  keep (called_passed w p h down i lost k a t out inner left told back r g s1 j s2 x s3 y s4) q n f m =
      let o : Inward {O = O} (Some q) (Out h down i) × AreInward c out.tape = one c w p q (Out h down i) out n s1 m in
      let z : (z : Place) × (strip c t ≡ Some z) = goes_to c p q a h down t (out.tree (a ++ down)) n g o.0 j in
      step c w p q _ out back n tt s1 m (λ l. step c out t z.0 _ inner back z.1 (comes_in c a down t (out.tree (a ++ down)) j) s2 l (λ l2. run c inner left back (keep x z.0 z.1 (prog.entries_call i) l2)
      (λ l3. step c left t z.0 _ told back z.1 tt s3 l3 (λ l4. step c told p q _ back back n (λ up. not_both up g) s4 l4 (λ l5. here c back l5)))))
  keep (called_halted w p h down i lost k a t out inner left g s1 j s2 x) q n f m =
      let o : Inward {O = O} (Some q) (Out h down i) × AreInward c out.tape = one c w p q (Out h down i) out n s1 m in
      let z : (z : Place) × (strip c t ≡ Some z) = goes_to c p q a h down t (out.tree (a ++ down)) n g o.0 j in
      step c w p q _ out left n tt s1 m (λ l. step c out t z.0 _ inner left z.1 (comes_in c a down t (out.tree (a ++ down)) j) s2 l (λ l2. keep x z.0 z.1 (prog.entries_call i) l2))
  keep (unreached w p h down i lost k a out back v e g s1 j s2 x) q n f m =
      step c w p q _ out v n tt s1 m (λ l. step c out p q _ back v n (λ up. not_both up g) s2 l (λ l2. keep x q n (f _) l2))
  keep (called_out w p h down i lost k u v e g s a) q n f m =
      let o : Inward {O = O} (Some q) (Out h down i) × AreInward c u.tape = one c w p q (Out h down i) u n s m in
      absurd (o.0 (out_of c p q h n g))
  keep (unanswered w p s k g m t) q n f h = absurd f
  keep (unfit w p s k m ms g j l t) q n f h = absurd f
  keep (answered w p s k y u v e g j t a) q n f h = absurd f
  keep (heard w p s k y u v e g j t a) q n f h = absurd f
  keep (missed w p s k u v e g j t a) q n f h = absurd f
  keep (answered_passed w p s k r u l g j t) q n f h = absurd f
  keep (entered w p s k t i inner left told v r e g here s1 a s2 m b) q n f h = absurd f
  keep (entered_halted w p s k t i inner left g here s1 a) q n f h = absurd f
  keep (entered_exiting w p s k t i inner left told v m e g here s1 a s2 b) q n f h = absurd f
  keep (born w p s k o b u v e g t a) q n f h = absurd f
  keep (fallen w p s k u v e g t a) q n f h = absurd f
  keep (unfound w p s k t i u v e g here b a) q n f h = absurd f

module _ {O I S : Type 0} (goes : Tree O → S → Wait → Event O → S → Type 0) (prog : Table O I) (T V : Tree O) (o z : S) (u : Path) (i : Entry) (c : Place) (crossings : List (Event O)) (r : Reply) where
  abbrev Within : Type 0
  Within = WatchedVisit goes prog T o (c ++ u) i c crossings V z r

  all_inward : (w : Within) → CallsNobody crossings → AreInward c (visit (c ++ u) i w.events r)
  all_inward w f = inward c (visit (c ++ u) i w.events r) (subst CallsNobody w.recorded f)

  pub rest_untouched : (w : Within) → CallsNobody crossings → rest V c ≡ rest T c
  rest_untouched w f = untouched prog c (before T (visit (c ++ u) i w.events r)) (before V []) u i r w.visits (all_inward w f)

  -- nothing comes from past the top of the whole tree while it is done
  pub nothing_comes : (w : Within) → CallsNobody crossings → AreUnheard w.events
  nothing_comes w f =
      let a = w.visits in
      let first : event (c ++ u) (In None i) ∷ (w.events ++ event (c ++ u) (Done None r) ∷ []) ≡ event (c ++ u) (In None i) ∷ a.entered.tape = a.entry.tape in
      let between : w.events ++ event (c ++ u) (Done None r) ∷ [] ≡ a.entered.tape = cc in
      let g : AreInward c (w.events ++ event (c ++ u) (Done None r) ∷ []) = (all_inward w f).1 in
      let k : Quiet c a.entered a.left = keep c prog (runs_derived prog a.entered (c ++ u) (prog.entry i) a.left (Some r) a.run) u (strip_own c u) (prog.entries_call i) (subst (AreInward c) between g) in
      let last : AreUnheard a.left.tape = subst AreUnheard (sym a.leaving.tape) (tt, tt) in
      unheard_front w.events (event (c ++ u) (Done None r) ∷ []) (subst AreUnheard (sym between) (k.1 last))
