-- What calls nobody outside changes nothing there.
use Rattle.std.proofs.Common.{sym, ◌≡◌, ◌++◌, Option, Some, None, refl, ◌∙◌, ap, subst, append_assoc}
use Rattle.tcl_core.specs.Paths.{Path, Place, Height, strip, rise_to}
use Rattle.tcl_core.specs.Trees.{Node, What, effect}
use Rattle.tcl_core.specs.Trees.What.{Out, In, Done}
use Rattle.tcl_core.specs.Programs.{spot, Prog, Table}
use Rattle.tcl_core.specs.Programs.{Calls_only}
use Rattle.tcl_core.specs.Runs.{World, Step, Ending, where_stands}
use Rattle.tcl_core.specs.Rules.{Derives}
use Rattle.tcl_core.specs.Rules.Derives.{completed, exited, acted, refused, unheard, went, passed, halted, wrapped, wrapped_passed, wrapped_halted, too_deep, shut, unheard_inside, called, called_passed, called_halted, unreached, called_out, unanswered, unfit, answered, heard, missed, answered_passed, entered, entered_halted, entered_exiting, born, fallen, unfound}
use Rattle.tcl_core.specs.Laws.{rest, Inward, AreInward, Untouched}
use Rattle.tcl_core.proofs.PathLaws.{Some-inj, strip_own, strip-sound, rise_to_within, rise_to_past}
use Rattle.tcl_core.proofs.TreeLaws.{reached_at, spot_in}
use Rattle.tcl_core.proofs.Outside.{effect_rest}
use Rattle.tcl_core.proofs.RuleLaws.{runs_derived}

pub past : (c p q : Place) (h : Height) → strip c p ≡ Some q → rise_to h p ≡ None → rise_to h q ≡ None
past c p q h e f = rise_to_past c q h (subst (λ r. rise_to h r ≡ None) (strip-sound c p q e) f)

module _ {O : Type 0} (c : Place) where
  -- what is left of a world, and that still nobody calls outside
  abbrev Kept : World O → World O → Type 0
  Kept w v = (rest v.tree c ≡ rest w.tree c) × AreInward c v.tape

  abbrev Stepped : World O → Option Place → What O → World O → Type 0
  Stepped w s x u = (rest u.tree c ≡ rest w.tree c) × Inward s x × AreInward c u.tape

  one : (w : World O) (p q : Place) (x : What O) (u : World O) → strip c p ≡ Some q → Step w p x u → AreInward c w.tape → Stepped w (Some q) x u
  one w p q x u e s f =
      let g : Inward (strip c p) x × AreInward c u.tape = subst (AreInward c) s.tape f in
      let t : u.tree ≡ effect (c ++ q) x w.tree = s.tree ∙ ap (λ r. effect r x w.tree) (strip-sound c p q e) in
      (ap (λ T. rest T c) t ∙ effect_rest c q x w.tree, subst (λ o. Inward o x) e g.0, g.1)

  step : (w : World O) (p q : Place) (x : What O) (u v : World O) → strip c p ≡ Some q → Step w p x u → AreInward c w.tape → (AreInward c u.tape → Kept u v) → Kept w v
  step w p q x u v e s f g =
      let a : Stepped w (Some q) x u = one w p q x u e s f in
      let b : Kept u v = g a.2 in
      (b.0 ∙ a.0, b.1)

  run : (w u v : World O) → Kept w u → (AreInward c u.tape → Kept u v) → Kept w v
  run w u v a g = let b : Kept u v = g a.1 in (b.0 ∙ a.0, b.1)

  -- where a call within the subtree goes
  pub goes_to : (p q a : Place) (h : Height) (down : Path) (t : Place) (n : Option (Node O)) → strip c p ≡ Some q → rise_to h p ≡ Some a → (rise_to h q ≡ None → Prim.⊥) → where_stands n (a ++ down) ≡ Some t → (z : Place) × (strip c t ≡ Some z)
  goes_to p q a h down t n e f g j = by (rise_to h q) refl
    where
      by : (o : Option Place) → rise_to h q ≡ o → (z : Place) × (strip c t ≡ Some z)
      by None k = absurd (g k)
      by (Some b) k =
          let top : a ≡ c ++ b = Some-inj a (sym f ∙ ap (rise_to h) (strip-sound c p q e) ∙ rise_to_within c q h b k) in
          let there : t ≡ c ++ (b ++ down) = reached_at n t (a ++ down) j ∙ ap (λ l. l ++ down) top ∙ append_assoc c b down in
          (b ++ down, ap (strip c) there ∙ strip_own c (b ++ down))

module _ {O I : Type 0} (c : Place) (prog : Table O I) where
  keep : {w : World O} {p : Place} {x : Prog O I} {v : World O} {e : Ending} → Derives prog w p x v e → (q : Place) → strip c p ≡ Some q → Calls_only x → AreInward c w.tape → Kept c w v
  keep (completed w p y) q n f h = (refl, h)
  keep (exited w p y) q n f h = (refl, h)
  keep (acted w p d k x u v e g on s a) q n f h = step c w _ (spot q x.0) x.1 u v (spot_in c p q x.0 n) s h (λ j. keep a q n (f _) j)
  keep (refused w p d k x r u g off s) q n f h = step c w _ (spot q x.0) x.1 u u (spot_in c p q x.0 n) s h (λ j. (refl, j))
  keep (unheard w p d k g t) q n f h = (refl, h)
  keep (went w p i k u y v e a b) q n f h = run c w u v (keep a q n (prog.programs_call i) h) (λ j. keep b q n (f y) j)
  keep (passed w p i k u r l a) q n f h = keep a q n (prog.programs_call i) h
  keep (halted w p i k u a) q n f h = keep a q n (prog.programs_call i) h
  keep (wrapped w p b i k x inner left closed v y e g on s a t d) q n f h =
      step c w _ (spot q x.0) x.1 inner v (spot_in c p q x.0 n) s h (λ j. run c inner left v (keep a q n (prog.programs_call i) j) (λ j2. step c left p q _ closed v n t j2 (λ j3. keep d q n (f y) j3)))
  keep (wrapped_passed w p b i k x inner left closed r l g on s a t) q n f h =
      step c w _ (spot q x.0) x.1 inner closed (spot_in c p q x.0 n) s h (λ j. run c inner left closed (keep a q n (prog.programs_call i) j) (λ j2. step c left p q _ closed closed n t j2 (λ j3. (refl, j3))))
  keep (wrapped_halted w p b i k x inner left g on s a) q n f h = step c w _ (spot q x.0) x.1 inner left (spot_in c p q x.0 n) s h (λ j. keep a q n (prog.programs_call i) j)
  keep (too_deep w p b i k x u v e g deep s a) q n f h = step c w _ (spot q x.0) x.1 u v (spot_in c p q x.0 n) s h (λ j. keep a q n (f _) j)
  keep (shut w p b i k x r u g off s) q n f h = step c w _ (spot q x.0) x.1 u u (spot_in c p q x.0 n) s h (λ j. (refl, j))
  keep (unheard_inside w p b i k g t) q n f h = (refl, h)
  keep (called w p h down i lost k a t out inner left told back v r y e g s1 j s2 x s3 so s4 b) q n f m =
      let o : Stepped c w (Some q) (Out h down i) out = one c w p q (Out h down i) out n s1 m in
      let z : (z : Place) × (strip c t ≡ Some z) = goes_to c p q a h down t (out.tree (a ++ down)) n g o.1 j in
      step c w p q _ out v n s1 m (λ l. step c out t z.0 _ inner v z.1 s2 l (λ l2. run c inner left v (keep x z.0 z.1 (prog.entries_call i) l2)
      (λ l3. step c left t z.0 _ told v z.1 s3 l3 (λ l4. step c told p q _ back v n s4 l4 (λ l5. keep b q n (f _) l5)))))
  keep (called_passed w p h down i lost k a t out inner left told back r g s1 j s2 x s3 y s4) q n f m =
      let o : Stepped c w (Some q) (Out h down i) out = one c w p q (Out h down i) out n s1 m in
      let z : (z : Place) × (strip c t ≡ Some z) = goes_to c p q a h down t (out.tree (a ++ down)) n g o.1 j in
      step c w p q _ out back n s1 m (λ l. step c out t z.0 _ inner back z.1 s2 l (λ l2. run c inner left back (keep x z.0 z.1 (prog.entries_call i) l2)
      (λ l3. step c left t z.0 _ told back z.1 s3 l3 (λ l4. step c told p q _ back back n s4 l4 (λ l5. (refl, l5))))))
  keep (called_halted w p h down i lost k a t out inner left g s1 j s2 x) q n f m =
      let o : Stepped c w (Some q) (Out h down i) out = one c w p q (Out h down i) out n s1 m in
      let z : (z : Place) × (strip c t ≡ Some z) = goes_to c p q a h down t (out.tree (a ++ down)) n g o.1 j in
      step c w p q _ out left n s1 m (λ l. step c out t z.0 _ inner left z.1 s2 l (λ l2. keep x z.0 z.1 (prog.entries_call i) l2))
  keep (unreached w p h down i lost k a out back v e g s1 j s2 x) q n f m = step c w p q _ out v n s1 m (λ l. step c out p q _ back v n s2 l (λ l2. keep x q n (f _) l2))
  keep (called_out w p h down i lost k u v e g s a) q n f m =
      let o : Stepped c w (Some q) (Out h down i) u = one c w p q (Out h down i) u n s m in
      absurd (o.1 (past c p q h n g))
  keep (unanswered w p s k g m t) q n f h = absurd f
  keep (unfit w p s k m ms g j l t) q n f h = absurd f
  keep (answered w p s k y u v e g j t a) q n f h = absurd f
  keep (heard w p s k y u v e g j t a) q n f h = absurd f
  keep (missed w p s k u v e g j t a) q n f h = absurd f
  keep (answered_passed w p s k r u l g j t) q n f h = absurd f
  keep (entered w p s k t i inner left told v r e g here s1 a s2 m b) q n f h = absurd f
  keep (entered_halted w p s k t i inner left g here s1 a) q n f h = absurd f
  keep (entered_exiting w p s k t i inner left told v m e g here s1 a s2 b) q n f h = absurd f
  keep (born w p s k o b u v e g t a) q n f h = absurd f
  keep (fallen w p s k u v e g t a) q n f h = absurd f
  keep (unfound w p s k t i u v e g here b a) q n f h = absurd f

module _ {O I : Type 0} where
  pub untouched : Untouched O I
  untouched prog c w v t i r a f =
      let n : strip c (c ++ t) ≡ Some t = strip_own c t in
      let k : Kept c w v =
      step c w (c ++ t) t (In None i) a.entered v n a.entry f (λ j. run c a.entered a.left v (keep c prog (runs_derived prog a.entered (c ++ t) (prog.entry i) a.left (Some r) a.run) t n (prog.entries_call i) j)
      (λ l. step c a.left (c ++ t) t (Done None r) v v n a.leaving l (λ m. (refl, m)))) in
      k.0
