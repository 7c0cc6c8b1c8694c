-- What is handed in later does not change what happens before it is read.
use Rattle.std.proofs.Common.{sym, ◌≡◌, ◌⊎◌, inl, inr, ℕ, zero, suc, ℤ, Bool, true, false, List, [], ◌∷◌, ◌++◌, Option, Some, None, length, refl, ◌∙◌, ap, subst, append_assoc}
use Rattle.tcl_core.specs.Paths.{Path, Place, Height, rise_to}
use Rattle.tcl_core.specs.Endings.{Meter, Completion, Reply, IsQuit, refusal}
use Rattle.tcl_core.specs.Endings.Meter.{Count, Depth}
use Rattle.tcl_core.specs.Endings.Reply.{Completed, Stop, Exit, Cut}
use Rattle.tcl_core.specs.Entries.{Entry, Answer, Said}
use Rattle.tcl_core.specs.Entries.Answer.{Replied, Heard, Nobody}
use Rattle.tcl_core.specs.Entries.Said.{Finished, Told, Missed}
use Rattle.tcl_core.specs.Trees.{at, Grants, Tree, Node, What, Event, Move, asked, where_none, at_top, depth_of}
use Rattle.tcl_core.specs.Trees.What.{Seen, Charged, Refused, Nested, Limited, DepthLimited, Made, Dropped, Out, In, Done, Back, Unfound}
use Rattle.tcl_core.specs.Trees.Move.{Born, Fall, Enter, Come}
use Rattle.tcl_core.specs.Programs.{Deed, spot, Act, Wrap, Wait, Prog, Table, decide, opens, closes, changing, making, dropping, either, metered, by_limit, blocked, is_spent, is_deep, or_lost}
use Rattle.tcl_core.specs.Programs.Act.{Look, Change, Charge, Limit, LimitDepth, Make, Drop}
use Rattle.tcl_core.specs.Programs.Wrap.{Deeper, Framed}
use Rattle.tcl_core.specs.Programs.Next.{On, Off}
use Rattle.tcl_core.specs.Endings.Cause.{Above, Over}
use Rattle.tcl_core.specs.Trees.Grant.{Allow, Deny}
use Rattle.tcl_core.specs.Trees.Grants.{Listed, Budget}
use Rattle.tcl_core.specs.Programs.Prog.{done, exit, act, go, inside, call, wait}
use Rattle.tcl_core.specs.Runs.{World, Step, Ending, Halts, fits, Exits, Exiting, Follows, Hears, Leaves, Visits, Returns, Reaches, Closes, Opened, Stays, carried, reached, ends_call, height_of, gone}
use Rattle.tcl_core.specs.Rules.{Derives, IsNoExit}
use Rattle.tcl_core.specs.Rules.Derives.{completed, exited, acted, refused, unheard, went, passed, halted, wrapped, wrapped_passed, wrapped_halted, too_deep, shut, unheard_inside, called, called_passed, called_halted, unreached, called_out, unanswered, unfit, answered, heard, missed, answered_passed, entered, entered_halted, entered_exiting, born, fallen, unfound}
use Rattle.tcl_core.specs.Laws.{ReadsMove, AtMove}
use Rattle.tcl_core.proofs.PathLaws.{not_both, Some-inj, rise_back}
use Rattle.tcl_core.proofs.Plain.{IsPlain}
use Rattle.tcl_core.proofs.TreeLaws.{IsLife, reached_at, any_close, reached_stands}
use Rattle.tcl_core.proofs.RuleLaws.{Ruled, open_rule, reach_rule, enter_rule}
use Rattle.tcl_core.specs.Endings.Kind.{Full}

module _ {O : Type 0} where
  -- the same, with these moves and this tape
  abbrev pub cut : World O → List (Move O) → List (Event O) → World O
  cut w a τ = record { tree = w.tree; moves = a; grants = w.grants; tape = τ }

  -- what comes next is read from beyond
  abbrev pub Beyond : List (Move O) → List (Event O) → Type 0
  Beyond left rest = (rest ≡ []) ⊎ ((left ≡ []) × AtMove rest)

  abbrev pub Silent : Place → What O → Type 0
  Silent p x = (ms : List (Move O)) → asked p x ms ≡ ms

  cut_step : (w : World O) (p : Place) (x : What O) (u : World O) (a a1 : List (Move O)) (τ : List (Event O)) → Step w p x u → a ≡ asked p x a1 → Step (cut w a (record { place = p; what = x } ∷ τ)) p x (cut u a1 τ)
  cut_step w p x u a a1 τ s e = record { tape = refl; tree = s.tree; moves = e; grants = s.grants }

  silent_moves : (w : World O) (p : Place) (x : What O) (u : World O) (a b : List (Move O)) → Silent p x → Step w p x u → w.moves ≡ a ++ b → u.moves ≡ a ++ b
  silent_moves w p x u a b f s e = sym (f u.moves) ∙ sym s.moves ∙ e

  -- A run with the first moves alone: it goes the same way to its end, or to where it wants one more. D says what such a run is, by its
  -- tape, its end and its ending.
  pub record Goes (w v : World O) (D : List (Event O) → World O → Ending → Type 0) (e : Ending) (b : List (Move O)) : Type 0 where
    pub left : List (Move O)
    pub made : List (Event O)
    pub moves : v.moves ≡ left ++ b
    pub tape : w.tape ≡ made ++ v.tape
    pub runs : (σ : List (Event O)) → D (made ++ σ) (cut v left σ) e

  pub record Stops (w : World O) (D : List (Event O) → World O → Ending → Type 0) : Type 0 where
    pub made : List (Event O)
    pub rest : List (Event O)
    pub last : World O
    pub tape : w.tape ≡ made ++ rest
    pub runs : D made last None
    pub beyond : Beyond last.moves rest

  abbrev pub Result : World O → World O → (List (Event O) → World O → Ending → Type 0) → Ending → List (Move O) → Type 0
  Result w v D e b = Goes w v D e b ⊎ Stops w D

  halts_here : (w : World O) (D : List (Event O) → World O → Ending → Type 0) (e : Ending) (a b : List (Move O)) → w.tape ≡ [] → D [] (cut w a []) None → Result w w D e b
  halts_here w D e a b t d = inr (record { made = []; rest = []; last = cut w a []; tape = t; runs = d; beyond = inl refl })

  at_once : (w : World O) (D : List (Event O) → World O → Ending → Type 0) (e : Ending) (a b : List (Move O)) → w.moves ≡ a ++ b → ((σ : List (Event O)) → D σ (cut w a σ) e) → Result w w D e b
  at_once w D e a b m d = inl (record { left = a; made = []; moves = m; tape = refl; runs = d })

  mapped : (w v : World O) (D E : List (Event O) → World O → Ending → Type 0) (e : Ending) (b : List (Move O)) → Result w v D e b → ((τ : List (Event O)) (z : World O) (o : Ending) → (o ≡ None ⊎ o ≡ e) → D τ z o → E τ z o) → Result w v E e b
  mapped w v D E e b (inl g) f = inl (record { left = g.left; made = g.made; moves = g.moves; tape = g.tape; runs = λ σ. f (g.made ++ σ) (cut v g.left σ) e (inr refl) (g.runs σ) })
  mapped w v D E e b (inr g) f = inr (record { made = g.made; rest = g.rest; last = g.last; tape = g.tape; runs = f g.made g.last None (inl refl) g.runs; beyond = g.beyond })

  -- one happening, and then the rest
  stepped : (w u v : World O) (t : Place) (y : What O) (D E : List (Event O) → World O → Ending → Type 0) (e : Ending) (a a1 b : List (Move O)) → Step w t y u → a ≡ asked t y a1 →
      ((τ : List (Event O)) (z : World O) (o : Ending) → Step (cut w a (record { place = t; what = y } ∷ τ)) t y (cut u a1 τ) → D τ z o → E (record { place = t; what = y } ∷ τ) z o) →
      Result u v D e b → Result w v E e b
  stepped w u v t y D E e a a1 b s f build (inl g) = inl (record {
    left = g.left;
    made = record { place = t; what = y } ∷ g.made;
    moves = g.moves;
    tape = s.tape ∙ ap (λ l. record { place = t; what = y } ∷ l) g.tape;
    runs = λ σ. build (g.made ++ σ) (cut v g.left σ) e (cut_step w t y u a a1 (g.made ++ σ) s f) (g.runs σ);
  })
  stepped w u v t y D E e a a1 b s f build (inr g) = inr (record {
    made = record { place = t; what = y } ∷ g.made;
    rest = g.rest;
    last = g.last;
    tape = s.tape ∙ ap (λ l. record { place = t; what = y } ∷ l) g.tape;
    runs = build g.made g.last None (cut_step w t y u a a1 g.made s f) g.runs;
    beyond = g.beyond;
  })

  -- an inner run, and then the rest
  joined : (w u v : World O) (D F : List (Event O) → World O → Ending → Type 0) (E : List (Move O) → List (Event O) → World O → Ending → Type 0) (o e : Ending) (b : List (Move O)) → Result w u D o b →
      ((made : List (Event O)) (last : World O) → D made last None → F made last None) →
      ((l : List (Move O)) (τ σ : List (Event O)) (z : World O) (n : Ending) → D τ (cut u l σ) o → E l σ z n → F τ z n) →
      ((l : List (Move O)) → u.moves ≡ l ++ b → Result u v (E l) e b) → Result w v F e b
  joined w u v D F E o e b (inr g) stop build cont = inr (record { made = g.made; rest = g.rest; last = g.last; tape = g.tape; runs = stop g.made g.last g.runs; beyond = g.beyond })
  joined w u v D F E o e b (inl g) stop build cont = next2 (cont g.left g.moves)
    where
      next2 : Result u v (E g.left) e b → Result w v F e b
      next2 (inl h) = inl (record {
        left = h.left;
        made = g.made ++ h.made;
        moves = h.moves;
        tape = g.tape ∙ ap (λ l. g.made ++ l) h.tape ∙ sym (append_assoc g.made h.made v.tape);
        runs = λ σ. subst (λ τ. F τ (cut v h.left σ) e) (sym (append_assoc g.made h.made σ)) (build g.left (g.made ++ (h.made ++ σ)) (h.made ++ σ) (cut v h.left σ) e (g.runs (h.made ++ σ)) (h.runs σ));
      })
      next2 (inr h) = inr (record {
        made = g.made ++ h.made;
        rest = h.rest;
        last = h.last;
        tape = g.tape ∙ ap (λ l. g.made ++ l) h.tape ∙ sym (append_assoc g.made h.made h.rest);
        runs = build g.left (g.made ++ h.made) h.made h.last None (g.runs h.made) h.runs;
        beyond = h.beyond;
      })

  -- which happenings read no move
  plain_silent : (p : Place) (x : What O) → IsPlain x → (IsLife x → (y : List ℕ) × (q : Place) × (p ≡ y ∷ q)) → Silent p x
  plain_silent p (Out h d i) f g ms = absurd f
  plain_silent p (Back h i) f g ms = absurd f
  plain_silent p (In h i) f g ms = absurd f
  plain_silent p (Done h i) f g ms = absurd f
  plain_silent p (Unfound t i c) f g ms = absurd f
  plain_silent p (Made o s) f g ms = let y : (y : List ℕ) × (q : Place) × (p ≡ y ∷ q) = g tt in ap (λ r. at_top r (Born o s) ms) y.2
  plain_silent p Dropped f g ms = let y : (y : List ℕ) × (q : Place) × (p ≡ y ∷ q) = g tt in ap (λ r. at_top r Fall ms) y.2
  plain_silent p _ f g ms = refl

below_place : (p : Place) (name : List ℕ) → (y : List ℕ) × (q : Place) × (p ++ name ∷ [] ≡ y ∷ q)
below_place [] name = (name, [], refl)
below_place (x ∷ p) name = (x, p ++ name ∷ [], refl)

module _ {O : Type 0} where
  sil_of : (p : Place) (y x : Deed O) → Silent (spot p y.0) y.1 → Some y ≡ Some x → Silent (spot p x.0) x.1
  sil_of p y x f e = subst (λ z. Silent (spot p z.0) z.1) (Some-inj y e) f

  metered_silent : (p : Place) (m : Meter) (y : What O) (b : Option ℕ) (gs : Grants) (x : Deed O) → Silent p y → metered m y b gs ≡ Some x → Silent (spot p x.0) x.1
  metered_silent p m y (Some n) gs x f e = sil_of p (None, Refused m (Some n), by_limit m n) x (λ ms. refl) e
  metered_silent p m y None (Listed []) x f e = absurd (not_both refl e)
  metered_silent p m y None (Listed (Allow ∷ gs)) x f e = sil_of p (None, y, On) x f e
  metered_silent p m y None (Listed (Deny ∷ gs)) x f e = sil_of p (None, Refused m None, Off (Cut Above)) x (λ ms. refl) e
  metered_silent p Count y None (Budget zero) x f e = sil_of p (None, Refused Count None, Off (Cut Over)) x (λ ms. refl) e
  metered_silent p Count y None (Budget (suc n)) x f e = sil_of p (None, y, On) x f e
  metered_silent p Depth y None (Budget n) x f e = sil_of p (None, y, On) x f e

  changing_silent : (p : Place) (o : O) (n : Option (Node O)) → Silent (spot p (changing o n).0) (changing o n).1
  changing_silent p o None = λ ms. refl
  changing_silent p o (Some n) = λ ms. refl

  top_silent : (p : Place) (name : List ℕ) (m : Move O) (ms : List (Move O)) → at_top (p ++ name ∷ []) m ms ≡ ms
  top_silent [] name m ms = refl
  top_silent (x ∷ p) name m ms = refl

  making_silent : (p : Place) (name : List ℕ) (o : O) (s : Bool) (parent n : Option (Node O)) → Silent (spot p (making name o s parent n).0) (making name o s parent n).1
  making_silent p name o s None n = λ ms. refl
  making_silent p name o s (Some m) None = λ ms. top_silent p name (Born o (either s m.safe)) ms
  making_silent p name o s (Some m) (Some n) = λ ms. refl

  dropping_silent : (p : Place) (name : List ℕ) (n : Option (Node O)) → Silent (spot p (dropping name n).0) (dropping name n).1
  dropping_silent p name None = λ ms. refl
  dropping_silent p name (Some n) = λ ms. top_silent p name Fall ms

  pub act_silent : (d : Act O) (T : Tree O) (p : Place) (gs : Grants) (x : Deed O) → decide d T p gs ≡ Some x → Silent (spot p x.0) x.1
  act_silent Look T p gs x e = sil_of p (None, Seen, On) x (λ ms. refl) e
  act_silent (Change o) T p gs x e = sil_of p (changing o (T p)) x (changing_silent p o (T p)) e
  act_silent Charge T p gs x e = metered_silent p Count Charged (blocked is_spent T p) gs x (λ ms. refl) e
  act_silent (Limit l) T p gs x e = sil_of p (None, Limited l, On) x (λ ms. refl) e
  act_silent (LimitDepth l) T p gs x e = sil_of p (None, DepthLimited l, On) x (λ ms. refl) e
  act_silent (Make name o s) T p gs x e = sil_of p (making name o s (T p) (T (p ++ name ∷ []))) x (making_silent p name o s (T p) (T (p ++ name ∷ []))) e
  act_silent (Drop name) T p gs x e = sil_of p (dropping name (T (p ++ name ∷ []))) x (dropping_silent p name (T (p ++ name ∷ []))) e

  pub opens_silent : (b : Wrap O) (T : Tree O) (p : Place) (gs : Grants) (x : Deed O) → opens b T p gs ≡ Some x → Silent (spot p x.0) x.1
  opens_silent Deeper T p gs x e = metered_silent p Depth Nested (blocked is_deep T p) gs x (λ ms. refl) e
  opens_silent (Framed o back) T p gs x e = sil_of p (changing o (T p)) x (changing_silent p o (T p)) e

  pub closes_silent : (p : Place) (b : Wrap O) (m n : Option (Node O)) → Silent p (closes b m n)
  closes_silent p b m n = any_close (Silent p) b m n (λ ms. refl) (λ ms. refl) (λ o ms. refl)

  -- a move that is read, with those that come first
  abbrev Split : World O → World O → Move O → List (Move O) → List (Move O) → Type 0
  Split w u m a b = (a ≡ []) ⊎ ((a1 : List (Move O)) × (a ≡ m ∷ a1) × (u.moves ≡ a1 ++ b))

  split : (w u : World O) (m : Move O) (a b : List (Move O)) → w.moves ≡ a ++ b → w.moves ≡ m ∷ u.moves → Split w u m a b
  split w u m [] b e f = inl refl
  split w u m (x ∷ a) b e f = let g : x ∷ (a ++ b) ≡ m ∷ u.moves = sym e ∙ f in inr (a, cc, cc)

  pub reads_at : (w u : World O) (p : Place) (x : What O) → Step w p x u → ReadsMove (record { place = p; what = x }) → AtMove w.tape
  reads_at w u p x s f = subst AtMove (sym s.tape) f

module _ {O I : Type 0} (prog : Table O I) where
  abbrev pub Run_of : World O → List (Move O) → Place → Prog O I → List (Event O) → World O → Ending → Type 0
  Run_of w a p x τ z o = Derives prog (cut w a τ) p x z o

  abbrev pub Parts : World O → Place → Prog O I → World O → Ending → List (Move O) → List (Move O) → Type 0
  Parts w p x v e a b = Result w v (Run_of w a p x) e b

  abbrev Visit_of : World O → List (Move O) → Height → Place → Entry → List (Event O) → World O → Ending → Type 0
  Visit_of w a h t i τ z o = Visits prog (Ruled prog) (cut w a τ) h t i z o

  -- a visit that came to its end
  visited : (w inner left told : World O) (h : Height) (t : Place) (i : Entry) (r : Reply) (a a1 b : List (Move O)) {node : Node O} → w.tree t ≡ Some node → a ≡ asked t (In h i) a1 → Step w t (In h i) inner → Parts inner t (prog.entry i) left (Some r) a1 b → Step left t (Done h r) told →
      Result w told (Visit_of w a h t i) (Some r) b
  visited w inner left told h t i r a a1 b here f s g s2 =
      stepped w inner told t (In h i) (λ τ z o. (y : World O) × Derives prog (cut inner a1 τ) t (prog.entry i) y o × Leaves y h t o z) (Visit_of w a h t i) (Some r) a a1 b s f
      (λ τ z o st d. record { node = _; stands = here; entered = cut inner a1 τ; left = d.0; entry = st; run = d.1; leaving = d.2 })
      (joined inner left told (Run_of inner a1 t (prog.entry i)) (λ τ z o. (y : World O) × Derives prog (cut inner a1 τ) t (prog.entry i) y o × Leaves y h t o z)
      (λ l σ z o. (o ≡ Some r) × Step (cut left l σ) t (Done h r) z) (Some r) (Some r) b g
      (λ made last d. (last, d, refl))
      (λ l τ σ z n d e. (cut left l σ, subst (λ o. Derives prog (cut inner a1 τ) t (prog.entry i) (cut left l σ) o) (sym e.0) d, subst (λ o. Leaves (cut left l σ) h t o z) (sym e.0) e.1))
      (λ l m. stepped left told told t (Done h r) (λ σ z o. (o ≡ Some r) × (z ≡ cut told l σ)) (λ σ z o. (o ≡ Some r) × Step (cut left l σ) t (Done h r) z) (Some r) l l b s2 refl
      (λ σ z o st d. (d.0, subst (λ y. Step (cut left l (record { place = t; what = Done h r } ∷ σ)) t (Done h r) y) (sym d.1) st))
      (at_once told (λ σ z o. (o ≡ Some r) × (z ≡ cut told l σ)) (Some r) l b (sym s2.moves ∙ m) (λ σ. (refl, refl)))))

  as_end : (w u v : World O) (p : Place) (x : Prog O I) (r e : Ending) → Derives prog w p x u r → v ≡ u → e ≡ r → Derives prog w p x v e
  as_end w u v p x r e d a b = subst (λ o. Derives prog w p x v o) (sym b) (subst (λ y. Derives prog w p x y r) (sym a) d)

  quits_ruled : (w : World O) (p : Place) (k : Completion → Prog O I) (r : Reply) (v : World O) (e : Ending) → IsQuit r → v ≡ w → e ≡ Some r → Follows (Ruled prog) w p k r v e
  quits_ruled w p k (Completed c) v e f a b = absurd f
  quits_ruled w p k (Stop n m) v e f a b = (a, b)
  quits_ruled w p k (Exit n) v e f a b = (a, b)
  quits_ruled w p k (Cut c) v e f a b = (a, b)

  hears_ruled : (w : World O) (p : Place) (k : Said → Prog O I) (r : Reply) (v : World O) (e : Ending) → IsQuit r → v ≡ w → e ≡ Some r → Hears (Ruled prog) w p k (Replied r) v e
  hears_ruled w p k (Completed c) v e f a b = absurd f
  hears_ruled w p k (Stop n m) v e f a b = (a, b)
  hears_ruled w p k (Exit n) v e f a b = (a, b)
  hears_ruled w p k (Cut c) v e f a b = (a, b)

  stays_ruled : (w : World O) (p : Place) (s : Wait) (k : Said → Prog O I) (r : Reply) (v : World O) (e : Ending) → IsNoExit r → Derives prog w p (wait s k) v e → Stays (Ruled prog) w p s k (Some r) v e
  stays_ruled w p s k (Completed c) v e f a = a
  stays_ruled w p s k (Stop n m) v e f a = a
  stays_ruled w p s k (Cut c) v e f a = a
  stays_ruled w p s k (Exit n) v e f a = absurd f

  pub in_silent : (u : World O) (a t : Place) (down : Path) (i : Entry) → reached u.tree a down ≡ Some t → (ms : List (Move O)) → ms ≡ asked t (In (Some (length down)) i) ms
  in_silent u a t down i e ms = sym (ap (λ r. asked r (In (Some (length down)) i) ms) (reached_at (u.tree (a ++ down)) t (a ++ down) e) ∙ ap (λ o. where_none o (Enter (a ++ down) i) ms) (rise_back a down))

  pub back_silent : (p a : Place) (h : Height) (y : Answer) → rise_to h p ≡ Some a → Silent {O = O} p (Back h y)
  back_silent p a h y e ms = ap (λ o. where_none o (Come y) ms) e

  pub back_reads : (p : Place) (h : Height) (y : Answer) → rise_to h p ≡ None → (ms : List (Move O)) → Come y ∷ ms ≡ asked p (Back h y) ms
  back_reads p h y e ms = sym (ap (λ o. where_none o (Come y) ms) e)

  -- where the first moves are used up the run waits
  stop_here : (w u : World O) (p t : Place) (y : What O) (m : Move O) (s : Wait) (k : Said → Prog O I) (a : List (Move O)) (e : Ending) (v : World O) (b : List (Move O)) → rise_to (height_of s) p ≡ None → Step w t y u → ((ms : List (Move O)) → asked t y ms ≡ m ∷ ms) → a ≡ [] → Parts w p (wait s k) v e a b
  stop_here w u p t y m s k a e v b f st g h = inr (record {
    made = [];
    rest = w.tape;
    last = cut w a [];
    tape = refl;
    runs = unanswered (cut w a []) p s k f h refl;
    beyond = inr (h, reads_at w u t y st (λ ms. (m, g ms)));
  })

  come_same : (w v : World O) (y z : Answer) (k : List (Move O)) → w.moves ≡ Come y ∷ k → w.moves ≡ Come z ∷ v.moves → y ≡ z
  come_same w v y z k m e = let x : w.moves ≡ Come y ∷ k = m in let x2 : w.moves ≡ Come z ∷ v.moves = e in cc

  abbrev Exits_of : World O → List (Move O) → Place → Wait → ℤ → List (Event O) → World O → Ending → Type 0
  Exits_of w l p s n τ z o = Exits (cut w l τ) p s n l z o

  exits_part : (w : World O) (p : Place) (s : Wait) (n : ℤ) (ms : List (Move O)) (v : World O) (e : Ending) → rise_to (height_of s) p ≡ None → w.moves ≡ ms → Exits w p s n ms v e → (l b : List (Move O)) → w.moves ≡ l ++ b → Result w v (Exits_of w l p s n) e b
  exits_part w p s n ms v e f m a l b g = by ms m a
    where
      still : (l : List (Move O)) → Halts (cut w l []) (cut w l []) None
      still l = record { tape = refl; same = refl; ending = refl }

      -- the first moves halt where all of them do
      halts_too : (l : List (Move O)) → w.moves ≡ l ++ b → (ms : List (Move O)) → w.moves ≡ ms → ((y : Answer) (k : List (Move O)) → ms ≡ Come y ∷ k → ends_call s n y ≡ false) → Exits (cut w l []) p s n l (cut w l []) None
      halts_too [] g ms m h = still []
      halts_too (Come y ∷ l) g ms m h = subst (λ t. Exiting (cut w (Come y ∷ l) []) p s n t (cut w (Come y ∷ l) []) None) (sym (h y (l ++ b) (sym m ∙ g))) (still (Come y ∷ l))
      halts_too (Born o x ∷ l) g ms m h = still (Born o x ∷ l)
      halts_too (Fall ∷ l) g ms m h = still (Fall ∷ l)
      halts_too (Enter t i ∷ l) g ms m h = still (Enter t i ∷ l)

      halt : (ms : List (Move O)) → w.moves ≡ ms → ((y : Answer) (k : List (Move O)) → ms ≡ Come y ∷ k → ends_call s n y ≡ false) → Halts w v e → Result w v (Exits_of w l p s n) e b
      halt ms m h x = subst (λ u. Result w u (Exits_of w l p s n) e b) (sym x.same) (halts_here w (Exits_of w l p s n) e l b x.tape (halts_too l g ms m h))

      no_come : {A : Type 0} (x : Move O) (k : List (Move O)) (y : Answer) (j : List (Move O)) → ((z : Answer) → x ≡ Come z → Prim.⊥) → x ∷ k ≡ Come y ∷ j → A
      no_come x k y j f e = absurd (f y cc)

      back : (y : Answer) (k : List (Move O)) → w.moves ≡ Come y ∷ k → (t : Bool) → ends_call s n y ≡ t → Exiting w p s n t v e → Result w v (Exits_of w l p s n) e b
      back y k m false h x = halt (Come y ∷ k) m (λ z j q. let yz : y ≡ z = cc in subst (λ r. ends_call s n r ≡ false) yz h) x
      back y k m true h (st, q) = pick (split w v (Come (Replied (Exit n))) l b g (st.moves ∙ sym (back_reads p (height_of s) (Replied (Exit n)) f v.moves)))
        where
          pick : Split w v (Come (Replied (Exit n))) l b → Result w v (Exits_of w l p s n) e b
          pick (inl z) = inr (record {
            made = [];
            rest = w.tape;
            last = cut w l [];
            tape = refl;
            runs = subst (λ j. Exits (cut w j []) p s n j (cut w j []) None) (sym z) (still []);
            beyond = inr (z, reads_at w v p (Back (height_of s) (Replied (Exit n))) st (λ ms. (Come (Replied (Exit n)), sym (back_reads p (height_of s) (Replied (Exit n)) f ms))));
          })
          pick (inr (l1, z, r)) =
              stepped w v v p (Back (height_of s) (Replied (Exit n))) (λ σ u o. (o ≡ Some (Exit n)) × (u ≡ cut v l1 σ)) (Exits_of w l p s n) e l l1 b st (z ∙ back_reads p (height_of s) (Replied (Exit n)) f l1)
              (λ σ u o c d. subst (λ j. Exits (cut w l (record { place = p; what = Back (height_of s) (Replied (Exit n)) } ∷ σ)) p s n j u o) (sym z)
              (subst (λ t. Exiting (cut w l (record { place = p; what = Back (height_of s) (Replied (Exit n)) } ∷ σ)) p s n t u o) (sym (subst (λ r2. ends_call s n r2 ≡ true) (come_same w v y (Replied (Exit n)) k m (st.moves ∙ sym (back_reads p (height_of s) (Replied (Exit n)) f v.moves))) h)) (subst (λ u2. Step (cut w l (record { place = p; what = Back (height_of s) (Replied (Exit n)) } ∷ σ)) p (Back (height_of s) (Replied (Exit n))) u2) (sym d.1) c, d.0)))
              (at_once v (λ σ u o. (o ≡ Some (Exit n)) × (u ≡ cut v l1 σ)) e l1 b r (λ σ. (q, refl)))

      by : (ms : List (Move O)) → w.moves ≡ ms → Exits w p s n ms v e → Result w v (Exits_of w l p s n) e b
      by [] m x = halt [] m (λ y k q. absurd (nil_cons q)) x
        where
          nil_cons : {y : Move O} {k : List (Move O)} → [] ≡ y ∷ k → Prim.⊥
          nil_cons q = cc
      by (Come y ∷ ms) m x = back y ms m (ends_call s n y) refl x
      by (Born o t ∷ ms) m x = halt (Born o t ∷ ms) m (λ y k q. no_come (Born o t) ms y k (λ z r. cc) q) x
      by (Fall ∷ ms) m x = halt (Fall ∷ ms) m (λ y k q. no_come Fall ms y k (λ z r. cc) q) x
      by (Enter u i ∷ ms) m x = halt (Enter u i ∷ ms) m (λ y k q. no_come (Enter u i) ms y k (λ z r. cc) q) x

  -- one happening, and then the end
  last_step : (w u : World O) (t : Place) (y : What O) (p : Place) (x : Prog O I) (r : Reply) (a a1 b : List (Move O)) → Step w t y u → a ≡ asked t y a1 → u.moves ≡ a1 ++ b →
      ((τ : List (Event O)) → Step (cut w a (record { place = t; what = y } ∷ τ)) t y (cut u a1 τ) → Derives prog (cut w a (record { place = t; what = y } ∷ τ)) p x (cut u a1 τ) (Some r)) → Parts w p x u (Some r) a b
  last_step w u t y p x r a a1 b s f m build =
      stepped w u u t y (λ τ z o. (o ≡ Some r) × (z ≡ cut u a1 τ)) (Run_of w a p x) (Some r) a a1 b s f
      (λ τ z o st d. as_end (cut w a (record { place = t; what = y } ∷ τ)) (cut u a1 τ) z p x (Some r) o (build τ st) d.1 d.0)
      (at_once u (λ τ z o. (o ≡ Some r) × (z ≡ cut u a1 τ)) (Some r) a1 b m (λ σ. (refl, refl)))

  nil_of : (a b : List (Move O)) → [] ≡ a ++ b → a ≡ []
  nil_of [] b e = refl
  nil_of (x ∷ a) b e = cc

  abbrev Part_now : World O → Place → Prog O I → World O → Ending → Type 0
  Part_now w p x v e = (a b : List (Move O)) → w.moves ≡ a ++ b → Parts w p x v e a b

  to_none : (o : Ending) → (o ≡ None ⊎ o ≡ None) → o ≡ None
  to_none o (inl q) = q
  to_none o (inr q) = q

  none_part : (w v : World O) (p : Place) (x : Prog O I) (a b : List (Move O)) → Parts w p x v None a b → Result w v (λ τ y o. (o ≡ None) × Derives prog (cut w a τ) p x y None) None b
  none_part w v p x a b r = mapped w v (Run_of w a p x) (λ τ y o. (o ≡ None) × Derives prog (cut w a τ) p x y None) None b r (λ τ y o q d. (to_none o q, subst (λ n. Derives prog (cut w a τ) p x y n) (to_none o q) d))

  pub part : {w : World O} {p : Place} {x : Prog O I} {v : World O} {e : Ending} → Derives prog w p x v e → (a b : List (Move O)) → w.moves ≡ a ++ b → Parts w p x v e a b
  part (completed w p c) a b m = at_once w (Run_of w a p (done c)) (Some (Completed c)) a b m (λ σ. completed (cut w a σ) p c)
  part (exited w p n) a b m = at_once w (Run_of w a p (exit n)) (Some (Exit n)) a b m (λ σ. exited (cut w a σ) p n)
  part (acted w p d k x u v e g on s r) a b m =
      let f : Silent (spot p x.0) x.1 = act_silent d w.tree p w.grants x g in
      stepped w u v (spot p x.0) x.1 (Run_of u a p (k (at w.tree p))) (Run_of w a p (act d k)) e a a b s (sym (f a))
      (λ τ z o st z2. acted (cut w a (record { place = spot p x.0; what = x.1 } ∷ τ)) p d k x (cut u a τ) z o g on st z2) (part r a b (silent_moves w (spot p x.0) x.1 u a b f s m))
  part (refused w p d k x r u g off s) a b m =
      let f : Silent (spot p x.0) x.1 = act_silent d w.tree p w.grants x g in
      last_step w u (spot p x.0) x.1 p (act d k) r a a b s (sym (f a)) (silent_moves w (spot p x.0) x.1 u a b f s m)
      (λ τ st. refused (cut w a (record { place = spot p x.0; what = x.1 } ∷ τ)) p d k x r (cut u a τ) g off st)
  part (unheard w p d k g t) a b m = halts_here w (Run_of w a p (act d k)) None a b t (unheard (cut w a []) p d k g refl)
  part (went w p i k u c v e r s) a b m =
      joined w u v (Run_of w a p (prog.program i)) (Run_of w a p (go i k)) (λ l. Run_of u l p (k c)) (Some (Completed c)) e b (part r a b m)
      (λ made last d. halted (cut w a made) p i k last d) (λ l τ σ z n d1 d2. went (cut w a τ) p i k (cut u l σ) c z n d1 d2) (λ l m2. part s l b m2)
  part (passed w p i k u r q s) a b m =
      joined w u u (Run_of w a p (prog.program i)) (Run_of w a p (go i k)) (λ l σ z o. (o ≡ Some r) × (z ≡ cut u l σ)) (Some r) (Some r) b (part s a b m)
      (λ made last d. halted (cut w a made) p i k last d)
      (λ l τ σ z n d1 d2. as_end (cut w a τ) (cut u l σ) z p (go i k) (Some r) n (passed (cut w a τ) p i k (cut u l σ) r q d1) d2.1 d2.0)
      (λ l m2. at_once u (λ σ z o. (o ≡ Some r) × (z ≡ cut u l σ)) (Some r) l b m2 (λ σ. (refl, refl)))
  part (halted w p i k u s) a b m =
      mapped w u (λ τ y o. (o ≡ None) × Derives prog (cut w a τ) p (prog.program i) y None) (Run_of w a p (go i k)) None b (none_part w u p (prog.program i) a b (part s a b m))
      (λ τ y o q d. subst (λ n. Derives prog (cut w a τ) p (go i k) y n) (sym d.0) (halted (cut w a τ) p i k y d.1))
  part (unheard_inside w p l i k g t) a b m = halts_here w (Run_of w a p (inside l i k)) None a b t (unheard_inside (cut w a []) p l i k g refl)
  part (wrapped w p l i k x inner left closed v c e g on s r t z) a b m =
      let f : Silent (spot p x.0) x.1 = opens_silent l w.tree p w.grants x g in
      stepped w inner v (spot p x.0) x.1 (λ τ y o. Opened prog (Ruled prog) (cut inner a τ) p l i k On y o) (Run_of w a p (inside l i k)) e a a b s (sym (f a))
      (λ τ y o st d. open_rule prog (cut w a (record { place = spot p x.0; what = x.1 } ∷ τ)) p l i k (Some x) y o g (cut inner a τ, st, subst (λ q. Opened prog (Ruled prog) (cut inner a τ) p l i k q y o) (sym on) d))
      (joined inner left v (Run_of inner a p (prog.program i)) (λ τ y o. Opened prog (Ruled prog) (cut inner a τ) p l i k On y o) (λ j σ y n. Closes (Ruled prog) (inner.tree p) (cut left j σ) p l k (Some (Completed c)) y n) (Some (Completed c)) e b (part r a b (silent_moves w (spot p x.0) x.1 inner a b f s m))
      (λ made last d. (last, None, d, (refl, refl))) (λ j τ σ y n d1 d2. (cut left j σ, Some (Completed c), d1, d2))
      (λ j m2. stepped left closed v p (closes l (inner.tree p) (left.tree p)) (Run_of closed j p (k c)) (λ σ y n. Closes (Ruled prog) (inner.tree p) (cut left j σ) p l k (Some (Completed c)) y n) e j j b t (sym (closes_silent p l (inner.tree p) (left.tree p) j))
      (λ τ y o st d. (cut closed j τ, st, d)) (part z j b (silent_moves left p (closes l (inner.tree p) (left.tree p)) closed j b (closes_silent p l (inner.tree p) (left.tree p)) t m2))))
  part (wrapped_passed w p l i k x inner left closed r q g on s y t) a b m =
      let f : Silent (spot p x.0) x.1 = opens_silent l w.tree p w.grants x g in
      stepped w inner closed (spot p x.0) x.1 (λ τ y o. Opened prog (Ruled prog) (cut inner a τ) p l i k On y o) (Run_of w a p (inside l i k)) (Some r) a a b s (sym (f a))
      (λ τ y o st d. open_rule prog (cut w a (record { place = spot p x.0; what = x.1 } ∷ τ)) p l i k (Some x) y o g (cut inner a τ, st, subst (λ q. Opened prog (Ruled prog) (cut inner a τ) p l i k q y o) (sym on) d))
      (joined inner left closed (Run_of inner a p (prog.program i)) (λ τ y o. Opened prog (Ruled prog) (cut inner a τ) p l i k On y o) (λ j σ y n. Closes (Ruled prog) (inner.tree p) (cut left j σ) p l k (Some r) y n) (Some r) (Some r) b (part y a b (silent_moves w (spot p x.0) x.1 inner a b f s m))
      (λ made last d. (last, None, d, (refl, refl))) (λ j τ σ y n d1 d2. (cut left j σ, Some r, d1, d2))
      (λ j m2. stepped left closed closed p (closes l (inner.tree p) (left.tree p)) (λ τ y o. (o ≡ Some r) × (y ≡ cut closed j τ)) (λ σ y n. Closes (Ruled prog) (inner.tree p) (cut left j σ) p l k (Some r) y n) (Some r) j j b t (sym (closes_silent p l (inner.tree p) (left.tree p) j))
      (λ τ y o st d. (cut closed j τ, st, quits_ruled (cut closed j τ) p k r y o q d.1 d.0))
      (at_once closed (λ τ y o. (o ≡ Some r) × (y ≡ cut closed j τ)) (Some r) j b (silent_moves left p (closes l (inner.tree p) (left.tree p)) closed j b (closes_silent p l (inner.tree p) (left.tree p)) t m2) (λ σ. (refl, refl)))))
  part (wrapped_halted w p l i k x inner left g on s r) a b m =
      let f : Silent (spot p x.0) x.1 = opens_silent l w.tree p w.grants x g in
      stepped w inner left (spot p x.0) x.1 (λ τ y o. Opened prog (Ruled prog) (cut inner a τ) p l i k On y o) (Run_of w a p (inside l i k)) None a a b s (sym (f a))
      (λ τ y o st d. open_rule prog (cut w a (record { place = spot p x.0; what = x.1 } ∷ τ)) p l i k (Some x) y o g (cut inner a τ, st, subst (λ q. Opened prog (Ruled prog) (cut inner a τ) p l i k q y o) (sym on) d))
      (mapped inner left (λ τ y o. (o ≡ None) × Derives prog (cut inner a τ) p (prog.program i) y None) (λ τ y o. Opened prog (Ruled prog) (cut inner a τ) p l i k On y o) None b
      (none_part inner left p (prog.program i) a b (part r a b (silent_moves w (spot p x.0) x.1 inner a b f s m)))
      (λ τ y o q d. (y, None, d.1, (refl, d.0))))
  part (too_deep w p l i k x u v e g deep s r) a b m =
      let f : Silent (spot p x.0) x.1 = opens_silent l w.tree p w.grants x g in
      stepped w u v (spot p x.0) x.1 (Run_of u a p (k (refusal (Full Depth)))) (Run_of w a p (inside l i k)) e a a b s (sym (f a))
      (λ τ z o st d. too_deep (cut w a (record { place = spot p x.0; what = x.1 } ∷ τ)) p l i k x (cut u a τ) z o g deep st d) (part r a b (silent_moves w (spot p x.0) x.1 u a b f s m))
  part (shut w p l i k x r u g off s) a b m =
      let f : Silent (spot p x.0) x.1 = opens_silent l w.tree p w.grants x g in
      last_step w u (spot p x.0) x.1 p (inside l i k) r a a b s (sym (f a)) (silent_moves w (spot p x.0) x.1 u a b f s m)
      (λ τ st. shut (cut w a (record { place = spot p x.0; what = x.1 } ∷ τ)) p l i k x r (cut u a τ) g off st)
  part (called w p h down i lost k a0 t out inner left told back v r c e f s1 g s2 x s3 so s4 z) a b m =
      stepped w out v p (Out h down i) (λ τ y o. Reaches prog (Ruled prog) (cut out a τ) p h down i lost k (Some t) y o) (Run_of w a p (call h down i lost k)) e a a b s1 refl
      (λ τ y o st d. reach_rule prog (cut w a (record { place = p; what = Out h down i } ∷ τ)) p h down i lost k (cut out a τ) a0 (Some t) y o f g st d)
      (joined out told v (Visit_of out a (Some (length down)) t i) (λ τ y o. Reaches prog (Ruled prog) (cut out a τ) p h down i lost k (Some t) y o) (λ l σ y n. Returns (Ruled prog) (depth_of (out.tree p)) (cut told l σ) p h down k (Some r) y n) (Some r) e b
      (visited out inner left told (Some (length down)) t i r a a b (reached_stands out.tree a0 down t g).1 (in_silent out a0 t down i g a) s2 (part x a b (silent_moves out t (In (Some (length down)) i) inner a b (λ ms. sym (in_silent out a0 t down i g ms)) s2 (sym s1.moves ∙ m))) s3)
      (λ made last d. (last, None, d, (refl, refl))) (λ l τ σ y n d1 d2. (cut told l σ, Some r, d1, d2))
      (λ l m2. stepped told back v p (Back h (Replied (carried (gone (depth_of (out.tree p)) told.tree p) h p down r))) (Run_of back l p (k (Finished c))) (λ σ y n. Returns (Ruled prog) (depth_of (out.tree p)) (cut told l σ) p h down k (Some r) y n) e l l b s4 (sym (back_silent p a0 h (Replied (carried (gone (depth_of (out.tree p)) told.tree p) h p down r)) f l))
      (λ τ y o st d. (cut back l τ, st, subst (λ q. Hears (Ruled prog) (cut back l τ) p k (Replied q) y o) (sym so) d))
      (part z l b (silent_moves told p (Back h (Replied (carried (gone (depth_of (out.tree p)) told.tree p) h p down r))) back l b (back_silent p a0 h (Replied (carried (gone (depth_of (out.tree p)) told.tree p) h p down r)) f) s4 m2))))
  part (called_passed w p h down i lost k a0 t out inner left told back r f s1 g s2 x s3 q s4) a b m =
      stepped w out back p (Out h down i) (λ τ y o. Reaches prog (Ruled prog) (cut out a τ) p h down i lost k (Some t) y o) (Run_of w a p (call h down i lost k)) (Some (carried (gone (depth_of (out.tree p)) told.tree p) h p down r)) a a b s1 refl
      (λ τ y o st d. reach_rule prog (cut w a (record { place = p; what = Out h down i } ∷ τ)) p h down i lost k (cut out a τ) a0 (Some t) y o f g st d)
      (joined out told back (Visit_of out a (Some (length down)) t i) (λ τ y o. Reaches prog (Ruled prog) (cut out a τ) p h down i lost k (Some t) y o) (λ l σ y n. Returns (Ruled prog) (depth_of (out.tree p)) (cut told l σ) p h down k (Some r) y n) (Some r) (Some (carried (gone (depth_of (out.tree p)) told.tree p) h p down r)) b
      (visited out inner left told (Some (length down)) t i r a a b (reached_stands out.tree a0 down t g).1 (in_silent out a0 t down i g a) s2 (part x a b (silent_moves out t (In (Some (length down)) i) inner a b (λ ms. sym (in_silent out a0 t down i g ms)) s2 (sym s1.moves ∙ m))) s3)
      (λ made last d. (last, None, d, (refl, refl))) (λ l τ σ y n d1 d2. (cut told l σ, Some r, d1, d2))
      (λ l m2. stepped told back back p (Back h (Replied (carried (gone (depth_of (out.tree p)) told.tree p) h p down r))) (λ τ y o. (o ≡ Some (carried (gone (depth_of (out.tree p)) told.tree p) h p down r)) × (y ≡ cut back l τ)) (λ σ y n. Returns (Ruled prog) (depth_of (out.tree p)) (cut told l σ) p h down k (Some r) y n) (Some (carried (gone (depth_of (out.tree p)) told.tree p) h p down r)) l l b s4 (sym (back_silent p a0 h (Replied (carried (gone (depth_of (out.tree p)) told.tree p) h p down r)) f l))
      (λ τ y o st d. (cut back l τ, st, hears_ruled (cut back l τ) p k (carried (gone (depth_of (out.tree p)) told.tree p) h p down r) y o q d.1 d.0))
      (at_once back (λ τ y o. (o ≡ Some (carried (gone (depth_of (out.tree p)) told.tree p) h p down r)) × (y ≡ cut back l τ)) (Some (carried (gone (depth_of (out.tree p)) told.tree p) h p down r)) l b (silent_moves told p (Back h (Replied (carried (gone (depth_of (out.tree p)) told.tree p) h p down r))) back l b (back_silent p a0 h (Replied (carried (gone (depth_of (out.tree p)) told.tree p) h p down r)) f) s4 m2) (λ σ. (refl, refl)))))
  part (called_halted w p h down i lost k a0 t out inner left f s1 g s2 x) a b m =
      stepped w out left p (Out h down i) (λ τ y o. Reaches prog (Ruled prog) (cut out a τ) p h down i lost k (Some t) y o) (Run_of w a p (call h down i lost k)) None a a b s1 refl
      (λ τ y o st d. reach_rule prog (cut w a (record { place = p; what = Out h down i } ∷ τ)) p h down i lost k (cut out a τ) a0 (Some t) y o f g st d)
      (stepped out inner left t (In (Some (length down)) i) (λ τ y o. (o ≡ None) × Derives prog (cut inner a τ) t (prog.entry i) y None) (λ τ y o. Reaches prog (Ruled prog) (cut out a τ) p h down i lost k (Some t) y o) None a a b s2 (in_silent out a0 t down i g a)
      (λ τ y o st d. (y, None, record { node = (reached_stands out.tree a0 down t g).0; stands = (reached_stands out.tree a0 down t g).1; entered = cut inner a τ; left = y; entry = st; run = d.1; leaving = refl }, (refl, d.0)))
      (none_part inner left t (prog.entry i) a b (part x a b (silent_moves out t (In (Some (length down)) i) inner a b (λ ms. sym (in_silent out a0 t down i g ms)) s2 (sym s1.moves ∙ m)))))
  part (unreached w p h down i lost k a0 out back v e f s1 g s2 x) a b m =
      stepped w out v p (Out h down i) (λ τ y o. Reaches prog (Ruled prog) (cut out a τ) p h down i lost k None y o) (Run_of w a p (call h down i lost k)) e a a b s1 refl
      (λ τ y o st d. reach_rule prog (cut w a (record { place = p; what = Out h down i } ∷ τ)) p h down i lost k (cut out a τ) a0 None y o f g st d)
      (stepped out back v p (Back h (Replied (Completed lost))) (Run_of back a p (k (Finished lost))) (λ τ y o. Reaches prog (Ruled prog) (cut out a τ) p h down i lost k None y o) e a a b s2 (sym (back_silent p a0 h (Replied (Completed lost)) f a))
      (λ τ y o st d. (cut back a τ, st, d)) (part x a b (silent_moves out p (Back h (Replied (Completed lost))) back a b (back_silent p a0 h (Replied (Completed lost)) f) s2 (sym s1.moves ∙ m))))
  part (called_out w p h down i lost k u v e f s r) a b m =
      stepped w u v p (Out h down i) (Run_of u a p (wait (Some (h, i, depth_of (u.tree p))) (or_lost lost k))) (Run_of w a p (call h down i lost k)) e a a b s refl
      (λ τ y o st d. called_out (cut w a (record { place = p; what = Out h down i } ∷ τ)) p h down i lost k (cut u a τ) y o f st d) (part r a b (sym s.moves ∙ m))
  part (unanswered w p s k f g t) a b m = halts_here w (Run_of w a p (wait s k)) None a b t (unanswered (cut w a []) p s k f (nil_of a b (sym g ∙ m)) refl)
  part (unfit w p s k y ms f g h t) a b m = by a m
    where
      by : (a : List (Move O)) → w.moves ≡ a ++ b → Parts w p (wait s k) w None a b
      by [] m = halts_here w (Run_of w [] p (wait s k)) None [] b t (unanswered (cut w [] []) p s k f refl refl)
      by (z ∷ a1) m = let same : y ≡ z = (let q : y ∷ ms ≡ z ∷ (a1 ++ b) = sym g ∙ m in cc) in halts_here w (Run_of w (z ∷ a1) p (wait s k)) None (z ∷ a1) b t (unfit (cut w (z ∷ a1) []) p s k z a1 f refl (subst (λ q. fits w.tree p s q ≡ false) same h) refl)
  part (answered w p s k c u v e f g t r) a b m = by (split w u (Come (Replied (Completed c))) a b m (t.moves ∙ sym (back_reads p (height_of s) (Replied (Completed c)) f u.moves))) (λ l. part r l b)
    where
      by : Split w u (Come (Replied (Completed c))) a b → ((l : List (Move O)) → u.moves ≡ l ++ b → Parts u p (k (Finished c)) v e l b) → Parts w p (wait s k) v e a b
      by (inl z) rec = stop_here w u p p (Back (height_of s) (Replied (Completed c))) (Come (Replied (Completed c))) s k a e v b f t (λ ms. sym (back_reads p (height_of s) (Replied (Completed c)) f ms)) z
      by (inr (a1, z, n)) rec =
          stepped w u v p (Back (height_of s) (Replied (Completed c))) (Run_of u a1 p (k (Finished c))) (Run_of w a p (wait s k)) e a a1 b t (z ∙ back_reads p (height_of s) (Replied (Completed c)) f a1)
          (λ τ y o st d. answered (cut w a (record { place = p; what = Back (height_of s) (Replied (Completed c)) } ∷ τ)) p s k c (cut u a1 τ) y o f g st d) (rec a1 n)
  part (heard w p s k x u v e f g t r) a b m = by (split w u (Come (Heard x)) a b m (t.moves ∙ sym (back_reads p (height_of s) (Heard x) f u.moves))) (λ l. part r l b)
    where
      by : Split w u (Come (Heard x)) a b → ((l : List (Move O)) → u.moves ≡ l ++ b → Parts u p (k (Told x)) v e l b) → Parts w p (wait s k) v e a b
      by (inl z) rec = stop_here w u p p (Back (height_of s) (Heard x)) (Come (Heard x)) s k a e v b f t (λ ms. sym (back_reads p (height_of s) (Heard x) f ms)) z
      by (inr (a1, z, n)) rec =
          stepped w u v p (Back (height_of s) (Heard x)) (Run_of u a1 p (k (Told x))) (Run_of w a p (wait s k)) e a a1 b t (z ∙ back_reads p (height_of s) (Heard x) f a1)
          (λ τ y o st d. heard (cut w a (record { place = p; what = Back (height_of s) (Heard x) } ∷ τ)) p s k x (cut u a1 τ) y o f g st d) (rec a1 n)
  part (missed w p s k u v e f g t r) a b m = by (split w u (Come Nobody) a b m (t.moves ∙ sym (back_reads p (height_of s) Nobody f u.moves))) (λ l. part r l b)
    where
      by : Split w u (Come Nobody) a b → ((l : List (Move O)) → u.moves ≡ l ++ b → Parts u p (k Missed) v e l b) → Parts w p (wait s k) v e a b
      by (inl z) rec = stop_here w u p p (Back (height_of s) Nobody) (Come Nobody) s k a e v b f t (λ ms. sym (back_reads p (height_of s) Nobody f ms)) z
      by (inr (a1, z, n)) rec =
          stepped w u v p (Back (height_of s) Nobody) (Run_of u a1 p (k Missed)) (Run_of w a p (wait s k)) e a a1 b t (z ∙ back_reads p (height_of s) Nobody f a1)
          (λ τ y o st d. missed (cut w a (record { place = p; what = Back (height_of s) Nobody } ∷ τ)) p s k (cut u a1 τ) y o f g st d) (rec a1 n)
  part (answered_passed w p s k r u q f g t) a b m = by (split w u (Come (Replied r)) a b m (t.moves ∙ sym (back_reads p (height_of s) (Replied r) f u.moves)))
    where
      by : Split w u (Come (Replied r)) a b → Parts w p (wait s k) u (Some r) a b
      by (inl z) = stop_here w u p p (Back (height_of s) (Replied r)) (Come (Replied r)) s k a (Some r) u b f t (λ ms. sym (back_reads p (height_of s) (Replied r) f ms)) z
      by (inr (a1, z, n)) =
          last_step w u p (Back (height_of s) (Replied r)) p (wait s k) r a a1 b t (z ∙ back_reads p (height_of s) (Replied r) f a1) n
          (λ τ st. answered_passed (cut w a (record { place = p; what = Back (height_of s) (Replied r) } ∷ τ)) p s k r (cut u a1 τ) q f g st)
  part (entered w p s k t i inner left told v r e f here s1 x s2 n y) a b m = by (split w inner (Enter t i) a b m s1.moves) (λ l. part x l b) (λ l. part y l b)
    where
      by : Split w inner (Enter t i) a b → ((l : List (Move O)) → inner.moves ≡ l ++ b → Parts inner t (prog.entry i) left (Some r) l b) → ((l : List (Move O)) → told.moves ≡ l ++ b → Parts told p (wait s k) v e l b) → Parts w p (wait s k) v e a b
      by (inl z) rec rec2 = stop_here w inner p t (In None i) (Enter t i) s k a e v b f s1 (λ ms. refl) z
      by (inr (a1, z, q)) rec rec2 =
          joined w told v (Visit_of w a None t i) (Run_of w a p (wait s k)) (λ l. Run_of told l p (wait s k)) (Some r) e b (visited w inner left told None t i r a a1 b here z s1 (rec a1 q) s2)
          (λ made last d. enter_rule prog (cut w a made) p s k t i last None last None f d (refl, refl))
          (λ l τ σ y2 o d1 d2. enter_rule prog (cut w a τ) p s k t i (cut told l σ) (Some r) y2 o f d1 (stays_ruled (cut told l σ) p s k r y2 o n d2)) (λ l m2. rec2 l m2)
  part (entered_exiting w p s k t i inner left told v n e f here s1 x s2 y) a b m = by (split w inner (Enter t i) a b m s1.moves) (λ l. part x l b)
    where
      by : Split w inner (Enter t i) a b → ((l : List (Move O)) → inner.moves ≡ l ++ b → Parts inner t (prog.entry i) left (Some (Exit n)) l b) → Parts w p (wait s k) v e a b
      by (inl z) rec = stop_here w inner p t (In None i) (Enter t i) s k a e v b f s1 (λ ms. refl) z
      by (inr (a1, z, q)) rec =
          joined w told v (Visit_of w a None t i) (Run_of w a p (wait s k)) (λ l. Exits_of told l p s n) (Some (Exit n)) e b (visited w inner left told None t i (Exit n) a a1 b here z s1 (rec a1 q) s2)
          (λ made last d. enter_rule prog (cut w a made) p s k t i last None last None f d (refl, refl))
          (λ l τ σ y2 o d1 d2. enter_rule prog (cut w a τ) p s k t i (cut told l σ) (Some (Exit n)) y2 o f d1 d2) (λ l m2. exits_part told p s n told.moves v e f refl y l b m2)
  part (entered_halted w p s k t i inner left f here s1 x) a b m = by (split w inner (Enter t i) a b m s1.moves) (λ l. part x l b)
    where
      by : Split w inner (Enter t i) a b → ((l : List (Move O)) → inner.moves ≡ l ++ b → Parts inner t (prog.entry i) left None l b) → Parts w p (wait s k) left None a b
      by (inl z) rec = stop_here w inner p t (In None i) (Enter t i) s k a None left b f s1 (λ ms. refl) z
      by (inr (a1, z, q)) rec =
          stepped w inner left t (In None i) (λ τ y o. (o ≡ None) × Derives prog (cut inner a1 τ) t (prog.entry i) y None) (Run_of w a p (wait s k)) None a a1 b s1 z
          (λ τ y o st d. subst (λ o2. Derives prog (cut w a (record { place = t; what = In None i } ∷ τ)) p (wait s k) y o2) (sym d.0) (entered_halted (cut w a (record { place = t; what = In None i } ∷ τ)) p s k t i (cut inner a1 τ) y f here st d.1))
          (none_part inner left t (prog.entry i) a1 b (rec a1 q))
  part (unfound w p s k t i u v e f here s1 r) a b m = by (split w u (Enter t i) a b m s1.moves) (λ l. part r l b)
    where
      by : Split w u (Enter t i) a b → ((l : List (Move O)) → u.moves ≡ l ++ b → Parts u p (wait s k) v e l b) → Parts w p (wait s k) v e a b
      by (inl z) rec = stop_here w u p [] (Unfound t i (prog.lost t)) (Enter t i) s k a e v b f s1 (λ ms. refl) z
      by (inr (a1, z, n)) rec =
          stepped w u v [] (Unfound t i (prog.lost t)) (Run_of u a1 p (wait s k)) (Run_of w a p (wait s k)) e a a1 b s1 z
          (λ τ y o2 st d. unfound (cut w a (record { place = []; what = Unfound t i (prog.lost t) } ∷ τ)) p s k t i (cut u a1 τ) y o2 f here st d) (rec a1 n)
  part (born w p s k o c u v e f t r) a b m = by (split w u (Born o c) a b m t.moves) (λ l. part r l b)
    where
      by : Split w u (Born o c) a b → ((l : List (Move O)) → u.moves ≡ l ++ b → Parts u p (wait s k) v e l b) → Parts w p (wait s k) v e a b
      by (inl z) rec = stop_here w u p [] (Made o c) (Born o c) s k a e v b f t (λ ms. refl) z
      by (inr (a1, z, n)) rec =
          stepped w u v [] (Made o c) (Run_of u a1 p (wait s k)) (Run_of w a p (wait s k)) e a a1 b t z
          (λ τ y o2 st d. born (cut w a (record { place = []; what = Made o c } ∷ τ)) p s k o c (cut u a1 τ) y o2 f st d) (rec a1 n)
  part (fallen w p s k u v e f t r) a b m = by (split w u Fall a b m t.moves) (λ l. part r l b)
    where
      by : Split w u Fall a b → ((l : List (Move O)) → u.moves ≡ l ++ b → Parts u p (wait s k) v e l b) → Parts w p (wait s k) v e a b
      by (inl z) rec = stop_here w u p [] Dropped Fall s k a e v b f t (λ ms. refl) z
      by (inr (a1, z, n)) rec =
          stepped w u v [] Dropped (Run_of u a1 p (wait s k)) (Run_of w a p (wait s k)) e a a1 b t z
          (λ τ y o2 st d. fallen (cut w a (record { place = []; what = Dropped } ∷ τ)) p s k (cut u a1 τ) y o2 f st d) (rec a1 n)
