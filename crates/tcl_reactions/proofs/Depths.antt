-- What playings leave of depths.
use Rattle.std.proofs.Common.{true, false, ◌⊎◌, inl, inr, ◌≡◌, ◌∙◌, ℕ, zero, suc, List, [], ◌∷◌, ◌++◌, Option, Some, None, refl, subst, inl, Bool, inr}
use Rattle.tcl_core.specs.Endings.{Meter, Reply}
use Rattle.tcl_core.specs.Endings.Meter.{Count, Depth}
use Rattle.tcl_core.specs.Endings.Reply.{Cut}
use Rattle.tcl_core.specs.Endings.Cause.{Above, Over}
use Rattle.tcl_core.specs.Execution.{Chain, Crossings, Open, Decides, Executes, Opens_so, before, more, none}
use Rattle.tcl_core.specs.Execution.Executes.{completed, exited, acted, refused, went, passed, wrapped, wrapped_passed, too_deep, shut, called, called_passed, unreached, called_out, answered, heard, missed, answered_passed, entered, entered_exiting, unfound}
use Rattle.tcl_core.specs.Laws.{IsSteady, IsUpright, KeepsTop, is_spared, depth_left}
use Rattle.tcl_core.specs.Paths.{Place, rise_to}
use Rattle.tcl_core.specs.Programs.{Act, Deed, Prog, Table, Wait, Wrap, spot, closes, changing, making, dropping, metered, by_limit, blocked, is_spent, is_deep}
use Rattle.tcl_core.specs.Programs.Act.{Look, Change, Charge, Limit, LimitDepth, Make, Drop}
use Rattle.tcl_core.specs.Programs.Next.{On, Off}
use Rattle.tcl_core.specs.Programs.Wrap.{Deeper, Framed}
use Rattle.tcl_core.specs.Trees.{Event, Grants, Move, Node, Tree, What, asked, at_top, granted, where_none, depth_of, effect}
use Rattle.tcl_core.specs.Trees.Grant.{Allow, Deny}
use Rattle.tcl_core.specs.Trees.Grants.{Listed, Budget}
use Rattle.tcl_core.specs.Trees.Move.{Born, Fall, Enter, Come}
use Rattle.tcl_core.specs.Trees.What.{Seen, Charged, Refused, Limited, DepthLimited, Nested, Made, Dropped, In, Back, Unfound}
use Rattle.tcl_core.specs.Views.{moves_of}
use Rattle.tcl_core.proofs.Depths.{steady}
use Rattle.tcl_core.proofs.Callers.{Fits, fit}
use Rattle.tcl_core.proofs.Following.{makes}
use Rattle.tcl_core.proofs.PathLaws.{not_both, Some-inj, child_no_top}
use Rattle.tcl_core.proofs.Reacting.{IsLasting, Lasting}
use Rattle.tcl_reactions.specs.Laws.{DepthsStay}
use Rattle.tcl_reactions.specs.Playing.Lived.{begun, entered as came, unfound as strayed}
use Rattle.tcl_reactions.specs.Playing.{Lived, Player, plays}
use Rattle.tcl_core.proofs.TreeLaws.{any_close}

-- ## No act makes or drops the tree's top

module _ {O : Type 0} where
  abbrev Lasts_by : Place → Deed O → Type 0
  Lasts_by p x = Lasting (spot p x.0) x.1

  of_deed : (p : Place) (y x : Deed O) → Lasts_by p y → Some y ≡ Some x → Lasts_by p x
  of_deed p y x f e = subst (Lasts_by p) (Some-inj y e) f

  metered_lasts : (p : Place) (m : Meter) (y : What O) (b : Option ℕ) (gs : Grants) (x : Deed O) → Lasting p y → metered m y b gs ≡ Some x → Lasts_by p x
  metered_lasts p m y (Some n) gs x f e = of_deed p (None, Refused m (Some n), by_limit m n) x tt e
  metered_lasts p m y None (Listed []) x f e = absurd (not_both refl e)
  metered_lasts p m y None (Listed (Allow ∷ gs)) x f e = of_deed p (None, y, On) x f e
  metered_lasts p m y None (Listed (Deny ∷ gs)) x f e = of_deed p (None, Refused m None, Off (Cut Above)) x tt e
  metered_lasts p Count y None (Budget zero) x f e = of_deed p (None, Refused Count None, Off (Cut Over)) x tt e
  metered_lasts p Count y None (Budget (suc n)) x f e = of_deed p (None, y, On) x f e
  metered_lasts p Depth y None (Budget n) x f e = of_deed p (None, y, On) x f e

  changing_lasts : (p : Place) (own : O) (n : Option (Node O)) → Lasts_by p (changing own n)
  changing_lasts p own None = tt
  changing_lasts p own (Some n) = tt

  making_lasts : (p : Place) (name : List ℕ) (own : O) (s : _) (parent n : Option (Node O)) → Lasts_by p (making name own s parent n)
  making_lasts p name own s None n = tt
  making_lasts p name own s (Some m) None = child_no_top p name
  making_lasts p name own s (Some m) (Some n) = tt

  dropping_lasts : (p : Place) (name : List ℕ) (n : Option (Node O)) → Lasts_by p (dropping name n)
  dropping_lasts p name None = tt
  dropping_lasts p name (Some n) = child_no_top p name

  decides_lasts : (d : Act O) (T : Tree O) (p : Place) (x : Deed O) → Decides d T p x → Lasting (spot p x.0) x.1
  decides_lasts Look T p x e = of_deed p (None, Seen, On) x tt (e [])
  decides_lasts (Change own) T p x e = of_deed p (changing own (T p)) x (changing_lasts p own (T p)) (e [])
  decides_lasts Charge T p x e = metered_lasts p Count Charged (blocked is_spent T p) (granted (spot p x.0) x.1 (Listed [])) x tt (e [])
  decides_lasts (Limit l) T p x e = of_deed p (None, Limited l, On) x tt (e [])
  decides_lasts (LimitDepth l) T p x e = of_deed p (None, DepthLimited l, On) x tt (e [])
  decides_lasts (Make name own s) T p x e = of_deed p (making name own s (T p) (T (p ++ name ∷ []))) x (making_lasts p name own s (T p) (T (p ++ name ∷ []))) (e [])
  decides_lasts (Drop name) T p x e = of_deed p (dropping name (T (p ++ name ∷ []))) x (dropping_lasts p name (T (p ++ name ∷ []))) (e [])

  opens_lasts : (b : Wrap O) (T : Tree O) (p : Place) (x : Deed O) → Opens_so b T p x → Lasting (spot p x.0) x.1
  opens_lasts Deeper T p x e = metered_lasts p Depth Nested (blocked is_deep T p) (granted (spot p x.0) x.1 (Listed [])) x tt (e [])
  opens_lasts (Framed own back) T p x e = of_deed p (changing own (T p)) x (changing_lasts p own (T p)) (e [])

  closes_lasts : (p : Place) (b : Wrap O) (m n : Option (Node O)) → Lasting p (closes b m n)
  closes_lasts p b m n = any_close (Lasting p) b m n tt tt (λ o. tt)

-- ## So no run does

-- an outside goes so, and the tree's top stays
pub record Lastingly {O S : Type 0} (step : Tree O → S → Wait → Event O → S → Type 0) (T : Tree O) (o : S) (s : Wait) (ev : Event O) (u : S) : Type 0 where
  pub goes : step T o s ev u
  pub lasting : Lasting ev.place ev.what

module _ {O S : Type 0} (step : Tree O → S → Wait → Event O → S → Type 0) where
  stays : (T : Tree O) (o : S) (s : Wait) (ev : Event O) (u : S) → step T o s ev u → Lasting ev.place ev.what → Lastingly step T o s ev u
  stays T o s ev u g f = record { goes = g; lasting = f }

  all_last : {cs ds : Open} {T V : Tree O} {o z : S} {τ : List (Event O)} → Chain (Lastingly step) cs T o τ ds V z → IsLasting τ
  all_last none = tt
  all_last (more a rest) = (a.lasting, all_last rest)

module _ {O I S : Type 0} (step : Tree O → S → Wait → Event O → S → Type 0) (prog : Table O I) where
  lasts : {T V : Tree O} {o z : S} {p : Place} {x : Prog O I} {r : Reply} → Executes step prog T o p x V z r → Executes (Lastingly step) prog T o p x V z r
  lasts completed = completed
  lasts exited = exited
  lasts (acted {T = T} {p = p} {d = d} x is_so on s t) = acted x is_so on (stays step _ _ _ _ _ s (decides_lasts d T p x is_so)) (lasts t)
  lasts (refused {T = T} {p = p} {d = d} x is_so off s) = refused x is_so off (stays step _ _ _ _ _ s (decides_lasts d T p x is_so))
  lasts (went a b) = went (lasts a) (lasts b)
  lasts (passed q a) = passed q (lasts a)
  lasts (wrapped {T = T} {U = U} {p = p} {b = b} x is_so on s1 a s2 t) = wrapped x is_so on (stays step _ _ _ _ _ s1 (opens_lasts b T p x is_so)) (lasts a) (stays step _ _ _ _ _ s2 (closes_lasts p b (effect (spot p x.0) x.1 T p) (U p))) (lasts t)
  lasts (wrapped_passed {T = T} {U = U} {p = p} {b = b} x q is_so on s1 a s2) = wrapped_passed x q is_so on (stays step _ _ _ _ _ s1 (opens_lasts b T p x is_so)) (lasts a) (stays step _ _ _ _ _ s2 (closes_lasts p b (effect (spot p x.0) x.1 T p) (U p)))
  lasts (too_deep {T = T} {p = p} {b = b} x is_so deep s t) = too_deep x is_so deep (stays step _ _ _ _ _ s (opens_lasts b T p x is_so)) (lasts t)
  lasts (shut {T = T} {p = p} {b = b} x is_so off s) = shut x is_so off (stays step _ _ _ _ _ s (opens_lasts b T p x is_so))
  lasts (called a t up at s1 s2 run s3 is s4 rest) =
      called a t up at (stays step _ _ _ _ _ s1 tt) (stays step _ _ _ _ _ s2 tt) (lasts run) (stays step _ _ _ _ _ s3 tt) is (stays step _ _ _ _ _ s4 tt) (lasts rest)
  lasts (called_passed a t up at s1 s2 run s3 is q s4) =
      called_passed a t up at (stays step _ _ _ _ _ s1 tt) (stays step _ _ _ _ _ s2 tt) (lasts run) (stays step _ _ _ _ _ s3 tt) is q (stays step _ _ _ _ _ s4 tt)
  lasts (unreached a up gone s1 s2 rest) = unreached a up gone (stays step _ _ _ _ _ s1 tt) (stays step _ _ _ _ _ s2 tt) (lasts rest)
  lasts (called_out up s t) = called_out up (stays step _ _ _ _ _ s tt) (lasts t)
  lasts (answered up fit s t) = answered up fit (stays step _ _ _ _ _ s tt) (lasts t)
  lasts (heard up fit s t) = heard up fit (stays step _ _ _ _ _ s tt) (lasts t)
  lasts (missed up fit s t) = missed up fit (stays step _ _ _ _ _ s tt) (lasts t)
  lasts (answered_passed q up fit s) = answered_passed q up fit (stays step _ _ _ _ _ s tt)
  lasts (entered t i up here s1 run s2 calm rest) = entered t i up here (stays step _ _ _ _ _ s1 tt) (lasts run) (stays step _ _ _ _ _ s2 tt) calm (lasts rest)
  lasts (entered_exiting t i up here s1 run s2 s3) = entered_exiting t i up here (stays step _ _ _ _ _ s1 tt) (lasts run) (stays step _ _ _ _ _ s2 tt) (stays step _ _ _ _ _ s3 tt)
  lasts (unfound t i up here s rest) = unfound t i up here (stays step _ _ _ _ _ s tt) (lasts rest)

-- ## And so it reads no move of the top

module _ {O : Type 0} where
  keeps_none : (o : Option Place) (m : Move O) (ms : List (Move O)) → (KeepsTop ms → KeepsTop (m ∷ ms)) → KeepsTop ms → KeepsTop (where_none o m ms)
  keeps_none None m ms f k = f k
  keeps_none (Some a) m ms f k = k

  keeps_at_top : (p : Place) (m : Move O) (ms : List (Move O)) → (p ≡ [] → Prim.⊥) → KeepsTop ms → KeepsTop (at_top p m ms)
  keeps_at_top [] m ms f k = absurd (f refl)
  keeps_at_top (y ∷ p) m ms f k = k

  keeps_one : (p : Place) (x : What O) (ms : List (Move O)) → Lasting p x → KeepsTop ms → KeepsTop (asked p x ms)
  keeps_one p (In h i) ms f k = keeps_none (rise_to h p) (Enter p i) ms (λ j. j) k
  keeps_one p (Back h a) ms f k = keeps_none (rise_to h p) (Come a) ms (λ j. j) k
  keeps_one p (Made o s) ms f k = keeps_at_top p (Born o s) ms f k
  keeps_one p Dropped ms f k = keeps_at_top p Fall ms f k
  keeps_one p (Unfound t i c) ms f k = k
  keeps_one p _ ms f k = k

  keeps_top : (τ : List (Event O)) → IsLasting τ → KeepsTop (moves_of τ)
  keeps_top [] f = tt
  keeps_top (ev ∷ τ) f = keeps_one ev.place ev.what (moves_of τ) f.0 (keeps_top τ f.1)

-- ## Depths

-- as deep as before, or not in use
abbrev SameOrNone : ℕ → ℕ → Type 0
SameOrNone m n = (n ≡ m) ⊎ (n ≡ 0)

left_so : (b : Bool) (m n : ℕ) → n ≡ depth_left b m → SameOrNone m n
left_so true m n e = inl e
left_so false m n e = inr e

one_more : (a b c : ℕ) → SameOrNone a b → SameOrNone b c → SameOrNone a c
one_more a b c f (inr g) = inr g
one_more a b c (inl f) (inl g) = inl (g ∙ f)
one_more a b c (inr f) (inl g) = inr (g ∙ f)

module _ {O I S : Type 0} (step : Tree O → S → Wait → Event O → S → Type 0) (prog : Table O I) where
  -- an entry that was done leaves each depth
  run_steady : (T V : Tree O) (o z : S) (p : Place) (x : Prog O I) (r : Reply) → Fits x → Executes step prog T o p x V z r → IsUpright T → IsUpright V × ((q : Place) → SameOrNone (depth_of (T q)) (depth_of (V q)))
  run_steady T V o z p x r f run up =
      let made = makes (Lastingly step) prog f (lasts step prog run) in
      let s : IsSteady (before T made.events) (before V []) (Some r) = steady prog (before T made.events) (before V []) p x (Some r) made.runs up (keeps_top made.events (all_last step made.chain)) in
      (s.upright r refl, λ q. left_so (is_spared q s.made) (depth_of (T q)) (depth_of (V q)) (s.depths r refl q))

module _ {O I : Type 0} (prog : Table O I) where
  lived_steady : {S : Tree O} {o : Player O} {V : Tree O} {z : Player O} → Lived prog S o V z → IsUpright S → IsUpright V × ((q : Place) → SameOrNone (depth_of (S q)) (depth_of (V q)))
  lived_steady begun up = (up, λ q. inl refl)
  lived_steady {S} (came {U = U} {V = V} {w = w} {v = v} t i r l calm last here enters run leaves) up =
      let h = lived_steady l up in
      let k = run_steady (Crossings plays) prog U V w v t _ r (fit (prog.entry i) (prog.entries_call i)) run h.0 in
      (k.0, λ q. one_more (depth_of (S q)) (depth_of (U q)) (depth_of (V q)) (h.1 q) (k.1 q))
  lived_steady (strayed t i l calm last here reads) up = lived_steady l up

module _ {O I : Type 0} where
  pub depths_stay : DepthsStay O I
  depths_stay prog S V o z l up q = (lived_steady prog l up).1 q
