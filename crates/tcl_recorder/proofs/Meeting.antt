-- What is known of each happening of a run: an entry from outside finds somebody at its path, and one that finds nobody is a happening of the top.
use Rattle.std.proofs.Common.{◌≡◌, List, [], ◌∷◌, ◌++◌, Some, None, length, refl, sym, subst}
use Rattle.tcl_core.specs.Endings.{Reply}
use Rattle.tcl_core.specs.Endings.Reply.{Exit}
use Rattle.tcl_core.specs.Entries.{Entry}
use Rattle.tcl_core.specs.Entries.Answer.{Replied}
use Rattle.tcl_core.specs.Paths.{Place}
use Rattle.tcl_core.specs.Programs.{Prog, Table, closes, spot}
use Rattle.tcl_core.specs.Rules.{Derives}
use Rattle.tcl_core.specs.Rules.Derives.{completed, exited, acted, refused, unheard, went, passed, halted, wrapped, wrapped_passed, wrapped_halted, too_deep, shut, unheard_inside, called, called_passed, called_halted, unreached, called_out, unanswered, unfit, answered, heard, missed, answered_passed, entered, entered_halted, entered_exiting, born, fallen, unfound}
use Rattle.tcl_core.specs.Runs.{Ending, Runs, Step, Visits, World, height_of}
use Rattle.tcl_core.specs.Trees.{Event, Node, Tree, What, effect}
use Rattle.tcl_core.specs.Trees.What.{Out, In, Done, Back, Made, Dropped, Unfound}
use Rattle.tcl_core.proofs.Halts.{exits_so}
use Rattle.tcl_core.proofs.Plain.{IsPlain, closes_plain, decide_plain, opens_plain}
use Rattle.tcl_core.proofs.RuleLaws.{runs_derived}

module _ {O : Type 0} where
  abbrev pub IsMet : Tree O → Place → What O → Type 0
  IsMet T p (In None i) = (n : Node O) × (T p ≡ Some n)
  IsMet T p (Unfound t i c) = p ≡ []
  IsMet T p x = Unit {0}

  -- the same of each of these, from the tree T on
  abbrev pub AreMet : Tree O → List (Event O) → Type 0
  AreMet T [] = Unit {0}
  AreMet T (ev ∷ τ) = IsMet T ev.place ev.what × AreMet (effect ev.place ev.what T) τ

  pub met_front : (T : Tree O) (σ τ : List (Event O)) → AreMet T (σ ++ τ) → AreMet T σ
  met_front T [] τ m = tt
  met_front T (ev ∷ σ) τ m = (m.0, met_front (effect ev.place ev.what T) σ τ m.1)

  plain_met : (T : Tree O) (p : Place) (x : What O) → IsPlain x → IsMet T p x
  plain_met T p (Out h down i) f = absurd f
  plain_met T p (Back h a) f = absurd f
  plain_met T p (In h i) f = absurd f
  plain_met T p (Done h r) f = absurd f
  plain_met T p (Unfound t i c) f = absurd f
  plain_met T p _ f = tt

  -- what is left of a world is so, and then all of it is
  abbrev pub Meets : World O → World O → Type 0
  Meets w v = AreMet v.tree v.tape → AreMet w.tree w.tape

  step : (w : World O) (p : Place) (x : What O) (u v : World O) → IsMet w.tree p x → Step w p x u → Meets u v → Meets w v
  step w p x u v m s f = λ k. subst (AreMet w.tree) (sym s.tape) (m, subst (λ (T : Tree O). AreMet T u.tape) s.tree (f k))

module _ {O I : Type 0} (prog : Table O I) where
  meets : {w : World O} {p : Place} {x : Prog O I} {v : World O} {e : Ending} → Derives prog w p x v e → Meets w v
  meets (completed w p y) = λ k. k
  meets (exited w p n) = λ k. k
  meets (acted w p d k x u v e g on s a) = step w (spot p x.0) x.1 u v (plain_met w.tree _ x.1 (decide_plain d w.tree p w.grants x g)) s (meets a)
  meets (refused w p d k x r u g off s) = step w (spot p x.0) x.1 u u (plain_met w.tree _ x.1 (decide_plain d w.tree p w.grants x g)) s (λ k. k)
  meets (unheard w p d k g t) = λ k. k
  meets (went w p i k u y v e a b) = λ l. meets a (meets b l)
  meets (passed w p i k u r q a) = meets a
  meets (halted w p i k u a) = meets a
  meets (wrapped w p b i k x inner left closed v y e g on s a t d) =
      step w (spot p x.0) x.1 inner v (plain_met w.tree _ x.1 (opens_plain b w.tree p w.grants x g)) s
      (λ l. meets a (step left p (closes b (inner.tree p) (left.tree p)) closed v (plain_met left.tree p _ (closes_plain b (inner.tree p) (left.tree p))) t (meets d) l))
  meets (wrapped_passed w p b i k x inner left closed r q g on s a t) =
      step w (spot p x.0) x.1 inner closed (plain_met w.tree _ x.1 (opens_plain b w.tree p w.grants x g)) s
      (λ l. meets a (step left p (closes b (inner.tree p) (left.tree p)) closed closed (plain_met left.tree p _ (closes_plain b (inner.tree p) (left.tree p))) t (λ k. k) l))
  meets (wrapped_halted w p b i k x inner left g on s a) = step w (spot p x.0) x.1 inner left (plain_met w.tree _ x.1 (opens_plain b w.tree p w.grants x g)) s (meets a)
  meets (too_deep w p b i k x u v e g deep s a) = step w (spot p x.0) x.1 u v (plain_met w.tree _ x.1 (opens_plain b w.tree p w.grants x g)) s (meets a)
  meets (shut w p b i k x r u g off s) = step w (spot p x.0) x.1 u u (plain_met w.tree _ x.1 (opens_plain b w.tree p w.grants x g)) s (λ k. k)
  meets (unheard_inside w p b i k g t) = λ k. k
  meets (called w p h down i lost k a t out inner left told back v r y e z s1 j s2 x s3 so s4 b) =
      step w p (Out h down i) out v tt s1 (step out t (In (Some (length down)) i) inner v tt s2
      (λ l. meets x (step left t (Done (Some (length down)) r) told v tt s3 (step told p (Back h _) back v tt s4 (meets b)) l)))
  meets (called_passed w p h down i lost k a t out inner left told back r z s1 j s2 x s3 q s4) =
      step w p (Out h down i) out back tt s1 (step out t (In (Some (length down)) i) inner back tt s2
      (λ l. meets x (step left t (Done (Some (length down)) r) told back tt s3 (step told p (Back h _) back back tt s4 (λ m. m)) l)))
  meets (called_halted w p h down i lost k a t out inner left z s1 j s2 x) = step w p (Out h down i) out left tt s1 (step out t (In (Some (length down)) i) inner left tt s2 (meets x))
  meets (unreached w p h down i lost k a out back v e z s1 j s2 x) = step w p (Out h down i) out v tt s1 (step out p (Back h _) back v tt s2 (meets x))
  meets (called_out w p h down i lost k u v e z s a) = step w p (Out h down i) u v tt s (meets a)
  meets (unanswered w p s k j m t) = λ l. l
  meets (unfit w p s k m ms j l n t) = λ y. y
  meets (answered w p s k y u v e j l t a) = step w p (Back (height_of s) _) u v tt t (meets a)
  meets (heard w p s k y u v e j l t a) = step w p (Back (height_of s) _) u v tt t (meets a)
  meets (missed w p s k u v e j l t a) = step w p (Back (height_of s) _) u v tt t (meets a)
  meets (answered_passed w p s k r u q j l t) = step w p (Back (height_of s) (Replied r)) u u tt t (λ y. y)
  meets (entered w p s k t i {node = node} inner left told v r e j here s1 a s2 n b) =
      step w t (In None i) inner v (node, here) s1 (λ l. meets a (step left t (Done None r) told v tt s2 (meets b) l))
  meets (entered_halted w p s k t i {node = node} inner left j here s1 a) = step w t (In None i) inner left (node, here) s1 (meets a)
  meets (entered_exiting w p s k t i {node = node} inner left told v n e j here s1 a s2 b) =
      step w t (In None i) inner v (node, here) s1 (λ l. meets a (step left t (Done None (Exit n)) told v tt s2
      (exits_so (Meets told) told p s n told.moves v e (λ y. y) (λ x. step told p (Back (height_of s) (Replied (Exit n))) v v tt x (λ y. y)) b) l))
  meets (born w p s k o b u v e j t a) = step w [] (Made o b) u v tt t (meets a)
  meets (fallen w p s k u v e j t a) = step w [] Dropped u v tt t (meets a)
  meets (unfound w p s k t i u v e j here z a) = step w [] (Unfound t i (prog.lost t)) u v refl z (meets a)

  -- a run, and an entry from outside
  pub run_met : (w : World O) (p : Place) (x : Prog O I) (v : World O) (e : Ending) → Runs prog w p x v e → Meets w v
  run_met w p x v e a = meets (runs_derived prog w p x v e a)

  pub visit_met : (w : World O) (t : Place) (i : Entry) (v : World O) (r : Reply) → Visits prog (Runs prog) w None t i v (Some r) → Meets w v
  visit_met w t i v r a =
      step w t (In None i) a.entered v (a.node, a.stands) a.entry
      (λ l. run_met a.entered t (prog.entry i) a.left (Some r) a.run (step a.left t (Done None r) v v tt a.leaving (λ k. k) l))
