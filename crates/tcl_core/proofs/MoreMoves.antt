-- Moves that come later are not looked at.
use Rattle.std.proofs.Common.{sym, ◌≡◌, ℕ, ℤ, Bool, true, false, List, [], ◌∷◌, ◌++◌, Option, Some, None, refl, ◌∙◌, ap}
use Rattle.tcl_core.specs.Paths.{Place, rise_to}
use Rattle.tcl_core.specs.Endings.{Meter, Reply}
use Rattle.tcl_core.specs.Endings.Meter.{Count, Depth}
use Rattle.tcl_core.specs.Endings.Reply.{Exit}
use Rattle.tcl_core.specs.Entries.Answer.{Replied}
use Rattle.tcl_core.specs.Trees.{at_top, Tree, Grants, Grant, granted, denied, allowing, What, Move, asked, where_none}
use Rattle.tcl_core.specs.Trees.Grant.{Allow, Deny}
use Rattle.tcl_core.specs.Trees.Grants.{Listed, Budget}
use Rattle.tcl_core.specs.Trees.What.{Made, Dropped, Charged, Refused, Nested, In, Back}
use Rattle.tcl_core.specs.Trees.Move.{Born, Fall, Enter, Come}
use Rattle.tcl_core.specs.Programs.{Deed, spot, Act, Wrap, Wait, metered, blocked, is_spent, is_deep, Prog, Table, decide, opens}
use Rattle.tcl_core.specs.Programs.Act.{Charge}
use Rattle.tcl_core.specs.Programs.Wrap.{Deeper, Framed}
use Rattle.tcl_core.specs.Runs.{World, Step, Ending, Halts, Exits, Exiting, ends_call, height_of}
use Rattle.tcl_core.specs.Rules.{Derives}
use Rattle.tcl_core.specs.Rules.Derives.{completed, exited, acted, refused, unheard, went, passed, halted, wrapped, wrapped_passed, wrapped_halted, too_deep, shut, unheard_inside, called, called_passed, called_halted, unreached, called_out, unanswered, unfit, answered, heard, missed, answered_passed, entered, entered_halted, entered_exiting, born, fallen, unfound}
use Rattle.tcl_core.specs.Laws.{with_more, more_grants, MoreMoves}
use Rattle.tcl_core.proofs.PathLaws.{not_both}
use Rattle.tcl_core.proofs.RuleLaws.{derived_runs, runs_derived}

module _ {O : Type 0} where
  at_top_more : (p : Place) (m : Move O) (ms k : List (Move O)) → at_top p m ms ++ k ≡ at_top p m (ms ++ k)
  at_top_more [] m ms k = refl
  at_top_more (x ∷ p) m ms k = refl

  where_none_more : (o : Option Place) (m : Move O) (ms k : List (Move O)) → where_none o m ms ++ k ≡ where_none o m (ms ++ k)
  where_none_more None m ms k = refl
  where_none_more (Some z) m ms k = refl

  pub asked_more : (p : Place) (x : What O) (ms k : List (Move O)) → asked p x ms ++ k ≡ asked p x (ms ++ k)
  asked_more p (In h i) ms k = where_none_more (rise_to h p) (Enter p i) ms k
  asked_more p (Back h a) ms k = where_none_more (rise_to h p) (Come a) ms k
  asked_more p (Made o s) ms k = at_top_more p (Born o s) ms k
  asked_more p Dropped ms k = at_top_more p Fall ms k
  asked_more p _ ms k = refl

allowing_more : (m : Meter) (gs : Grants) (k : List Grant) → more_grants k (allowing m gs) ≡ allowing m (more_grants k gs)
allowing_more m (Listed gs) k = refl
allowing_more Count (Budget n) k = refl
allowing_more Depth (Budget n) k = refl

denied_more : (o : Option Place) (gs : Grants) (k : List Grant) → more_grants k (denied o gs) ≡ denied o (more_grants k gs)
denied_more None (Listed gs) k = refl
denied_more None (Budget n) k = refl
denied_more (Some z) gs k = refl

module _ {O : Type 0} where
  pub granted_more : (p : Place) (x : What O) (gs : Grants) (k : List Grant) → more_grants k (granted p x gs) ≡ granted p x (more_grants k gs)
  granted_more p (Refused m h) gs k = denied_more (rise_to h p) gs k
  granted_more p Charged gs k = allowing_more Count gs k
  granted_more p Nested gs k = allowing_more Depth gs k
  granted_more p _ gs k = refl

  metered_more : (m : Meter) (y : What O) (b : Option ℕ) (gs : Grants) (k : List Grant) (x : Deed O) → metered m y b gs ≡ Some x → metered m y b (more_grants k gs) ≡ Some x
  metered_more m y (Some n) gs k x e = e
  metered_more m y None (Listed []) k x e = absurd (not_both refl e)
  metered_more m y None (Listed (Allow ∷ gs)) k x e = e
  metered_more m y None (Listed (Deny ∷ gs)) k x e = e
  metered_more m y None (Budget n) k x e = e

  pub decide_more : (d : Act O) (T : Tree O) (p : Place) (gs : Grants) (k : List Grant) (x : Deed O) → decide d T p gs ≡ Some x → decide d T p (more_grants k gs) ≡ Some x
  decide_more Charge T p gs k x e = metered_more Count Charged (blocked is_spent T p) gs k x e
  decide_more _ T p gs k x e = e

  pub opens_more : (b : Wrap O) (T : Tree O) (p : Place) (gs : Grants) (k : List Grant) (x : Deed O) → opens b T p gs ≡ Some x → opens b T p (more_grants k gs) ≡ Some x
  opens_more Deeper T p gs k x e = metered_more Depth Nested (blocked is_deep T p) gs k x e
  opens_more (Framed o back) T p gs k x e = e

pub none_not : {A : Type 0} (r : Reply) → None ≡ Some r → A
none_not r e = absurd (no2 e)
  where
    no2 : None ≡ Some r → Prim.⊥
    no2 f = cc

module _ {O I : Type 0} (prog : Table O I) (m : List (Move O)) (more : List Grant) where
  abbrev big : World O → World O
  big w = with_more m more w

  step_more : (w : World O) (p : Place) (x : What O) (u : World O) → Step w p x u → Step (big w) p x (big u)
  step_more w p x u s = record { tape = s.tape; tree = s.tree; moves = ap (λ l. l ++ m) s.moves ∙ asked_more p x u.moves m; grants = ap (more_grants more) s.grants ∙ granted_more p x u.grants more }

  exits_more : (w : World O) (p : Place) (s : Wait) (n : ℤ) (ms : List (Move O)) (v : World O) (e : Ending) (r : Reply) → e ≡ Some r → Exits w p s n ms v e → Exits (big w) p s n (ms ++ m) (big v) e
  exits_more w p s n ms v e r f a = by ms a
    where
      halt : {A : Type 0} → Halts w v e → A
      halt x = none_not r (sym x.ending ∙ f)

      back : (l : Bool) → Exiting w p s n l v e → Exiting (big w) p s n l (big v) e
      back false x = halt x
      back true (x, y) = (step_more w p (Back (height_of s) (Replied (Exit n))) v x, y)

      by : (ms : List (Move O)) → Exits w p s n ms v e → Exits (big w) p s n (ms ++ m) (big v) e
      by [] x = halt x
      by (Come y ∷ ms) x = back (ends_call s n y) x
      by (Born o l ∷ ms) x = halt x
      by (Fall ∷ ms) x = halt x
      by (Enter u i ∷ ms) x = halt x

  derived_more : {w : World O} {p : Place} {x : Prog O I} {v : World O} {e : Ending} → Derives prog w p x v e → (r : Reply) → e ≡ Some r → Derives prog (big w) p x (big v) e
  derived_more (completed w p c) z q = completed (big w) p c
  derived_more (exited w p n) z q = exited (big w) p n
  derived_more (acted w p d k x u v e g on s a) z q = acted (big w) p d k x (big u) (big v) e (decide_more d w.tree p w.grants more x g) on (step_more w (spot p x.0) x.1 u s) (derived_more a z q)
  derived_more (refused w p d k x r u g off s) z q = refused (big w) p d k x r (big u) (decide_more d w.tree p w.grants more x g) off (step_more w (spot p x.0) x.1 u s)
  derived_more (unheard w p d k g t) z q = none_not z q
  derived_more (went w p i k u c v e a b) z q = went (big w) p i k (big u) c (big v) e (derived_more a _ refl) (derived_more b z q)
  derived_more (passed w p i k u r l a) z q = passed (big w) p i k (big u) r l (derived_more a r refl)
  derived_more (halted w p i k u a) z q = none_not z q
  derived_more (wrapped w p b i k x inner left closed v c e g on s a t d) z q =
      wrapped (big w) p b i k x (big inner) (big left) (big closed) (big v) c e (opens_more b w.tree p w.grants more x g) on (step_more w (spot p x.0) x.1 inner s) (derived_more a _ refl) (step_more left p _ closed t) (derived_more d z q)
  derived_more (wrapped_passed w p b i k x inner left closed r l g on s a t) z q =
      wrapped_passed (big w) p b i k x (big inner) (big left) (big closed) r l (opens_more b w.tree p w.grants more x g) on (step_more w (spot p x.0) x.1 inner s) (derived_more a r refl) (step_more left p _ closed t)
  derived_more (wrapped_halted w p b i k x inner left g on s a) z q = none_not z q
  derived_more (too_deep w p b i k x u v e g deep s a) z q = too_deep (big w) p b i k x (big u) (big v) e (opens_more b w.tree p w.grants more x g) deep (step_more w (spot p x.0) x.1 u s) (derived_more a z q)
  derived_more (shut w p b i k x r u g off s) z q = shut (big w) p b i k x r (big u) (opens_more b w.tree p w.grants more x g) off (step_more w (spot p x.0) x.1 u s)
  derived_more (unheard_inside w p b i k g t) z q = none_not z q
  derived_more (called w p h down i lost k a t out inner left told back v r c e f s1 g s2 x s3 y s4 b) z q =
      called (big w) p h down i lost k a t (big out) (big inner) (big left) (big told) (big back) (big v) r c e f (step_more w p _ out s1) g (step_more out t _ inner s2) (derived_more x r refl) (step_more left t _ told s3) y (step_more told p _ back s4) (derived_more b z q)
  derived_more (called_passed w p h down i lost k a t out inner left told back r f s1 g s2 x s3 l s4) z q =
      called_passed (big w) p h down i lost k a t (big out) (big inner) (big left) (big told) (big back) r f (step_more w p _ out s1) g (step_more out t _ inner s2) (derived_more x r refl) (step_more left t _ told s3) l (step_more told p _ back s4)
  derived_more (called_halted w p h down i lost k a t out inner left f s1 g s2 x) z q = none_not z q
  derived_more (unreached w p h down i lost k a out back v e f s1 g s2 x) z q = unreached (big w) p h down i lost k a (big out) (big back) (big v) e f (step_more w p _ out s1) g (step_more out p _ back s2) (derived_more x z q)
  derived_more (called_out w p h down i lost k u v e f s a) z q = called_out (big w) p h down i lost k (big u) (big v) e f (step_more w p _ u s) (derived_more a z q)
  derived_more (unanswered w p s k f g t) z q = none_not z q
  derived_more (unfit w p s k a ms f g h t) z q = none_not z q
  derived_more (answered w p s k c u v e f g t a) z q = answered (big w) p s k c (big u) (big v) e f g (step_more w p _ u t) (derived_more a z q)
  derived_more (heard w p s k y u v e f g t a) z q = heard (big w) p s k y (big u) (big v) e f g (step_more w p _ u t) (derived_more a z q)
  derived_more (missed w p s k u v e f g t a) z q = missed (big w) p s k (big u) (big v) e f g (step_more w p _ u t) (derived_more a z q)
  derived_more (answered_passed w p s k r u l f g t) z q = answered_passed (big w) p s k r (big u) l f g (step_more w p _ u t)
  derived_more (entered w p s k t i inner left told v r e f here s1 a s2 n b) z q =
      entered (big w) p s k t i (big inner) (big left) (big told) (big v) r e f here (step_more w t _ inner s1) (derived_more a r refl) (step_more left t _ told s2) n (derived_more b z q)
  derived_more (entered_halted w p s k t i inner left f here s1 a) z q = none_not z q
  derived_more (entered_exiting w p s k t i inner left told v n e f here s1 a s2 b) z q =
      entered_exiting (big w) p s k t i (big inner) (big left) (big told) (big v) n e f here (step_more w t _ inner s1) (derived_more a (Exit n) refl) (step_more left t _ told s2) (exits_more told p s n told.moves v e z q b)
  derived_more (born w p s k o b u v e f t a) z q = born (big w) p s k o b (big u) (big v) e f (step_more w [] _ u t) (derived_more a z q)
  derived_more (unfound w p s k t i u v e f here b a) z q = unfound (big w) p s k t i (big u) (big v) e f here (step_more w [] _ u b) (derived_more a z q)
  derived_more (fallen w p s k u v e f t a) z q = fallen (big w) p s k (big u) (big v) e f (step_more w [] _ u t) (derived_more a z q)

module _ {O I : Type 0} where
  pub more_moves : MoreMoves O I
  more_moves prog w p x v r ms gs a = derived_runs prog (derived_more prog ms gs (runs_derived prog w p x v (Some r) a) r refl)
