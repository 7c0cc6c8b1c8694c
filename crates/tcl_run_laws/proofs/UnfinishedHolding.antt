-- A host as the outside, with the call that is open to it: what it is told in order belongs to it.
use Rattle.std.proofs.Common.{◌≡◌, refl, sym, ◌∙◌, ap, subst, ℕ, List, [], ◌∷◌, ◌++◌, Some, None}
use Rattle.tcl_core.specs.Endings.Kind.{Gone}
use Rattle.tcl_core.specs.Endings.Reply.{Stop}
use Rattle.tcl_core.specs.Entries.{Answer, Entry}
use Rattle.tcl_core.specs.Entries.Answer.{Replied, Heard, Nobody}
use Rattle.tcl_core.specs.Entries.Entry.{AskHost}
use Rattle.tcl_core.specs.Lives.{comes, outs_of, put, told}
use Rattle.tcl_core.specs.Paths.{Path, Place, Height, rise_to}
use Rattle.tcl_core.specs.Programs.{Wait}
use Rattle.tcl_core.specs.Execution.{Chain, Open, calls_after, event, more, none}
use Rattle.tcl_core.specs.Trees.{Event, Move, Tree, What, asked, at_top, effect, where_none}
use Rattle.tcl_core.specs.Trees.What.{Made, Dropped, Out, In, Done, Back, Unfound}
use Rattle.tcl_core.specs.Trees.Move.{Born, Fall, Enter, Come}
use Rattle.tcl_partial_runs.specs.Beginnings.{IsUnrefused, Unrefused, handed}
use Rattle.tcl_run_laws.specs.Replies.{Belongs, over, served, untold, missed, missed_untold}
use Rattle.tcl_host.specs.declared.reply.HostReply.{HostReply as TheirReply}
use Rattle.tcl_host.specs.declared.request.Request.{Request as TheirRequest}
use Rattle.tcl_run.specs.Entering.{request_of}
use Rattle.tcl_run.specs.Outsides.{reply_of}
use Rattle.tcl_tree.specs.Own.{Own}
use Rattle.tcl_run_laws.proofs.Placed.{Placed}

-- the host as it stands, and the call past the top that is open
abbrev pub Holding : Type 0 → Type 0
Holding S = S × Wait

module _ {O : Type 0} where
  -- below the top the tree is neither made nor dropped
  not_top : (p : Place) (m : Move O) (ms : List (Move O)) → (p ≡ [] → Prim.⊥) → at_top p m ms ≡ ms
  not_top [] m ms f = absurd (f refl)
  not_top (x ∷ p) m ms f = refl

  -- what happens within the tree reads no move
  asked_placed : (p : Place) (x : What O) → Placed p x → (ms : List (Move O)) → asked p x ms ≡ ms
  asked_placed p (In h i) (a, e) ms = ap (λ o. where_none o (Enter p i) ms) e
  asked_placed p (Back h r) (a, e) ms = ap (λ o. where_none o (Come r) ms) e
  asked_placed p (Made o s) f ms = not_top p (Born o s) ms f
  asked_placed p Dropped f ms = not_top p Fall ms f
  asked_placed p (Unfound t i c) f ms = absurd f
  asked_placed p x f ms = refl

  -- and is not told
  told_placed : (p : Place) (x : What O) → Placed p x → (τ : List (Event O)) → told p x τ ≡ τ
  told_placed p (Out h down i) (a, e) τ = ap (λ o. put o p (Out h down i) τ) e
  told_placed p (Done h r) (a, e) τ = ap (λ o. put o p (Done h r) τ) e
  told_placed p (Unfound t i c) f τ = absurd f
  told_placed p x f τ = refl

module _ {S : Type 0} (step : S → TheirRequest → TheirReply → S → Type 0) where
  -- how the host goes, and the call that is open
  pub data Goes (w : Holding S) (p : Place) (x : What Own) (v : Holding S) : Type 0 where
    within : Placed p x → Unrefused x → v ≡ w → Goes w p x v
    asks : (h : Height) (down : Path) (i : Entry) (d : ℕ) → x ≡ Out h down i → rise_to h p ≡ None → w.1 ≡ None → v ≡ (w.0, Some (h, i, d)) → Goes w p x v
    hears : (request : TheirRequest) (reply : TheirReply) (d : ℕ) → x ≡ Back None (Heard (reply_of reply)) → w.1 ≡ Some (None, AskHost (request_of request), d) →
        step w.0 request reply v.0 → v.1 ≡ None → Goes w p x v
    hears_not : (request : TheirRequest) (reply : TheirReply) (d n : ℕ) → x ≡ Back None (Replied (Stop n Gone)) → w.1 ≡ Some (None, AskHost (request_of request), d) →
        step w.0 request reply v.0 → v.1 ≡ None → Goes w p x v
    misses : (n : ℕ) (i : Entry) (d : ℕ) → x ≡ Back (Some n) Nobody → rise_to (Some n) p ≡ None → w.1 ≡ Some (Some n, i, d) → v ≡ (w.0, None) → Goes w p x v
    misses_not : (n : ℕ) (i : Entry) (d l : ℕ) → x ≡ Back (Some n) (Replied (Stop l Gone)) → rise_to (Some n) p ≡ None → w.1 ≡ Some (Some n, i, d) → v ≡ (w.0, None) → Goes w p x v

  abbrev pub keeps_call : Tree Own → Holding S → Wait → Event Own → Holding S → Type 0
  keeps_call T w s ev v = Goes w ev.place ev.what v

  -- what belongs to the host where this call is open
  abbrev pub From : Wait → S → List (Event Own) → List Answer → S → Type 0
  From None o outs B z = Belongs step o outs B z
  From (Some c) o outs B z = (p : Place) (down : Path) → Belongs step o (event p (Out c.0 down c.1) ∷ outs) B z

  -- the same of the host as it stands
  abbrev From_now : Holding S → List (Event Own) → List Answer → S → Type 0
  From_now w outs B z = From w.1 w.0 outs B z

  -- What these happenings read are replies alone, which belong to the host; and it refuses nothing.
  pub record Hosts (w : Holding S) (τ : List (Event Own)) (z : S) : Type 0 where
    pub replies : List Answer
    pub moves : (more : List Answer) → handed τ (comes more) ≡ comes (replies ++ more)
    pub belongs : From_now w (outs_of τ) replies z
    pub calm : IsUnrefused τ

  -- first something within the tree
  within_one : (w v : Holding S) (p : Place) (x : What Own) (τ : List (Event Own)) (z : S) → Placed p x → Unrefused x → v ≡ w → Hosts v τ z → Hosts w (event p x ∷ τ) z
  within_one w v p x τ z f c e h = record {
    replies = h.replies;
    moves = λ more. asked_placed p x f (handed τ (comes more)) ∙ h.moves more;
    belongs = subst (λ outs. From_now w outs h.replies z) (sym (told_placed p x f (outs_of τ))) (subst (λ u. From_now u (outs_of τ) h.replies z) e h.belongs);
    calm = (c, h.calm);
  }

  -- first a call past the top
  asks_one : (w v : Holding S) (p : Place) (h : Height) (down : Path) (i : Entry) (d : ℕ) (τ : List (Event Own)) (z : S) → rise_to h p ≡ None → w.1 ≡ None → v ≡ (w.0, Some (h, i, d)) →
      Hosts v τ z → Hosts w (event p (Out h down i) ∷ τ) z
  asks_one w v p h down i d τ z past idle e g =
      let open_now : From (Some (h, i, d)) w.0 (outs_of τ) g.replies z = subst (λ u. From_now u (outs_of τ) g.replies z) e g.belongs in
      let outs : outs_of (event p (Out h down i) ∷ τ) ≡ event p (Out h down i) ∷ outs_of τ = ap (λ o. put o p (Out h down i) (outs_of τ)) past in
      record {
        replies = g.replies;
        moves = g.moves;
        belongs = subst (λ c. From c w.0 (outs_of (event p (Out h down i) ∷ τ)) g.replies z) (sym idle) (subst (λ l. Belongs step w.0 l g.replies z) (sym outs) (open_now p down));
        calm = (tt, g.calm);
      }

  -- first the answer to the open call
  answers_one : (w v : Holding S) (p : Place) (c : Height × Entry × ℕ) (a : Answer) (τ : List (Event Own)) (z : S) → rise_to c.0 p ≡ None → w.1 ≡ Some c → v.1 ≡ None →
      ((B : List Answer) → Belongs step v.0 (outs_of τ) B z → (q : Place) (down : Path) → Belongs step w.0 (event q (Out c.0 down c.1) ∷ outs_of τ) (a ∷ B) z) →
      Hosts v τ z → Hosts w (event p (Back c.0 a) ∷ τ) z
  answers_one w v p c a τ z past is_open idle f g =
      let later : Belongs step v.0 (outs_of τ) g.replies z = subst (λ s. From s v.0 (outs_of τ) g.replies z) idle g.belongs in
      record {
        replies = a ∷ g.replies;
        moves = λ more. ap (λ o. where_none o (Come a) (handed τ (comes more))) past ∙ ap (λ ms. Come a ∷ ms) (g.moves more);
        belongs = subst (λ s. From s w.0 (outs_of τ) (a ∷ g.replies) z) (sym is_open) (f g.replies later);
        calm = (tt, g.calm);
      }

  -- where nothing is asked of the host, it stays as it is
  as_it_was : (w v : Holding S) (outs : List (Event Own)) (B : List Answer) (z : S) → v ≡ (w.0, None) → Belongs step v.0 outs B z → Belongs step w.0 outs B z
  as_it_was w v outs B z e b = subst (λ (u : Holding S). Belongs step u.0 outs B z) e b

  -- first any of these
  one : (w v : Holding S) (p : Place) (x : What Own) (τ : List (Event Own)) (z : S) → Goes w p x v → Hosts v τ z → Hosts w (event p x ∷ τ) z
  one w v p x τ z (within f c e) g = within_one w v p x τ z f c e g
  one w v p x τ z (asks h down i d e past idle is) g = subst (λ y. Hosts w (event p y ∷ τ) z) (sym e) (asks_one w v p h down i d τ z past idle is g)
  one w v p x τ z (hears request reply d e is_open s idle) g =
      subst (λ y. Hosts w (event p y ∷ τ) z) (sym e) (answers_one w v p (None, AskHost (request_of request), d) (Heard (reply_of reply)) τ z refl is_open idle (λ B b q down. served request reply refl s b) g)
  one w v p x τ z (hears_not request reply d n e is_open s idle) g =
      subst (λ y. Hosts w (event p y ∷ τ) z) (sym e) (answers_one w v p (None, AskHost (request_of request), d) (Replied (Stop n Gone)) τ z refl is_open idle (λ B b q down. untold request reply n refl s b) g)
  one w v p x τ z (misses n i d e past is_open is) g =
      subst (λ y. Hosts w (event p y ∷ τ) z) (sym e) (answers_one w v p (Some n, i, d) Nobody τ z past is_open (ap (λ (u : Holding S). u.1) is) (λ B b q down. missed (as_it_was w v (outs_of τ) B z is b)) g)
  one w v p x τ z (misses_not n i d l e past is_open is) g =
      subst (λ y. Hosts w (event p y ∷ τ) z) (sym e) (answers_one w v p (Some n, i, d) (Replied (Stop l Gone)) τ z past is_open (ap (λ (u : Holding S). u.1) is) (λ B b q down. missed_untold l (as_it_was w v (outs_of τ) B z is b)) g)

  -- What such a host goes through, up to where no call is open to it.
  pub hosts : {cs ds : Open} (T V : Tree Own) (w v : Holding S) (τ : List (Event Own)) → Chain keeps_call cs T w τ ds V v → v.1 ≡ None → Hosts w τ v.0
  hosts T V w v [] none idle = record {
    replies = [];
    moves = λ more. refl;
    belongs = subst (λ c. From c w.0 [] [] w.0) (sym idle) over;
    calm = tt;
  }
  hosts {cs = cs} {ds = ds} T V w v (ev ∷ τ) (more {u = u} a rest) idle = one w u ev.place ev.what τ v.0 a (hosts {cs = calls_after T ev.place ev.what cs} {ds = ds} (effect ev.place ev.what T) V u v τ rest idle)
