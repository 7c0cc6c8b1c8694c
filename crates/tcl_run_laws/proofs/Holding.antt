-- A host as the outside, with the call that is open to it: what it is told in order belongs to it.
use Rattle.std.proofs.Common.{◌≡◌, refl, sym, ◌∙◌, ap, subst, ℕ, List, [], ◌∷◌, Some, None}
use Rattle.tcl_core.specs.Endings.{Reply}
use Rattle.tcl_core.specs.Endings.Kind.{Gone}
use Rattle.tcl_core.specs.Endings.Reply.{Completed, Stop, Exit, Cut}
use Rattle.tcl_core.specs.Entries.{Answer, Entry}
use Rattle.tcl_core.specs.Entries.Answer.{Replied, Heard, Nobody}
use Rattle.tcl_core.specs.Entries.Entry.{AskHost}
use Rattle.tcl_core.specs.Laws.{IsSpared, IsLowering}
use Rattle.tcl_core.specs.Lives.{IsUncut, Uncut, comes, outs_of, put}
use Rattle.tcl_core.specs.Paths.{Path, Place, Height, rise_to}
use Rattle.tcl_core.specs.Programs.{Wait}
use Rattle.tcl_core.specs.Execution.{Chain, Open, calls_after, event, more, none}
use Rattle.tcl_core.specs.Trees.{Event, Tree, What, where_none, effect}
use Rattle.tcl_core.specs.Trees.What.{Out, Done, Back}
use Rattle.tcl_core.specs.Trees.Move.{Come}
use Rattle.tcl_core.specs.Views.{moves_of}
use Rattle.tcl_core.proofs.Unended.{NotCut}
use Rattle.tcl_run_laws.specs.Replies.{Belongs, over, ended, served, untold, missed, missed_untold}
use Rattle.tcl_host.specs.declared.reply.HostReply.{HostReply as TheirReply}
use Rattle.tcl_host.specs.declared.request.Request.{Request as TheirRequest}
use Rattle.tcl_run.specs.Entering.{request_of}
use Rattle.tcl_run.specs.Outsides.{reply_of}
use Rattle.tcl_tree.specs.Own.{Own}
use Rattle.tcl_run_laws.proofs.Nearness.{Near, asked_near, told_near, uncut_near, spares_near, lowers_near}

-- the host as it stands, and the call past the top that is open
pub record Holding (S : Type 0) : Type 0 where
  pub state : S
  pub open_call : Wait

abbrev pub holding : {S : Type 0} → S → Wait → Holding S
holding o c = record { state = o; open_call = c }

module _ {S : Type 0} (step : S → TheirRequest → TheirReply → S → Type 0) where
  -- how the host goes, and the call that is open
  pub data Goes (w : Holding S) (p : Place) (x : What Own) (v : Holding S) : Type 0 where
    within : Near p x → v ≡ w → Goes w p x v
    asks : (h : Height) (down : Path) (i : Entry) (d : ℕ) → x ≡ Out h down i → rise_to h p ≡ None → w.open_call ≡ None → v ≡ holding w.state (Some (h, i, d)) → Goes w p x v
    hears : (request : TheirRequest) (reply : TheirReply) (d : ℕ) → x ≡ Back None (Heard (reply_of reply)) → w.open_call ≡ Some (None, AskHost (request_of request), d) →
        step w.state request reply v.state → v.open_call ≡ None → Goes w p x v
    hears_not : (request : TheirRequest) (reply : TheirReply) (d n : ℕ) → x ≡ Back None (Replied (Stop n Gone)) → w.open_call ≡ Some (None, AskHost (request_of request), d) →
        step w.state request reply v.state → v.open_call ≡ None → Goes w p x v
    misses : (n : ℕ) (i : Entry) (d : ℕ) → x ≡ Back (Some n) Nobody → rise_to (Some n) p ≡ None → w.open_call ≡ Some (Some n, i, d) → v ≡ holding w.state None → Goes w p x v
    misses_not : (n : ℕ) (i : Entry) (d l : ℕ) → x ≡ Back (Some n) (Replied (Stop l Gone)) → rise_to (Some n) p ≡ None → w.open_call ≡ Some (Some n, i, d) → v ≡ holding w.state None → Goes w p x v
    ends : (h : Height) (r : Reply) → x ≡ Done h r → rise_to h p ≡ None → NotCut r → w.open_call ≡ None → v ≡ w → Goes w p x v

  abbrev pub keeps_call : Tree Own → Holding S → Wait → Event Own → Holding S → Type 0
  keeps_call T w s ev v = Goes w ev.place ev.what v

  -- what belongs to the host where this call is open
  abbrev pub From : Wait → S → List (Event Own) → List Answer → S → Type 0
  From None o outs B z = Belongs step o outs B z
  From (Some c) o outs B z = (p : Place) (down : Path) → Belongs step o (event p (Out c.0 down c.1) ∷ outs) B z

  pub record Hosts (w : Holding S) (τ : List (Event Own)) (z : S) : Type 0 where
    pub replies : List Answer
    pub moves : moves_of τ ≡ comes replies
    pub belongs : From w.open_call w.state (outs_of τ) replies z
    pub uncut : IsUncut τ
    pub spared : IsSpared [] τ
    pub lowering : (l : ℕ) → IsLowering l [] τ

  within_one : (w v : Holding S) (p : Place) (x : What Own) (τ : List (Event Own)) (z : S) → Near p x → v ≡ w → Hosts v τ z → Hosts w (event p x ∷ τ) z
  within_one w v p x τ z f e h = record {
    replies = h.replies;
    moves = asked_near p x f (moves_of τ) ∙ h.moves;
    belongs = subst (λ outs. From w.open_call w.state outs h.replies z) (sym (told_near p x f (outs_of τ))) (subst (λ (u : Holding S). From u.open_call u.state (outs_of τ) h.replies z) e h.belongs);
    uncut = (uncut_near p x f, h.uncut);
    spared = (spares_near p x f, h.spared);
    lowering = λ l. (lowers_near p x f l, h.lowering l);
  }

  asks_one : (w v : Holding S) (p : Place) (h : Height) (down : Path) (i : Entry) (d : ℕ) (τ : List (Event Own)) (z : S) → rise_to h p ≡ None → w.open_call ≡ None → v ≡ holding w.state (Some (h, i, d)) →
      Hosts v τ z → Hosts w (event p (Out h down i) ∷ τ) z
  asks_one w v p h down i d τ z past idle e g =
      let open_now : From (Some (h, i, d)) w.state (outs_of τ) g.replies z = subst (λ (u : Holding S). From u.open_call u.state (outs_of τ) g.replies z) e g.belongs in
      let outs : outs_of (event p (Out h down i) ∷ τ) ≡ event p (Out h down i) ∷ outs_of τ = ap (λ o. put o p (Out h down i) (outs_of τ)) past in
      record {
        replies = g.replies;
        moves = g.moves;
        belongs = subst (λ c. From c w.state (outs_of (event p (Out h down i) ∷ τ)) g.replies z) (sym idle) (subst (λ l. Belongs step w.state l g.replies z) (sym outs) (open_now p down));
        uncut = (tt, g.uncut);
        spared = (tt, g.spared);
        lowering = λ l. (tt, g.lowering l);
      }

  -- first the answer to the open call
  answers_one : (w v : Holding S) (p : Place) (c : Height × Entry × ℕ) (a : Answer) (τ : List (Event Own)) (z : S) → rise_to c.0 p ≡ None → w.open_call ≡ Some c → v.open_call ≡ None → Uncut {O = Own} p (Back c.0 a) →
      ((B : List Answer) → Belongs step v.state (outs_of τ) B z → (q : Place) (down : Path) → Belongs step w.state (event q (Out c.0 down c.1) ∷ outs_of τ) (a ∷ B) z) →
      Hosts v τ z → Hosts w (event p (Back c.0 a) ∷ τ) z
  answers_one w v p c a τ z past is_open idle uncut f g =
      let later : Belongs step v.state (outs_of τ) g.replies z = subst (λ s. From s v.state (outs_of τ) g.replies z) idle g.belongs in
      record {
        replies = a ∷ g.replies;
        moves = ap (λ o. where_none o (Come a) (moves_of τ)) past ∙ ap (λ ms. Come a ∷ ms) g.moves;
        belongs = subst (λ s. From s w.state (outs_of τ) (a ∷ g.replies) z) (sym is_open) (f g.replies later);
        uncut = (uncut, g.uncut);
        spared = (tt, g.spared);
        lowering = λ l. (tt, g.lowering l);
      }

  -- where nothing is asked of the host, it stays as it is
  as_it_was : (w v : Holding S) (outs : List (Event Own)) (B : List Answer) (z : S) → v ≡ holding w.state None → Belongs step v.state outs B z → Belongs step w.state outs B z
  as_it_was w v outs B z e b = subst (λ (u : Holding S). Belongs step u.state outs B z) e b

  done_uncut : (p : Place) (h : Height) (r : Reply) → NotCut r → Uncut {O = Own} p (Done h r)
  done_uncut p h (Completed c) f = tt
  done_uncut p h (Stop n m) f = tt
  done_uncut p h (Exit n) f = tt
  done_uncut p h (Cut c) f = absurd f

  ends_one : (w v : Holding S) (p : Place) (h : Height) (r : Reply) (τ : List (Event Own)) (z : S) → rise_to h p ≡ None → NotCut r → w.open_call ≡ None → v ≡ w →
      Hosts v τ z → Hosts w (event p (Done h r) ∷ τ) z
  ends_one w v p h r τ z past f idle e g =
      let later : Belongs step w.state (outs_of τ) g.replies z = subst (λ c. From c w.state (outs_of τ) g.replies z) idle (subst (λ (u : Holding S). From u.open_call u.state (outs_of τ) g.replies z) e g.belongs) in
      let outs : outs_of (event p (Done h r) ∷ τ) ≡ event p (Done h r) ∷ outs_of τ = ap (λ o. put o p (Done h r) (outs_of τ)) past in
      record {
        replies = g.replies;
        moves = g.moves;
        belongs = subst (λ c. From c w.state (outs_of (event p (Done h r) ∷ τ)) g.replies z) (sym idle) (subst (λ l. Belongs step w.state l g.replies z) (sym outs) (ended later));
        uncut = (done_uncut p h r f, g.uncut);
        spared = (tt, g.spared);
        lowering = λ l. (tt, g.lowering l);
      }

  one : (w v : Holding S) (p : Place) (x : What Own) (τ : List (Event Own)) (z : S) → Goes w p x v → Hosts v τ z → Hosts w (event p x ∷ τ) z
  one w v p x τ z (within f e) g = within_one w v p x τ z f e g
  one w v p x τ z (asks h down i d e past idle is) g = subst (λ y. Hosts w (event p y ∷ τ) z) (sym e) (asks_one w v p h down i d τ z past idle is g)
  one w v p x τ z (hears request reply d e is_open s idle) g =
      subst (λ y. Hosts w (event p y ∷ τ) z) (sym e) (answers_one w v p (None, AskHost (request_of request), d) (Heard (reply_of reply)) τ z refl is_open idle tt (λ B b q down. served request reply refl s b) g)
  one w v p x τ z (hears_not request reply d n e is_open s idle) g =
      subst (λ y. Hosts w (event p y ∷ τ) z) (sym e) (answers_one w v p (None, AskHost (request_of request), d) (Replied (Stop n Gone)) τ z refl is_open idle tt (λ B b q down. untold request reply n refl s b) g)
  one w v p x τ z (misses n i d e past is_open is) g =
      subst (λ y. Hosts w (event p y ∷ τ) z) (sym e) (answers_one w v p (Some n, i, d) Nobody τ z past is_open (ap (λ (u : Holding S). u.open_call) is) tt (λ B b q down. missed (as_it_was w v (outs_of τ) B z is b)) g)
  one w v p x τ z (misses_not n i d l e past is_open is) g =
      subst (λ y. Hosts w (event p y ∷ τ) z) (sym e) (answers_one w v p (Some n, i, d) (Replied (Stop l Gone)) τ z past is_open (ap (λ (u : Holding S). u.open_call) is) tt (λ B b q down. missed_untold l (as_it_was w v (outs_of τ) B z is b)) g)
  one w v p x τ z (ends h r e past f idle is) g = subst (λ y. Hosts w (event p y ∷ τ) z) (sym e) (ends_one w v p h r τ z past f idle is g)

  -- What such a host goes through reads its replies alone, which belong to it.
  pub hosts : {cs ds : Open} (T V : Tree Own) (w v : Holding S) (τ : List (Event Own)) → Chain keeps_call cs T w τ ds V v → v.open_call ≡ None → Hosts w τ v.state
  hosts T V w v [] none idle = record {
    replies = [];
    moves = refl;
    belongs = subst (λ c. From c w.state [] [] w.state) (sym idle) over;
    uncut = tt;
    spared = tt;
    lowering = λ l. tt;
  }
  hosts {cs = cs} {ds = ds} T V w v (ev ∷ τ) (more {u = u} a rest) idle = one w u ev.place ev.what τ v.state a (hosts {cs = calls_after T ev.place ev.what cs} {ds = ds} (effect ev.place ev.what T) V u v τ rest idle)
