-- The laws of boundaries.
use Rattle.std.proofs.Common.{◌≡◌, List, [], ◌∷◌, ◌++◌, Option, Some, None, refl, sym, ◌∙◌, ap, append-nil}
use Rattle.tcl_core.specs.Endings.{Reply}
use Rattle.tcl_core.specs.Endings.Reply.{Completed}
use Rattle.tcl_core.specs.Entries.{Answer, Entry}
use Rattle.tcl_core.specs.Lives.{outs_of, put, told}
use Rattle.tcl_core.specs.Execution.{event}
use Rattle.tcl_core.specs.Paths.{Path, Place, Height, strip, rise_to}
use Rattle.tcl_core.specs.Trees.{Event, Move, What, asked, at_top, where_none, seen_what}
use Rattle.tcl_core.specs.Trees.Move.{Enter, Come, Born, Fall}
use Rattle.tcl_core.specs.Trees.What.{Out, In, Done, Back, Made, Dropped, Unfound}
use Rattle.tcl_core.specs.Views.{from_above, kept, moves_of, view}
use Rattle.tcl_core.proofs.PathLaws.{rise_to_out, rise_to_past, rise_to_within, strip-sound, strip_own}
use Rattle.tcl_recorder.specs.Boundary.{at_passing, back_seen, beyond, boundary, done_seen, in_seen, out_seen, passing, passing_by, past, past_the_top}
use Rattle.tcl_recorder.specs.Laws.{IsNoCrossing, OneEnd, apart_by, handed_over, one_end}
use Rattle.tcl_recorder.proofs.Boundaries.{boundary_back, boundary_done, boundary_in, boundary_out}

module _ {O : Type 0} where
  -- ## In order

  put_append : (o : Option Place) (p : Place) (x : What O) (σ τ : List (Event O)) → put o p x (σ ++ τ) ≡ put o p x σ ++ τ
  put_append None p x σ τ = refl
  put_append (Some a) p x σ τ = refl

  past_append : (p : Place) (x : What O) (σ τ : List (Event O)) → past p x (σ ++ τ) ≡ past p x σ ++ τ
  past_append p (Out h down i) σ τ = put_append (rise_to h p) p _ σ τ
  past_append p (Back h a) σ τ = put_append (rise_to h p) p _ σ τ
  past_append p (In h i) σ τ = put_append (rise_to h p) p _ σ τ
  past_append p (Done h r) σ τ = put_append (rise_to h p) p _ σ τ
  past_append p _ σ τ = refl

  pub past_the_top_append : (σ τ : List (Event O)) → past_the_top (σ ++ τ) ≡ past_the_top σ ++ past_the_top τ
  past_the_top_append [] τ = refl
  past_the_top_append (ev ∷ σ) τ = ap (past ev.place ev.what) (past_the_top_append σ τ) ∙ past_append ev.place ev.what (past_the_top σ) (past_the_top τ)

  from_above_append : (b : Option Place) (x : What O) (σ τ : List (Event O)) → from_above b x (σ ++ τ) ≡ from_above b x σ ++ τ
  from_above_append None x σ τ = refl
  from_above_append (Some z) Dropped σ τ = refl
  from_above_append (Some z) _ σ τ = refl

  kept_append : (a b : Option Place) (x : What O) (σ τ : List (Event O)) → kept a b x (σ ++ τ) ≡ kept a b x σ ++ τ
  kept_append None b x σ τ = from_above_append b x σ τ
  kept_append (Some q) b x σ τ = refl

  pub view_append : (c : Place) (σ τ : List (Event O)) → view c (σ ++ τ) ≡ view c σ ++ view c τ
  view_append c [] τ = refl
  view_append c (ev ∷ σ) τ = ap (kept (strip c ev.place) (strip ev.place c) ev.what) (view_append c σ τ) ∙ kept_append (strip c ev.place) (strip ev.place c) ev.what (view c σ) (view c τ)

  pub boundary_append : (c : Place) (σ τ : List (Event O)) → boundary c (σ ++ τ) ≡ boundary c σ ++ boundary c τ
  boundary_append c σ τ = ap past_the_top (view_append c σ τ) ∙ past_the_top_append (view c σ) (view c τ)

  -- ## What is no crossing

  unpassed : (p : Place) (x : What O) (τ : List (Event O)) → IsNoCrossing x → past p (seen_what p x) τ ≡ τ
  unpassed p (Out h down i) τ f = elim f [ ]
  unpassed p (Back h a) τ f = elim f [ ]
  unpassed p (In h i) τ f = elim f [ ]
  unpassed p (Done h r) τ f = elim f [ ]
  unpassed p (Unfound t i c) τ f = elim f [ ]
  unpassed p _ τ f = refl

  unpassed_above : (b : Option Place) (x : What O) (τ : List (Event O)) → past_the_top (from_above b x τ) ≡ past_the_top τ
  unpassed_above None x τ = refl
  unpassed_above (Some z) Dropped τ = refl
  unpassed_above (Some z) _ τ = refl

  no_crossing_by : (a b : Option Place) (x : What O) (τ : List (Event O)) → IsNoCrossing x → past_the_top (kept a b x τ) ≡ past_the_top τ
  no_crossing_by None b x τ f = unpassed_above b x τ
  no_crossing_by (Some q) b x τ f = unpassed q x (past_the_top τ) f

  pub no_crossing : (c : Place) (ev : Event O) (τ : List (Event O)) → IsNoCrossing ev.what → boundary c (ev ∷ τ) ≡ boundary c τ
  no_crossing c ev τ f = no_crossing_by (strip c ev.place) (strip ev.place c) ev.what (view c τ) f

  -- and so is a deletion, at the end
  pub boundary_drop : (c : Place) (σ : List (Event O)) (d : Place) → boundary c (σ ++ event d Dropped ∷ []) ≡ boundary c σ
  boundary_drop c σ d = boundary_append c σ (event d Dropped ∷ []) ∙ ap (λ l. boundary c σ ++ l) (no_crossing c (event d Dropped) [] tt) ∙ append-nil (boundary c σ)

  -- ## What is handed over, and told

  entered_one : (o : Option Place) (p : Place) (h : Height) (i : Entry) (σ : List (Event O)) (ms : List (Move O)) → rise_to h p ≡ o → moves_of σ ≡ handed_over ms →
      moves_of (put o p (In h i) σ) ≡ handed_over (where_none o (Enter p i) ms)
  entered_one None p h i σ ms e f = ap (λ o. where_none o (Enter p i) (moves_of σ)) e ∙ ap (λ l. Enter p i ∷ l) f
  entered_one (Some a) p h i σ ms e f = f

  come_one : (o : Option Place) (p : Place) (h : Height) (a : Answer) (σ : List (Event O)) (ms : List (Move O)) → rise_to h p ≡ o → moves_of σ ≡ handed_over ms →
      moves_of (put o p (Back h a) σ) ≡ handed_over (where_none o (Come a) ms)
  come_one None p h a σ ms e f = ap (λ o. where_none o (Come a) (moves_of σ)) e ∙ ap (λ l. Come a ∷ l) f
  come_one (Some b) p h a σ ms e f = f

  unread_out : (o : Option Place) (p : Place) (h : Height) (down : Path) (i : Entry) (σ : List (Event O)) → moves_of (put o p (Out h down i) σ) ≡ moves_of σ
  unread_out None p h down i σ = refl
  unread_out (Some a) p h down i σ = refl

  unread_done : (o : Option Place) (p : Place) (h : Height) (r : Reply) (σ : List (Event O)) → moves_of (put o p (Done h r) σ) ≡ moves_of σ
  unread_done None p h r σ = refl
  unread_done (Some a) p h r σ = refl

  born_one : (p : Path) (m : Move O) (ms : List (Move O)) → handed_over (m ∷ ms) ≡ handed_over ms → handed_over (at_top p m ms) ≡ handed_over ms
  born_one [] m ms e = e
  born_one (x ∷ p) m ms e = refl

  moves_one : (p : Place) (x : What O) (σ : List (Event O)) (ms : List (Move O)) → moves_of σ ≡ handed_over ms → moves_of (past p x σ) ≡ handed_over (asked p x ms)
  moves_one p (Out h down i) σ ms e = unread_out (rise_to h p) p h down i σ ∙ e
  moves_one p (Back h a) σ ms e = come_one (rise_to h p) p h a σ ms refl e
  moves_one p (In h i) σ ms e = entered_one (rise_to h p) p h i σ ms refl e
  moves_one p (Done h r) σ ms e = unread_done (rise_to h p) p h r σ ∙ e
  moves_one p (Made o s) σ ms e = e ∙ sym (born_one p (Born o s) ms refl)
  moves_one p Dropped σ ms e = e ∙ sym (born_one p Fall ms refl)
  moves_one p (Unfound t i c) σ ms e = ap (λ l. Enter t i ∷ l) e
  moves_one p _ σ ms e = e

  moves_past : (τ : List (Event O)) → moves_of (past_the_top τ) ≡ handed_over (moves_of τ)
  moves_past [] = refl
  moves_past (ev ∷ τ) = moves_one ev.place ev.what (past_the_top τ) (moves_of τ) (moves_past τ)

  pub boundary_moves : (c : Place) (τ : List (Event O)) → moves_of (boundary c τ) ≡ handed_over (moves_of (view c τ))
  boundary_moves c τ = moves_past (view c τ)

  told_out : (o : Option Place) (p : Place) (h : Height) (down : Path) (i : Entry) (σ : List (Event O)) → rise_to h p ≡ o → outs_of (put o p (Out h down i) σ) ≡ put o p (Out h down i) (outs_of σ)
  told_out None p h down i σ e = ap (λ o. put o p (Out h down i) (outs_of σ)) e
  told_out (Some a) p h down i σ e = refl

  told_done : (o : Option Place) (p : Place) (h : Height) (r : Reply) (σ : List (Event O)) → rise_to h p ≡ o → outs_of (put o p (Done h r) σ) ≡ put o p (Done h r) (outs_of σ)
  told_done None p h r σ e = ap (λ o. put o p (Done h r) (outs_of σ)) e
  told_done (Some a) p h r σ e = refl

  untold_in : (o : Option Place) (p : Place) (h : Height) (i : Entry) (σ : List (Event O)) → outs_of (put o p (In h i) σ) ≡ outs_of σ
  untold_in None p h i σ = refl
  untold_in (Some a) p h i σ = refl

  untold_back : (o : Option Place) (p : Place) (h : Height) (a : Answer) (σ : List (Event O)) → outs_of (put o p (Back h a) σ) ≡ outs_of σ
  untold_back None p h a σ = refl
  untold_back (Some b) p h a σ = refl

  outs_one : (p : Place) (x : What O) (σ τ : List (Event O)) → outs_of σ ≡ outs_of τ → outs_of (past p x σ) ≡ told p x (outs_of τ)
  outs_one p (Out h down i) σ τ e = told_out (rise_to h p) p h down i σ refl ∙ ap (put (rise_to h p) p (Out h down i)) e
  outs_one p (Done h r) σ τ e = told_done (rise_to h p) p h r σ refl ∙ ap (put (rise_to h p) p (Done h r)) e
  outs_one p (In h i) σ τ e = untold_in (rise_to h p) p h i σ ∙ e
  outs_one p (Back h a) σ τ e = untold_back (rise_to h p) p h a σ ∙ e
  outs_one p (Unfound t i c) σ τ e = ap (λ l. event t (Done None (Completed c)) ∷ l) e
  outs_one p _ σ τ e = e

  outs_past : (τ : List (Event O)) → outs_of (past_the_top τ) ≡ outs_of τ
  outs_past [] = refl
  outs_past (ev ∷ τ) = outs_one ev.place ev.what (past_the_top τ) τ (outs_past τ)

  pub boundary_outs : (c : Place) (τ : List (Event O)) → outs_of (boundary c τ) ≡ outs_of (view c τ)
  boundary_outs c τ = outs_past (view c τ)

-- ## One end

-- a way leaves the subtree just where its far end isn't in it
pub passing_ends : (c p : Place) (h : Height) → passing c p h ≡ one_end c p (rise_to h p)
passing_ends c p h = by (strip c p) (rise_to h p) refl refl
  where
    within : (q b : Path) (a : Place) → p ≡ c ++ q → rise_to h p ≡ Some a → rise_to h q ≡ Some b → strip c a ≡ Some b
    within q b a at e f =
        let up : Some a ≡ Some (c ++ b) = sym e ∙ ap (rise_to h) at ∙ rise_to_within c q h b f in
        let same : a ≡ c ++ b = cc in
        ap (strip c) same ∙ strip_own c b

    without : (q : Path) (a : Place) → p ≡ c ++ q → rise_to h p ≡ Some a → rise_to h q ≡ None → strip c a ≡ None
    without q a at e f = rise_to_out c q h a f (sym (ap (rise_to h) at) ∙ e)

    far : (q : Path) (a : Place) (o : Option Place) → p ≡ c ++ q → rise_to h p ≡ Some a → rise_to h q ≡ o → beyond o q ≡ apart_by (Some q) (strip c a)
    far q a None at e f = sym (ap (apart_by (Some q)) (without q a at e f))
    far q a (Some b) at e f = sym (ap (apart_by (Some q)) (within q b a at e f))

    by : (s o : Option Place) → strip c p ≡ s → rise_to h p ≡ o → passing_by (strip c p) h ≡ one_end c p o
    by None None e f = ap (λ z. passing_by z h) e ∙ sym e
    by None (Some a) e f = ap (λ z. passing_by z h) e ∙ sym (ap (λ z. apart_by z (strip c a)) e)
    by (Some q) None e f =
        let at = strip-sound c p q e in
        ap (λ z. passing_by z h) e ∙ ap (λ o. beyond o q) (rise_to_past c q h (sym (ap (rise_to h) at) ∙ f)) ∙ sym e
    by (Some q) (Some a) e f = ap (λ z. passing_by z h) e ∙ far q a (rise_to h q) (strip-sound c p q e) f refl ∙ sym (ap (λ z. apart_by z (strip c a)) e)

pub ends : (O : Type 0) → OneEnd O
ends O = record {
  out = λ c p h down i τ. boundary_out c p h down i τ ∙ ap (λ o. at_passing o (out_seen h down i) (boundary c τ)) (passing_ends c p h);
  back = λ c p h a τ. boundary_back c p h a τ ∙ ap (λ o. at_passing o (back_seen h a) (boundary c τ)) (passing_ends c p h);
  enters = λ c p h i τ. boundary_in c p h i τ ∙ ap (λ o. at_passing o (in_seen i) (boundary c τ)) (passing_ends c p h);
  leaves = λ c p h r τ. boundary_done c p h r τ ∙ ap (λ o. at_passing o (done_seen r) (boundary c τ)) (passing_ends c p h);
  unfound = λ t i x τ. refl;
  unseen = λ name c t i x τ. refl;
}
