-- Where control goes, as the boundary tells it.
use Rattle.std.proofs.Common.{◌≡◌, List, [], ◌∷◌, Option, Some, None, refl, sym, ◌∙◌, ap}
use Rattle.tcl_core.specs.Endings.{Reply}
use Rattle.tcl_core.specs.Endings.Reply.{Completed}
use Rattle.tcl_core.specs.Entries.{Entry}
use Rattle.tcl_core.specs.Laws.{NoLeaving, Turn, comes_in, goes_out, life_at, turn, turn_at}
use Rattle.tcl_core.specs.Laws.Turn.{Enters, Leaves, Inside, Elsewhere}
use Rattle.tcl_core.specs.Lives.{outs_of, put, told}
use Rattle.tcl_core.specs.Paths.{Path, Place, Height, rise_to, seen_height, strip}
use Rattle.tcl_core.specs.Execution.{event}
use Rattle.tcl_core.specs.Trees.{Event, Move, What, seen_answer, seen_reply}
use Rattle.tcl_core.specs.Trees.What.{Out, In, Done, Back, Made, Dropped, Unfound}
use Rattle.tcl_core.specs.Views.{kept, moves_of, view}
use Rattle.tcl_core.proofs.PathLaws.{seen_rise}
use Rattle.tcl_recorder.specs.Boundary.{boundary, past_the_top}
use Rattle.tcl_isolation.proofs.Records.{IsFound}
use Rattle.tcl_isolation.proofs.Untouching.{unseen_above}

not_leaving : (o : Option Place) → comes_in o ≡ Leaves → Prim.⊥
not_leaving None e = cc
not_leaving (Some a) e = cc

life_stays : (q : Place) → life_at q ≡ Leaves → Prim.⊥
life_stays [] e = cc
life_stays (y ∷ q) e = cc

elsewhere_stays : Elsewhere ≡ Leaves → Prim.⊥
elsewhere_stays e = cc

inside_stays : Inside ≡ Leaves → Prim.⊥
inside_stays e = cc

module _ {O : Type 0} where
  pub no_move : {A : Type 0} (m : Move O) → [] ≡ m ∷ [] → A
  no_move m e = cc

  no_event : {A : Type 0} (x : Event O) (τ : List (Event O)) → x ∷ τ ≡ [] → A
  no_event x τ e = cc

  -- ## What hands in a move enters

  in_enters : (o k : Option Place) (q : Place) (x : What O) (m : Move O) → k ≡ o → moves_of (put k q x []) ≡ m ∷ [] → comes_in o ≡ Enters
  in_enters None k q x m e f = refl
  in_enters (Some a) k q x m e f = no_move m (sym (ap (λ o. moves_of (put o q x [])) e) ∙ f)

  pub no_out : {A : Type 0} (o : Option Place) (q : Place) (h : Height) (down : Path) (i : Entry) (m : Move O) → moves_of (put o q (Out h down i) []) ≡ m ∷ [] → A
  no_out None q h down i m f = no_move m f
  no_out (Some a) q h down i m f = no_move m f

  pub no_done : {A : Type 0} (o : Option Place) (q : Place) (h : Height) (r : Reply) (m : Move O) → moves_of (put o q (Done h r) []) ≡ m ∷ [] → A
  no_done None q h r m f = no_move m f
  no_done (Some a) q h r m f = no_move m f

  enters_by : (s b : Option Place) (x : What O) (m : Move O) → IsFound x → moves_of (past_the_top (kept s b x [])) ≡ m ∷ [] → turn_at s x ≡ Enters
  enters_by None b x m n f = no_move m (sym (ap moves_of (unseen_above b x [])) ∙ f)
  enters_by (Some q) b (Unfound t i c) m n f = absurd n
  enters_by (Some q) b (In h i) m n f = in_enters (rise_to h q) (rise_to (seen_height q h) q) q (In (seen_height q h) i) m (seen_rise q h) f
  enters_by (Some q) b (Back h a) m n f = in_enters (rise_to h q) (rise_to h q) q (Back h (seen_answer q a)) m refl f
  enters_by (Some q) b (Out h down i) m n f = no_out (rise_to h q) q h down i m f
  enters_by (Some q) b (Done h r) m n f = no_done (rise_to (seen_height q h) q) q (seen_height q h) (seen_reply q r) m f
  enters_by (Some q) b _ m n f = no_move m f

  pub enters : (c : Place) (ev : Event O) (m : Move O) → IsFound ev.what → moves_of (boundary c (ev ∷ [])) ≡ m ∷ [] → turn c ev ≡ Enters
  enters c ev m n f = enters_by (strip c ev.place) (strip ev.place c) ev.what m n f

  -- ## What tells nothing doesn't leave

  abbrev Stays : Turn → List (Event O) → Type 0
  Stays x σ = (x ≡ Leaves → Prim.⊥) × (outs_of (past_the_top σ) ≡ [])

  out_stays : (o k : Option Place) (q : Place) (x : What O) (σ : List (Event O)) → k ≡ o → ((τ : List (Event O)) → told q x τ ≡ put k q x τ) → outs_of (put k q x (past_the_top σ)) ≡ [] → Stays (goes_out o) σ
  out_stays None k q x σ e t f =
      no_event (event q x) (outs_of (past_the_top σ)) (sym (t (outs_of (past_the_top σ)) ∙ ap (λ o. put o q x (outs_of (past_the_top σ))) e) ∙ sym (ap (λ o. outs_of (put o q x (past_the_top σ))) e) ∙ f)
  out_stays (Some a) k q x σ e t f = (inside_stays, sym (ap (λ o. outs_of (put o q x (past_the_top σ))) e) ∙ f)

  untold : (o : Option Place) (q : Place) (x : What O) (σ : List (Event O)) → ((τ : List (Event O)) → told q x τ ≡ τ) → outs_of (put o q x σ) ≡ [] → outs_of σ ≡ []
  untold None q x σ t f = sym (t (outs_of σ)) ∙ f
  untold (Some a) q x σ t f = f

  stays_by : (s b : Option Place) (x : What O) (σ : List (Event O)) → outs_of (past_the_top (kept s b x σ)) ≡ [] → Stays (turn_at s x) σ
  stays_by None b x σ f = (elsewhere_stays, sym (ap outs_of (unseen_above b x σ)) ∙ f)
  stays_by (Some q) b (Out h down i) σ f = out_stays (rise_to h q) (rise_to h q) q (Out h down i) σ refl (λ τ. refl) f
  stays_by (Some q) b (Done h r) σ f = out_stays (rise_to h q) (rise_to (seen_height q h) q) q (Done (seen_height q h) (seen_reply q r)) σ (seen_rise q h) (λ τ. refl) f
  stays_by (Some q) b (In h i) σ f = (not_leaving (rise_to h q), untold (rise_to (seen_height q h) q) q (In (seen_height q h) i) (past_the_top σ) (λ τ. refl) f)
  stays_by (Some q) b (Back h a) σ f = (not_leaving (rise_to h q), untold (rise_to h q) q (Back h (seen_answer q a)) (past_the_top σ) (λ τ. refl) f)
  stays_by (Some q) b (Made o s) σ f = (life_stays q, f)
  stays_by (Some q) b Dropped σ f = (life_stays q, f)
  stays_by (Some q) b (Unfound t i c) σ f = no_event (event t (Done None (Completed c))) (outs_of (past_the_top σ)) f
  stays_by (Some q) b _ σ f = (inside_stays, f)

  pub stays : (c : Place) (τ : List (Event O)) → outs_of (boundary c τ) ≡ [] → NoLeaving c τ
  stays c [] f = tt
  stays c (ev ∷ τ) f = let g : Stays (turn_at (strip c ev.place) ev.what) (view c τ) = stays_by (strip c ev.place) (strip ev.place c) ev.what (view c τ) f in (g.0, stays c τ g.1)
