-- What a record becomes.
use Rattle.std.proofs.Common.{◌≡◌, true, false, List, [], ◌∷◌, ◌++◌, Some, None, length, sym, ◌∙◌, ap, append-nil}
use Rattle.std.specs.Prelude.{◌==◌}
use Rattle.tcl_core.specs.Endings.{Completion, Reply}
use Rattle.tcl_core.specs.Entries.{Answer, Entry}
use Rattle.tcl_core.specs.Paths.{Path, Place, Height}
use Rattle.tcl_core.specs.Execution.{event}
use Rattle.tcl_core.specs.Trees.{Event, What}
use Rattle.tcl_core.specs.Trees.What.{Out, In, Done, Back, Unfound}
use Rattle.tcl_tree.specs.Own.{Own}
use Rattle.tcl_recorder.specs.Boundary.{at_passing, back_seen, boundary, done_seen, in_seen, out_seen, passing}
use Rattle.tcl_recorder.specs.Laws.{IsNoCrossing}
use Rattle.tcl_recorder.specs.Records.{RecordView, longer}
use Rattle.tcl_recorder.specs.Recording.{after, crossed}
use Rattle.tcl_recorder.proofs.BoundaryLaws.{no_crossing}
use Rattle.tcl_recorder.proofs.Boundaries.{boundary_back, boundary_done, boundary_in, boundary_out}

-- nothing adds nothing
pub after_none : (r : RecordView) → r ≡ after r []
after_none r = ap (λ (xs : List (Event Own)). record { watched = r.watched; crossings = xs }) (sym (append-nil r.crossings))

-- what is no crossing adds nothing
pub unchanged : (r : RecordView) (ev : Event Own) → IsNoCrossing ev.what → r ≡ crossed r ev
unchanged r ev f =
    sym (ap (λ (xs : List (Event Own)). record { watched = r.watched; crossings = r.crossings ++ xs }) (no_crossing r.watched ev [] f)
    ∙ ap (λ (xs : List (Event Own)). record { watched = r.watched; crossings = xs }) (append-nil r.crossings))

-- where nothing passes the record stays, and else it has one crossing more
unpassed : (r : RecordView) (ev : Event Own) (x : Path → What Own) → boundary r.watched (ev ∷ []) ≡ at_passing None x [] → r ≡ crossed r ev
unpassed r ev x e = sym (ap (λ (xs : List (Event Own)). record { watched = r.watched; crossings = r.crossings ++ xs }) e ∙ ap (λ (xs : List (Event Own)). record { watched = r.watched; crossings = xs }) (append-nil r.crossings))

passed : (r : RecordView) (ev : Event Own) (x : Path → What Own) (q : Path) → boundary r.watched (ev ∷ []) ≡ at_passing (Some q) x [] → longer r (event q (x q)) ≡ crossed r ev
passed r ev x q e = sym (ap (λ (xs : List (Event Own)). record { watched = r.watched; crossings = r.crossings ++ xs }) e)

module _ (r : RecordView) (p : Place) (h : Height) where
  pub out_none : (down : Path) (i : Entry) → passing r.watched p h ≡ None → r ≡ crossed r (event p (Out h down i))
  out_none down i e = unpassed r _ (out_seen h down i) (boundary_out r.watched p h down i [] ∙ ap (λ o. at_passing o (out_seen h down i) []) e)

  pub out_some : (down : Path) (i : Entry) (q : Path) → passing r.watched p h ≡ Some q → longer r (event q (Out h down i)) ≡ crossed r (event p (Out h down i))
  out_some down i q e = passed r _ (out_seen h down i) q (boundary_out r.watched p h down i [] ∙ ap (λ o. at_passing o (out_seen h down i) []) e)

  pub in_none : (i : Entry) → passing r.watched p h ≡ None → r ≡ crossed r (event p (In h i))
  in_none i e = unpassed r _ (in_seen i) (boundary_in r.watched p h i [] ∙ ap (λ o. at_passing o (in_seen i) []) e)

  pub in_some : (i : Entry) (q : Path) → passing r.watched p h ≡ Some q → longer r (event q (in_seen i q)) ≡ crossed r (event p (In h i))
  in_some i q e = passed r _ (in_seen i) q (boundary_in r.watched p h i [] ∙ ap (λ o. at_passing o (in_seen i) []) e)

  pub done_none : (x : Reply) → passing r.watched p h ≡ None → r ≡ crossed r (event p (Done h x))
  done_none x e = unpassed r _ (done_seen x) (boundary_done r.watched p h x [] ∙ ap (λ o. at_passing o (done_seen x) []) e)

  pub done_some : (x : Reply) (q : Path) → passing r.watched p h ≡ Some q → longer r (event q (done_seen x q)) ≡ crossed r (event p (Done h x))
  done_some x q e = passed r _ (done_seen x) q (boundary_done r.watched p h x [] ∙ ap (λ o. at_passing o (done_seen x) []) e)

  pub back_none : (a : Answer) → passing r.watched p h ≡ None → r ≡ crossed r (event p (Back h a))
  back_none a e = unpassed r _ (back_seen h a) (boundary_back r.watched p h a [] ∙ ap (λ o. at_passing o (back_seen h a) []) e)

  pub back_some : (a : Answer) (q : Path) → passing r.watched p h ≡ Some q → longer r (event q (back_seen h a q)) ≡ crossed r (event p (Back h a))
  back_some a q e = passed r _ (back_seen h a) q (boundary_back r.watched p h a [] ∙ ap (λ o. at_passing o (back_seen h a) []) e)

-- an entry that found nobody crosses the boundary of the whole tree alone
pub unseen_below : (r : RecordView) (t : Path) (i : Entry) (x : Completion) → (length r.watched == 0) ≡ false → r ≡ crossed r (event [] (Unfound t i x))
unseen_below r t i x e = by r.watched e
  where
    by : (w : Path) → (length w == 0) ≡ false → record { watched = w; crossings = r.crossings } ≡ crossed (record { watched = w; crossings = r.crossings }) (event [] (Unfound t i x))
    by [] f = let clash : true ≡ false = f in absurd cc
    by (name ∷ c) f = after_none (record { watched = name ∷ c; crossings = r.crossings })
