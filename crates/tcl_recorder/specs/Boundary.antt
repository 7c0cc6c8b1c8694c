-- What crosses the boundary of a subtree.
use Rattle.std.specs.Prelude.{List, [], ◌∷◌, Option, Some, None}
use Rattle.tcl_core.specs.Entries.{Answer, Entry}
use Rattle.tcl_core.specs.Endings.{Reply}
use Rattle.tcl_core.specs.Endings.Reply.{Completed}
use Rattle.tcl_core.specs.Execution.{event}
use Rattle.tcl_core.specs.Lives.{put}
use Rattle.tcl_core.specs.Paths.{Path, Place, Height, strip, rise_to}
use Rattle.tcl_core.specs.Trees.{Event, What, seen_answer, seen_reply}
use Rattle.tcl_core.specs.Trees.What.{Out, In, Done, Back, Unfound}
use Rattle.tcl_core.specs.Views.{view}

module _ {O : Type 0} where
  -- a crossing that passes the top, in front of those that come later; an entry that finds nobody
  -- is two, itself and its end
  abbrev pub past : Place → What O → List (Event O) → List (Event O)
  past p (Out h down i) τ = put (rise_to h p) p (Out h down i) τ
  past p (Back h a) τ = put (rise_to h p) p (Back h a) τ
  past p (In h i) τ = put (rise_to h p) p (In h i) τ
  past p (Done h r) τ = put (rise_to h p) p (Done h r) τ
  past p (Unfound t i c) τ = event t (In None i) ∷ event t (Done None (Completed c)) ∷ τ
  past p _ τ = τ

  -- the crossings between a tree and what is outside it
  abbrev pub past_the_top : List (Event O) → List (Event O)
  past_the_top [] = []
  past_the_top (ev ∷ τ) = past ev.place ev.what (past_the_top τ)

  -- The crossings between the subtree at c and what is outside it, as they are seen there: their
  -- places are counted from c.
  abbrev pub boundary : Place → List (Event O) → List (Event O)
  boundary c τ = past_the_top (view c τ)

-- ## Crossing by crossing

abbrev pub beyond : Option Place → Place → Option Path
beyond None q = Some q
beyond (Some a) q = None

abbrev pub passing_by : Option Path → Height → Option Path
passing_by None h = None
passing_by (Some q) h = beyond (rise_to h q) q

-- Where an interpreter at p is below c, if it is, and a way so high up from it leaves the subtree.
abbrev pub passing : Place → Place → Height → Option Path
passing c p h = passing_by (strip c p) h

module _ {O : Type 0} where
  abbrev pub at_passing : Option Path → (Path → What O) → List (Event O) → List (Event O)
  at_passing None x τ = τ
  at_passing (Some q) x τ = record { place = q; what = x q } ∷ τ

  -- how each is seen in the subtree, at q
  abbrev pub out_seen : Height → Path → Entry → Path → What O
  out_seen h down i q = Out h down i

  abbrev pub back_seen : Height → Answer → Path → What O
  back_seen h a q = Back h (seen_answer q a)

  abbrev pub in_seen : Entry → Path → What O
  in_seen i q = In None i

  abbrev pub done_seen : Reply → Path → What O
  done_seen r q = Done None (seen_reply q r)
