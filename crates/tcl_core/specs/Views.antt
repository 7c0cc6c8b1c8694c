-- What a world is to one of its subtrees.
use Rattle.std.specs.Prelude.{◌≡◌, ℕ, List, [], ◌∷◌, Option, Some, None}
use Rattle.tcl_core.specs.Paths.{Place, strip}
use Rattle.tcl_core.specs.Trees.{Grants, granted, Tree, What, Event, Move, at, asked, paid}
use Rattle.tcl_core.specs.Trees.{seen_what}
use Rattle.tcl_core.specs.Trees.Grants.{Listed}
use Rattle.tcl_core.specs.Trees.What.{Charged, Nested, Made, Dropped}
use Rattle.tcl_core.specs.Programs.{blocked, is_spent, is_deep}
use Rattle.tcl_core.specs.Runs.{World}

module _ {O : Type 0} where
  -- the moves and the words that these happenings read, and the steps that they count
  abbrev pub moves_of : List (Event O) → List (Move O)
  moves_of [] = []
  moves_of (ev ∷ τ) = asked ev.place ev.what (moves_of τ)

  abbrev pub grants_of : List (Event O) → Grants
  grants_of [] = Listed []
  grants_of (ev ∷ τ) = granted ev.place ev.what (grants_of τ)

  abbrev pub steps_of : List (Event O) → ℕ
  steps_of [] = 0
  steps_of (ev ∷ τ) = paid ev.what (steps_of τ)

  -- of what happens elsewhere, c sees that an interpreter above it is dropped, and so c itself
  abbrev pub from_above : Option Place → What O → List (Event O) → List (Event O)
  from_above (Some z) Dropped τ = record { place = []; what = Dropped } ∷ τ
  from_above b x τ = τ

  abbrev pub kept : Option Place → Option Place → What O → List (Event O) → List (Event O)
  kept None b x τ = from_above b x τ
  kept (Some q) b x τ = record { place = q; what = seen_what q x } ∷ τ

  -- the happenings in the subtree at c, their places counted from c
  abbrev pub view : Place → List (Event O) → List (Event O)
  view c [] = []
  view c (ev ∷ τ) = kept (strip c ev.place) (strip ev.place c) ev.what (view c τ)

  -- The subtree at c as a world of its own. What the rest of the whole hands it are the crossings
  -- into it.
  abbrev pub inside_of : Place → World O → World O
  inside_of c w = record {
    tree = at w.tree c;
    moves = moves_of (view c w.tape);
    grants = grants_of (view c w.tape);
    tape = view c w.tape;
  }

  abbrev pub IsFree : Tree O → Place → Type 0
  IsFree T [] = Unit {0}
  IsFree T (x ∷ p) = T (x ∷ p) ≡ None

  -- a step is counted, or an evaluation begins, only where no interpreter at p or above is full;
  -- and a child is made where none stands
  abbrev pub IsDue : Tree O → Place → What O → Type 0
  IsDue T p Charged = blocked is_spent T p ≡ None
  IsDue T p Nested = blocked is_deep T p ≡ None
  IsDue T p (Made o s) = IsFree T p
  IsDue T p _ = Unit {0}
