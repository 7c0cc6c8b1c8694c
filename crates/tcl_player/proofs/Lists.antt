-- Lists of crossings, and what was told by them.
use Rattle.std.proofs.Common.{◌≡◌, ℕ, ℤ, Bool, true, false, ◌+◌, ◌<◌, List, [], ◌∷◌, ◌++◌, length, take, get_or, Option, Some, None, refl, sym, ap, ◌∙◌}
use Rattle.std.specs.Prelude.{if◌then◌else◌}
use Rattle.std.proofs.lemmas.List.{take_more}
use Rattle.tcl_core.specs.Endings.{Reply}
use Rattle.tcl_core.specs.Entries.{Entry}
use Rattle.tcl_core.specs.Lives.{Outcome, ending_of, outcome_of}
use Rattle.tcl_core.specs.Lives.Outcome.{Finished}
use Rattle.tcl_core.specs.Paths.{Height, Path}
use Rattle.tcl_core.specs.Execution.{event}
use Rattle.tcl_core.specs.Trees.What.{Out}
use Rattle.tcl_core.specs.Trees as core
use Rattle.tcl_core.specs.Trees.{Event}
use Rattle.tcl_core.specs.Views.{moves_of}
use Rattle.tcl_core.proofs.Lending.{moves_append}
use Rattle.tcl_reactions.proofs.Ways.{outcome_append}
use Rattle.tcl_tree.specs.Own.{Own}
use Rattle.tcl_player.specs.Answering.{last_outcome}
use Rattle.tcl_player.specs.Moves.{listed, move_of, moves_in}
use Rattle.tcl_player.specs.declared.moves.Move.{Move}
use Rattle.tcl_recorder.specs.Crossings.{event_of, events_of}
use Rattle.tcl_recorder.specs.declared.crossing.Crossing.{Crossing}

pub events_more : (xs : List Crossing) (x : Crossing) → events_of (xs ++ x ∷ []) ≡ events_of xs ++ event_of x ∷ []
events_more [] x = refl
events_more (y ∷ xs) x = ap (λ es. event_of y ∷ es) (events_more xs x)

pub outcome_more : (xs : List Crossing) (x : Crossing) (y : Outcome) → outcome_of (events_of (xs ++ x ∷ [])) y ≡ outcome_of (event_of x ∷ []) (outcome_of (events_of xs) y)
outcome_more xs x y = ap (λ es. outcome_of es y) (events_more xs x) ∙ outcome_append (events_of xs) (event_of x ∷ []) y

pub moves_more : (xs : List Crossing) (x : Crossing) → moves_of (events_of (xs ++ x ∷ [])) ≡ moves_of (events_of xs) ++ moves_of (event_of x ∷ [])
moves_more xs x = ap moves_of (events_more xs x) ∙ moves_append (events_of xs) (event_of x ∷ [])

-- ## What is told

-- it is told, or memory was wanted: how the last entry ended stays, if this tells no end
pub same_last : (b : Bool) (new old : List Crossing) (x : Crossing) (e : Option ℤ) → new ≡ (if b then old ++ x ∷ [] else old) → outcome_of (events_of old) Finished ≡ last_outcome e →
    ((y : Outcome) → outcome_of (event_of x ∷ []) y ≡ y) → outcome_of (events_of new) Finished ≡ last_outcome e
same_last true new old x e g last no_end = ap (λ xs. outcome_of (events_of xs) Finished) g ∙ outcome_more old x Finished ∙ no_end _ ∙ last
same_last false new old x e g last no_end = ap (λ xs. outcome_of (events_of xs) Finished) g ∙ last

-- an end is told
pub new_last : (new old : List Crossing) (x : Crossing) (r : Reply) (e : Option ℤ) → new ≡ old ++ x ∷ [] → ((y : Outcome) → outcome_of (event_of x ∷ []) y ≡ ending_of r) → ending_of r ≡ last_outcome e →
    outcome_of (events_of new) Finished ≡ last_outcome e
new_last new old x r e g is_end last = ap (λ xs. outcome_of (events_of xs) Finished) g ∙ outcome_more old x Finished ∙ is_end _ ∙ last

pub told_more : (new old : List Crossing) (x : Crossing) (ev : Event Own) → new ≡ old ++ x ∷ [] → event_of x ≡ ev → events_of new ≡ events_of old ++ ev ∷ []
told_more new old x ev g e = ap events_of g ∙ events_more old x ∙ ap (λ y. events_of old ++ y ∷ []) e

pub same_out : (h : Height) (q p : Path) (d d2 : Path) (i i2 : Entry) → q ≡ p → d ≡ d2 → i ≡ i2 → event {O = Own} q (Out h d i) ≡ event p (Out h d2 i2)
same_out h q p d d2 i i2 a b c = ap (λ x. event x (Out h d i)) a ∙ ap (λ x. event p (Out h x i)) b ∙ ap (λ x. event p (Out h d2 x)) c

-- ## Moves among crossings

pub next_crossing : (xs : List Crossing) (i : ℕ) (x : Crossing) → i < length xs → x ≡ get_or xs i x → moves_of (events_of (take (i + 1) xs)) ≡ moves_of (events_of (take i xs)) ++ moves_of (event_of x ∷ [])
next_crossing xs i x l e = ap (λ ys. moves_of (events_of ys)) (take_more xs i x l ∙ ap (λ y. take i xs ++ y ∷ []) (sym e)) ∙ moves_more (take i xs) x

moves_in_more : (xs : List Move) (m : Move) → moves_in (xs ++ m ∷ []) ≡ moves_in xs ++ move_of m ∷ []
moves_in_more [] m = refl
moves_in_more (x ∷ xs) m = ap (λ ms. move_of x ∷ ms) (moves_in_more xs m)

nothing_more : {A : Type 0} (xs : List A) → xs ++ [] ≡ xs
nothing_more [] = refl
nothing_more (x ∷ xs) = ap (λ ys. x ∷ ys) (nothing_more xs)

module _ (new old : List Move) (o : Option Move) (before later one : List (core.Move Own)) (kept : moves_in old ≡ before) (more : later ≡ before ++ one) (is : listed o ≡ one) where
  pub one_more : (m : Move) → o ≡ Some m → new ≡ old ++ m ∷ [] → moves_in new ≡ later
  one_more m e g = ap moves_in g ∙ moves_in_more old m ∙ ap (λ ms. ms ++ move_of m ∷ []) kept ∙ ap (λ ms. before ++ ms) (ap listed (sym e) ∙ is) ∙ sym more

  pub none_more : o ≡ None → new ≡ old → moves_in new ≡ later
  none_more e g = ap moves_in g ∙ kept ∙ sym (nothing_more before) ∙ ap (λ ms. before ++ ms) (ap listed (sym e) ∙ is) ∙ sym more
