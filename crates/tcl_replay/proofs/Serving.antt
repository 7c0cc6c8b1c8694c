-- What an entry of a playing comes to, and how playings go on.
use Rattle.std.proofs.Common.{◌≡◌, inl, inr, ℕ, true, false, List, [], ◌∷◌, Some, None, Result, Ok, Err, refl, sym, ap, subst}
use Rattle.std.specs.Prelude.{Option, OnOk, is_some}
use Rattle.tcl_core.specs.Endings.{Reply, ok}
use Rattle.tcl_core.specs.Endings.Reply.{Completed, Exit, Cut}
use Rattle.tcl_core.specs.Entries.{Entry}
use Rattle.tcl_core.specs.Lives.{Outcome, React}
use Rattle.tcl_core.specs.Paths.{Path, Text}
use Rattle.tcl_core.specs.Paths as paths
use Rattle.tcl_core.specs.Programs.{Wait}
use Rattle.tcl_core.specs.Execution.{Crossings, event, hears}
use Rattle.tcl_core.specs.Trees.{Event, Move, Tree, What}
use Rattle.tcl_core.specs.Trees.What.{Charged, Refused, Dropped, Out, In, Done, Back, Unfound}
use Rattle.tcl_eval.specs.Waiting.{EndsEntry, MissesEntry}
use Rattle.tcl_flow.specs.View.{completion_of}
use Rattle.tcl_flow.specs.Stopping as stopping
use Rattle.tcl_run.specs.Language.{language}
use Rattle.tcl_player.specs.Players.{Begins, played, player_of}
use Rattle.tcl_player.specs.Moves.{moves_in}
use Rattle.tcl_player.specs.declared.moves.Move.{Move as KeptMove}
use Rattle.tcl_player.specs.declared.moves.Move.TheVariants as moving
use Rattle.tcl_player.specs.declared.player.Player as declared
use Rattle.tcl_recorder.specs.declared.crossing.Answer.TheVariants as answer
use Rattle.tcl_recorder.specs.declared.crossing.Reply.TheVariants as reply
use Rattle.tcl_reactions.specs.Playing.{IsOver, Lived, Player, beginner, outcome, plays, tree_left}
use Rattle.tcl_reactions.specs.Playing.Lived.{entered, unfound}
use Rattle.tcl_reactions.proofs.OneOutcome.{one_outcome}
use Rattle.tcl_reactions.proofs.Reacted.{played_is_react}
use Rattle.tcl_reactions.specs.Laws.{AreFromAbove}
use Rattle.tcl_replay.specs.Replaying.{Misses, PlaysEntry, ReactsSo, Serves, wants_memory}
use Rattle.tcl_run.specs.Ends.{IfEnded, cause_of}
use Rattle.tcl_run.specs.Runs.{Comes, ways}
use Rattle.tcl_run.proofs.Proceeding.{comes}
use Rattle.tcl_run.specs.declared.interruption.Interruption.{Interruption}
use Rattle.tcl_run.specs.declared.interruption.Interruption.TheVariants as interruption
use Rattle.tcl_text.specs.declared.integer.Integers.{Integers}
use Rattle.tcl_tree.specs.Own.{Own}
use Rattle.tcl_tree.specs.TreeOf.{Names, marks_of, tree_of}
use Rattle.tcl_tree.specs.declared.tree.Place.{Place}
use Rattle.tcl_tree.specs.declared.tree.Tree as table
use Rattle.tcl_tree.proofs.CoreLemmas.{tree_there}
use Rattle.tcl_run.proofs.Steady.{stands}
use Rattle.tcl_recorder.proofs.Watched.{comes_along}

-- what a player as it is kept is told is told the player that is seen
seen : (T : Tree Own) (o : declared.Player) (s : Wait) (p : paths.Place) (x : What Own) (u : declared.Player) → hears played T o s p x u → hears plays T (player_of o) s p x (player_of u)
seen T o s p (Out h down i) u t = t
seen T o s p (Back h a) u t = t
seen T o s p (In h i) u t = t
seen T o s p (Done h r) u t = t
seen T o s p Charged u t = t
seen T o s p (Refused m None) u t = t
seen T o s p Dropped u t = t
seen T o s p (Unfound q i c) u t = t
seen T o s p x u t = ap player_of t

along : (T : Tree Own) (o : declared.Player) (s : Wait) (ev : Event Own) (u : declared.Player) → Crossings played T o s ev u → Crossings plays T (player_of o) s ev (player_of u)
along T o s ev u t = record { told = seen T o s ev.place ev.what u t.told }

-- an evaluation that didn't end for want of memory ended by some reply
ended_so : (A B : Reply → Type 0) (ended : Result Text Interruption) → wants_memory ended ≡ false → IfEnded ended A → IfEnded ended B → (r : Reply) × A r × B r
ended_so A B (Ok text) m a b = (Completed (ok text), a, b)
ended_so A B (Err (interruption.Completed c)) m a b = (Completed (completion_of c.value), a, b)
ended_so A B (Err (interruption.Stopped s)) m a b = (stopping.reply_of s, a, b)
ended_so A B (Err (interruption.Exited n)) m a b = (Exit n, a, b)
ended_so A B (Err (interruption.Cut c)) m a b = (Cut (cause_of c), a, b)
ended_so A B (Err interruption.Memory) m a b = absurd (cc m)

module _ (loses : declared.Player → declared.Player → Type 0) (old new : table.Tree) (o u z : declared.Player) (p : Path) (i : Entry) (ended : Result Text Interruption) (place : Place) where
  runs_of : (e : Result Text Interruption) → EndsEntry (ways played loses) old o p i new u e →
      IfEnded e (λ r. Comes played (language (marks_of old).integers) (tree_of old) o p ((language (marks_of old).integers).entry i) (tree_of new) u r)
  runs_of (Ok text) f = comes (f (marks_of old).integers refl)
  runs_of (Err (interruption.Completed c)) f = comes (f (marks_of old).integers refl)
  runs_of (Err (interruption.Stopped s)) f = comes (f (marks_of old).integers refl)
  runs_of (Err (interruption.Exited n)) f = comes (f (marks_of old).integers refl)
  runs_of (Err (interruption.Cut c)) f = comes (f (marks_of old).integers refl)
  runs_of (Err interruption.Memory) f = tt

  served : Names old place p → wants_memory ended ≡ false → EndsEntry (ways played loses) old o p i new u ended → IfEnded ended (λ r. played (tree_of new) u None (event p (Done None r)) z) →
      Serves (marks_of old).integers (tree_of old) (player_of o) p i (tree_of new) (player_of z)
  served named m a b =
      let x = ended_so
      (λ r. Comes played (language (marks_of old).integers) (tree_of old) o p ((language (marks_of old).integers).entry i) (tree_of new) u r)
      (λ r. played (tree_of new) u None (event p (Done None r)) z)
      ended m (runs_of ended a) b in
      let n = stands (tree_of old p) (tree_there old p place.key named) in
      record {
        node = n.0;
        stands = n.1;
        between = player_of u;
        reply = x.0;
        runs = comes_along (Crossings played) (Crossings plays) player_of along (language (marks_of old).integers) x.1;
        told = x.2;
      }

  pub serves : {E : Type 0} (left : Result (Unit {0}) E) → Names old place p → wants_memory ended ≡ false → EndsEntry (ways played loses) old o p i new u ended →
      OnOk left (IfEnded ended (λ r. played (tree_of new) u None (event p (Done None r)) z)) →
      OnOk left (Serves (marks_of old).integers (tree_of old) (player_of o) p i (tree_of new) (player_of z))
  serves (Ok l) named m a b = served named m a b
  serves (Err x) named m a b = tt

-- who it is that an entry was handed in for
pub served_at : {E : Type 0} (left : Result (Unit {0}) E) (style : Integers) (U V : Tree Own) (w z : declared.Player) (p target : Path) (i : Entry) → p ≡ target → OnOk left (Serves style U (player_of w) p i V (player_of z)) → OnOk left (PlaysEntry style U w target i V z)
served_at (Ok l) style U V w z p target i e s = inl (subst (λ t. Serves style U (player_of w) t i V (player_of z)) e s)
served_at (Err x) style U V w z p target i e s = tt

pub missed_at : {E : Type 0} (left : Result (Unit {0}) E) (t : table.Tree) (w z : declared.Player) (p target : Path) (i : Entry) → p ≡ target → tree_of t p ≡ None → OnOk left (MissesEntry played t w p i z) → OnOk left (PlaysEntry (marks_of t).integers (tree_of t) w target i (tree_of t) z)
missed_at (Ok l) t w z p target i e none m = inr (subst (λ q. Misses (marks_of t).integers (tree_of t) w q i (tree_of t) z) e (record { nobody = none; same = refl; told = m }))
missed_at (Err x) t w z p target i e none m = tt

-- one entry more was played
pub goes_on : (style : Integers) (S V : Tree Own) (t : table.Tree) (o : Player Own) (u w z : declared.Player) (target : Path) (i : Entry) →
    (marks_of t).integers ≡ style → Lived (language style) S o (tree_of t) (player_of u) → Begins (player_of u) target i (player_of w) → PlaysEntry (marks_of t).integers (tree_of t) w target i V z → Lived (language style) S o V (player_of z)
goes_on style S V t o u w z target i e l b s = by (subst (λ k. PlaysEntry k (tree_of t) w target i V z) e s)
  where
    by : PlaysEntry style (tree_of t) w target i V z → Lived (language style) S o V (player_of z)
    by (inl r) = entered target i r.reply l b.0 b.1 r.stands (b.2 (tree_of t)) r.runs r.told
    by (inr m) = subst (λ U. Lived (language style) S o U (player_of z)) (sym m.same) (unfound target i l b.0 b.1 m.nobody (m.told u (b.2 (tree_of t))))

-- a playing that is over is what the tree does by itself
pub reacts : (style kept : Integers) (S T V W : Tree Own) (o z : Player Own) (ms : List (Move Own)) (n : ℕ) (x : Outcome) (outs : List (Event Own)) →
    kept ≡ style → T ≡ S → o ≡ beginner ms n → Lived (language kept) T o V z → IsOver z → x ≡ outcome z → outs ≡ z.outs → W ≡ tree_left z V → React (language style) S ms n x outs W
reacts style kept S T V W o z ms n x outs a b c l d e f g =
    let l1 = subst (λ k. Lived (language k) T o V z) a l in
    let l2 = subst (λ R. Lived (language style) R o V z) b l1 in
    let l3 = subst (λ q. Lived (language style) S q V z) c l2 in
    let r1 = played_is_react (language style) S V ms n z l3 d in
    let r2 = subst (λ y. React (language style) S ms n y z.outs (tree_left z V)) (sym e) r1 in
    let r3 = subst (λ y. React (language style) S ms n x y (tree_left z V)) (sym f) r2 in
    subst (λ R. React (language style) S ms n x outs R) (sym g) r3

-- an interpreter that there is
pub some_or_none : {A : Type 0} (o : Option A) → is_some o ≡ true → o ≡ None → Prim.⊥
some_or_none None e f = cc
some_or_none (Some a) e f = cc

-- ## It does nothing else

-- of moves as they are kept, an end from outside is one by what is above
pub from_above : (ms : List KeptMove) → AreFromAbove (moves_in ms)
from_above [] = tt
from_above (moving.Enter target entry ∷ ms) = from_above ms
from_above (moving.Come (answer.Heard r) ∷ ms) = from_above ms
from_above (moving.Come answer.Nobody ∷ ms) = from_above ms
from_above (moving.Come (answer.Replied (reply.Completed c)) ∷ ms) = from_above ms
from_above (moving.Come (answer.Replied (reply.Stopped s)) ∷ ms) = from_above ms
from_above (moving.Come (answer.Replied (reply.Exited n)) ∷ ms) = from_above ms
from_above (moving.Come (answer.Replied reply.Ended) ∷ ms) = from_above ms

pub reacts_so : (style : Integers) (S W : Tree Own) (ms : List KeptMove) (n : ℕ) (x : Outcome) (outs : List (Event Own)) → React (language style) S (moves_in ms) n x outs W → ReactsSo style S (moves_in ms) n x outs W
reacts_so style S W ms n x outs a y told V b = one_outcome (language style) S (moves_in ms) n x y outs told W V (from_above ms) a b
