-- What a player's calls come to.
use Rattle.std.proofs.Common.{◌≡◌, Global, ℕ, ℤ, Bool, true, false, List, ◌∷◌, ◌++◌, length, Option, Some, None, refl, sym, ap, subst, ◌∙◌}
use Rattle.std.specs.Option.{option_map}
use Rattle.std.specs.declared.vec.Vec.{Vec}
use Rattle.std.specs.Prelude.{is_some, not, IfNone, IfSome, Result, Ok, Err}
use Rattle.tcl_core.specs.Endings.{Reply}
use Rattle.tcl_core.specs.Endings.Cause.{Over}
use Rattle.tcl_core.specs.Endings.Reply.{Completed, Stop, Exit, Cut}
use Rattle.tcl_core.specs.Entries.{Answer, Entry}
use Rattle.tcl_core.specs.Entries.Answer.{Replied, Heard, Nobody}
use Rattle.tcl_core.specs.Lives.{Outcome, ending_of}
use Rattle.tcl_core.specs.Lives.Outcome.{Exited}
use Rattle.tcl_core.specs.Paths.{Path, Place, Height, rise, rise_to}
use Rattle.tcl_core.specs.Runs.{gone, is_told}
use Rattle.tcl_core.specs.Execution.{event}
use Rattle.tcl_core.specs.Trees.{Event, Move, Tree}
use Rattle.tcl_core.specs.Trees.Move.{Enter, Come, Born, Fall}
use Rattle.tcl_core.specs.Trees.What.{Done}
use Rattle.tcl_core.proofs.PathLaws.{rise_back}
use Rattle.tcl_reactions.specs.Playing.{Answers, HandsIn, IsCut, IsNoCut, Player, last_end, past, reading, stopping, suits, telling, Tells}
use Rattle.tcl_reactions.specs.Playing.Answers.{reads, ends, unfits, passes}
use Rattle.tcl_reactions.specs.Playing.Fate.{Unfits, EndsAbove}
use Rattle.tcl_reactions.proofs.Free.{same_exit, own_exit}
use Rattle.tcl_run.specs.Outsides as outsides
use Rattle.tcl_run.specs.Ends.{IfEnded}
use Rattle.tcl_run.specs.Entering.{whole_entry}
use Rattle.tcl_run.specs.declared.entry.Entry.{Entry as CodeEntry}
use Rattle.tcl_run.specs.Notifying.{WasUnfound}
use Rattle.tcl_run.specs.Outsides.{AnswersFor, ComesNext, Enters, Misses, OnEntry, Returns, told_to}
use Rattle.tcl_run.proofs.Endings.{IfEnded-more}
use Rattle.tcl_run.specs.declared.interruption.Interruption.{Interruption}
use Rattle.tcl_run.specs.declared.interruption.Interruption.TheVariants as interruption
use Rattle.tcl_run.specs.declared.outside.Turn.{Turn}
use Rattle.tcl_run.specs.declared.outside.Turn.TheVariants as turn
use Rattle.tcl_tree.specs.Own.{Own}
use Rattle.tcl_recorder.specs.Crossings.{answer_of}
use Rattle.tcl_recorder.specs.declared.crossing.Answer as crossing_answer
use Rattle.tcl_player.specs.Answering.{IsExitOf, IsKnown, IsTold, cuts_off, fits_call, is_cut, last_outcome}
use Rattle.tcl_player.specs.Moves.{move_of}
use Rattle.tcl_player.specs.Players.{GoesOn, IsOverBy, fate_of, played, player_of}
use Rattle.tcl_player.specs.declared.moves.Move as kept
use Rattle.tcl_player.specs.declared.moves.Move.TheVariants as moving
use Rattle.tcl_player.specs.declared.player.Fate as kept_fate
use Rattle.tcl_player.specs.declared.player.Player as declared

-- ## What is between two interpreters of the tree

within : (o : Player Own) (t : Type 0) (l : Option Place) (b : Place) → l ≡ Some b → past l o o t
within o t l b e = subst (λ x. past x o o t) (sym e) refl

pub enters_unheard : (T : Tree Own) (o : declared.Player) (p : Place) (n : ℕ) (a : Place) (down : Path) (i : Entry) → rise n p ≡ Some a → Enters played T o p n a down i o
enters_unheard T o p n a down i e = record { between = o; leaves = within (player_of o) _ (rise n p) a e; enters = within (player_of o) _ (rise (length down) (a ++ down)) a (rise_back a down) }

pub returns_unheard : (T : Tree Own) (o : declared.Player) (p : Place) (n : ℕ) (a : Place) (down : Path) (s r : Reply) → rise n p ≡ Some a → Returns played T o p n a down s r o
returns_unheard T o p n a down s r e = record { between = o; leaves = within (player_of o) _ (rise (length down) (a ++ down)) a (rise_back a down); returns = within (player_of o) _ (rise n p) a e }

pub misses_unheard : (T : Tree Own) (o : declared.Player) (p : Place) (n : ℕ) (a : Place) (down : Path) (i : Entry) (r : Reply) → rise n p ≡ Some a → Misses played T o p n down i r o
misses_unheard T o p n a down i r e = record { between = o; leaves = within (player_of o) _ (rise n p) a e; returns = within (player_of o) _ (rise n p) a e }

-- ## What passes the top

pub outer : (l : Option Place) (o z : Player Own) (t : Type 0) → l ≡ None → t → past l o z t
outer l o z t e g = subst (λ k. past k o z t) (sym e) g

-- the playing goes on
pub goes_still : (f : Option kept_fate.Fate) → is_some f ≡ false → option_map fate_of f ≡ None
goes_still None e = refl
goes_still (Some x) e = let clash : true ≡ false = e in absurd cc

-- it is over already
pub over_already : (T : Tree Own) (p : Place) (d : ℕ) (o : declared.Player) (h : Height) (i : Entry) → is_some o.fate ≡ true → IsOverBy T p d (player_of o) h i (player_of o)
over_already T p d o h i e a x = by o.fate refl e
  where
    by : (f : Option kept_fate.Fate) → o.fate ≡ f → is_some f ≡ true → Answers T p (player_of o) (Some (h, i, d)) a (player_of o)
    by None g y = let clash : false ≡ true = y in absurd cc
    by (Some f) g y = passes (fate_of f) (ap (option_map fate_of) g) x refl

cut_is : (m : Move Own) → cuts_off m ≡ true → (b : Answer) × (m ≡ Come b) × IsCut b
cut_is (Come (Replied (Cut c))) e = (Replied (Cut c), refl, tt)
cut_is (Come (Replied (Completed c))) e = let clash : false ≡ true = e in absurd cc
cut_is (Come (Replied (Stop n m))) e = let clash : false ≡ true = e in absurd cc
cut_is (Come (Replied (Exit n))) e = let clash : false ≡ true = e in absurd cc
cut_is (Come (Heard a)) e = let clash : false ≡ true = e in absurd cc
cut_is (Come Nobody) e = let clash : false ≡ true = e in absurd cc
cut_is (Enter t i) e = let clash : false ≡ true = e in absurd cc
cut_is (Born o b) e = let clash : false ≡ true = e in absurd cc
cut_is Fall e = let clash : false ≡ true = e in absurd cc

no_cut : (a : Answer) → is_cut a ≡ false → IsNoCut a
no_cut (Replied (Cut c)) e = let clash : true ≡ false = e in absurd cc
no_cut (Replied (Completed c)) e = tt
no_cut (Replied (Stop n m)) e = tt
no_cut (Replied (Exit n)) e = tt
no_cut (Heard a) e = tt
no_cut Nobody e = tt

-- an end from outside answers every call
cut_told : (g : Option ℕ) (h : Height) (i : Entry) → is_told g h i (Replied (Cut Over)) ≡ true
cut_told None (Some h) i = refl
cut_told None None i = refl
cut_told (Some n) h i = refl

-- what fits is told as it is
told_same : (g : Option ℕ) (h : Height) (i : Entry) (a : Answer) → is_told g h i a ≡ true → told_to g a ≡ a
told_same None h i a e = refl
told_same (Some n) h i (Heard x) e = let clash : false ≡ true = e in absurd cc
told_same (Some n) h i Nobody e = let clash : false ≡ true = e in absurd cc
told_same (Some n) h i (Replied (Completed c)) e = let clash : false ≡ true = e in absurd cc
told_same (Some n) h i (Replied (Stop k m)) e = refl
told_same (Some n) h i (Replied (Exit k)) e = refl
told_same (Some n) h i (Replied (Cut c)) e = refl

-- what suits is an answer that fits
own : (T : Tree Own) (p : Place) (d : ℕ) (x : Outcome) (h : Height) (i : Entry) (a : Answer) → suits x T p (Some (h, i, d)) (Come a) ≡ true → is_told (gone d T p) h i a ≡ true
own T p d (Exited n) h i a e = subst (λ y. is_told (gone d T p) h i y ≡ true) (sym (same_exit n a e)) (own_exit (gone d T p) h i n)
own T p d x h i a e = e

-- what suits by the code's test does so
suits_known : (T : Tree Own) (p : Place) (d : ℕ) (e : Option ℤ) (g : Option ℕ) (h : Height) (i : Entry) (m : Move Own) → IsKnown e g (gone d T p) → suits (last_outcome e) T p (Some (h, i, d)) m ≡ fits_call (last_outcome e) g h i m
suits_known T p d None g h i (Come a) k = ap (λ l. is_told l h i a) (sym k)
suits_known T p d None g h i (Enter t q) k = refl
suits_known T p d None g h i (Born o b) k = refl
suits_known T p d None g h i Fall k = refl
suits_known T p d (Some n) g h i (Come a) k = refl
suits_known T p d (Some n) g h i (Enter t q) k = refl
suits_known T p d (Some n) g h i (Born o b) k = refl
suits_known T p d (Some n) g h i Fall k = refl

module _ (T : Tree Own) (o : Player Own) (g : Option ℕ) (h : Height) (i : Entry) (x : Option ℤ) (ms : List (Move Own)) (on : o.fate ≡ None) (last : last_end o ≡ last_outcome x) (p : Place) (d : ℕ) (known : IsKnown x g (gone d T p)) where
  suits_so : (m : Move Own) (b : Bool) → fits_call (last_outcome x) g h i m ≡ b → suits (last_end o) T p (Some (h, i, d)) m ≡ b
  suits_so m b e = ap (λ y. suits y T p (Some (h, i, d)) m) last ∙ suits_known T p d x g h i m known ∙ e

  -- the next move doesn't suit
  pub is_unfit : (m : Move Own) → o.left ≡ m ∷ ms → fits_call (last_outcome x) g h i m ≡ false → IsOverBy T p d o h i (stopping o Unfits)
  is_unfit m e f a y = unfits m ms on e (suits_so m false f) y refl

  -- it is an end from outside
  pub is_ended : (m : Move Own) → o.left ≡ m ∷ ms → fits_call (last_outcome x) g h i m ≡ true → cuts_off m ≡ true → IsOverBy T p d o h i (stopping (reading o ms) EndsAbove)
  is_ended m e f c a y =
      let b = cut_is m c in
      ends b.0 ms on (e ∙ ap (λ n. n ∷ ms) b.1) (subst (λ n. suits (last_end o) T p (Some (h, i, d)) n ≡ true) b.1 (suits_so m true f)) b.2 y refl

  -- it is read
  pub is_read : (m : kept.Move) → o.left ≡ move_of m ∷ ms → fits_call (last_outcome x) g h i (move_of m) ≡ true → cuts_off (move_of m) ≡ false → GoesOn T p d o h i (move_of m) (reading o ms)
  is_read (moving.Enter target entry) e f c = (on, e, refl)
  is_read (moving.Come answer) e f c =
      let so = suits_so (Come (answer_of answer)) true f in
      (reads ms on e so (no_cut (answer_of answer) c) refl, own T p d (last_end o) h i (answer_of answer) so)

-- how the last entry ended
pub ends_by : (r : Reply) (e : Option ℤ) → IsExitOf r e → ending_of r ≡ last_outcome e
ends_by (Exit n) e g = sym (ap last_outcome g)
ends_by (Completed c) e g = sym (ap last_outcome g)
ends_by (Stop n m) e g = sym (ap last_outcome g)
ends_by (Cut c) e g = sym (ap last_outcome g)

-- ## What comes next to an open call

module _ (T : Tree Own) (o z : declared.Player) (p : Path) (d : ℕ) (h : Height) (i : Entry) (top : rise_to h p ≡ None) where
  comes_by : (a : Answer) → Answers T p (player_of o) (Some (h, i, d)) a (player_of z) → is_told (gone d T p) h i a ≡ true → AnswersFor played T o p d h i z a
  comes_by a g own = subst (outsides.Answers played T o p d h i z) (sym (told_same (gone d T p) h i a own)) (outer (rise_to h p) (player_of o) (player_of z) _ top g, own)

  pub is_told_so : (a : Answer) (t : Result Turn Interruption) → IsTold a t → Answers T p (player_of o) (Some (h, i, d)) a (player_of z) → is_told (gone d T p) h i a ≡ true → ComesNext played (Unit {0}) T o p d h i z t
  is_told_so a (Ok (turn.Entry target entry)) x g own = absurd x
  is_told_so a (Ok (turn.Completed text)) x g own = subst (AnswersFor played T o p d h i z) x (comes_by a g own)
  is_told_so a (Ok (turn.Heard reply)) x g own = subst (AnswersFor played T o p d h i z) x (comes_by a g own)
  is_told_so a (Ok turn.Nobody) x g own = subst (AnswersFor played T o p d h i z) x (comes_by a g own)
  is_told_so a (Err interruption.Memory) x g own = tt
  is_told_so a (Err (interruption.Completed c)) x g own = subst (AnswersFor played T o p d h i z) x (comes_by a g own)
  is_told_so a (Err (interruption.Stopped s)) x g own = subst (AnswersFor played T o p d h i z) x (comes_by a g own)
  is_told_so a (Err (interruption.Exited n)) x g own = subst (AnswersFor played T o p d h i z) x (comes_by a g own)
  is_told_so a (Err (interruption.Cut c)) x g own = subst (AnswersFor played T o p d h i z) x (comes_by a g own)

  pub is_over : IsOverBy T p d (player_of o) h i (player_of z) → AnswersFor played T o p d h i z (Replied (Cut Over))
  is_over over = comes_by (Replied (Cut Over)) (over (Replied (Cut Over)) tt) (cut_told (gone d T p) h i)

-- ## What was read for an open call

pub over_at : {A : Type 0} (r : Option A) (P : Type 0) → r ≡ None → IfNone r P → P
over_at r P e g = subst (λ x. IfNone x P) e g

pub read_at : {A : Type 0} (r : Option A) (x : A) (P : A → Type 0) → r ≡ Some x → IfSome r P → P x
read_at r x P e g = subst (λ y. IfSome y P) e g

-- an answer
pub answered : (T : Tree Own) (p : Place) (d : ℕ) (o z : Player Own) (h : Height) (i : Entry) (m : kept.Move) (answer : crossing_answer.Answer) → m ≡ moving.Come answer → GoesOn T p d o h i (move_of m) z →
    Answers T p o (Some (h, i, d)) (answer_of answer) z × (is_told (gone d T p) h i (answer_of answer) ≡ true)
answered T p d o z h i m answer e g = subst (λ n. GoesOn T p d o h i (move_of n) z) e g

-- an entry, of which copies are handed in
pub entered : (T : Tree Own) (p : Place) (d : ℕ) (o z : Player Own) (h : Height) (i : Entry) (m : kept.Move) (target : Vec (List ℕ) Global) (q : CodeEntry) (path : Path) (r : Entry) → m ≡ moving.Enter target q → path ≡ target.items → r ≡ whole_entry q → GoesOn T p d o h i (move_of m) z →
    HandsIn o path r z
entered T p d o z h i m target q path r e same copied g =
    let hands : HandsIn o target.items (whole_entry q) z = subst (λ n. GoesOn T p d o h i (move_of n) z) e g in
    subst (λ x. HandsIn o x r z) (sym same) (subst (λ x. HandsIn o target.items x z) (sym copied) hands)

pub told_on : (f : Option kept_fate.Fate) (o z : Player Own) (ev : Event Own) → is_some f ≡ false → z ≡ telling o ev → Tells (option_map fate_of f) o ev z
told_on None o z ev e g = g
told_on (Some x) o z ev e g = let clash : true ≡ false = e in absurd cc

-- whether the caller is gone doesn't matter after an exit
pub by_test : {A : Type 0} (o : Option A) (b : Bool) → is_some o ≡ not b → b ≡ false → is_some o ≡ true
by_test o b e f = e ∙ ap not f

pub known_exit : (e : Option ℤ) (g l : Option ℕ) → is_some e ≡ true → IsKnown e g l
known_exit None g l x = let clash : false ≡ true = x in absurd cc
known_exit (Some n) g l x = tt

pub known_so : (e : Option ℤ) (g l : Option ℕ) → g ≡ l → IsKnown e g l
known_so None g l x = x
known_so (Some n) g l x = tt

-- ## An entry that finds nobody

stray : (T : Tree Own) (o z : declared.Player) (t : Path) (i : Entry) (r : Reply) → played T o None (event t (Done None r)) z → WasUnfound played T o t i r z
stray T o z t i r told = λ c before e none g.
    let h : HandsIn (player_of before) t i (player_of o) = g in
    let on : (player_of o).fate ≡ None = ap (λ (u : Player Own). u.fate) h.2 ∙ h.0 in
    let kept : Tells (player_of o).fate (player_of o) (event t (Done None r)) (player_of z) = told in
    let so : player_of z ≡ telling (player_of o) (event t (Done None r)) = subst (λ f. Tells f (player_of o) (event t (Done None r)) (player_of z)) on kept in
    (player_of o, h, so ∙ ap (λ x. telling (player_of o) (event t (Done None x))) e)

pub strays : (T : Tree Own) (o z : declared.Player) (t : Path) (i : Entry) (told : Result (List ℕ) Interruption) → IfEnded told (λ r. played T o None (event t (Done None r)) z) → IfEnded told (λ r. WasUnfound played T o t i r z)
strays T o z t i told g = IfEnded-more told (λ r. played T o None (event t (Done None r)) z) (λ r. WasUnfound played T o t i r z) (λ r x. stray T o z t i r x) g

-- nothing is said of what it may have become
pub unsaid : (r : Result Turn Interruption) → OnEntry r (Unit {0})
unsaid (Ok (turn.Entry target entry)) = tt
unsaid (Ok (turn.Completed text)) = tt
unsaid (Ok (turn.Heard reply)) = tt
unsaid (Ok turn.Nobody) = tt
unsaid (Err e) = tt
