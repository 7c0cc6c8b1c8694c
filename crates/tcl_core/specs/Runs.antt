-- What a program's run is.
use Rattle.std.specs.Ordering.{int_eq}
use Rattle.std.specs.Prelude.{◌≡◌, ℕ, zero, suc, ℤ, Bool, true, false, nat_eq, nat_le, nat_lt}
use Rattle.std.specs.Prelude.{◌+◌, ◌-◌, List, [], ◌∷◌, ◌++◌, Option, Some, None, length}
use Rattle.tcl_core.specs.Paths.{falls, together, Path, Place, Height, rise_to}
use Rattle.tcl_core.specs.Endings.{Kind, Completion, Reply, refusal}
use Rattle.tcl_core.specs.Endings.Meter.{Depth}
use Rattle.tcl_core.specs.Endings.Kind.{Full, Gone}
use Rattle.tcl_core.specs.Endings.Reply.{Completed, Stop, Exit}
use Rattle.tcl_core.specs.Entries.{Entry, Answer, Said, answers}
use Rattle.tcl_core.specs.Entries.Entry.{AskHost}
use Rattle.tcl_core.specs.Entries.Answer.{Replied, Heard, Nobody}
use Rattle.tcl_core.specs.Entries.Said.{Finished, Told, Missed}
use Rattle.tcl_core.specs.Trees.{Grants, granted, Node, Tree, at, What, Event, Move, effect, asked}
use Rattle.tcl_core.specs.Trees.{depth_of}
use Rattle.tcl_core.specs.Trees.What.{Made, Dropped, Out, In, Done, Back, Unfound}
use Rattle.tcl_core.specs.Trees.Move.{Born, Fall, Enter, Come}
use Rattle.tcl_core.specs.Programs.{Wait, Wrap, Next, Deed, spot, Prog, Table, decide, opens}
use Rattle.tcl_core.specs.Programs.{closes, or_lost}
use Rattle.tcl_core.specs.Programs.Next.{On, TooDeep, Off}
use Rattle.tcl_core.specs.Programs.Prog.{done, exit, act, go, inside, call, wait}

-- The tree; what the outside will hand in; what it will say to steps and evaluations; and the tape,
-- all that is yet to happen. A run reads its own happenings off the tape.
pub record World (O : Type 0) : Type 0 where
  pub tree : Tree O
  pub moves : List (Move O)
  pub grants : Grants
  pub tape : List (Event O)

-- a reply, or none where the run halts: no move and no word of the outside is left, or a move does
-- not fit
abbrev pub Ending : Type 0
Ending = Option Reply

-- x happens at p, next on the tape
pub record Step {O : Type 0} (w : World O) (p : Place) (x : What O) (v : World O) : Type 0 where
  pub tape : w.tape ≡ record { place = p; what = x } ∷ v.tape
  pub tree : v.tree ≡ effect p x w.tree
  pub moves : w.moves ≡ asked p x v.moves
  pub grants : w.grants ≡ granted p x v.grants

-- nothing more happens
pub record Halts {O : Type 0} (w v : World O) (e : Ending) : Type 0 where
  pub tape : w.tape ≡ []
  pub same : v ≡ w
  pub ending : e ≡ None

abbrev pub Run : Type 0 → Type 0 → Type 1
Run O I = World O → Place → Prog O I → World O → Ending → Type 0

-- The reply of a call, as the caller at p is told it, who went h up and then down: a stop that
-- names an interpreter in whose subtree the caller does not stand is an error there; another one is
-- as many levels up as it is from the caller.
abbrev pub lessened : Bool → ℕ → Kind → Reply
lessened true n m = Completed (refusal m)
lessened false n m = Stop n m

abbrev pub carried_by : Reply → Height → Place → Path → Reply
carried_by (Stop n m) None p down = Completed (refusal m)
carried_by (Stop n m) (Some h) p down = lessened
    (nat_lt (n + together (falls h p) down) (length down)) (n + h - length down) m
carried_by r h p down = r

-- ## Callers that are gone

-- An evaluation in progress holds a level of depth in its interpreter and in each above it. Where
-- one of them is dropped meanwhile, with all below it, nothing or another stands there, in which
-- nothing is in progress when control comes back. So who called is gone where its interpreter is in
-- use less deeply than it was when the call went out.

abbrev pub idle_at : Bool → Option ℕ
idle_at true = Some 0
idle_at false = None

abbrev pub grown : Bool → ℕ → ℕ
grown true n = suc n
grown false n = n

abbrev pub onward : Option ℕ → ℕ → Bool → Option ℕ
onward None l b = None
onward (Some n) l true = Some (grown (nat_le l n) n)
onward (Some n) l false = Some n

-- how many levels up from p, and in all below it down to p, nothing is in progress
abbrev pub idle_up : {O : Type 0} → Tree O → Place → Option ℕ
idle_up T [] = idle_at (nat_eq (depth_of (T [])) 0)
idle_up T (x ∷ xs) = onward (idle_up (λ p. T (x ∷ p)) xs) (length xs)
    (nat_eq (depth_of (T [])) 0)

abbrev pub levels : Option ℕ → ℕ
levels None = 0
levels (Some n) = n

abbrev pub gone_by : Bool → ℕ → Option ℕ
gone_by true n = Some n
gone_by false n = None

-- Whether the caller at p, in whose interpreter d evaluations were in progress, is gone; and how
-- many levels up from it the highest interpreter is that is gone.
abbrev pub gone : {O : Type 0} → ℕ → Tree O → Place → Option ℕ
gone d T p = gone_by (nat_lt (depth_of (T p)) d) (levels (idle_up T p))

-- what a caller is told for a reply: one that is gone is told no completion
abbrev pub ended : Option ℕ → Reply → Reply
ended None r = r
ended (Some n) (Completed c) = Stop n Gone
ended (Some n) r = r

abbrev pub carried : Option ℕ → Height → Place → Path → Reply → Reply
carried g h p down r = ended g (carried_by r h p down)

-- The reply of a call within the tree, as the caller at p is told it: T is the tree as the call
-- went out, U as it was done.
abbrev pub returned : {O : Type 0} → Tree O → Tree O → Height → Place → Path → Reply → Reply
returned T U h p down r = carried (gone (depth_of (T p)) U p) h p down r

-- the interpreter these names down from a, where it stands
abbrev pub where_stands : {O : Type 0} → Option (Node O) → Place → Option Place
where_stands None p = None
where_stands (Some n) p = Some p

abbrev pub reached : {O : Type 0} → Tree O → Place → Path → Option Place
reached T a down = where_stands (T (a ++ down)) (a ++ down)

-- An alias is answered by how its evaluation ended, or since nobody is there; a request by one of
-- its own answers, or by an end from outside. A stop that answers an alias names an interpreter
-- below the one to which the call goes up: what a stop further up ends is ended from outside.
abbrev pub is_own : Height → Entry → Answer → Bool
is_own (Some h) i (Replied (Stop n m)) = nat_lt n h
is_own (Some h) i (Replied r) = true
is_own (Some h) i (Heard a) = false
is_own (Some h) i Nobody = true
is_own None i (Replied (Completed c)) = false
is_own None i (Replied (Stop n m)) = false
is_own None i (Replied r) = true
is_own None (AskHost q) (Heard a) = answers q a
is_own None i (Heard a) = false
is_own None i Nobody = false

-- A caller that is gone is answered by no completion and by no word of the host, nor since nobody
-- is there: what they would have been is the stop of a gone interpreter.
abbrev pub names_gone : ℕ → Kind → ℕ → Bool
names_gone l (Full m) n = false
names_gone l Gone n = nat_eq n l

abbrev pub ends_gone : ℕ → Height → Reply → Bool
ends_gone l h (Completed c) = false
ends_gone l (Some h) (Stop n k) = nat_lt n h
ends_gone l None (Stop n k) = names_gone l k n
ends_gone l h r = true

abbrev pub is_told : Option ℕ → Height → Entry → Answer → Bool
is_told None h i a = is_own h i a
is_told (Some l) h i (Heard a) = false
is_told (Some l) h i Nobody = false
is_told (Some l) h i (Replied r) = ends_gone l h r

-- whether a move fits where this call is open
abbrev pub answers_call : Option ℕ → Wait → Answer → Bool
answers_call g None a = false
answers_call g (Some c) a = is_told g c.0 c.1 a

abbrev pub gone_from : {O : Type 0} → Wait → Tree O → Place → Option ℕ
gone_from None T p = None
gone_from (Some c) T p = gone c.2 T p

abbrev pub fits : {O : Type 0} → Tree O → Place → Wait → Move O → Bool
fits T p s (Enter t i) = true
fits T p s (Come a) = answers_call (gone_from s T p) s a
fits T p s (Born o b) = true
fits T p s Fall = true

-- After an entry of a call ended by an exit, nothing fits but the call's own end by that exit.
abbrev pub is_exit : ℤ → Answer → Bool
is_exit n (Replied (Exit m)) = int_eq n m
is_exit n _ = false

abbrev pub ends_call : Wait → ℤ → Answer → Bool
ends_call None n a = false
ends_call (Some c) n a = is_exit n a

-- how far up the open call goes; control that waits at the top waits for the outside of every tree
abbrev pub height_of : Wait → Height
height_of None = None
height_of (Some c) = c.0

abbrev pub Leaves : {O : Type 0} → World O → Height → Place → Ending → World O → Type 0
Leaves w h t None v = v ≡ w
Leaves w h t (Some r) v = Step w t (Done h r) v

abbrev pub Exiting : {O : Type 0} → World O → Place → Wait → ℤ → Bool → World O → Ending → Type 0
Exiting w p s n false v e = Halts w v e
Exiting w p s n true v e = Step w p (Back (height_of s) (Replied (Exit n))) v × (e ≡ Some (Exit n))

abbrev pub Exits : {O : Type 0} → World O → Place → Wait → ℤ → List (Move O) → World O → Ending →
    Type 0
Exits w p s n [] v e = Halts w v e
Exits w p s n (Come a ∷ ms) v e = Exiting w p s n (ends_call s n a) v e
Exits w p s n (m ∷ ms) v e = Halts w v e

module _ {O I : Type 0} where
  -- how it goes on where an inner evaluation ended so: after a completion alone the program goes on
  abbrev pub Follows : Run O I → World O → Place → (Completion → Prog O I) → Reply → World O →
      Ending → Type 0
  Follows R w p k (Completed c) v e = R w p (k c) v e
  Follows R w p k r v e = (v ≡ w) × (e ≡ Some r)

  abbrev pub Then : Run O I → World O → Place → (Completion → Prog O I) → Ending → World O →
      Ending → Type 0
  Then R w p k None v e = (v ≡ w) × (e ≡ None)
  Then R w p k (Some r) v e = Follows R w p k r v e

  -- the same, after what a wrap undoes
  abbrev pub Closes : Run O I → Option (Node O) → World O → Place → Wrap O →
      (Completion → Prog O I) → Ending → World O → Ending → Type 0
  Closes R n w p b k None v e = (v ≡ w) × (e ≡ None)
  Closes R n w p b k (Some r) v e = (u : World O) × Step w p (closes b n (w.tree p)) u ×
      Follows R u p k r v e

  -- how it goes on after an act
  abbrev pub Acted : Run O I → World O → World O → Place → (Tree O → Prog O I) → Next → World O →
      Ending → Type 0
  Acted R w u p k (Off r) v e = (v ≡ u) × (e ≡ Some r)
  Acted R w u p k _ v e = R u p (k (at w.tree p)) v e

  abbrev pub Acts : Run O I → World O → Place → Option (Deed O) → (Tree O → Prog O I) → World O →
      Ending → Type 0
  Acts R w p None k v e = Halts w v e
  Acts R w p (Some x) k v e = (u : World O) × Step w (spot p x.0) x.1 u × Acted R w u p k x.2 v e

  -- an inner evaluation, between what its wrap does and undoes
  abbrev pub Opened : Table O I → Run O I → World O → Place → Wrap O → I → (Completion → Prog O I) →
      Next → World O → Ending → Type 0
  Opened prog R w p b i k (Off r) v e = (v ≡ w) × (e ≡ Some r)
  Opened prog R w p b i k TooDeep v e = R w p (k (refusal (Full Depth))) v e
  Opened prog R w p b i k On v e = (u : World O) × (o : Ending) × R w p (prog.program i) u o ×
      Closes R (w.tree p) u p b k o v e

  abbrev pub Opens : Table O I → Run O I → World O → Place → Option (Deed O) → Wrap O → I →
      (Completion → Prog O I) → World O → Ending → Type 0
  Opens prog R w p None b i k v e = Halts w v e
  Opens prog R w p (Some x) b i k v e = (u : World O) × Step w (spot p x.0) x.1 u ×
      Opened prog R u p b i k x.2 v e

  -- how it goes on where a call is answered
  abbrev pub Hears : Run O I → World O → Place → (Said → Prog O I) → Answer → World O → Ending →
      Type 0
  Hears R w p k (Heard a) v e = R w p (k (Told a)) v e
  Hears R w p k Nobody v e = R w p (k Missed) v e
  Hears R w p k (Replied (Completed c)) v e = R w p (k (Finished c)) v e
  Hears R w p k (Replied r) v e = (v ≡ w) × (e ≡ Some r)

  abbrev pub Answered : Run O I → World O → Place → Height → (Said → Prog O I) → Answer → World O →
      Ending → Type 0
  Answered R w p h k a v e = (u : World O) × Step w p (Back h a) u × Hears R u p k a v e

  -- control enters t, where somebody stands; what is asked for is done there, and control leaves
  pub record Visits (prog : Table O I) (R : Run O I) (w : World O) (h : Height) (t : Place)
      (i : Entry) (v : World O) (e : Ending) : Type 0 where
    pub node : Node O
    pub stands : w.tree t ≡ Some node
    pub entered : World O
    pub left : World O
    pub entry : Step w t (In h i) entered
    pub run : R entered t (prog.entry i) left e
    pub leaving : Leaves left h t e v

  abbrev pub Returns : Run O I → ℕ → World O → Place → Height → Path → (Said → Prog O I) → Ending →
      World O → Ending → Type 0
  Returns R d w p h down k None v e = (v ≡ w) × (e ≡ None)
  Returns R d w p h down k (Some r) v e =
      Answered R w p h k (Replied (carried (gone d w.tree p) h p down r)) v e

  abbrev pub Reaches : Table O I → Run O I → World O → Place → Height → Path → Entry → Completion →
      (Said → Prog O I) → Option Place → World O → Ending → Type 0
  Reaches prog R w p h down i lost k None v e = Answered R w p h k (Replied (Completed lost)) v e
  Reaches prog R w p h down i lost k (Some t) v e =
      (u : World O) × (o : Ending) × Visits prog R w (Some (length down)) t i u o ×
      Returns R (depth_of (w.tree p)) u p h down k o v e

  abbrev pub Calls : Table O I → Run O I → World O → Place → Height → Path → Entry → Completion →
      (Said → Prog O I) → Option Place → World O → Ending → Type 0
  Calls prog R w p h down i lost k None v e =
      R w p (wait (Some (h, i, depth_of (w.tree p))) (or_lost lost k)) v e
  Calls prog R w p h down i lost k (Some a) v e = Reaches prog R w p h down i lost k
      (reached w.tree a down) v e

  -- control stays outside after an entry
  abbrev pub Stays : Run O I → World O → Place → Wait → (Said → Prog O I) → Ending → World O →
      Ending → Type 0
  Stays R w p s k None v e = (v ≡ w) × (e ≡ None)
  Stays R w p s k (Some (Exit n)) v e = Exits w p s n w.moves v e
  Stays R w p s k (Some r) v e = R w p (wait s k) v e

  -- an entry from outside, by who stands at its path
  abbrev pub Enters : Table O I → Run O I → World O → Place → Wait → (Said → Prog O I) → Path →
      Entry → Option (Node O) → World O → Ending → Type 0
  Enters prog R w p s k t i None v e = (u : World O) × Step w [] (Unfound t i (prog.lost t)) u ×
      R u p (wait s k) v e
  Enters prog R w p s k t i (Some n) v e = (u : World O) × (o : Ending) ×
      Visits prog R w None t i u o × Stays R u p s k o v e

  abbrev pub Moves : Table O I → Run O I → World O → Place → Wait → (Said → Prog O I) → Move O →
      World O → Ending → Type 0
  Moves prog R w p s k (Come a) v e = Answered R w p (height_of s) k a v e
  Moves prog R w p s k (Born o b) v e = (u : World O) × Step w [] (Made o b) u ×
      R u p (wait s k) v e
  Moves prog R w p s k Fall v e = (u : World O) × Step w [] Dropped u × R u p (wait s k) v e
  Moves prog R w p s k (Enter t i) v e = Enters prog R w p s k t i (w.tree t) v e

  abbrev pub Fitting : Table O I → Run O I → World O → Place → Wait → (Said → Prog O I) → Bool →
      Move O → World O → Ending → Type 0
  Fitting prog R w p s k false m v e = Halts w v e
  Fitting prog R w p s k true m v e = Moves prog R w p s k m v e

  abbrev pub Waits : Table O I → Run O I → World O → Place → Wait → (Said → Prog O I) →
      List (Move O) → World O → Ending → Type 0
  Waits prog R w p s k [] v e = Halts w v e
  Waits prog R w p s k (m ∷ ms) v e = Fitting prog R w p s k (fits w.tree p s m) m v e

  -- what a run is, where R says what the runs inside it are
  abbrev pub Unrolled : Table O I → Run O I → World O → Place → Prog O I → World O → Ending → Type 0
  Unrolled prog R w p (done c) v e = (v ≡ w) × (e ≡ Some (Completed c))
  Unrolled prog R w p (exit n) v e = (v ≡ w) × (e ≡ Some (Exit n))
  Unrolled prog R w p (act d k) v e = Acts R w p (decide d w.tree p w.grants) k v e
  Unrolled prog R w p (go i k) v e = (u : World O) × (o : Ending) × R w p (prog.program i) u o ×
      Then R u p k o v e
  Unrolled prog R w p (inside b i k) v e = Opens prog R w p (opens b w.tree p w.grants) b i k v e
  Unrolled prog R w p (call h down i lost k) v e = (u : World O) × Step w p (Out h down i) u ×
      Calls prog R u p h down i lost k (rise_to h p) v e
  Unrolled prog R w p (wait s k) v e = (rise_to (height_of s) p ≡ None) ×
      Waits prog R w p s k w.moves v e

  -- a run at most n acts deep
  abbrev pub RunsIn : Table O I → ℕ → World O → Place → Prog O I → World O → Ending → Type 0
  RunsIn prog zero w p x v e = Prim.⊥
  RunsIn prog (suc n) w p x v e = Unrolled prog (RunsIn prog n) w p x v e

  abbrev pub Runs : Table O I → World O → Place → Prog O I → World O → Ending → Type 0
  Runs prog w p x v e = (n : ℕ) × RunsIn prog n w p x v e
