-- A run, computed: what comes of a program by itself, where no limit from outside is in the way,
-- the host accepts all that is asked of it, and above the top nobody is.
use Rattle.std.specs.Prelude.{◌≡◌, ℕ, zero, suc, Bool, true, false, Option, Some, None}
use Rattle.tcl_core.specs.Paths.{Place, Height, rise_to}
use Rattle.tcl_core.specs.Endings.{Completion, Reply, refusal}
use Rattle.tcl_core.specs.Endings.Meter.{Depth}
use Rattle.tcl_core.specs.Endings.Kind.{Full}
use Rattle.tcl_core.specs.Endings.Reply.{Completed, Stop, Exit, Cut}
use Rattle.tcl_core.specs.Entries.{Entry, Answer, Said}
use Rattle.tcl_core.specs.Entries.Answer.{Heard, Nobody}
use Rattle.tcl_core.specs.Entries.HostReply.{Accepted}
use Rattle.tcl_core.specs.Entries.Said.{Finished, Told}
use Rattle.tcl_core.specs.Execution.{Executes}
use Rattle.tcl_core.specs.Trees.{Tree, Event, effect, at, depth_of}
use Rattle.tcl_core.specs.Trees.Move.{Come}
use Rattle.tcl_core.specs.Trees.Grants.{Budget}
use Rattle.tcl_core.specs.Programs.{Deed, Wait, Prog, Table, spot, decide, opens, closes}
use Rattle.tcl_core.specs.Programs.Next.{On, TooDeep, Off}
use Rattle.tcl_core.specs.Programs.Prog.{done, exit, act, go, inside, call, wait}
use Rattle.tcl_core.specs.Runs.{returned, reached, fits}

module _ {O I : Type 0} (prog : Table O I) where
  abbrev pub Played : Type 0
  Played = Option (Tree O × Reply)

  abbrev pub follow : Played → (Tree O → Reply → Played) → Played
  follow None k = None
  follow (Some x) k = k x.0 x.1

  -- after a completion it goes on
  abbrev pub on_completed : (Tree O → Completion → Played) → Tree O → Reply → Played
  on_completed k T (Completed c) = k T c
  on_completed k T (Stop n m) = Some (T, Stop n m)
  on_completed k T (Exit n) = Some (T, Exit n)
  on_completed k T (Cut c) = Some (T, Cut c)

  abbrev pub acted : (Tree O → Played) → Tree O → Place → Option (Deed O) → Played
  acted k T p None = None
  acted k T p (Some (a, x, On)) = k (effect (spot p a) x T)
  acted k T p (Some (a, x, TooDeep)) = None
  acted k T p (Some (a, x, Off r)) = Some (effect (spot p a) x T, r)

  abbrev pub wrapped : (Tree O → Played) → (Tree O → Played) → Tree O → Place → Option (Deed O) →
      Played
  wrapped k deep T p None = None
  wrapped k deep T p (Some (a, x, On)) = k (effect (spot p a) x T)
  wrapped k deep T p (Some (a, x, TooDeep)) = deep (effect (spot p a) x T)
  wrapped k deep T p (Some (a, x, Off r)) = Some (effect (spot p a) x T, r)

  abbrev pub reached_by : (Place → Played) → Played → Option Place → Played
  reached_by k lost None = lost
  reached_by k lost (Some t) = k t

  abbrev pub risen_by : (Place → Played) → Played → Option Place → Played
  risen_by k out None = out
  risen_by k out (Some a) = k a

  abbrev pub where_fit : Bool → Played → Played
  where_fit true y = y
  where_fit false y = None

  -- How a call that leaves the tree is answered: the host accepts what is asked of it, and nobody
  -- is there for an alias. And what the program is told.
  abbrev pub from_outside : Height → Answer
  from_outside None = Heard Accepted
  from_outside (Some h) = Nobody

  abbrev pub told_so : Completion → Height → Said
  told_so lost None = Told Accepted
  told_so lost (Some h) = Finished lost

  abbrev pub suits : Tree O → Place → Height → Entry → Bool
  suits T p h i = fits T p (Some (h, i, depth_of (T p))) (Come (from_outside h))

  -- what comes of it within so many turns
  abbrev pub play : ℕ → Tree O → Place → Prog O I → Played
  play zero T p x = None
  play (suc n) T p (done c) = Some (T, Completed c)
  play (suc n) T p (exit s) = Some (T, Exit s)
  play (suc n) T p (act d k) = acted (λ U. play n U p (k (at T p))) T p (decide d T p (Budget 1000))
  play (suc n) T p (go i k) = follow (play n T p (prog.program i))
      (on_completed (λ U c. play n U p (k c)))
  play (suc n) T p (inside b i k) =
      wrapped (λ U. follow (play n U p (prog.program i))
      (λ V r. on_completed (λ W c. play n W p (k c)) (effect p (closes b (U p) (V p)) V) r))
      (λ U. play n U p (k (refusal (Full Depth)))) T p (opens b T p (Budget 1000))
  play (suc n) T p (call h down i lost k) =
      risen_by (λ a. reached_by (λ t. follow (play n T t (prog.entry i))
      (λ U r. on_completed (λ V c. play n V p (k (Finished c))) U (returned T U h p down r)))
      (play n T p (k (Finished lost))) (reached T a down))
      (where_fit (suits T p h i) (play n T p (k (told_so lost h)))) (rise_to h p)
  play (suc n) T p (wait s k) = None

-- how it ends
abbrev pub ends : {O : Type 0} → Option (Tree O × Reply) → Option Reply
ends None = None
ends (Some x) = Some x.1

-- an outside of which nothing is said
abbrev pub Any : {O : Type 0} → Tree O → Unit {0} → Wait → Event O → Unit {0} → Type 0
Any T o s ev u = Unit {0}

-- What is played is a run.
abbrev pub PlayIsRun : Type 0 → Type 0 → Type 0
PlayIsRun O I = (prog : Table O I) (n : ℕ) (T V : Tree O) (p : Place) (x : Prog O I) (r : Reply) →
    play prog n T p x ≡ Some (V, r) → Executes Any prog T tt p x V tt r
