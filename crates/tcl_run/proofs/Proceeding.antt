-- One law for each thing that evaluations do on their way: however far it comes from there, so far it comes from here, be it to an end or to where all is given up.
use Rattle.std.proofs.Common.{◌≡◌, ℕ, ℤ, true, false, List, [], ◌∷◌, ◌++◌, Option, Some, None, refl, sym, ◌∙◌, ap, subst, append-nil}
use Rattle.std.specs.Prelude.{Result, Ok, Err, nat_lt}
use Rattle.tcl_partial_runs.specs.Beginnings as beginnings
use Rattle.tcl_core.specs.Paths.{Path, Place, Height, rise_to}
use Rattle.tcl_core.specs.Endings.{Completion, Reply, IsQuit}
use Rattle.tcl_core.specs.Endings.Meter.{Count, Depth}
use Rattle.tcl_core.specs.Endings.Reply.{Completed, Stop, Exit, Cut}
use Rattle.tcl_core.specs.Entries.{Entry, HostReply, Said}
use Rattle.tcl_core.specs.Entries.Answer.{Replied, Heard, Nobody}
use Rattle.tcl_core.specs.Entries.Said.{Finished, Told, Missed}
use Rattle.tcl_core.specs.Trees.{Tree, Node, What, depth_of, effect, at, allowing}
use Rattle.tcl_core.specs.Trees.Grants.{Listed}
use Rattle.tcl_core.specs.Trees.What.{Seen, Charged, Nested, Unnested, Changed, Dropped, Out, In, Done, Back, Unfound}
use Rattle.tcl_core.specs.Programs.{Table, Act, Deed, spot, metered, blocked, is_deep, changing, dropping, brought_back, or_lost}
use Rattle.tcl_core.specs.Programs.Act.{Look, Charge, Drop}
use Rattle.tcl_core.specs.Programs.Wrap.{Deeper, Framed}
use Rattle.tcl_core.specs.Programs.Next.{On}
use Rattle.tcl_core.specs.Programs.Prog.{done, exit, act, go, inside, call, wait}
use Rattle.tcl_core.specs.Rules.{IsOn, IsNoExit}
use Rattle.tcl_core.specs.Runs.{Ending, gone, is_told, returned, where_stands}
use Rattle.tcl_core.specs.Execution.{Crossings, Decides, event}
use Rattle.tcl_core.specs.Execution as executes
use Rattle.tcl_tree.specs.Own.{Own}
use Rattle.tcl_language.specs.Instructions.{Instr, Program, look, change, at_node, or_fails, grown, either, fits, too_long as too_long_error}
use Rattle.tcl_language.specs.Interpreters.{finished}
use Rattle.tcl_run.specs.Ends.{IsFailure, too_deep_at}
use Rattle.tcl_core.specs.Endings.Kind.{Gone}
use Rattle.tcl_core.specs.Entries.{Answer}
use Rattle.tcl_run.specs.Outsides.{Answers, AnswersFor, Going, Enters, Returns, Misses, told_to}
use Rattle.tcl_run.specs.Runs.{Comes, Counts, IsLoss, Proceeds, RefusesStep, Ways}
use Rattle.tcl_run.specs.Runs.Proceeds.{ended, given_up}
use Rattle.tcl_run.specs.Runs.IsLoss.{unlost}
use Rattle.tcl_run.specs.Plain.{Does}
use Rattle.tcl_run.proofs.Leads as leads
use Rattle.tcl_run.proofs.Losing.{lost_twice}
use Rattle.tcl_run.proofs.Plain.{does_comes}

-- it was given up, or quits what called it
abbrev pub IsQuitting : Ending → Type 0
IsQuitting None = Unit {0}
IsQuitting (Some r) = IsQuit r

-- what is told to a caller for an answer is that answer, where it stands
pub answers_here : {S : Type 0} (goes : Going S) (T : Tree Own) (o u : S) (p : Place) (d : ℕ) (h : Height) (i : Entry) (a : Answer) → gone d T p ≡ None → AnswersFor goes T o p d h i u a → Answers goes T o p d h i u a
answers_here goes T o u p d h i a here x = subst (λ (g : Option ℕ). Answers goes T o p d h i u (told_to g a)) here x

module _ {S : Type 0} {ways : Ways S} {language : Table Own Instr} where
  -- ## Along equations

  pub at_prog : {T V : Tree Own} {o z : S} {p : Place} {x y : Program} {e : Ending} → x ≡ y → Proceeds ways language T o p y V z e → Proceeds ways language T o p x V z e
  at_prog {T} {V} {o} {z} {p} {x} {y} {e} same t = subst (λ (a : Program). Proceeds ways language T o p a V z e) (sym same) t

  pub at_reply : {T V : Tree Own} {o z : S} {p : Place} {x : Program} {r s : Reply} → r ≡ s → Proceeds ways language T o p x V z (Some s) → Proceeds ways language T o p x V z (Some r)
  at_reply {T} {V} {o} {z} {p} {x} {r} {s} same t = subst (λ (a : Reply). Proceeds ways language T o p x V z (Some a)) (sym same) t

  pub at_end : {T V : Tree Own} {o z : S} {p : Place} {x : Program} {e f : Ending} → e ≡ f → Proceeds ways language T o p x V z f → Proceeds ways language T o p x V z e
  at_end {T} {V} {o} {z} {p} {x} {e} {f} same t = subst (λ (a : Ending). Proceeds ways language T o p x V z a) (sym same) t

  pub at_start : {T U V : Tree Own} {o z : S} {p : Place} {x : Program} {e : Ending} → U ≡ T → Proceeds ways language U o p x V z e → Proceeds ways language T o p x V z e
  at_start {T} {U} {V} {o} {z} {p} {x} {e} same t = subst (λ (a : Tree Own). Proceeds ways language a o p x V z e) same t

  pub at_finish : {T U V : Tree Own} {o z : S} {p : Place} {x : Program} {e : Ending} → U ≡ V → Proceeds ways language T o p x V z e → Proceeds ways language T o p x U z e
  at_finish {T} {U} {V} {o} {z} {p} {x} {e} same t = subst (λ (a : Tree Own). Proceeds ways language T o p x a z e) (sym same) t

  -- ## Ends, and what is given up

  pub completed : {T : Tree Own} {o : S} {p : Place} {c : Completion} → Proceeds ways language T o p (done c) T o (Some (Completed c))
  completed = ended executes.completed

  pub exited : {T : Tree Own} {o : S} {p : Place} {n : ℤ} → Proceeds ways language T o p (exit n) T o (Some (Exit n))
  exited = ended executes.exited

  -- it is given up at once: the outside is as it was, or what may have become of it
  pub stopped : {T V : Tree Own} {o : S} {p : Place} {x : Program} → Proceeds ways language T o p x V o None
  stopped = given_up beginnings.stopped unlost

  pub stopped_by : {T V : Tree Own} {o z : S} {p : Place} {x : Program} → IsLoss ways.loses o z → Proceeds ways language T o p x V z None
  stopped_by l = given_up beginnings.stopped l

  -- it came to an end, or was given up, and what followed was given up
  pub given_up_after : {T V W : Tree Own} {o u z : S} {p : Place} {x : Program} {e : Ending} → Proceeds ways language T o p x V u e → IsLoss ways.loses u z → Proceeds ways language T o p x W z None
  given_up_after (ended t) l = given_up (beginnings.ended t) l
  given_up_after (given_up b g) l = given_up b (lost_twice g l)

  -- of what is given up nothing is said of the tree
  pub any_tree : {T V W : Tree Own} {o z : S} {p : Place} {x : Program} → Proceeds ways language T o p x V z None → Proceeds ways language T o p x W z None
  any_tree (given_up b l) = given_up b l

  -- an end is one in the words of the core
  pub comes : {T V : Tree Own} {o z : S} {p : Place} {x : Program} {r : Reply} → Proceeds ways language T o p x V z (Some r) → Comes ways.goes language T o p x V z r
  comes (ended t) = t

  -- ## Acts

  pub acts : {T V : Tree Own} {o u z : S} {p : Place} {d : Act Own} {k : Tree Own → Program} {e : Ending} (x : Deed Own) → Decides d T p x → IsOn x.2 → Crossings ways.goes T o None (event (spot p x.0) x.1) u →
      Proceeds ways language (effect (spot p x.0) x.1 T) u p (k (at T p)) V z e → Proceeds ways language T o p (act d k) V z e
  acts x d on s (ended t) = ended (executes.acted x d on s t)
  acts x d on s (given_up b l) = given_up (beginnings.acted x d on s b) l

  pub looks : {T V : Tree Own} {o z : S} {p : Place} {n : Node Own} {k : Node Own → Program} {e : Ending} → T p ≡ Some n →
      Proceeds ways language T o p (k n) V z e → Proceeds ways language T o p (look k) V z e
  looks {T} {p = p} {n = n} {k = k} there t =
      acts (None, Seen, On) (λ gs. refl) tt (record { told = refl }) (at_prog (ap (λ (q : Place). at_node k (T q)) (append-nil p) ∙ ap (at_node k) there) t)

  pub sees_below : {T V : Tree Own} {o z : S} {p : Place} {k : Tree Own → Program} {e : Ending} →
      Proceeds ways language T o p (k (at T p)) V z e → Proceeds ways language T o p (act Look k) V z e
  sees_below t = acts (None, Seen, On) (λ gs. refl) tt (record { told = refl }) t

  pub changes : {T U V : Tree Own} {o z : S} {p : Place} {n : Node Own} {own : Own} {k : Program} {e : Ending} → T p ≡ Some n → U ≡ effect p (Changed own) T →
      Proceeds ways language U o p k V z e → Proceeds ways language T o p (change own k) V z e
  changes {own = own} there u t = acts (None, Changed own, On) (λ gs. ap (λ m. Some (changing own m)) there) tt (record { told = refl }) (at_start u t)

  pub charges : {T U V : Tree Own} {o u z : S} {p : Place} {k : Tree Own → Program} {e : Ending} → Counts ways.goes T o p U u →
      Proceeds ways language U u p (k (at T p)) V z e → Proceeds ways language T o p (act Charge k) V z e
  charges s t = acts (None, Charged, On) (λ gs. ap (λ b. metered Count Charged b (allowing Count (Listed gs))) s.free) tt (record { told = s.told }) (at_start s.counted t)

  pub charge_refused : {T U : Tree Own} {o z : S} {p : Place} {k : Tree Own → Program} {r : Reply} → RefusesStep ways.goes T o p U z r → Proceeds ways language T o p (act Charge k) U z (Some r)
  charge_refused s = ended (leads.charge_refused s)

  -- what a program does by itself
  pub does_proceeds : (x : Program) {T V : Tree Own} {p : Place} {r : Reply} (o : S) → Does x T p V r → Proceeds ways language T o p x V o (Some r)
  does_proceeds x o d = ended (does_comes x o d)

  -- a child is dropped, whether an evaluation is in progress in it or not
  pub drops : {T U V : Tree Own} {o u z : S} {p : Place} {name : List ℕ} {n : Node Own} {k : Tree Own → Program} {e : Ending} → T (p ++ name ∷ []) ≡ Some n →
      U ≡ effect (p ++ name ∷ []) Dropped T → ways.goes T o None (event (p ++ name ∷ []) Dropped) u → Proceeds ways language U u p (k (at T p)) V z e → Proceeds ways language T o p (act (Drop name) k) V z e
  drops {name = name} there e g t = acts (Some name, Dropped, On) (λ gs. ap (λ m. Some (dropping name m)) there) tt (record { told = g }) (at_start e t)

  -- ## Inner evaluations

  pub goes_on : {T U V : Tree Own} {o u z : S} {p : Place} {i : Instr} {k : Completion → Program} {c : Completion} {e : Ending} →
      Proceeds ways language T o p (language.program i) U u (Some (Completed c)) → Proceeds ways language U u p (k c) V z e → Proceeds ways language T o p (go i k) V z e
  goes_on (ended m) (ended n) = ended (executes.went m n)
  goes_on (ended m) (given_up b l) = given_up (beginnings.went m b) l

  -- what is no completion ends what called it, or is given up with it
  pub passed : {T U : Tree Own} {o u : S} {p : Place} {i : Instr} {k : Completion → Program} {e : Ending} → IsQuitting e →
      Proceeds ways language T o p (language.program i) U u e → Proceeds ways language T o p (go i k) U u e
  passed quit (ended m) = ended (executes.passed quit m)
  passed quit (given_up b l) = given_up (beginnings.going b) l

  pub goes_done : {T V : Tree Own} {o z : S} {p : Place} {i : Instr} {e : Ending} →
      Proceeds ways language T o p (language.program i) V z e → Proceeds ways language T o p (go i done) V z e
  goes_done {e = Some (Completed c)} t = goes_on t completed
  goes_done {e = Some (Stop n m)} t = passed tt t
  goes_done {e = Some (Exit n)} t = passed tt t
  goes_done {e = Some (Cut c)} t = passed tt t
  goes_done {e = None} t = passed tt t

  nests_begun : {T V W : Tree Own} {o z : S} {p : Place} {i : Instr} → blocked is_deep T p ≡ None → Proceeds ways language (effect p Nested T) o p (language.program i) V z None → Proceeds ways language T o p (inside Deeper i done) W z None
  nests_begun e (given_up b l) = given_up (beginnings.within (None, Nested, On) (λ gs. ap (λ b. metered Depth Nested b (allowing Depth (Listed gs))) e) refl (record { told = refl }) b) l

  pub nests_done : {T U V W : Tree Own} {o z : S} {p : Place} {i : Instr} {e : Ending} → blocked is_deep T p ≡ None → U ≡ effect p Nested T → W ≡ effect p Unnested V →
      Proceeds ways language U o p (language.program i) V z e → Proceeds ways language T o p (inside Deeper i done) W z e
  nests_done {e = Some r} e u v t = ended (leads.nests_done e u v (comes t))
  nests_done {e = None} e u v t = nests_begun e (at_start u t)

  -- the limit of the interpreter so many levels up refuses: its own is an error, and another one's a stop
  pub nest_refused : {T : Tree Own} {o : S} {p : Place} {i : Instr} (n : ℕ) → blocked is_deep T p ≡ Some n → Proceeds ways language T o p (inside Deeper i done) T o (Some (too_deep_at n))
  nest_refused n e = ended (leads.nest_refused n e)

  -- with other frames, which are put back however it ends, where its interpreter stands still
  pub framed : {T U V W X : Tree Own} {o u z : S} {p : Place} {n : Node Own} {own : Own} {back : Own → Own} {i : Instr} {k : Completion → Program} {c : Completion} {e : Ending} →
      T p ≡ Some n → U ≡ effect p (Changed own) T → W ≡ effect p (brought_back (nat_lt (depth_of (V p)) n.depth) back (V p)) V →
      Proceeds ways language U o p (language.program i) V u (Some (Completed c)) → Proceeds ways language W u p (k c) X z e → Proceeds ways language T o p (inside (Framed own back) i k) X z e
  framed {T} {U} {V} {W} {X} {o} {u} {z} {p} {n} {own} {back} {i} {k} {c} {e} there a b t s =
      by (at_start a t) (at_start (b ∙ ap (λ (x : What Own). effect p x V) (sym (leads.closing T V p n own back there))) s)
    where
      by : {e : Ending} → Proceeds ways language (effect p (Changed own) T) o p (language.program i) V u (Some (Completed c)) →
          Proceeds ways language (effect p (brought_back (nat_lt (depth_of (V p)) (depth_of (effect p (Changed own) T p))) back (V p)) V) u p (k c) X z e → Proceeds ways language T o p (inside (Framed own back) i k) X z e
      by (ended t) (ended s) = ended (executes.wrapped (None, Changed own, On) (λ gs. ap (λ x. Some (changing own x)) there) refl (record { told = refl }) t (leads.closes_unheard ways.goes V u p _ back (V p)) s)
      by (ended t) (given_up s l) = given_up (beginnings.wrapped (None, Changed own, On) (λ gs. ap (λ x. Some (changing own x)) there) refl (record { told = refl }) t (leads.closes_unheard ways.goes V u p _ back (V p)) s) l

  pub framed_passed : {T U V W : Tree Own} {o u : S} {p : Place} {n : Node Own} {own : Own} {back : Own → Own} {i : Instr} {k : Completion → Program} {e : Ending} → IsQuitting e →
      T p ≡ Some n → U ≡ effect p (Changed own) T → W ≡ effect p (brought_back (nat_lt (depth_of (V p)) n.depth) back (V p)) V →
      Proceeds ways language U o p (language.program i) V u e → Proceeds ways language T o p (inside (Framed own back) i k) W u e
  framed_passed {T} {U} {V} {W} {o} {u} {p} {n} {own} {back} {i} {k} {e} quit there a b t =
      at_finish (b ∙ ap (λ (x : What Own). effect p x V) (sym (leads.closing T V p n own back there))) (by quit (at_start a t))
    where
      by : {e : Ending} → IsQuitting e → Proceeds ways language (effect p (Changed own) T) o p (language.program i) V u e →
          Proceeds ways language T o p (inside (Framed own back) i k) (effect p (brought_back (nat_lt (depth_of (V p)) (depth_of (effect p (Changed own) T p))) back (V p)) V) u e
      by quit (ended t) = ended (executes.wrapped_passed (None, Changed own, On) quit (λ gs. ap (λ x. Some (changing own x)) there) refl (record { told = refl }) t (leads.closes_unheard ways.goes V u p _ back (V p)))
      by quit (given_up s l) = given_up (beginnings.within (None, Changed own, On) (λ gs. ap (λ x. Some (changing own x)) there) refl (record { told = refl }) s) l

  -- given up with the other frames, wherever: nothing is said of putting them back
  pub framed_stopped : {T U V W : Tree Own} {o u : S} {p : Place} {n : Node Own} {own : Own} {back : Own → Own} {i : Instr} {k : Completion → Program} →
      T p ≡ Some n → U ≡ effect p (Changed own) T → Proceeds ways language U o p (language.program i) V u None → Proceeds ways language T o p (inside (Framed own back) i k) W u None
  framed_stopped {T} {U} {V} {W} {o} {u} {p} {n} {own} {back} {i} {k} there a t = by (at_start a t)
    where
      by : Proceeds ways language (effect p (Changed own) T) o p (language.program i) V u None → Proceeds ways language T o p (inside (Framed own back) i k) W u None
      by (given_up s l) = given_up (beginnings.within (None, Changed own, On) (λ gs. ap (λ x. Some (changing own x)) there) refl (record { told = refl }) s) l

  -- ## What was read, and what has grown

  pub reads_on : {A F : Type 0} {T V : Tree Own} {o z : S} {p : Place} {read : Result A F} {a : A} {e : Ending} (message : F → List ℕ) (k : A → Program) → read ≡ Ok a →
      Proceeds ways language T o p (k a) V z e → Proceeds ways language T o p (or_fails message read k) V z e
  reads_on message k e t = at_prog (ap (λ x. or_fails message x k) e) t

  pub read_fails : {A F : Type 0} {T : Tree Own} {o : S} {p : Place} (message : F → List ℕ) (read : Result A F) (k : A → Program) (e : Reply) → IsFailure message read e →
      Proceeds ways language T o p (or_fails message read k) T o (Some e)
  read_fails message (Ok a) k e d = elim d [ ]
  read_fails message (Err f) k e d = at_reply d completed

  pub grows : {T V : Tree Own} {o z : S} {p : Place} {e : Ending} (text : List ℕ) (k : List ℕ → Program) → fits text ≡ true →
      Proceeds ways language T o p (k text) V z e → Proceeds ways language T o p (grown text k) V z e
  grows text k e t = at_prog (ap (λ b. either b (k text) (done too_long_error)) e) t

  pub outgrows : {T : Tree Own} {o : S} {p : Place} {r : Reply} (text : List ℕ) (k : List ℕ → Program) → fits text ≡ false → r ≡ Completed too_long_error →
      Proceeds ways language T o p (grown text k) T o (Some r)
  outgrows text k e d = at_prog (ap (λ b. either b (k text) (done too_long_error)) e) (at_reply d completed)

  -- ## Calls of other interpreters of the tree

  -- the caller goes on where its call was answered by a completion
  pub calls_on : {T U V : Tree Own} {o u v w z : S} {p : Place} {n : ℕ} {down : Path} {i : Entry} {lost : Completion} {k : Completion → Program} {m : Node Own} {s : Reply} {e : Ending} {c : Completion} (a : Place) → rise_to (Some n) p ≡ Some a → T (a ++ down) ≡ Some m →
      Enters ways.goes T o p n a down i u → Proceeds ways language T u (a ++ down) (language.entry i) U v (Some s) → returned T U (Some n) p down s ≡ Completed c → Returns ways.goes U v p n a down s (returned T U (Some n) p down s) w → Proceeds ways language U w p (k c) V z e →
      Proceeds ways language T o p (call (Some n) down i lost (finished k)) V z e
  calls_on {T} {U} {V} {o} {u} {v} {w} {z} {p} {n} {down} {i} {lost} {k} {m} {s} {e} {c} a r there x t f y g = by t g
    where
      by : {e : Ending} → Proceeds ways language T u (a ++ down) (language.entry i) U v (Some s) → Proceeds ways language U w p (k c) V z e → Proceeds ways language T o p (call (Some n) down i lost (finished k)) V z e
      by (ended t) (ended g) = ended (executes.called a (a ++ down) r (ap (λ x. where_stands x (a ++ down)) there) (record { told = x.leaves }) (record { told = x.enters }) t (record { told = y.leaves }) f (record { told = y.returns }) g)
      by (ended t) (given_up g l) = given_up (beginnings.called a (a ++ down) r (ap (λ x. where_stands x (a ++ down)) there) (record { told = x.leaves }) (record { told = x.enters }) t (record { told = y.leaves }) f (record { told = y.returns }) g) l

  -- what is no completion ends the caller too
  pub calls_passed : {T U : Tree Own} {o u v w : S} {p : Place} {n : ℕ} {down : Path} {i : Entry} {lost : Completion} {k : Completion → Program} {m : Node Own} {s r : Reply} (a : Place) → rise_to (Some n) p ≡ Some a → T (a ++ down) ≡ Some m →
      Enters ways.goes T o p n a down i u → Proceeds ways language T u (a ++ down) (language.entry i) U v (Some s) → returned T U (Some n) p down s ≡ r → IsQuit r → Returns ways.goes U v p n a down s r w →
      Proceeds ways language T o p (call (Some n) down i lost (finished k)) U w (Some r)
  calls_passed a e there x t f quit y = ended (leads.calls_passed a e there x (comes t) f quit y)

  -- the callee was given up, or its answer was lost
  pub calls_lost : {T U V : Tree Own} {o u v w : S} {p : Place} {n : ℕ} {down : Path} {i : Entry} {lost : Completion} {k : Completion → Program} {m : Node Own} {e : Ending} (a : Place) → rise_to (Some n) p ≡ Some a → T (a ++ down) ≡ Some m →
      Enters ways.goes T o p n a down i u → Proceeds ways language T u (a ++ down) (language.entry i) U v e → IsLoss ways.loses v w → Proceeds ways language T o p (call (Some n) down i lost (finished k)) V w None
  calls_lost {T} {U} {V} {o} {u} {v} {w} {p} {n} {down} {i} {lost} {k} {m} {e} a r there x t l = by t
    where
      by : {e : Ending} → Proceeds ways language T u (a ++ down) (language.entry i) U v e → Proceeds ways language T o p (call (Some n) down i lost (finished k)) V w None
      by (given_up b g) = given_up (beginnings.calling a (a ++ down) r (ap (λ x. where_stands x (a ++ down)) there) (record { told = x.leaves }) (record { told = x.enters }) b) (lost_twice g l)
      by (ended t) = given_up (beginnings.calling a (a ++ down) r (ap (λ x. where_stands x (a ++ down)) there) (record { told = x.leaves }) (record { told = x.enters }) (beginnings.ended t)) l

  -- a call that is all that is left ends as it was answered
  pub calls_in : {T U : Tree Own} {o u v w : S} {p : Place} {n : ℕ} {down : Path} {i : Entry} {lost : Completion} {m : Node Own} {s r : Reply} (a : Place) → rise_to (Some n) p ≡ Some a → T (a ++ down) ≡ Some m →
      Enters ways.goes T o p n a down i u → Proceeds ways language T u (a ++ down) (language.entry i) U v (Some s) → r ≡ returned T U (Some n) p down s → Returns ways.goes U v p n a down s r w →
      Proceeds ways language T o p (call (Some n) down i lost (finished done)) U w (Some r)
  calls_in a e there x t f y = ended (leads.calls_in a e there x (comes t) f y)

  -- the caller goes on with `lost` where nobody stands
  pub finds_none_on : {T V : Tree Own} {o u z : S} {p : Place} {n : ℕ} {down : Path} {i : Entry} {lost : Completion} {k : Completion → Program} {e : Ending} (a : Place) → rise_to (Some n) p ≡ Some a → T (a ++ down) ≡ None →
      Misses ways.goes T o p n down i (Completed lost) u → Proceeds ways language T u p (k lost) V z e → Proceeds ways language T o p (call (Some n) down i lost (finished k)) V z e
  finds_none_on {down = down} a e gone x (ended t) = ended (executes.unreached a e (ap (λ x. where_stands x (a ++ down)) gone) (record { told = x.leaves }) (record { told = x.returns }) t)
  finds_none_on {down = down} a e gone x (given_up b l) = given_up (beginnings.unreached a e (ap (λ x. where_stands x (a ++ down)) gone) (record { told = x.leaves }) (record { told = x.returns }) b) l

  pub finds_none : {T : Tree Own} {o u : S} {p : Place} {n : ℕ} {down : Path} {i : Entry} {lost : Completion} {r : Reply} (a : Place) → rise_to (Some n) p ≡ Some a → T (a ++ down) ≡ None → Misses ways.goes T o p n down i (Completed lost) u → r ≡ Completed lost →
      Proceeds ways language T o p (call (Some n) down i lost (finished done)) T u (Some r)
  finds_none a e gone x f = at_reply f (finds_none_on a e gone x completed)

  -- ## Calls that pass the top

  pub calls_out : {T V : Tree Own} {o u z : S} {p : Place} {h : Height} {down : Path} {i : Entry} {lost : Completion} {k : Said → Program} {e : Ending} → rise_to h p ≡ None →
      ways.goes T o None (event p (Out h down i)) u → Proceeds ways language T u p (wait (Some (h, i, depth_of (T p))) (or_lost lost k)) V z e → Proceeds ways language T o p (call h down i lost k) V z e
  calls_out up g (ended t) = ended (executes.called_out up (record { told = g }) t)
  calls_out up g (given_up b l) = given_up (beginnings.called_out up (record { told = g }) b) l

  -- The call that is waited for, which went out when d evaluations were in progress there, is answered
  -- by a completion, and the program goes on.
  pub answers_on : {T V : Tree Own} {o u z : S} {p : Place} {d : ℕ} {h : Height} {i : Entry} {k : Said → Program} {e : Ending} (c : Completion) → rise_to h p ≡ None → is_told (gone d T p) h i (Replied (Completed c)) ≡ true →
      ways.goes T o (Some (h, i, d)) (event p (Back h (Replied (Completed c)))) u → Proceeds ways language T u p (k (Finished c)) V z e → Proceeds ways language T o p (wait (Some (h, i, d)) k) V z e
  answers_on c up own g (ended t) = ended (executes.answered up own (record { told = g }) t)
  answers_on c up own g (given_up b l) = given_up (beginnings.answered up own (record { told = g }) b) l

  -- what is no completion ends it
  pub answers_passed : {T : Tree Own} {o u : S} {p : Place} {d : ℕ} {h : Height} {i : Entry} {k : Said → Program} {r : Reply} → IsQuit r → rise_to h p ≡ None → is_told (gone d T p) h i (Replied r) ≡ true →
      ways.goes T o (Some (h, i, d)) (event p (Back h (Replied r))) u → Proceeds ways language T o p (wait (Some (h, i, d)) k) T u (Some r)
  answers_passed quit up own g = ended (executes.answered_passed quit up own (record { told = g }))

  -- it is answered by a host's reply
  pub hears_on : {T V : Tree Own} {o u z : S} {p : Place} {d : ℕ} {h : Height} {i : Entry} {k : Said → Program} {e : Ending} (a : HostReply) → rise_to h p ≡ None → is_told (gone d T p) h i (Heard a) ≡ true →
      ways.goes T o (Some (h, i, d)) (event p (Back h (Heard a))) u → Proceeds ways language T u p (k (Told a)) V z e → Proceeds ways language T o p (wait (Some (h, i, d)) k) V z e
  hears_on a up own g (ended t) = ended (executes.heard up own (record { told = g }) t)
  hears_on a up own g (given_up b l) = given_up (beginnings.heard up own (record { told = g }) b) l

  -- nobody is there who could answer it, and the program goes on
  pub misses_on : {T V : Tree Own} {o u z : S} {p : Place} {d : ℕ} {h : Height} {i : Entry} {k : Said → Program} {e : Ending} → rise_to h p ≡ None → is_told (gone d T p) h i Nobody ≡ true →
      ways.goes T o (Some (h, i, d)) (event p (Back h Nobody)) u → Proceeds ways language T u p (k Missed) V z e → Proceeds ways language T o p (wait (Some (h, i, d)) k) V z e
  misses_on up own g (ended t) = ended (executes.missed up own (record { told = g }) t)
  misses_on up own g (given_up b l) = given_up (beginnings.missed up own (record { told = g }) b) l

  -- where the caller is gone, and the answer is a completion, a host's reply or none, it is ended by that
  pub answers_gone : {T : Tree Own} {o u : S} {p : Place} {h : Height} {i : Entry} {k : Said → Program} (d n : ℕ) (a : Answer) → rise_to h p ≡ None → gone d T p ≡ Some n → told_to (Some n) a ≡ Replied (Stop n Gone) →
      AnswersFor ways.goes T o p d h i u a → Proceeds ways language T o p (wait (Some (h, i, d)) k) T u (Some (Stop n Gone))
  answers_gone {T} {o} {u} {p} {h} {i} {k} d n a up away same x = by (subst (λ (b : Answer). Answers ways.goes T o p d h i u b) same (subst (λ (g : Option ℕ). Answers ways.goes T o p d h i u (told_to g a)) away x))
    where
      by : Answers ways.goes T o p d h i u (Replied (Stop n Gone)) → Proceeds ways language T o p (wait (Some (h, i, d)) k) T u (Some (Stop n Gone))
      by y = answers_passed tt up y.1 y.0

  -- an entry is handed in meanwhile, and done, and the program waits on
  pub enters_on : {T U V : Tree Own} {o o1 o2 o3 z : S} {p : Place} {d : ℕ} {h : Height} {i : Entry} {k : Said → Program} {m : Node Own} {y : Reply} {e : Ending} (t : Path) (inner : Entry) → rise_to h p ≡ None → T t ≡ Some m →
      ways.goes T o None (event t (In None inner)) o1 → Proceeds ways language T o1 t (language.entry inner) U o2 (Some y) → ways.goes U o2 None (event t (Done None y)) o3 → IsNoExit y →
      Proceeds ways language U o3 p (wait (Some (h, i, d)) k) V z e → Proceeds ways language T o p (wait (Some (h, i, d)) k) V z e
  enters_on t inner up there g (ended m) x stays (ended n) = ended (executes.entered t inner up there (record { told = g }) m (record { told = x }) stays n)
  enters_on t inner up there g (ended m) x stays (given_up b l) = given_up (beginnings.entered t inner up there (record { told = g }) m (record { told = x }) stays b) l

  -- one finds nobody, and is told that, and the program waits on
  pub finds_nobody : {T V : Tree Own} {o u z : S} {p : Place} {d : ℕ} {h : Height} {i : Entry} {k : Said → Program} {e : Ending} (t : Path) (inner : Entry) → rise_to h p ≡ None → T t ≡ None →
      ways.goes T o None (event [] (Unfound t inner (language.lost t))) u → Proceeds ways language T u p (wait (Some (h, i, d)) k) V z e → Proceeds ways language T o p (wait (Some (h, i, d)) k) V z e
  finds_nobody t inner up none g (ended n) = ended (executes.unfound t inner up none (record { told = g }) n)
  finds_nobody t inner up none g (given_up b l) = given_up (beginnings.unfound t inner up none (record { told = g }) b) l

  -- it ends by an exit, and the program with it
  pub enters_exiting : {T U : Tree Own} {o o1 o2 o3 o4 : S} {p : Place} {d : ℕ} {h : Height} {i : Entry} {k : Said → Program} {m : Node Own} {n : ℤ} (t : Path) (inner : Entry) → rise_to h p ≡ None → T t ≡ Some m →
      ways.goes T o None (event t (In None inner)) o1 → Proceeds ways language T o1 t (language.entry inner) U o2 (Some (Exit n)) → ways.goes U o2 None (event t (Done None (Exit n))) o3 →
      ways.goes U o3 (Some (h, i, d)) (event p (Back h (Replied (Exit n)))) o4 → Proceeds ways language T o p (wait (Some (h, i, d)) k) U o4 (Some (Exit n))
  enters_exiting t inner up there g (ended m) x back = ended (executes.entered_exiting t inner up there (record { told = g }) m (record { told = x }) (record { told = back }))

  -- it is given up, or its end is not told
  pub enters_lost : {T U V : Tree Own} {o o1 o2 z : S} {p : Place} {d : ℕ} {h : Height} {i : Entry} {k : Said → Program} {m : Node Own} {e : Ending} (t : Path) (inner : Entry) → rise_to h p ≡ None → T t ≡ Some m →
      ways.goes T o None (event t (In None inner)) o1 → Proceeds ways language T o1 t (language.entry inner) U o2 e → IsLoss ways.loses o2 z → Proceeds ways language T o p (wait (Some (h, i, d)) k) V z None
  enters_lost t inner up there g (ended m) l = given_up (beginnings.entering_in t inner up there (record { told = g }) (beginnings.ended m)) l
  enters_lost t inner up there g (given_up b k) l = given_up (beginnings.entering_in t inner up there (record { told = g }) b) (lost_twice k l)

  -- An entry that finds nobody, of which the outside could not be told: nothing is said of how it
  -- came into its state by handing it in, so this wants that it may have become what it is.
  pub finds_nobody_lost : {T V : Tree Own} {o z : S} {p : Place} {d : ℕ} {h : Height} {i : Entry} {k : Said → Program} → IsLoss ways.loses o z → Proceeds ways language T o p (wait (Some (h, i, d)) k) V z None
  finds_nobody_lost l = given_up beginnings.stopped l
