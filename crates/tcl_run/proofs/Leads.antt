-- One law for each thing that code does on its way: what may come from there may come from here.
use Rattle.std.proofs.Common.{◌≡◌, ℕ, zero, suc, Bool, true, false, List, [], ◌∷◌, ◌++◌, Option, Some, None, refl, sym, ◌∙◌, ap, subst, append-nil}
use Rattle.std.specs.Prelude.{Result, Ok, Err}
use Rattle.tcl_core.specs.Paths.{Path, Place, rise_to, strip}
use Rattle.tcl_core.specs.Endings.{Completion, Reply, IsQuit}
use Rattle.tcl_core.specs.Endings.Kind.{Full}
use Rattle.tcl_core.specs.Endings.Meter.{Count, Depth}
use Rattle.tcl_core.specs.Endings.Cause.{Above}
use Rattle.tcl_core.specs.Endings.Reply.{Completed, Stop, Exit, Cut}
use Rattle.tcl_core.specs.Entries.{Entry}
use Rattle.tcl_core.specs.Trees.{Tree, Node, What, depth_of, effect, at, at_end, allowing, granted, with_own}
use Rattle.tcl_core.specs.Trees.Grants.{Listed}
use Rattle.tcl_core.specs.Trees.What.{Seen, Charged, Nested, Unnested, Changed, Dropped, Refused}
use Rattle.tcl_core.specs.Programs.{Table, metered, blocked, is_deep, changing, dropping, brought_back}
use Rattle.tcl_core.specs.Programs.Act.{Look, Charge, Drop}
use Rattle.tcl_core.specs.Programs.Wrap.{Deeper, Framed}
use Rattle.tcl_core.specs.Programs.Next.{On, Off, TooDeep}
use Rattle.tcl_core.specs.Programs.Prog.{done, act, go, inside, call}
use Rattle.tcl_core.specs.Runs.{gone, gone_by, idle_up, levels, returned, where_stands}
use Rattle.tcl_core.proofs.PathLaws.{strip_own}
use Rattle.std.specs.Prelude.{nat_lt}
use Rattle.tcl_core.specs.Execution.{Crossings, event, completed, acted, refused, went, passed, wrapped, wrapped_passed, too_deep, shut, called, called_passed, unreached}
use Rattle.tcl_tree.specs.Own.{Own}
use Rattle.tcl_language.specs.Instructions.{Instr, Program, look, change, at_node, or_fails, grown, either, fits, too_long as too_long_error}
use Rattle.tcl_language.specs.Interpreters.{finished}
use Rattle.tcl_run.specs.Ends.{IsFailure, too_deep_at}
use Rattle.tcl_run.specs.Outsides.{Going, Enters, Returns, Misses}
use Rattle.tcl_run.specs.Runs.{Comes, Counts, RefusesStep}
use Rattle.tcl_run.specs.Runs.RefusesStep.{by_limit, from_outside}

-- a change of its own part leaves how deeply an interpreter is in use
pub depth_changed : (T : Tree Own) (p : Place) (n : Node Own) (own : Own) → T p ≡ Some n → depth_of (effect p (Changed own) T p) ≡ n.depth
depth_changed T p n own there = ap (λ (s : Option Place). depth_of (at_end s (with_own own) (T p))) (ap (strip p) (sym (append-nil p)) ∙ strip_own p []) ∙ ap (λ (o : Option (Node Own)). depth_of (with_own own o)) there

-- what a wrap with other frames does behind, by how deeply the interpreter was in use before
pub closing : (T V : Tree Own) (p : Place) (n : Node Own) (own : Own) (back : Own → Own) → T p ≡ Some n →
    ◌≡◌ {A = What Own} (brought_back (nat_lt (depth_of (V p)) (depth_of (effect p (Changed own) T p))) back (V p)) (brought_back (nat_lt (depth_of (V p)) n.depth) back (V p))
closing T V p n own back there = ap (λ (d : ℕ). brought_back (nat_lt (depth_of (V p)) d) back (V p)) (depth_changed T p n own there)

-- nobody is told of that
pub closes_unheard : {S : Type 0} (goes : Going S) (V : Tree Own) (u : S) (p : Place) (b : Bool) (back : Own → Own) (o : Option (Node Own)) → Crossings goes V u None (event p (brought_back b back o)) u
closes_unheard goes V u p b back None = record { told = refl }
closes_unheard goes V u p true back (Some n) = record { told = refl }
closes_unheard goes V u p false back (Some n) = record { told = refl }

-- where its interpreter is gone, frames aren't brought back; where it stands they are
pub closes_gone : (T : Tree Own) (p : Place) (d l : ℕ) (back : Own → Own) → gone d T p ≡ Some l → T ≡ effect p (brought_back (nat_lt (depth_of (T p)) d) back (T p)) T
closes_gone T p d l back e = by (nat_lt (depth_of (T p)) d) (T p) e
  where
    by : (b : Bool) (o : Option (Node Own)) → gone_by b (levels (idle_up T p)) ≡ Some l → T ≡ effect p (brought_back b back o) T
    by b None f = refl
    by true (Some n) f = refl
    by false (Some n) f = let clash : None ≡ Some l = f in absurd cc

pub closes_here : (T : Tree Own) (p : Place) (d : ℕ) (n : Node Own) (back : Own → Own) → gone d T p ≡ None → T p ≡ Some n → effect p (Changed (back n.own)) T ≡ effect p (brought_back (nat_lt (depth_of (T p)) d) back (T p)) T
closes_here T p d n back e there = by (nat_lt (depth_of (T p)) d) e
  where
    by : (b : Bool) → gone_by b (levels (idle_up T p)) ≡ None → effect p (Changed (back n.own)) T ≡ effect p (brought_back b back (T p)) T
    by true f = let clash : Some (levels (idle_up T p)) ≡ None = f in absurd cc
    by false f = ap (λ (o : Option (Node Own)). effect p (brought_back false back o) T) (sym there)

module _ {S : Type 0} {goes : Going S} {language : Table Own Instr} where
  -- ## Along equations

  pub at_prog : {T V : Tree Own} {o z : S} {p : Place} {x y : Program} {r : Reply} → x ≡ y → Comes goes language T o p y V z r → Comes goes language T o p x V z r
  at_prog {T} {V} {o} {z} {p} {x} {y} {r} same t = subst (λ (a : Program). Comes goes language T o p a V z r) (sym same) t

  pub at_reply : {T V : Tree Own} {o z : S} {p : Place} {x : Program} {r s : Reply} → r ≡ s → Comes goes language T o p x V z s → Comes goes language T o p x V z r
  at_reply {T} {V} {o} {z} {p} {x} {r} {s} same t = subst (λ (a : Reply). Comes goes language T o p x V z a) (sym same) t

  pub at_start : {T U V : Tree Own} {o z : S} {p : Place} {x : Program} {r : Reply} → U ≡ T → Comes goes language U o p x V z r → Comes goes language T o p x V z r
  at_start {T} {U} {V} {o} {z} {p} {x} {r} same t = subst (λ (a : Tree Own). Comes goes language a o p x V z r) same t

  pub at_finish : {T U V : Tree Own} {o z : S} {p : Place} {x : Program} {r : Reply} → U ≡ V → Comes goes language T o p x V z r → Comes goes language T o p x U z r
  at_finish {T} {U} {V} {o} {z} {p} {x} {r} same t = subst (λ (a : Tree Own). Comes goes language T o p x a z r) (sym same) t

  -- ## Acts

  pub looks : {T V : Tree Own} {o z : S} {p : Place} {n : Node Own} {k : Node Own → Program} {r : Reply} → T p ≡ Some n →
      Comes goes language T o p (k n) V z r → Comes goes language T o p (look k) V z r
  looks {T} {p = p} {n = n} {k = k} there t =
      acted (None, Seen, On) (λ gs. refl) tt (record { told = refl }) (at_prog (ap (λ (q : Place). at_node k (T q)) (append-nil p) ∙ ap (at_node k) there) t)

  pub sees_below : {T V : Tree Own} {o z : S} {p : Place} {k : Tree Own → Program} {r : Reply} →
      Comes goes language T o p (k (at T p)) V z r → Comes goes language T o p (act Look k) V z r
  sees_below t = acted (None, Seen, On) (λ gs. refl) tt (record { told = refl }) t

  pub changes : {T U V : Tree Own} {o z : S} {p : Place} {n : Node Own} {own : Own} {k : Program} {r : Reply} → T p ≡ Some n → U ≡ effect p (Changed own) T →
      Comes goes language U o p k V z r → Comes goes language T o p (change own k) V z r
  changes {own = own} there u t = acted (None, Changed own, On) (λ gs. ap (λ m. Some (changing own m)) there) tt (record { told = refl }) (at_start u t)

  pub charges : {T U V : Tree Own} {o u z : S} {p : Place} {k : Tree Own → Program} {r : Reply} → Counts goes T o p U u →
      Comes goes language U u p (k (at T p)) V z r → Comes goes language T o p (act Charge k) V z r
  charges s t = acted (None, Charged, On) (λ gs. ap (λ b. metered Count Charged b (allowing Count (Listed gs))) s.free) tt (record { told = s.told }) (at_start s.counted t)

  pub charge_refused : {T U : Tree Own} {o z : S} {p : Place} {k : Tree Own → Program} {r : Reply} → RefusesStep goes T o p U z r → Comes goes language T o p (act Charge k) U z r
  charge_refused {p = p} (by_limit n full same) =
      at_finish same (refused (None, Refused Count (Some n), Off (Stop n (Full Count))) (λ gs. ap (λ b. metered Count Charged b (granted {O = Own} p (Refused Count (Some n)) (Listed gs))) full) refl (record { told = refl }))
  charge_refused {p = p} (from_outside free same told) =
      at_finish same (refused (None, Refused Count None, Off (Cut Above)) (λ gs. ap (λ b. metered Count Charged b (granted {O = Own} p (Refused Count None) (Listed gs))) free) refl (record { told = told }))

  -- a child is dropped, whether an evaluation is in progress in it or not
  pub drops : {T U V : Tree Own} {o u z : S} {p : Place} {name : List ℕ} {n : Node Own} {k : Tree Own → Program} {r : Reply} → T (p ++ name ∷ []) ≡ Some n →
      U ≡ effect (p ++ name ∷ []) Dropped T → goes T o None (event (p ++ name ∷ []) Dropped) u → Comes goes language U u p (k (at T p)) V z r → Comes goes language T o p (act (Drop name) k) V z r
  drops {name = name} there e g t = acted (Some name, Dropped, On) (λ gs. ap (λ m. Some (dropping name m)) there) tt (record { told = g }) (at_start e t)

  -- ## Inner evaluations

  pub goes_on : {T U V : Tree Own} {o u z : S} {p : Place} {i : Instr} {k : Completion → Program} {c : Completion} {r : Reply} →
      Comes goes language T o p (language.program i) U u (Completed c) → Comes goes language U u p (k c) V z r → Comes goes language T o p (go i k) V z r
  goes_on m n = went m n

  pub goes_done : {T V : Tree Own} {o z : S} {p : Place} {i : Instr} {r : Reply} →
      Comes goes language T o p (language.program i) V z r → Comes goes language T o p (go i done) V z r
  goes_done {r = Completed c} t = went t completed
  goes_done {r = Stop n m} t = passed tt t
  goes_done {r = Exit n} t = passed tt t
  goes_done {r = Cut c} t = passed tt t

  pub nests_done : {T U V W : Tree Own} {o z : S} {p : Place} {i : Instr} {r : Reply} → blocked is_deep T p ≡ None → U ≡ effect p Nested T → W ≡ effect p Unnested V →
      Comes goes language U o p (language.program i) V z r → Comes goes language T o p (inside Deeper i done) W z r
  nests_done {r = Completed c} e u v t = at_finish v (wrapped (None, Nested, On) (λ gs. ap (λ b. metered Depth Nested b (allowing Depth (Listed gs))) e) refl (record { told = refl }) (at_start u t) (record { told = refl }) completed)
  nests_done {r = Stop n m} e u v t = at_finish v (wrapped_passed (None, Nested, On) tt (λ gs. ap (λ b. metered Depth Nested b (allowing Depth (Listed gs))) e) refl (record { told = refl }) (at_start u t) (record { told = refl }))
  nests_done {r = Exit n} e u v t = at_finish v (wrapped_passed (None, Nested, On) tt (λ gs. ap (λ b. metered Depth Nested b (allowing Depth (Listed gs))) e) refl (record { told = refl }) (at_start u t) (record { told = refl }))
  nests_done {r = Cut c} e u v t = at_finish v (wrapped_passed (None, Nested, On) tt (λ gs. ap (λ b. metered Depth Nested b (allowing Depth (Listed gs))) e) refl (record { told = refl }) (at_start u t) (record { told = refl }))

  -- the limit of the interpreter so many levels up refuses: its own is an error, and another one's a stop
  pub nest_refused : {T : Tree Own} {o : S} {p : Place} {i : Instr} (n : ℕ) → blocked is_deep T p ≡ Some n → Comes goes language T o p (inside Deeper i done) T o (too_deep_at n)
  nest_refused {p = p} zero e = too_deep (None, Refused Depth (Some 0), TooDeep) (λ gs. ap (λ b. metered Depth Nested b (granted {O = Own} p (Refused Depth (Some 0)) (Listed gs))) e) refl (record { told = refl }) completed
  nest_refused {p = p} (suc n) e = shut (None, Refused Depth (Some (suc n)), Off (Stop (suc n) (Full Depth))) (λ gs. ap (λ b. metered Depth Nested b (granted {O = Own} p (Refused Depth (Some (suc n))) (Listed gs))) e) refl (record { told = refl })

  -- with other frames, which are put back however it ends, where its interpreter stands still
  pub framed : {T U V W X : Tree Own} {o u z : S} {p : Place} {n : Node Own} {own : Own} {back : Own → Own} {i : Instr} {k : Completion → Program} {c : Completion} {r : Reply} →
      T p ≡ Some n → U ≡ effect p (Changed own) T → W ≡ effect p (brought_back (nat_lt (depth_of (V p)) n.depth) back (V p)) V →
      Comes goes language U o p (language.program i) V u (Completed c) → Comes goes language W u p (k c) X z r → Comes goes language T o p (inside (Framed own back) i k) X z r
  framed {T} {U} {V} {W} {X} {o} {u} {z} {p} {n} {own} {back} {i} {k} {c} {r} there a b t s =
      wrapped (None, Changed own, On) (λ gs. ap (λ x. Some (changing own x)) there) refl (record { told = refl }) (at_start a t) (closes_unheard goes V u p _ back (V p))
      (at_start (b ∙ ap (λ (x : What Own). effect p x V) (sym (closing T V p n own back there))) s)

  pub framed_passed : {T U V W : Tree Own} {o u : S} {p : Place} {n : Node Own} {own : Own} {back : Own → Own} {i : Instr} {k : Completion → Program} {r : Reply} → IsQuit r →
      T p ≡ Some n → U ≡ effect p (Changed own) T → W ≡ effect p (brought_back (nat_lt (depth_of (V p)) n.depth) back (V p)) V →
      Comes goes language U o p (language.program i) V u r → Comes goes language T o p (inside (Framed own back) i k) W u r
  framed_passed {T} {U} {V} {W} {o} {u} {p} {n} {own} {back} {i} {k} {r} quit there a b t =
      at_finish (b ∙ ap (λ (x : What Own). effect p x V) (sym (closing T V p n own back there)))
      (wrapped_passed (None, Changed own, On) quit (λ gs. ap (λ x. Some (changing own x)) there) refl (record { told = refl }) (at_start a t) (closes_unheard goes V u p _ back (V p)))

  -- ## What was read, and what has grown

  pub reads_on : {A F : Type 0} {T V : Tree Own} {o z : S} {p : Place} {read : Result A F} {a : A} {r : Reply} (message : F → List ℕ) (k : A → Program) → read ≡ Ok a →
      Comes goes language T o p (k a) V z r → Comes goes language T o p (or_fails message read k) V z r
  reads_on message k e t = at_prog (ap (λ x. or_fails message x k) e) t

  pub read_fails : {A F : Type 0} {T : Tree Own} {o : S} {p : Place} (message : F → List ℕ) (read : Result A F) (k : A → Program) (e : Reply) → IsFailure message read e →
      Comes goes language T o p (or_fails message read k) T o e
  read_fails message (Ok a) k e d = elim d [ ]
  read_fails message (Err f) k e d = at_reply d completed

  pub grows : {T V : Tree Own} {o z : S} {p : Place} {r : Reply} (text : List ℕ) (k : List ℕ → Program) → fits text ≡ true →
      Comes goes language T o p (k text) V z r → Comes goes language T o p (grown text k) V z r
  grows text k e t = at_prog (ap (λ b. either b (k text) (done too_long_error)) e) t

  pub outgrows : {T : Tree Own} {o : S} {p : Place} {r : Reply} (text : List ℕ) (k : List ℕ → Program) → fits text ≡ false → r ≡ Completed too_long_error →
      Comes goes language T o p (grown text k) T o r
  outgrows text k e d = at_prog (ap (λ b. either b (k text) (done too_long_error)) e) (at_reply d completed)

  -- ## Calls of other interpreters of the tree

  -- the caller goes on where its call was answered by a completion
  pub calls_on : {T U V : Tree Own} {o u v w z : S} {p : Place} {n : ℕ} {down : Path} {i : Entry} {lost : Completion} {k : Completion → Program} {m : Node Own} {s r : Reply} {c : Completion} (a : Place) → rise_to (Some n) p ≡ Some a → T (a ++ down) ≡ Some m →
      Enters goes T o p n a down i u → Comes goes language T u (a ++ down) (language.entry i) U v s → returned T U (Some n) p down s ≡ Completed c → Returns goes U v p n a down s (returned T U (Some n) p down s) w → Comes goes language U w p (k c) V z r →
      Comes goes language T o p (call (Some n) down i lost (finished k)) V z r
  calls_on {down = down} {i = i} a e there x t f y g = called a (a ++ down) e (ap (λ x. where_stands x (a ++ down)) there) (record { told = x.leaves }) (record { told = x.enters }) t (record { told = y.leaves }) f (record { told = y.returns }) g

  -- what is no completion ends the caller too
  pub calls_passed : {T U : Tree Own} {o u v w : S} {p : Place} {n : ℕ} {down : Path} {i : Entry} {lost : Completion} {k : Completion → Program} {m : Node Own} {s r : Reply} (a : Place) → rise_to (Some n) p ≡ Some a → T (a ++ down) ≡ Some m →
      Enters goes T o p n a down i u → Comes goes language T u (a ++ down) (language.entry i) U v s → returned T U (Some n) p down s ≡ r → IsQuit r → Returns goes U v p n a down s r w →
      Comes goes language T o p (call (Some n) down i lost (finished k)) U w r
  calls_passed {down = down} {i = i} a e there x t f quit y = called_passed a (a ++ down) e (ap (λ x. where_stands x (a ++ down)) there) (record { told = x.leaves }) (record { told = x.enters }) t (record { told = y.leaves }) f quit (record { told = y.returns })

  calls_as : {T U : Tree Own} {o u v w : S} {p : Place} {n : ℕ} {down : Path} {i : Entry} {lost : Completion} {m : Node Own} {s : Reply} (a : Place) (r : Reply) → rise_to (Some n) p ≡ Some a → T (a ++ down) ≡ Some m →
      Enters goes T o p n a down i u → Comes goes language T u (a ++ down) (language.entry i) U v s → r ≡ returned T U (Some n) p down s → Returns goes U v p n a down s r w → Comes goes language T o p (call (Some n) down i lost (finished done)) U w r
  calls_as {U = U} {v = v} {w} {p} {n} {down} {s = s} a (Completed c) e there x t f y = calls_on a e there x t (sym f) (subst (λ (l : Reply). Returns goes U v p n a down s l w) f y) completed
  calls_as a (Stop l k) e there x t f y = calls_passed a e there x t (sym f) tt y
  calls_as a (Exit l) e there x t f y = calls_passed a e there x t (sym f) tt y
  calls_as a (Cut l) e there x t f y = calls_passed a e there x t (sym f) tt y

  -- a call that is all that is left ends as it was answered
  pub calls_in : {T U : Tree Own} {o u v w : S} {p : Place} {n : ℕ} {down : Path} {i : Entry} {lost : Completion} {m : Node Own} {s r : Reply} (a : Place) → rise_to (Some n) p ≡ Some a → T (a ++ down) ≡ Some m →
      Enters goes T o p n a down i u → Comes goes language T u (a ++ down) (language.entry i) U v s → r ≡ returned T U (Some n) p down s → Returns goes U v p n a down s r w → Comes goes language T o p (call (Some n) down i lost (finished done)) U w r
  calls_in {r = r} a e there x t f y = calls_as a r e there x t f y

  -- the caller goes on with `lost` where nobody stands
  pub finds_none_on : {T V : Tree Own} {o u z : S} {p : Place} {n : ℕ} {down : Path} {i : Entry} {lost : Completion} {k : Completion → Program} {r : Reply} (a : Place) → rise_to (Some n) p ≡ Some a → T (a ++ down) ≡ None →
      Misses goes T o p n down i (Completed lost) u → Comes goes language T u p (k lost) V z r → Comes goes language T o p (call (Some n) down i lost (finished k)) V z r
  finds_none_on {down = down} a e gone x t = unreached a e (ap (λ x. where_stands x (a ++ down)) gone) (record { told = x.leaves }) (record { told = x.returns }) t

  pub finds_none : {T : Tree Own} {o u : S} {p : Place} {n : ℕ} {down : Path} {i : Entry} {lost : Completion} {r : Reply} (a : Place) → rise_to (Some n) p ≡ Some a → T (a ++ down) ≡ None → Misses goes T o p n down i (Completed lost) u → r ≡ Completed lost →
      Comes goes language T o p (call (Some n) down i lost (finished done)) T u r
  finds_none a e gone x f = at_reply f (finds_none_on a e gone x completed)
