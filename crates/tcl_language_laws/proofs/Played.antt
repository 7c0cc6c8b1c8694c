-- What is played is a run.
use Rattle.std.proofs.Common.{◌≡◌, refl, sym, subst, ℕ, zero, suc, Bool, true, false, List, [], ◌∷◌, ◌++◌, Option, Some, None}
use Rattle.tcl_core.specs.Paths.{Path, Place, Height, rise_to}
use Rattle.tcl_core.specs.Endings.{Completion, Reply, refusal}
use Rattle.tcl_core.specs.Endings.Meter.{Count, Depth}
use Rattle.tcl_core.specs.Endings.Kind.{Full}
use Rattle.tcl_core.specs.Endings.Reply.{Completed, Stop, Exit, Cut}
use Rattle.tcl_core.specs.Entries.{Entry, Said}
use Rattle.tcl_core.specs.Entries.HostReply.{Accepted}
use Rattle.tcl_core.specs.Entries.Said.{Finished, Told}
use Rattle.tcl_core.specs.Trees.{Tree, Grant, effect, granted, at}
use Rattle.tcl_core.specs.Trees.What.{Charged, Nested, Refused}
use Rattle.tcl_core.specs.Trees.Grants.{Listed, Budget}
use Rattle.tcl_core.specs.Programs.{Act, Wrap, Deed, Prog, Table, spot, decide, opens, closes, metered, by_limit, blocked, is_spent, is_deep, changing, making, dropping}
use Rattle.tcl_core.specs.Programs.Act.{Look, Change, Charge, Limit, LimitDepth, Make, Drop}
use Rattle.tcl_core.specs.Programs.Wrap.{Deeper, Framed}
use Rattle.tcl_core.specs.Programs.Next.{On, TooDeep, Off}
use Rattle.tcl_core.specs.Programs.Prog.{done, exit, act, go, inside, call, wait}
use Rattle.tcl_core.specs.Runs.{returned, reached}
use Rattle.tcl_core.specs.Execution.{Executes, Decides, Opens_so}
use Rattle.tcl_core.specs.Execution.Executes.{completed, exited, acted as acts, refused, went, passed, wrapped as wraps, wrapped_passed, too_deep, shut, called, called_passed, unreached, called_out, heard, missed}
use Rattle.tcl_language.specs.Playing as playing
use Rattle.tcl_language.specs.Playing.{Played, play, Any}

module _ {O I : Type 0} (prog : Table O I) where
  abbrev Goes : Tree O → Place → Prog O I → Tree O → Reply → Type 0
  Goes T p x V r = Executes Any prog T tt p x V tt r

  abbrev IsRun : Tree O → Place → Prog O I → Played prog → Type 0
  IsRun T p x None = Unit {0}
  IsRun T p x (Some y) = Goes T p x y.0 y.1

  -- the rest of a run, and the run with what comes before it
  onward : (T U : Tree O) (p q : Place) (x y : Prog O I) → ((V : Tree O) (r : Reply) → Goes U q y V r → Goes T p x V r) → (o : Played prog) → IsRun U q y o → IsRun T p x o
  onward T U p q x y f None t = tt
  onward T U p q x y f (Some z) t = f z.0 z.1 t

  -- after the run of a program
  after : (T U : Tree O) (p q : Place) (x y : Prog O I) (k : Tree O → Reply → Played prog) →
      ((V : Tree O) (r : Reply) → Goes U q y V r → IsRun T p x (k V r)) → (o : Played prog) → IsRun U q y o → IsRun T p x (playing.follow prog o k)
  after T U p q x y k f None t = tt
  after T U p q x y k f (Some z) t = f z.0 z.1 t

  -- ## What acts and wraps come to

  abbrev step_of : Option ℕ → Deed O
  step_of None = (None, Charged, On)
  step_of (Some n) = (None, Refused Count (Some n), by_limit Count n)

  abbrev level_of : Option ℕ → Deed O
  level_of None = (None, Nested, On)
  level_of (Some n) = (None, Refused Depth (Some n), by_limit Depth n)

  step_listed : (p : Place) (m : Option ℕ) (gs : List Grant) → metered Count Charged m (granted (spot p (step_of m).0) (step_of m).1 (Listed gs)) ≡ Some (step_of m)
  step_listed p None gs = refl
  step_listed p (Some n) gs = refl

  step_budget : (m : Option ℕ) → metered {O = O} Count Charged m (Budget 1000) ≡ Some (step_of m)
  step_budget None = refl
  step_budget (Some n) = refl

  level_listed : (p : Place) (m : Option ℕ) (gs : List Grant) → metered Depth Nested m (granted (spot p (level_of m).0) (level_of m).1 (Listed gs)) ≡ Some (level_of m)
  level_listed p None gs = refl
  level_listed p (Some n) gs = refl

  level_budget : (m : Option ℕ) → metered {O = O} Depth Nested m (Budget 1000) ≡ Some (level_of m)
  level_budget None = refl
  level_budget (Some n) = refl

  decided : (d : Act O) (T : Tree O) (p : Place) → (z : Deed O) × (decide d T p (Budget 1000) ≡ Some z) × Decides d T p z
  decided Look T p = (_, refl, λ gs. refl)
  decided (Change o) T p = (changing o (T p), refl, λ gs. refl)
  decided Charge T p = (step_of (blocked is_spent T p), step_budget (blocked is_spent T p), λ gs. step_listed p (blocked is_spent T p) gs)
  decided (Limit l) T p = (_, refl, λ gs. refl)
  decided (LimitDepth l) T p = (_, refl, λ gs. refl)
  decided (Make name o s) T p = (making name o s (T p) (T (p ++ name ∷ [])), refl, λ gs. refl)
  decided (Drop name) T p = (dropping name (T (p ++ name ∷ [])), refl, λ gs. refl)

  opened : (b : Wrap O) (T : Tree O) (p : Place) → (z : Deed O) × (opens b T p (Budget 1000) ≡ Some z) × Opens_so b T p z
  opened Deeper T p = (level_of (blocked is_deep T p), level_budget (blocked is_deep T p), λ gs. level_listed p (blocked is_deep T p) gs)
  opened (Framed o back) T p = (changing o (T p), refl, λ gs. refl)

  -- ## The cases

  by_act : (T : Tree O) (p : Place) (d : Act O) (k : Tree O → Prog O I) (c : Tree O → Played prog) →
      ((U : Tree O) → IsRun U p (k (at T p)) (c U)) → (z : Deed O) → Decides d T p z → IsRun T p (act d k) (playing.acted prog c T p (Some z))
  by_act T p d k c f (a, x, On) s = onward T (effect (spot p a) x T) p p (act d k) (k (at T p)) (λ V r t. acts (a, x, On) s tt tt t) (c (effect (spot p a) x T)) (f (effect (spot p a) x T))
  by_act T p d k c f (a, x, TooDeep) s = tt
  by_act T p d k c f (a, x, Off r) s = refused (a, x, Off r) s refl tt

  by_go : (T U : Tree O) (p : Place) (i : I) (k : Completion → Prog O I) (c : Tree O → Completion → Played prog) →
      ((V : Tree O) (e : Completion) → IsRun V p (k e) (c V e)) → (r : Reply) → Goes T p (prog.program i) U r → IsRun T p (go i k) (playing.on_completed prog c U r)
  by_go T U p i k c f (Completed e) t = onward T U p p (go i k) (k e) (λ V r u. went t u) (c U e) (f U e)
  by_go T U p i k c f (Stop n m) t = passed tt t
  by_go T U p i k c f (Exit n) t = passed tt t
  by_go T U p i k c f (Cut a) t = passed tt t

  by_wrap_end : (T U : Tree O) (p : Place) (b : Wrap O) (i : I) (k : Completion → Prog O I) (c : Tree O → Completion → Played prog) (z : Deed O) → Opens_so b T p z → z.2 ≡ On →
      ((V : Tree O) (e : Completion) → IsRun V p (k e) (c V e)) → (r : Reply) → Goes (effect (spot p z.0) z.1 T) p (prog.program i) U r →
      IsRun T p (inside b i k) (playing.on_completed prog c (effect p (closes b (effect (spot p z.0) z.1 T p) (U p)) U) r)
  by_wrap_end T U p b i k c z s e f (Completed g) t =
      onward T (effect p (closes b (effect (spot p z.0) z.1 T p) (U p)) U) p p (inside b i k) (k g) (λ V r u. wraps z s e tt t tt u) (c (effect p (closes b (effect (spot p z.0) z.1 T p) (U p)) U) g) (f (effect p (closes b (effect (spot p z.0) z.1 T p) (U p)) U) g)
  by_wrap_end T U p b i k c z s e f (Stop n m) t = wrapped_passed z tt s e tt t tt
  by_wrap_end T U p b i k c z s e f (Exit n) t = wrapped_passed z tt s e tt t tt
  by_wrap_end T U p b i k c z s e f (Cut a) t = wrapped_passed z tt s e tt t tt

  by_wrap : (T : Tree O) (p : Place) (b : Wrap O) (i : I) (k : Completion → Prog O I) (c : Tree O → Completion → Played prog) (inner : Tree O → Played prog) →
      ((V : Tree O) (e : Completion) → IsRun V p (k e) (c V e)) → ((U : Tree O) → IsRun U p (prog.program i) (inner U)) → (z : Deed O) → Opens_so b T p z →
      IsRun T p (inside b i k) (playing.wrapped prog (λ U. playing.follow prog (inner U) (λ V r. playing.on_completed prog c (effect p (closes b (U p) (V p)) V) r)) (λ U. c U (refusal (Full Depth))) T p (Some z))
  by_wrap T p b i k c inner f g (a, x, On) s =
      after T (effect (spot p a) x T) p p (inside b i k) (prog.program i) _ (λ V r t. by_wrap_end T V p b i k c (a, x, On) s refl f r t) (inner (effect (spot p a) x T)) (g (effect (spot p a) x T))
  by_wrap T p b i k c inner f g (a, x, TooDeep) s =
      onward T (effect (spot p a) x T) p p (inside b i k) (k (refusal (Full Depth))) (λ V r t. too_deep (a, x, TooDeep) s refl tt t) (c (effect (spot p a) x T) (refusal (Full Depth))) (f (effect (spot p a) x T) (refusal (Full Depth)))
  by_wrap T p b i k c inner f g (a, x, Off r) s = shut (a, x, Off r) s refl tt

  by_carried : (T U : Tree O) (p a t : Place) (h : Height) (down : Path) (i : Entry) (lost : Completion) (k : Said → Prog O I) (c : Tree O → Completion → Played prog) →
      ((V : Tree O) (e : Completion) → IsRun V p (k (Finished e)) (c V e)) → rise_to h p ≡ Some a → reached T a down ≡ Some t → (s : Reply) → Goes T t (prog.entry i) U s →
      (q : Reply) → returned T U h p down s ≡ q → IsRun T p (call h down i lost k) (playing.on_completed prog c U q)
  by_carried T U p a t h down i lost k c f e g s y (Completed d) z =
      onward T U p p (call h down i lost k) (k (Finished d)) (λ V r u. called a t e g tt tt y tt z tt u) (c U d) (f U d)
  by_carried T U p a t h down i lost k c f e g s y (Stop n m) z = called_passed a t e g tt tt y tt z tt tt
  by_carried T U p a t h down i lost k c f e g s y (Exit n) z = called_passed a t e g tt tt y tt z tt tt
  by_carried T U p a t h down i lost k c f e g s y (Cut x) z = called_passed a t e g tt tt y tt z tt tt

  by_reach : (T : Tree O) (p a : Place) (h : Height) (down : Path) (i : Entry) (lost : Completion) (k : Said → Prog O I) (c : Tree O → Completion → Played prog) (inner : Place → Played prog) →
      ((V : Tree O) (e : Completion) → IsRun V p (k (Finished e)) (c V e)) → ((t : Place) → IsRun T t (prog.entry i) (inner t)) → rise_to h p ≡ Some a →
      (o : Option Place) → reached T a down ≡ o →
      IsRun T p (call h down i lost k) (playing.reached_by prog (λ t. playing.follow prog (inner t) (λ U r. playing.on_completed prog c U (returned T U h p down r))) (c T lost) o)
  by_reach T p a h down i lost k c inner f g e None z = onward T T p p (call h down i lost k) (k (Finished lost)) (λ V r u. unreached a e z tt tt u) (c T lost) (f T lost)
  by_reach T p a h down i lost k c inner f g e (Some t) z =
      after T T p t (call h down i lost k) (prog.entry i) _ (λ U s y. by_carried T U p a t h down i lost k c f e z s y (returned T U h p down s) refl) (inner t) (g t)

  by_fit : (T : Tree O) (p : Place) (h : Height) (down : Path) (i : Entry) (lost : Completion) (k : Said → Prog O I) (y : Played prog) → IsRun T p (k (playing.told_so prog lost h)) y → rise_to h p ≡ None →
      (b : Bool) → playing.suits prog T p h i ≡ b → IsRun T p (call h down i lost k) (playing.where_fit prog b y)
  by_fit T p None down i lost k y t e true z = onward T T p p (call None down i lost k) (k (Told Accepted)) (λ V r u. called_out e tt (heard e z tt u)) y t
  by_fit T p (Some h) down i lost k y t e true z = onward T T p p (call (Some h) down i lost k) (k (Finished lost)) (λ V r u. called_out e tt (missed e z tt u)) y t
  by_fit T p h down i lost k y t e false z = tt

  by_rise : (T : Tree O) (p : Place) (h : Height) (down : Path) (i : Entry) (lost : Completion) (k : Said → Prog O I) (c : Tree O → Completion → Played prog) (inner : Place → Played prog) (out : Played prog) →
      ((V : Tree O) (e : Completion) → IsRun V p (k (Finished e)) (c V e)) → ((t : Place) → IsRun T t (prog.entry i) (inner t)) → IsRun T p (k (playing.told_so prog lost h)) out →
      (o : Option Place) → rise_to h p ≡ o →
      IsRun T p (call h down i lost k) (playing.risen_by prog (λ a. playing.reached_by prog (λ t. playing.follow prog (inner t) (λ U r. playing.on_completed prog c U (returned T U h p down r))) (c T lost) (reached T a down))
      (playing.where_fit prog (playing.suits prog T p h i) out) o)
  by_rise T p h down i lost k c inner out f g t None e = by_fit T p h down i lost k out t e (playing.suits prog T p h i) refl
  by_rise T p h down i lost k c inner out f g t (Some a) e = by_reach T p a h down i lost k c inner f g e (reached T a down) refl

  runs : (n : ℕ) (T : Tree O) (p : Place) (x : Prog O I) → IsRun T p x (play prog n T p x)
  runs zero T p x = tt
  runs (suc n) T p (done c) = completed
  runs (suc n) T p (exit s) = exited
  runs (suc n) T p (act d k) =
      subst (λ o. IsRun T p (act d k) (playing.acted prog (λ U. play prog n U p (k (at T p))) T p o)) (sym (decided d T p).1)
      (by_act T p d k (λ U. play prog n U p (k (at T p))) (λ U. runs n U p (k (at T p))) (decided d T p).0 (decided d T p).2)
  runs (suc n) T p (go i k) = after T T p p (go i k) (prog.program i) _ (λ U r t. by_go T U p i k (λ V c. play prog n V p (k c)) (λ V c. runs n V p (k c)) r t) (play prog n T p (prog.program i)) (runs n T p (prog.program i))
  runs (suc n) T p (inside b i k) =
      subst (λ o. IsRun T p (inside b i k) (playing.wrapped prog (λ U. playing.follow prog (play prog n U p (prog.program i)) (λ V r. playing.on_completed prog (λ W c. play prog n W p (k c)) (effect p (closes b (U p) (V p)) V) r))
      (λ U. play prog n U p (k (refusal (Full Depth)))) T p o)) (sym (opened b T p).1)
      (by_wrap T p b i k (λ V c. play prog n V p (k c)) (λ U. play prog n U p (prog.program i)) (λ V c. runs n V p (k c)) (λ U. runs n U p (prog.program i)) (opened b T p).0 (opened b T p).2)
  runs (suc n) T p (call h down i lost k) =
      by_rise T p h down i lost k (λ V c. play prog n V p (k (Finished c))) (λ t. play prog n T t (prog.entry i)) (play prog n T p (k (playing.told_so prog lost h)))
      (λ V c. runs n V p (k (Finished c))) (λ t. runs n T t (prog.entry i)) (runs n T p (k (playing.told_so prog lost h))) (rise_to h p) refl
  runs (suc n) T p (wait s k) = tt

  pub play_is_run : (n : ℕ) (T V : Tree O) (p : Place) (x : Prog O I) (r : Reply) → play prog n T p x ≡ Some (V, r) → Goes T p x V r
  play_is_run n T V p x r e = subst (λ o. IsRun T p x o) e (runs n T p x)
