-- What a program does by itself is what comes of it.
use Rattle.std.proofs.Common.{◌≡◌, ℕ, Bool, List, [], ◌∷◌, ◌++◌, Option, Some, None, refl, sym, ap, subst, ◌∙◌, append-nil}
use Rattle.std.specs.Prelude.{Result, Ok, Err, OnOk, OnErr, IfErr}
use Rattle.tcl_frames.specs.Chain.{Chain, after_set}
use Rattle.tcl_language.specs.Faults.{frame_message}
use Rattle.tcl_language.specs.Variables.{sets, chain_becomes}
use Rattle.tcl_run.specs.declared.interruption.Interruption.{Interruption}
use Rattle.tcl_run.proofs.Endings.{Interrupts-more}
use Rattle.tcl_run.proofs.Steady.{stands}
use Rattle.tcl_tree.proofs.CoreLemmas.{tree_there}
use Rattle.tcl_tree.specs.TreeOf.{tree_of, Names}
use Rattle.tcl_tree.specs.declared.tree.Tree.{Tree as TheTable}
use Rattle.tcl_tree.specs.declared.tree.Place.{Place as ThePlace}
use Rattle.tcl_frames.specs.declared.fault.FrameFault.{FrameFault}
use Rattle.tcl_core.specs.Paths.{Place}
use Rattle.tcl_core.specs.Endings.{Reply}
use Rattle.tcl_core.specs.Programs.{Table, changing, making}
use Rattle.tcl_core.specs.Programs.Act.{Look, Change, Charge, Limit, LimitDepth, Make, Drop}
use Rattle.tcl_core.specs.Programs.Next.{On}
use Rattle.tcl_core.specs.Programs.Prog.{done, exit, act, go, inside, call, wait}
use Rattle.tcl_core.specs.Rules.{IsOn}
use Rattle.tcl_core.specs.Execution.{completed, exited, acted, Crossings, event}
use Rattle.tcl_core.specs.Trees.{Tree, Node, effect, at}
use Rattle.tcl_core.specs.Trees.What.{Seen, Changed, Limited, DepthLimited}
use Rattle.tcl_language.specs.Instructions.{Instr, Program, look, change, with_chain, at_node, or_fails}
use Rattle.tcl_tree.specs.Own.{Own}
use Rattle.tcl_run.specs.Ends.{IsFailure, Interrupts}
use Rattle.tcl_run.specs.Plain.{Does, Steps}
use Rattle.tcl_run.specs.Outsides.{Going}
use Rattle.tcl_run.specs.Runs.{Comes, Rechained}
use Rattle.tcl_run.proofs.Leads.{at_finish, at_reply}

-- making goes on, whatever it comes to
makes_on : (name : List ℕ) (o : Own) (s : Bool) (a b : Option (Node Own)) → (making name o s a b).2 ≡ On
makes_on name o s None b = refl
makes_on name o s (Some p) None = refl
makes_on name o s (Some p) (Some n) = refl

made_unseen : (S : Type 0) (goes : Going S) (q : Place) (name : List ℕ) (own : Own) (s : Bool) (a b : Option (Node Own)) (T : Tree Own) (o : S) → Crossings goes T o None (event q (making name own s a b).1) o
made_unseen S goes q name own s None b T o = record { told = refl }
made_unseen S goes q name own s (Some p) None T o = record { told = refl }
made_unseen S goes q name own s (Some p) (Some n) T o = record { told = refl }

module _ {S : Type 0} {goes : Going S} {language : Table Own Instr} where
  -- what is done so comes, and the outside isn't told
  pub does_comes : (x : Program) {T V : Tree Own} {p : Place} {r : Reply} (o : S) → Does x T p V r → Comes goes language T o p x V o r
  does_comes (done c) o e = at_finish e.0 (at_reply e.1 completed)
  does_comes (exit n) o e = at_finish e.0 (at_reply e.1 exited)
  does_comes (act Look k) {T} {p = p} o e = acted (None, Seen, On) (λ gs. refl) tt (record { told = refl }) (does_comes (k (at T p)) o e)
  does_comes (act (Change own) k) {T} {p = p} o e = acted (None, Changed own, On) (λ gs. ap (λ m. Some (changing own m)) e.1) tt (record { told = refl }) (does_comes (k (at T p)) o e.2)
  does_comes (act Charge k) o e = elim e [ ]
  does_comes (act (Limit l) k) {T} {p = p} o e = acted (None, Limited l, On) (λ gs. refl) tt (record { told = refl }) (does_comes (k (at T p)) o e)
  does_comes (act (LimitDepth l) k) {T} {p = p} o e = acted (None, DepthLimited l, On) (λ gs. refl) tt (record { told = refl }) (does_comes (k (at T p)) o e)
  does_comes (act (Make name own safe) k) {T} {p = p} o e =
      acted (making name own safe (T p) (T (p ++ name ∷ []))) (λ gs. refl) (subst IsOn (sym (makes_on name own safe (T p) (T (p ++ name ∷ [])))) tt)
      (made_unseen S goes _ name own safe (T p) (T (p ++ name ∷ [])) T o) (does_comes (k (at T p)) o e)
  does_comes (act (Drop name) k) o e = elim e [ ]
  does_comes (go i k) o e = elim e [ ]
  does_comes (inside b i k) o e = elim e [ ]
  does_comes (call h down i lost k) o e = elim e [ ]
  does_comes (wait s k) o e = elim e [ ]

-- ## How plain programs are put together

pub does_look : (T V : Tree Own) (p : Place) (r : Reply) (n : Node Own) (k : Node Own → Program) → T p ≡ Some n → Does (k n) T p V r → Does (look k) T p V r
does_look T V p r n k there d = subst (λ (o : Option (Node Own)). Does (at_node k o) T p V r) (sym (ap T (append-nil p) ∙ there)) d

pub does_change : (T U V : Tree Own) (p : Place) (r : Reply) (n : Node Own) (own : Own) (k : Program) → T p ≡ Some n → U ≡ effect p (Changed own) T → Does k U p V r → Does (change own k) T p V r
does_change T U V p r n own k there u d = (n, there, subst (λ (X : Tree Own). Does k X p V r) u d)

pub does_read : {A F : Type 0} (T V : Tree Own) (p : Place) (r : Reply) (message : F → List ℕ) (read : Result A F) (a : A) (k : A → Program) → read ≡ Ok a → Does (k a) T p V r → Does (or_fails message read k) T p V r
does_read {A} {F} T V p r message read a k e d = subst (λ (x : Result A F). Does (or_fails message x k) T p V r) (sym e) d

pub does_fail : {A F : Type 0} (T : Tree Own) (p : Place) (message : F → List ℕ) (read : Result A F) (k : A → Program) (e : Reply) → IsFailure message read e → Does (or_fails message read k) T p T e
does_fail T p message (Ok a) k e f = elim f [ ]
does_fail T p message (Err x) k e f = (refl, f)

pub does_to : (x : Program) (T U V : Tree Own) (p : Place) (r : Reply) → U ≡ V → Does x T p V r → Does x T p U r
does_to x T U V p r e d = subst (λ (z : Tree Own). Does x T p z r) (sym e) d

-- a chain becomes what a change makes of it
pub becomes : (T U V : Tree Own) (p : Place) (n : Node Own) (given : Result Chain FrameFault) (k : Program) (r : Reply) → T p ≡ Some n → Rechained T p n.own given U → Does k U p V r → Does (chain_becomes n.own given k) T p V r
becomes T U V p n (Ok chain) k r there u d = does_change T U V p r n (with_chain n.own chain) k there u d
becomes T U V p n (Err f) k r there u d = elim u [ ]

-- ## Steps

-- a variable is set
pub set_steps : (t u : TheTable) (place : ThePlace) (name value : List ℕ) (r : Result (Unit {0}) Interruption) →
    OnOk r ((p : Place) (n : Node Own) → Names t place p → tree_of t p ≡ Some n → Rechained (tree_of t) p n.own (after_set n.own.chain name value) (tree_of u)) →
    IfErr r (λ i. Interrupts i (λ e. (p : Place) (n : Node Own) → Names t place p → tree_of t p ≡ Some n → IsFailure frame_message (after_set n.own.chain name value) e)) →
    OnErr r (tree_of u ≡ tree_of t) → Steps t place (sets name value) u r
set_steps t u place name value (Ok x) written refused same = λ p at k V r d.
    let n = stands (tree_of t p) (tree_there t p _ at) in
    does_look (tree_of t) V p r n.0 (λ m. chain_becomes m.own (after_set m.own.chain name value) k) n.1
    (becomes (tree_of t) (tree_of u) V p n.0 (after_set n.0.own.chain name value) k r n.1 (written p n.0 at n.1) d)
set_steps t u place name value (Err i) written refused same = Interrupts-more i _ _ (λ e h p at k.
    let n = stands (tree_of t p) (tree_there t p _ at) in
    does_to (sets name value k) (tree_of t) (tree_of u) (tree_of t) p e same
    (does_look (tree_of t) (tree_of t) p e n.0 (λ m. chain_becomes m.own (after_set m.own.chain name value) k) n.1
    (does_fail (tree_of t) p frame_message (after_set n.0.own.chain name value) (λ chain. change (with_chain n.0.own chain) k) e (h p n.0 at n.1)))) refused

-- one step, and then another
pub steps_then : {A : Type 0} (s t u : TheTable) (place : ThePlace) (f g : Program → Program) (r : Result A Interruption) → ((p : Place) → Names s place p → Names t place p) →
    ((p : Place) → Names s place p → (k : Program) (V : Tree Own) (e : Reply) → Does k (tree_of t) p V e → Does (f k) (tree_of s) p V e) →
    Steps t place g u r → Steps s place (λ k. f (g k)) u r
steps_then s t u place f g (Ok a) kept first second = λ p at k V e d. first p at (g k) V e (second p (kept p at) k V e d)
steps_then s t u place f g (Err i) kept first second = Interrupts-more i _ _ (λ e h p at k. first p at (g k) (tree_of u) e (h p (kept p at) k)) second

-- what is the same program is the same step
pub steps_as : {A : Type 0} (s t : TheTable) (place : ThePlace) (f g : Program → Program) (r : Result A Interruption) → ((k : Program) → g k ≡ f k) → Steps s place f t r → Steps s place g t r
steps_as s t place f g (Ok a) same steps = λ p at k V e d. subst (λ (x : Program). Does x (tree_of s) p V e) (sym (same k)) (steps p at k V e d)
steps_as s t place f g (Err i) same steps = Interrupts-more i _ _ (λ e h p at k. subst (λ (x : Program). Does x (tree_of s) p (tree_of t) e) (sym (same k)) (h p at k)) steps
