-- With the limit of its root a tree makes no more steps than that allows.
use Rattle.std.proofs.Common.{◌≡◌, refl, sym, ◌∙◌, ap, subst, arith, ℕ, ◌+◌, ◌≤◌, List, [], ◌∷◌, Some}
use Rattle.tcl_core.specs.Endings.{Reply}
use Rattle.tcl_core.specs.Entries.{Answer}
use Rattle.tcl_core.specs.Laws.{IsLowering, IsSpared, KeepsTop, Lasts}
use Rattle.tcl_core.specs.Lives.{comes, count_at, limited}
use Rattle.tcl_core.specs.Paths.{Place}
use Rattle.tcl_core.specs.Programs.{Prog, Table}
use Rattle.tcl_core.specs.Runs.{Runs, World}
use Rattle.tcl_core.specs.Trees.{Event, Node, Tree, What, paid, seen_what, with_limit}
use Rattle.tcl_core.specs.Trees.What.{Charged}
use Rattle.tcl_core.specs.Views.{steps_of, view}
use Rattle.tcl_core.proofs.Counts.{counting, limiting}
use Rattle.tcl_core.proofs.PathLaws.{Some-inj}
use Rattle.tcl_run_laws.specs.Limits.{HasTop}

-- answers are handed in, and nothing else
pub comes_keeps : (O : Type 0) (B : List Answer) → KeepsTop {O = O} (comes B)
comes_keeps O [] = tt
comes_keeps O (a ∷ B) = comes_keeps O B

module _ {O : Type 0} where
  paid_seen : (q : Place) (x : What O) (k : ℕ) → paid (seen_what q x) k ≡ paid x k
  paid_seen q Charged k = refl
  paid_seen q x k = refl

  -- the whole tree sees all steps
  steps_seen : (τ : List (Event O)) → steps_of (view [] τ) ≡ steps_of τ
  steps_seen [] = refl
  steps_seen (ev ∷ τ) = paid_seen ev.place ev.what (steps_of (view [] τ)) ∙ ap (paid ev.what) (steps_seen τ)

  -- the root, with its limit
  pub root_limited : (T : Tree O) (n : ℕ) → HasTop T → (m : Node O) × (limited n T [] ≡ Some m) × (m.limit ≡ Some (count_at (T []) + n)) × (m.count ≡ count_at (T []))
  root_limited T n (m, e) = (record m { limit = Some (count_at (T []) + n) }, ap (with_limit (Some (count_at (T []) + n))) e, refl, sym (ap count_at e))

module _ {O I : Type 0} where
  -- the steps of a run that leaves the root's limit as it is
  pub steps_within : (prog : Table O I) (T : Tree O) (n : ℕ) (p : Place) (x : Prog O I) (w v : World O) (r : Reply) → HasTop T → w.tree ≡ limited n T → KeepsTop w.moves → IsSpared [] w.tape → ((l : ℕ) → IsLowering l [] w.tape) →
      Runs prog w p x v (Some r) → steps_of v.tape ≡ 0 → steps_of w.tape ≤ n
  steps_within prog T n p x w v r root start held spared lowering run done =
      let m = root_limited T n root in
      let there : w.tree [] ≡ Some m.0 = ap (λ U. U []) start ∙ m.1 in
      let lasts : Lasts [] w = record { node = m.0; stands = there; spared = spared; held = held } in
      let most : ℕ = count_at (T []) + n in
      let same : m.0.count ≡ count_at (T []) = m.3 in
      let low : m.0.count ≤ most = omega (arith, same) in
      let limit = limiting prog [] p w x v (Some r) m.0 most most run lasts (lowering most) there m.2 (omega arith) low in
      let count = counting prog [] p w x v (Some r) m.0 run lasts there in
      let one : limit.0 ≡ count.0 = Some-inj limit.0 (sym limit.2 ∙ count.1) in
      let at_most : count.0.count ≤ most = subst (λ (k : Node O). k.count ≤ most) one limit.5 in
      let sum : count.0.count + steps_of (view [] v.tape) ≡ m.0.count + steps_of (view [] w.tape) = count.2 in
      let before : steps_of (view [] w.tape) ≡ steps_of w.tape = steps_seen w.tape in
      let after : steps_of (view [] v.tape) ≡ 0 = steps_seen v.tape ∙ done in
      omega (arith, same, at_most, sum, before, after)
