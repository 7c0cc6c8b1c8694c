-- Answers drop no root.
use Rattle.std.proofs.Common.{◌≡◌, List, [], ◌∷◌, refl, sym, subst}
use Rattle.tcl_core.specs.Entries.{Answer}
use Rattle.tcl_core.specs.Laws.{IsSpared, KeepsTop, Spares}
use Rattle.tcl_core.specs.Lives.{comes}
use Rattle.tcl_core.specs.Paths.{Place}
use Rattle.tcl_core.specs.Programs.{Prog, Table}
use Rattle.tcl_core.specs.Runs.{Ending, Runs, World}
use Rattle.tcl_core.specs.Trees.{Event, Move, What, asked}
use Rattle.tcl_core.specs.Trees.What.{Dropped}
use Rattle.tcl_core.proofs.Keeping.{KeepsSteps, runs_keep}
use Rattle.tcl_core.proofs.Standing.{held_left}

-- answers are handed in, and nothing else
pub comes_keep : (O : Type 0) (B : List Answer) → KeepsTop {O = O} (comes B)
comes_keep O [] = tt
comes_keep O (a ∷ B) = comes_keep O B

module _ {O : Type 0} where
  root_spared_by : (p : Place) (x : What O) (ms : List (Move O)) → KeepsTop (asked p x ms) → Spares [] p x
  root_spared_by [] Dropped ms f = absurd f
  root_spared_by (y ∷ p) Dropped ms f = refl
  root_spared_by p x ms f = tt

  -- what is kept of the world: if what is yet to happen spares the root, all does
  abbrev Sparing : List (Event O) → World O → Type 0
  Sparing τ u = KeepsTop u.moves × (IsSpared [] u.tape → IsSpared [] τ)

  sparing_step : (τ : List (Event O)) → KeepsSteps (Sparing τ)
  sparing_step τ w p x v due s (f, g) =
      let f2 : KeepsTop (asked p x v.moves) = subst KeepsTop s.moves f in
      (held_left [] p x v.moves f2, λ h. g (subst (IsSpared []) (sym s.tape) (root_spared_by p x v.moves f2, h)))

module _ {O I : Type 0} where
  pub root_spared : (prog : Table O I) (w : World O) (p : Place) (x : Prog O I) (v : World O) (e : Ending) → Runs prog w p x v e → KeepsTop w.moves → v.tape ≡ [] → IsSpared [] w.tape
  root_spared prog w p x v e run f done =
      let h : Sparing w.tape v = runs_keep (Sparing w.tape) (sparing_step w.tape) prog w p x v e run (f, λ g. g) in
      h.1 (subst (IsSpared []) (sym done) tt)
