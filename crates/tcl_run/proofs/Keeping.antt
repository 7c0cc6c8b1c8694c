-- What evaluations keep, one after another.
use Rattle.std.proofs.Common.{ℕ, ◌≤◌, rules, arith}
use Rattle.tcl_run.specs.Runs.{IsLevel, IsSteady, Keeps, KeepsAndLoses}
use Rattle.tcl_run.proofs.Losing.{lost_twice, not_lost}
use Rattle.tcl_run.proofs.Steady.{steady-refl, steady-trans, level_steady}
use Rattle.tcl_tree.specs.declared.tree.Tree.{Tree as Table}

module _ {S : Type 0} {entries : S → ℕ} where
  pub keeps-refl : (t : Table) (o : S) → Keeps entries t t o o
  keeps-refl t o = record { steady = steady-refl t; left = search rules }

  pub keeps-trans : {t u v : Table} {o w z : S} → Keeps entries t u o w → Keeps entries u v w z → Keeps entries t v o z
  keeps-trans {t} {u} {v} a b = record { steady = steady-trans t u v a.steady b.steady; left = let c = a.left in let d = b.left in omega arith }

  -- by what changes own parts alone
  pub level_keeps : {t u : Table} (o : S) → IsLevel t u → Keeps entries t u o o
  level_keeps {t} {u} o l = record { steady = level_steady t u l; left = search rules }

  -- and by a step, of which the outside is told
  pub charged_keeps : {t u : Table} {o z : S} → IsLevel t u → entries z ≤ entries o → Keeps entries t u o z
  charged_keeps {t} {u} l h = record { steady = level_steady t u l; left = h }

  -- by what only the outside is told of, or asked for
  pub told_keeps : {t : Table} {o z : S} → entries z ≤ entries o → Keeps entries t t o z
  told_keeps {t} h = record { steady = steady-refl t; left = h }

  module _ {loses : S → S → Type 0} where
    pub level_loses : {t u : Table} (o : S) → IsLevel t u → KeepsAndLoses entries loses t u o o
    level_loses {t} {u} o l = record { steady = level_steady t u l; left = search rules; lost = not_lost o }

    pub steady_loses : {t u : Table} (o : S) → IsSteady t u → KeepsAndLoses entries loses t u o o
    steady_loses {t} {u} o h = record { steady = h; left = search rules; lost = not_lost o }

    pub loses-trans : {t u v : Table} {o w z : S} → KeepsAndLoses entries loses t u o w → KeepsAndLoses entries loses u v w z → KeepsAndLoses entries loses t v o z
    loses-trans {t} {u} {v} a b = record { steady = steady-trans t u v a.steady b.steady; left = let c = a.left in let d = b.left in omega arith; lost = lost_twice a.lost b.lost }
