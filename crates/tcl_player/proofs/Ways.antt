-- How far a way goes up.
use Rattle.std.proofs.Common.{◌≡◌, ℕ, Bool, true, false, length, refl, sym, ap}
use Rattle.std.specs.Prelude.{is_some, leb}
use Rattle.std.proofs.lemmas.Bool.{leb-true, leb-false}
use Rattle.tcl_core.specs.Paths.{Path, rise}
use Rattle.tcl_core.proofs.PathLaws.{rise_some, rise_past}

-- it stays within the tree where the path is as long
pub rises : (n : ℕ) (q : Path) → leb n (length q) ≡ is_some (rise n q)
rises n q = by (leb n (length q)) refl
  where
    by : (b : Bool) → leb n (length q) ≡ b → b ≡ is_some (rise n q)
    by true e = sym (ap is_some (rise_some q n (leb-true n (length q) e)).1)
    by false e = sym (ap is_some (rise_past n q (leb-false n (length q) e)))
