-- Who keeps all that happens, in order: what it has when a program is given up is what each run of
-- the program begins with.
use Rattle.std.specs.Prelude.{◌≡◌, List, [], ◌∷◌, ◌++◌}
use Rattle.tcl_core.specs.Paths.{Place}
use Rattle.tcl_core.specs.Trees.{Tree, Event, Move, Grant, Grants}
use Rattle.tcl_core.specs.Trees.Grants.{Listed}
use Rattle.tcl_core.specs.Programs.{Prog, Table, Wait}
use Rattle.tcl_core.specs.Execution.{Fits}
use Rattle.tcl_core.specs.Runs.{World, Ending, Runs}
use Rattle.tcl_partial_runs.specs.Beginnings.{Begun, Begins, IsUnrefused, handing}

-- how an outside goes that keeps each happening behind those before it
abbrev pub keeps : {O : Type 0} → Tree O → List (Event O) → Wait → Event O → List (Event O) → Type 0
keeps T o s ev u = u ≡ o ++ ev ∷ []

-- What is kept of a program that was given up, with nothing kept at first, is what each run of it
-- begins with that is handed the same: where the words of the outside are listed, and where they
-- are any, and it refuses nothing.
pub record KeptBegins (O I : Type 0) : Type 0 where
  pub listed : (prog : Table O I) (T : Tree O) (p : Place) (x : Prog O I) (kept : List (Event O))
      (ms : List (Move O)) (gs : List Grant) (tape : List (Event O)) (v : World O) (e : Ending) →
      Fits x → Begun keeps prog T [] p x kept →
      Runs prog (handing T kept ms (Listed gs) tape) p x v e → Begins tape kept
  pub any : (prog : Table O I) (T : Tree O) (p : Place) (x : Prog O I) (kept : List (Event O))
      (ms : List (Move O)) (gs : Grants) (tape : List (Event O)) (v : World O) (e : Ending) →
      Fits x → Begun keeps prog T [] p x kept → IsUnrefused kept →
      Runs prog (handing T kept ms gs tape) p x v e → Begins tape kept
