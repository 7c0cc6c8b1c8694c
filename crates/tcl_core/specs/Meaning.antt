-- The meaning of the rules: they are what runs are.
use Rattle.std.specs.Prelude.{◌≡◌, ◌↔◌, Bool, true}
use Rattle.tcl_core.specs.Paths.{Place}
use Rattle.tcl_core.specs.Endings.{Reply}
use Rattle.tcl_core.specs.Trees.{Tree, Event}
use Rattle.tcl_core.specs.Programs.{Prog, Table, Wait}
use Rattle.tcl_core.specs.Runs.{World, Ending, Unrolled, Runs}
use Rattle.tcl_core.specs.Rules.{Derives}
use Rattle.tcl_core.specs.Execution.{Executes, Fits, Makes}

abbrev pub RulesAreRuns : Type 0 → Type 0 → Type 0
RulesAreRuns O I = (prog : Table O I) (w : World O) (p : Place) (x : Prog O I) (v : World O)
    (e : Ending) → Derives prog w p x v e ↔ Runs prog w p x v e

-- A run is what `Unrolled` says of runs.
abbrev pub Unrolling : Type 0 → Type 0 → Type 0
Unrolling O I = (prog : Table O I) (w : World O) (p : Place) (x : Prog O I) (v : World O)
    (e : Ending) → Unrolled prog (Runs prog) w p x v e ↔ Runs prog w p x v e

-- What code executes is a run over the tape of what happened, whatever the outside is told: of a
-- program that calls only, or waits for the answer to a call and then calls only, as all are.
-- (`proofs/Following.antt` has it for an outside whose steps are any relation; here they are those
-- that a test lets through.)
abbrev pub by_test : {O S : Type 0} → (Tree O → S → Wait → Event O → S → Bool) → Tree O → S → Wait →
    Event O → S → Type 0
by_test goes T o s ev u = goes T o s ev u ≡ true

abbrev pub ExecutionsAreRuns : Type 0 → Type 0 → Type 0 → Type 0
ExecutionsAreRuns O I S = (goes : Tree O → S → Wait → Event O → S → Bool) (prog : Table O I)
    (T V : Tree O) (o z : S) (p : Place) (x : Prog O I) (r : Reply) → Fits x →
    Executes (by_test goes) prog T o p x V z r → Makes (by_test goes) prog T o p x V z r
