-- What contracts see of ends that are told to a caller in another interpreter.
use Rattle.std.specs.Prelude.{◌≡◌, ℕ, Result, Ok, Err, Some}
use Rattle.tcl_core.specs.Endings.{Reply, ok, settle}
use Rattle.tcl_core.specs.Endings.Reply.{Completed}
use Rattle.tcl_core.specs.Paths.{Text, Path}
use Rattle.tcl_core.specs.Runs.{carried, gone}
use Rattle.tcl_core.specs.Trees.{Tree}
use Rattle.tcl_flow.specs.View.{completion_of}
use Rattle.tcl_run.specs.Ends.{IfEnded, Interrupts}
use Rattle.tcl_run.specs.Outsides.{Going, Returns}
use Rattle.tcl_run.specs.declared.interruption.Interruption.{Interruption}
use Rattle.tcl_run.specs.declared.interruption.Interruption.TheVariants as interruption
use Rattle.tcl_tree.specs.Gone.{Holds}
use Rattle.tcl_tree.specs.Own.{Own}
use Rattle.tcl_tree.specs.TreeOf.{Names}
use Rattle.tcl_tree.specs.declared.tree.Place.{Place as TablePlace}
use Rattle.tcl_tree.specs.declared.tree.Tree.{Tree as Table}

-- it ended by this reply
abbrev pub EndedBy : Result Text Interruption → Reply → Type 0
EndedBy (Ok text) s = s ≡ Completed (ok text)
EndedBy (Err interruption.Memory) s = Prim.⊥
EndedBy (Err i) s = Interrupts i (λ r. s ≡ r)

-- The caller at p, where d evaluations were in progress when its call went out, is told so of the
-- end of that call, which went so many levels up, to a, and then these names down: a stop as it is
-- seen from there, and all else as it is; but a caller that is gone is told of no completion. The
-- outside is told both.
pub record ComesBack {S : Type 0} (goes : Going S) (T : Tree Own) (o : S) (p : Path) (d up : ℕ)
    (a down : Path) (ended : Result Text Interruption) (told : Reply) (z : S) : Type 0 where
  pub reply : Reply
  pub ended_so : EndedBy ended reply
  pub told_so : told ≡ carried (gone d T p) (Some up) p down reply
  pub returns : Returns goes T o p up a down reply told z

-- who called from the interpreter that the place names isn't gone
abbrev pub IsStanding : Table → TablePlace → Type 0
IsStanding t caller = (p : Path) (d : ℕ) → Holds t caller p d → Names t caller p

-- what an end comes to where only ok and error may pass
abbrev pub Settles : Result Text Interruption → Result Text Interruption → Type 0
Settles (Ok text) r = r ≡ Ok text
Settles (Err (interruption.Completed c)) r = IfEnded r
    (λ e. e ≡ Completed (settle (completion_of c.value)))
Settles (Err i) r = r ≡ Err i
