-- The small beginning, step by step.
use Rattle.std.proofs.Common.{ℕ, [], ◌∷◌, Some, None, refl}
use Rattle.tcl_core.specs.Endings.{ok}
use Rattle.tcl_core.specs.Endings.Reply.{Completed}
use Rattle.tcl_core.specs.Entries.Answer.{Heard}
use Rattle.tcl_core.specs.Entries.HostReply.{TheEnd}
use Rattle.tcl_core.specs.Example.{first_tree}
use Rattle.tcl_core.specs.Programs.Next.{On}
use Rattle.tcl_core.specs.Rules.{Derives}
use Rattle.tcl_core.specs.Runs.{World}
use Rattle.tcl_core.specs.Execution.{Fits, event}
use Rattle.tcl_core.specs.Trees.{effect}
use Rattle.tcl_core.specs.Trees.Grants.{Listed, Budget}
use Rattle.tcl_core.specs.Trees.Move.{Come}
use Rattle.tcl_core.specs.Trees.What.{Back, Charged, Out}
use Rattle.tcl_core.proofs.RuleLaws.{derived_runs}
use Rattle.tcl_partial_runs.specs.Beginnings.{Begun}
use Rattle.tcl_partial_runs.specs.Beginnings.Begun.{acted, calling_out}
use Rattle.tcl_partial_runs.specs.Example.{WorkedBeginning, after_line_calls, finish, reading, reads_line, request, so_far, start}
use Rattle.tcl_partial_runs.specs.Keeping.{keeps}
use Rattle.tcl_partial_runs.proofs.Kept.{kept_begins}

given_up : Begun keeps reading first_tree [] [] reads_line so_far
given_up = acted {u = event [] Charged ∷ []} (None, Charged, On) (λ gs. refl) tt refl (calling_out refl)

abbrev charged : World ℕ
charged = record { tree = effect [] Charged first_tree; moves = Come (Heard TheEnd) ∷ []; grants = Listed []; tape = event [] (Out None [] request) ∷ event [] (Back None (Heard TheEnd)) ∷ [] }

abbrev asked : World ℕ
asked = record { tree = effect [] Charged first_tree; moves = Come (Heard TheEnd) ∷ []; grants = Listed []; tape = event [] (Back None (Heard TheEnd)) ∷ [] }

whole : Derives reading start [] reads_line finish (Some (Completed (ok [])))
whole = Derives.acted _ _ _ _ (None, Charged, On) charged _ _ refl tt (record { tape = refl; tree = refl; moves = refl; grants = refl })
    (Derives.called_out _ _ _ _ _ _ _ asked _ _ refl (record { tape = refl; tree = refl; moves = refl; grants = refl })
    (Derives.heard _ _ _ _ TheEnd finish _ _ refl refl (record { tape = refl; tree = refl; moves = refl; grants = refl }) (Derives.completed _ _ _)))

calls : Fits reads_line
calls T a = after_line_calls a

pub worked_beginning : WorkedBeginning
worked_beginning = record {
  given_up = given_up;
  whole = derived_runs reading whole;
  stands_first = (event [] (Back None (Heard TheEnd)) ∷ [], refl);
  each = λ ms gs tape v e run. kept_begins.listed reading first_tree [] reads_line so_far ms gs tape v e calls given_up run;
  each_within = λ ms n tape v e run. kept_begins.any reading first_tree [] reads_line so_far ms (Budget n) tape v e calls given_up (tt, (tt, tt)) run;
}
