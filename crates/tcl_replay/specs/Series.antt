-- Evaluations of one tree, one after the other, in each of which the same interpreter was watched.
use Rattle.std.specs.Prelude.{◌≡◌, ℕ, ◌≤◌, ◌+◌, Some}
use Rattle.tcl_core.specs.Lives.{count_at, limit_at}
use Rattle.tcl_core.specs.Paths.{Path, Text}
use Rattle.tcl_core.specs.Views.{moves_of, steps_of, view}
use Rattle.tcl_eval.specs.declared.running.End.{End}
use Rattle.tcl_host.specs.declared.reply.HostReply.{HostReply}
use Rattle.tcl_host.specs.declared.request.Request.{Request}
use Rattle.tcl_isolation.specs.Limits.{AreLowering}
use Rattle.tcl_isolation.specs.Visits.{IsBelowTheTop}
use Rattle.tcl_recorder.specs.Records.{RecordView}
use Rattle.tcl_tree.specs.TreeOf.{tree_of}
use Rattle.tcl_tree.specs.declared.tree.Tree.{Tree as Table}
use Rattle.tcl_replay.specs.Watched.{IsRecord, happened, watching}

-- One of them, in which so many steps are made in the subtree of the watched interpreter at c. No
-- entry of the record raises the count limit that this one has at first, or takes it away.
pub record Run {S : Type 0} (step : S → Request → HostReply → S → Type 0) (c : Path) (old : Table)
    (steps : ℕ) (new : Table) : Type 0 where
  pub before : S
  pub after : S
  pub path : Path
  pub script : Text
  pub limit : ℕ
  pub kept : RecordView
  pub end : End
  pub recorded : IsRecord step (watching old before path script limit c) kept new after end
  pub made : steps ≡ steps_of
      (view c
      (happened step (watching old before path script limit c) kept.crossings new after end
      recorded.1.0))
  pub lowering : (l : ℕ) → limit_at (tree_of old c) ≡ Some l →
      AreLowering l (moves_of kept.crossings)

-- What whoever holds the tree does with it between two runs: nothing by which the limit is raised
-- or taken away, or the count falls.
pub record Between (c : Path) (was is : Table) : Type 0 where
  pub limit : (l : ℕ) → limit_at (tree_of was c) ≡ Some l → (k : ℕ) ×
      (limit_at (tree_of is c) ≡ Some k) × (k ≤ l)
  pub count : count_at (tree_of was c) ≤ count_at (tree_of is c)

-- From the first tree to the last one, so many steps being made in all.
pub data InTurn {S : Type 0} (step : S → Request → HostReply → S → Type 0) (c : Path)
    (first : Table) : ℕ → Table → Type 0 where
  none : InTurn step c first 0 first
  changed : {n : ℕ} {t u : Table} → InTurn step c first n t → Between c t u →
      InTurn step c first n u
  ran : {n k : ℕ} {t u : Table} → InTurn step c first n t → Run step c t k u →
      InTurn step c first (n + k) u

-- With a count limit at first, no more steps are made in all of them than lead to the greater of
-- the limit and the count before: to each number that both are at most.
abbrev pub RunsStayWithin : {S : Type 0} → (S → Request → HostReply → S → Type 0) → Type 0
RunsStayWithin {S} step = (c : Path) (first last : Table) (n l b : ℕ) → IsBelowTheTop c →
    InTurn step c first n last → limit_at (tree_of first c) ≡ Some l → l ≤ b →
    count_at (tree_of first c) ≤ b → count_at (tree_of first c) + n ≤ b
