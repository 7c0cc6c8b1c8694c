-- What an outside came to by a run with a recorder that was given up on its way.
use Rattle.std.proofs.Common.{◌≡◌, ℕ, [], Option, None, Some, subst}
use Rattle.std.specs.Prelude.{Result, Ok, Err, IfErr, IfNone}
use Rattle.tcl_core.specs.Entries.Entry.{Eval}
use Rattle.tcl_core.specs.Execution.{Crossings}
use Rattle.tcl_core.specs.Paths.{Path, Text}
use Rattle.tcl_core.specs.Trees.{effect}
use Rattle.tcl_core.specs.Trees.What.{Limited}
use Rattle.tcl_eval.specs.Running.{IsGivenUp}
use Rattle.tcl_eval.specs.declared.running.Refused.{Refused}
use Rattle.tcl_language.specs.Table.{serve}
use Rattle.tcl_run.specs.Language.{language}
use Rattle.tcl_partial_runs.specs.Beginnings.{Begun}
use Rattle.tcl_partial_runs.specs.Beginnings.Begun.{stopped}
use Rattle.tcl_recorder.proofs.GivenUp.{given_up_unwatched}
use Rattle.tcl_recorder.specs.Recording.{recorded}
use Rattle.tcl_recorder.specs.declared.recorder.Recorder.{Recorder}
use Rattle.tcl_run.proofs.Losing.{lost_twice}
use Rattle.tcl_run.specs.Outsides.{Going}
use Rattle.tcl_run.specs.Runs.{IsLoss, ways}
use Rattle.tcl_run.specs.Runs.IsLoss.{unlost, lost}
use Rattle.tcl_tree.specs.TreeOf.{marks_of, tree_of}
use Rattle.tcl_tree.specs.declared.tree.Tree.{Tree as Table}

-- of a recorder what its outside loses is lost
abbrev held_loses : {S : Type 0} → (S → S → Type 0) → Recorder S → Recorder S → Type 0
held_loses loses o z = IsLoss loses o.outside z.outside

held : {S : Type 0} (loses : S → S → Type 0) {o z : Recorder S} → IsLoss (λ (a b : Recorder S). held_loses loses a b) o z → IsLoss loses o.outside z.outside
held loses unlost = unlost
held loses (lost b l) = lost_twice (held loses b) l

module _ {S : Type 0} (goes : Going S) (loses : S → S → Type 0) (old : Table) (path : Path) (script : Text) (most : ℕ) where
  -- it was given up on its way
  abbrev pub Lost : S → S → Type 0
  Lost o z = IsGivenUp (ways goes loses) old o path script most z

  -- the same with a recorder that holds the outside
  abbrev pub LostHeld : Recorder S → Recorder S → Type 0
  LostHeld o z = IsGivenUp (ways (recorded goes) (λ (a b : Recorder S). held_loses loses a b)) old o path script most z

  abbrev Goes_on : S → S → Type 0
  Goes_on o z = Begun (Crossings goes) (language (marks_of old).integers) (effect [] (Limited (Some most)) (tree_of old)) o path (serve (marks_of old).integers (Eval script)) z

  pub not_begun : (o : S) → Lost o o
  not_begun o = record { last = o; begun = stopped; lost = unlost }

  pub unwatched_so : (o z : Recorder S) (h : S) → o.outside ≡ h → LostHeld o z → Lost h z.outside
  unwatched_so o z h same g = record {
    last = g.last.outside;
    begun = subst (λ (u : S). Goes_on u g.last.outside) same
        (given_up_unwatched goes (language (marks_of old).integers) (effect [] (Limited (Some most)) (tree_of old)) o g.last path (serve (marks_of old).integers (Eval script)) g.begun);
    lost = held loses g.lost;
  }

  pub if_unwatched : {E : Type 0} (r : Result E Refused) (u : Option Refused) (o z : Recorder S) (h : S) → u ≡ None → o.outside ≡ h → IfNone u (IfErr r (λ _. LostHeld o z)) → IfErr r (λ _. Lost h z.outside)
  if_unwatched (Ok e) u o z h fit same g = tt
  if_unwatched (Err e) None o z h fit same g = unwatched_so o z h same g
  if_unwatched (Err e) (Some f) o z h fit same g = let clash : Some f ≡ None = fit in absurd cc
