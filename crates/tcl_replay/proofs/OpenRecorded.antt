-- What the laws of isolation say of a run that was recorded.
use Rattle.std.proofs.Common.{◌≡◌, ◌∙◌, ℕ, ◌≤◌, ◌+◌, Option, Some, sym, ap, subst}
use Rattle.tcl_core.specs.Entries.Entry.{Eval}
use Rattle.tcl_core.specs.Laws.{ArePlain, IsSafeAt, IsSafeBelow, after}
use Rattle.tcl_core.specs.Lives.{React, count_at, limit_at, limited, outcome_of, outs_of}
use Rattle.tcl_core.specs.Lives.Outcome.{Finished}
use Rattle.tcl_core.specs.Paths.{Path, Text}
use Rattle.tcl_core.specs.Trees.{Node, Tree, at}
use Rattle.tcl_core.specs.Views.{moves_of}
use Rattle.tcl_eval.specs.Running.{root_count, root_limit}
use Rattle.tcl_eval.specs.declared.running.OpenEnd.{OpenEnd}
use Rattle.tcl_isolation.proofs.Until.{does_until}
use Rattle.tcl_isolation.proofs.Watching as watching
use Rattle.tcl_isolation.proofs.Dropping as drops
use Rattle.tcl_isolation.specs.Laws.{DoesJust, DoesUntil, IsWithin, Suffices}
use Rattle.tcl_isolation.specs.Scripts as laws
use Rattle.tcl_isolation.specs.Visits.{IsBelowTheTop}
use Rattle.tcl_language.specs.Safety.{plain}
use Rattle.tcl_run.specs.Language.{language}
use Rattle.tcl_replay.proofs.Below.{below_at, below_same}
use Rattle.tcl_replay.specs.OpenWatched.{IsOpenDeletion, IsOpenRecorded, ReactsToDrop}
use Rattle.tcl_recorder.specs.Records.{RecordView}
use Rattle.tcl_replay.specs.Watched.{AsksTheHostNothing, CountStaysWithin, Reacts, ReactsSo, ReactsUntil}
use Rattle.tcl_run.specs.Outsides.{Going}
use Rattle.tcl_run_laws.proofs.Orders.{orderly_relimited}
use Rattle.tcl_run_laws.proofs.Tables.{orderly}
use Rattle.tcl_text.specs.declared.integer.Integers.{Integers}
use Rattle.tcl_tree.specs.Own.{Own}
use Rattle.tcl_tree.specs.TreeOf.{marks_of, tree_of}
use Rattle.tcl_tree.specs.declared.tree.Tree.{Tree as Table}

module _ {S : Type 0} (goes : Going S) (old : Table) (o : S) (path : Path) (script : Text) (limit : ℕ) (c : Path) (r : RecordView) (new : Table) (z : S) (e : OpenEnd) where
  abbrev pub One : Type 0
  One = IsOpenRecorded goes old o path script limit c r.crossings new z e

  abbrev style : Integers
  style = (marks_of old).integers

  -- the tree with the limit of the run
  abbrev T0 : Tree Own
  T0 = limited limit (tree_of old)

  pub at_first : IsBelowTheTop c → at T0 c ≡ at (tree_of old) c
  at_first f = below_at c (tree_of old) (Some (root_count old + limit)) f

  same_first : IsBelowTheTop c → T0 c ≡ tree_of old c
  same_first f = below_same c (tree_of old) (Some (root_count old + limit)) f

  pub at_last : (w : One) → IsBelowTheTop c → at (tree_of new) c ≡ at w.during c
  at_last w f = ap (λ (U : Tree Own). at U c) w.after ∙ below_at c w.during (root_limit old) f

  same_last : (w : One) → IsBelowTheTop c → tree_of new c ≡ w.during c
  same_last w f = ap (λ (U : Tree Own). U c) w.after ∙ below_same c w.during (root_limit old) f

  pub stood : (w : One) → IsBelowTheTop c → T0 c ≡ Some w.node
  stood w f = same_first f ∙ w.stood

  enough : (w : One) (m : ℕ) → IsBelowTheTop c → Suffices m (tree_of old c) (tree_of new c) → Suffices m (T0 c) (w.during c)
  enough w m f le = subst (λ (x : Option (Node Own)). Suffices m x (w.during c)) (sym (same_first f)) (subst (λ (x : Option (Node Own)). Suffices m (tree_of old c) x) (same_last w f) le)

  pub reacts : One → Reacts old c r.crossings new
  reacts w f u m le =
      let h : React (language style) (at T0 c) (moves_of r.crossings) m (outcome_of r.crossings Finished) (outs_of r.crossings) (at w.during c) =
      watching.reacts goes (language style) T0 w.during o w.between path (Eval script) c r.crossings w.reply w.visited w.node m f (stood w f) u (enough w m f le) in
      subst (λ (A : Tree Own). React (language style) A (moves_of r.crossings) m (outcome_of r.crossings Finished) (outs_of r.crossings) (at (tree_of new) c)) (at_first f)
      (subst (λ (B : Tree Own). React (language style) (at T0 c) (moves_of r.crossings) m (outcome_of r.crossings Finished) (outs_of r.crossings) B) (sym (at_last w f)) h)

  pub reacts_so : One → ReactsSo old c r.crossings new
  reacts_so w f u m le x told W re =
      let h : (x ≡ outcome_of r.crossings Finished) × (told ≡ outs_of r.crossings) × (W ≡ at w.during c) =
      watching.only goes (language style) T0 w.during o w.between path (Eval script) c r.crossings w.reply w.visited w.node m x told W f (stood w f) u (enough w m f le)
      (subst (λ (A : Tree Own). React (language style) A (moves_of r.crossings) m x told W) (sym (at_first f)) re) in
      (h.0, h.1, h.2 ∙ sym (at_last w f))

  pub reacts_until : One → ReactsUntil old c r.crossings new
  reacts_until w f early late whole u m le =
      subst (λ (A : Tree Own). DoesUntil (language style) A early late m) (at_first f)
      (does_until goes (language style) T0 w.during o w.between path (Eval script) c r.crossings w.reply w.node m w.visited f (stood w f) (enough w m f le) early late whole u)

  pub reacts_to_drop : IsOpenDeletion goes old o path script limit c r new z e → ReactsToDrop goes old o path script limit c r new z e
  reacts_to_drop d f u = (
    d,
    λ m le.
        let h = drops.reacts_to_drop goes (language style) T0 d.during o d.between path (Eval script) c r.crossings d.reply d.node m d.visited f (same_first f ∙ d.stood) u le in
        (h.0, h.1, subst (λ (A : Tree Own). DoesJust (language style) A (moves_of r.crossings) m h.0 (outs_of r.crossings) (at (after d.visited.first T0) c)) (at_first f) h.2),
  )

  safe_trees : IsSafeBelow T0
  safe_trees = (orderly_relimited (Some (root_count old + limit)) (tree_of old) (orderly old)).safe

  safe_first : IsBelowTheTop c → IsSafeAt (tree_of old) c → IsSafeAt T0 c
  safe_first f a = (a.0, same_first f ∙ a.1, a.2)

  pub asks_nothing : laws.AsksTheHostNothing goes → One → AsksTheHostNothing old c r.crossings
  asks_nothing law w f a p m =
      law style T0 w.during o w.between path (Eval script) c r.crossings w.reply w.visited f safe_trees (safe_first f a) (subst (ArePlain plain) (sym (at_first f)) p) m

  own_limit : (w : One) (l : ℕ) → limit_at (tree_of old c) ≡ Some l → w.node.limit ≡ Some l
  own_limit w l at_limit = ap limit_at (sym w.stood) ∙ at_limit

  own_count : (w : One) (b : ℕ) → count_at (tree_of old c) ≤ b → w.node.count ≤ b
  own_count w b nb = subst (λ (x : Option (Node Own)). count_at x ≤ b) w.stood nb

  finally : (w : One) (l b : ℕ) → IsBelowTheTop c → IsWithin (w.during c) l b → IsWithin (tree_of new c) l b
  finally w l b f h = subst (λ (x : Option (Node Own)). IsWithin x l b) (sym (same_last w f)) h

  pub stays_within : laws.ScriptsStayWithin goes → One → CountStaysWithin old c r.crossings new
  stays_within law w f l b at_limit low lb nb =
      finally w l b f (law style T0 w.during o w.between path (Eval script) c r.crossings w.reply w.node l b w.visited f (stood w f) (own_limit w l at_limit) low lb (own_count w b nb))
