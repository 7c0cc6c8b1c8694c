-- Outsides that stay as they are by what they are told.
use Rattle.std.proofs.Common.{◌≡◌, ℕ, [], ◌∷◌, ◌++◌, Some, None, refl, sym, subst}
use Rattle.tcl_core.specs.Endings.{Reply}
use Rattle.tcl_core.specs.Entries.{Entry}
use Rattle.tcl_core.specs.Execution.{event}
use Rattle.tcl_core.specs.Paths.{Height, Path, Place, rise, rise_to}
use Rattle.tcl_core.specs.Trees as core
use Rattle.tcl_core.specs.Trees.What.{Done, Dropped, Out}
use Rattle.tcl_run.specs.Ends.{IfEnded}
use Rattle.tcl_run.specs.Entering.{whole_entry}
use Rattle.tcl_run.specs.Notifying.{Notified}
use Rattle.tcl_run.specs.Outsides.{Enters, Going, Misses, Returns}
use Rattle.tcl_run.specs.declared.outside.Happening.{Happening}
use Rattle.tcl_run.specs.declared.outside.Happening.TheVariants as happening
use Rattle.tcl_run.proofs.Endings.{IfEnded-all}
use Rattle.tcl_tree.specs.Own.{Own}
use Rattle.tcl_core.specs.Runs.{carried, gone}
use Rattle.tcl_tree.specs.Gone.{Holds}
use Rattle.tcl_tree.specs.TreeOf.{Names, tree_of}
use Rattle.tcl_tree.specs.declared.tree.Tree.{Tree as Table}

module _ {S : Type 0} (goes : Going S) where
  -- One that what happens within the tree doesn't change stays so by whatever else it is told, where
  -- that is named by itself.
  pub within_unchanged : (hands : Type 0) (t : Table) (o : S) (w : Happening) →
      ((T : core.Tree Own) (p : Path) → goes T o None (event p Dropped) o) →
      ((p : Place) (n : ℕ) (a : Place) (down : Path) (i : Entry) → rise n p ≡ Some a → Enters goes (tree_of t) o p n a down i o) →
      ((p : Place) (n : ℕ) (a : Place) (down : Path) (s r : Reply) → rise n p ≡ Some a → Returns goes (tree_of t) o p n a down s r o) →
      ((p : Place) (n : ℕ) (a : Place) (down : Path) (i : Entry) (r : Reply) → rise n p ≡ Some a → Misses goes (tree_of t) o p n down i r o) →
      ((caller up down entry : _) → w ≡ happening.PassedTop caller up down entry → Notified goes hands t o w o) →
      ((target ended : _) → w ≡ happening.EntryDone target ended → Notified goes hands t o w o) →
      ((caller up entry status : _) → w ≡ happening.ExitCameBack caller up entry status → Notified goes hands t o w o) →
      ((target entry told : _) → w ≡ happening.Unfound target entry told → Notified goes hands t o w o) →
      Notified goes hands t o w o
  within_unchanged hands t o (happening.Dropped parent name) drops enters returns misses passes done exits unfound = λ T p at. drops T (p ++ name.now ∷ [])
  within_unchanged hands t o (happening.Entered caller up down entry) drops enters returns misses passes done exits unfound = λ p a at e. enters p up a down.now (whole_entry entry.now) e
  within_unchanged hands t o (happening.Returned caller up down ended told) drops enters returns misses passes done exits unfound =
      let Told : Reply → Reply → Type 0 = λ s r. (p a : Path) (d : ℕ) → Holds t caller p d → rise_to (Some up) p ≡ Some a → r ≡ carried (gone d (tree_of t) p) (Some up) p down.now s → Returns goes (tree_of t) o p up a down.now s r o in
      IfEnded-all ended.now (λ s. IfEnded told.now (Told s)) (λ s. IfEnded-all told.now (Told s) (λ r p a d at e same. returns p up a down.now s r e))
  within_unchanged hands t o (happening.Missed caller up down entry told) drops enters returns misses passes done exits unfound = IfEnded-all told.now
      (λ r. (p a : Path) → Names t caller p → rise_to (Some up) p ≡ Some a → Misses goes (tree_of t) o p up down.now (whole_entry entry.now) r o)
      (λ r p a at e. misses p up a down.now (whole_entry entry.now) r e)
  within_unchanged hands t o (happening.PassedTop caller up down entry) drops enters returns misses passes done exits unfound = passes caller up down entry refl
  within_unchanged hands t o (happening.EntryDone target ended) drops enters returns misses passes done exits unfound = done target ended refl
  within_unchanged hands t o (happening.ExitCameBack caller up entry status) drops enters returns misses passes done exits unfound = exits caller up entry status refl
  within_unchanged hands t o (happening.Unfound target entry told) drops enters returns misses passes done exits unfound = unfound target entry told refl

  -- one that hands in nothing, and that neither a call which passes the top changes nor the end of
  -- an entry
  pub unchanged : (t : Table) (o : S) (w : Happening) →
      ((T : core.Tree Own) (p : Path) → goes T o None (event p Dropped) o) →
      ((p : Place) (n : ℕ) (a : Place) (down : Path) (i : Entry) → rise n p ≡ Some a → Enters goes (tree_of t) o p n a down i o) →
      ((p : Place) (n : ℕ) (a : Place) (down : Path) (s r : Reply) → rise n p ≡ Some a → Returns goes (tree_of t) o p n a down s r o) →
      ((p : Place) (n : ℕ) (a : Place) (down : Path) (i : Entry) (r : Reply) → rise n p ≡ Some a → Misses goes (tree_of t) o p n down i r o) →
      ((p : Place) (h : Height) (down : Path) (i : Entry) → rise_to h p ≡ None → goes (tree_of t) o None (event p (Out h down i)) o) →
      ((q : Path) (r : Reply) → goes (tree_of t) o None (event q (Done None r)) o) →
      Notified goes Prim.⊥ t o w o
  unchanged t o w drops enters returns misses passes done = within_unchanged Prim.⊥ t o w drops enters returns misses
      (λ caller up down entry is. subst (λ (v : Happening). Notified goes Prim.⊥ t o v o) (sym is) (λ p at e. passes p up down.now (whole_entry entry.now) e))
      (λ target ended is. subst (λ (v : Happening). Notified goes Prim.⊥ t o v o) (sym is) (IfEnded-all ended.now (λ r. goes (tree_of t) o None (event target.now (Done None r)) o) (λ r. done target.now r)))
      (λ caller up entry status is. subst (λ (v : Happening). Notified goes Prim.⊥ t o v o) (sym is) (λ h p d at e. let nothing : Prim.⊥ = h in elim nothing [ ]))
      (λ target entry told is. subst (λ (v : Happening). Notified goes Prim.⊥ t o v o) (sym is) (λ h. let nothing : Prim.⊥ = h in elim nothing [ ]))
