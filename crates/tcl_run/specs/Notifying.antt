-- What an outside goes through by what it is told.
use Rattle.std.specs.Prelude.{◌≡◌, ℕ, [], ◌∷◌, ◌++◌, Some, None}
use Rattle.tcl_core.specs.Endings.{Completion, Reply}
use Rattle.tcl_core.specs.Endings.Reply.{Completed, Exit}
use Rattle.tcl_core.specs.Entries.{Entry}
use Rattle.tcl_core.specs.Entries.Answer.{Replied}
use Rattle.tcl_core.specs.Execution.{event}
use Rattle.tcl_core.specs.Paths.{Path, rise_to}
use Rattle.tcl_core.specs.Runs.{carried, gone}
use Rattle.tcl_core.specs.Trees as core
use Rattle.tcl_core.specs.Trees.What.{Dropped, Out, In, Done, Back, Unfound}
use Rattle.tcl_run.specs.Ends.{IfEnded}
use Rattle.tcl_run.specs.Entering.{whole_entry}
use Rattle.tcl_run.specs.Outsides.{Going, Enters, Returns, Misses}
use Rattle.tcl_run.specs.declared.outside.Happening.{Happening}
use Rattle.tcl_run.specs.declared.outside.Happening.TheVariants as happening
use Rattle.tcl_tree.specs.Own.{Own}
use Rattle.tcl_tree.specs.Gone.{Holds}
use Rattle.tcl_tree.specs.TreeOf.{tree_of, Names}
use Rattle.tcl_tree.specs.declared.tree.Tree.{Tree}

-- The entry for the path, of which the state o is told as it is handed in, found nobody there, and
-- was told that: from the state before that goes to z.
abbrev pub WasUnfound : {S : Type 0} → Going S → core.Tree Own → S → Path → Entry → Reply → S →
    Type 0
WasUnfound {S} goes T o t i r z = (c : Completion) (before : S) → r ≡ Completed c → T t ≡ None →
    goes T before None (event t (In None i)) o → goes T before None (event [] (Unfound t i c)) z

-- Told of a child that was dropped; of a call within the tree, of its answer, or of one that finds
-- nobody; of a call that passes the top; of the end of an entry that was handed in, that it found
-- nobody, or of an exit by which it ends the call too: an outside goes from one state to the next
-- by those events, the tree being what it is then; of a child that was dropped, whatever the tree
-- was before. Who called may be gone by the time of an answer: it held a level of depth. Of an
-- entry that found nobody an outside is told where it is in a state to which it came by handing
-- that in: it goes from the one before.
abbrev pub Notified : {S : Type 0} → Going S → Type 0 → Tree → S → Happening → S → Type 0
Notified goes hands_in t o (happening.Dropped parent name) z =
    (T : core.Tree Own) (p : Path) → Names t parent p →
    goes T o None (event (p ++ name.now ∷ []) Dropped) z
Notified goes hands_in t o (happening.Entered caller up down entry) z =
    (p a : Path) → Names t caller p → rise_to (Some up) p ≡ Some a →
    Enters goes (tree_of t) o p up a down.now (whole_entry entry.now) z
Notified goes hands_in t o (happening.Returned caller up down ended told) z =
    IfEnded ended.now (λ s. IfEnded told.now (λ r.
    (p a : Path) (d : ℕ) → Holds t caller p d → rise_to (Some up) p ≡ Some a →
    r ≡ carried (gone d (tree_of t) p) (Some up) p down.now s →
    Returns goes (tree_of t) o p up a down.now s r z))
Notified goes hands_in t o (happening.Missed caller up down entry told) z =
    IfEnded told.now (λ r.
    (p a : Path) → Names t caller p → rise_to (Some up) p ≡ Some a →
    Misses goes (tree_of t) o p up down.now (whole_entry entry.now) r z)
Notified goes hands_in t o (happening.PassedTop caller up down entry) z =
    (p : Path) → Names t caller p → rise_to up p ≡ None →
    goes (tree_of t) o None (event p (Out up down.now (whole_entry entry.now))) z
Notified goes hands_in t o (happening.EntryDone target ended) z =
    IfEnded ended.now (λ r. goes (tree_of t) o None (event target.now (Done None r)) z)
Notified goes hands_in t o (happening.ExitCameBack caller up entry status) z =
    hands_in → (p : Path) (d : ℕ) → Holds t caller p d → rise_to up p ≡ None →
    goes (tree_of t) o (Some (up, whole_entry entry.now, d))
    (event p (Back up (Replied (Exit status)))) z
Notified goes hands_in t o (happening.Unfound target entry told) z =
    hands_in → IfEnded told.now (λ r.
    WasUnfound goes (tree_of t) o target.now (whole_entry entry.now) r z)
