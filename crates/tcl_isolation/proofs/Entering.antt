-- What code executes in an entry, as a watched visit.
use Rattle.std.proofs.Common.{◌≡◌, List, [], ◌∷◌, ◌++◌, Some, None, refl, sym, ◌∙◌, ap}
use Rattle.tcl_core.specs.Endings.{Reply}
use Rattle.tcl_core.specs.Entries.{Entry}
use Rattle.tcl_core.specs.Laws.{IsSpared}
use Rattle.tcl_core.specs.Paths.{Path, Place}
use Rattle.tcl_core.specs.Programs.{Prog, Table, Wait}
use Rattle.tcl_core.specs.Execution.{Crossings, Executes, event}
use Rattle.tcl_core.specs.Trees.{Event, Node, Tree}
use Rattle.tcl_core.specs.Trees.Grants.{Listed}
use Rattle.tcl_core.specs.Trees.What.{Done}
use Rattle.tcl_core.proofs.Callers.{fit}
use Rattle.tcl_core.proofs.Following.{Rest, Says, ahead, allowed-all, allowed-append, called_on, follows, handed-all, handed-append}
use Rattle.tcl_core.proofs.RuleLaws.{derived_runs}
use Rattle.tcl_recorder.specs.Boundary.{boundary}
use Rattle.tcl_isolation.specs.Visits.{WatchedVisit, visit}

module _ {O I S : Type 0} (goes : Tree O → S → Wait → Event O → S → Type 0) (prog : Table O I) (T V : Tree O) (o z : S) (t : Path) (i : Entry) (c : Place) (r : Reply) where
  -- the end of the entry is yet to happen
  last : Rest O
  last = record { moves = []; words = []; tape = event t (Done None r) ∷ [] }

  pub entry_visit : (node : Node O) → T t ≡ Some node → Executes (Crossings goes) prog T o t (prog.entry i) V z r → (events : List (Event O)) × (IsSpared c (visit t i events r) → WatchedVisit goes prog T o t i c (boundary c (visit t i events r)) V z r)
  unfolding last
  entry_visit node there th =
      let x : Prog O I = prog.entry i in
      let calls = prog.entries_call i in
      let h : Says (Crossings goes) prog T o t (prog.entry i) V z r = follows (Crossings goes) prog (fit x calls) th in
      let end : List (Event O) = event t (Done None r) ∷ [] in (
        h.events,
        λ spared. record {
          events = h.events;
          visits = record {
            node = node;
            stands = there;
            entered = ahead T h.events last;
            left = ahead V [] last;
            entry = record {
              tape = refl;
              tree = refl;
              moves = ap (λ ms. Rattle.tcl_core.specs.Trees.Move.Enter t i ∷ ms) (sym (handed-all (h.events ++ end)) ∙ handed-append h.events end []);
              grants = sym (allowed-all (h.events ++ end)) ∙ allowed-append h.events end (Listed []);
            };
            run = derived_runs prog (h.runs last);
            leaving = record { tape = refl; tree = refl; moves = refl; grants = refl };
          };
          outside = called_on (Crossings goes) x calls (h.chain []);
          recorded = refl;
          spared = spared;
        },
      )
