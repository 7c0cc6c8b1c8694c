-- What contracts see of a record, and how a recorder goes.
use Rattle.std.specs.Prelude.{◌≡◌, ℕ, Bool, true, false, List, [], ◌∷◌, ◌++◌, Option, Some, None}
use Rattle.std.specs.Prelude.{Result, Ok, Err}
use Rattle.tcl_core.specs.Endings.{ok}
use Rattle.tcl_core.specs.Endings.Reply.{Completed}
use Rattle.tcl_core.specs.Entries.{Answer}
use Rattle.tcl_core.specs.Entries.Answer.{Replied, Heard, Nobody}
use Rattle.tcl_core.specs.Paths.{Path, Place, Height, strip}
use Rattle.tcl_core.specs.Programs.{Wait, either}
use Rattle.tcl_core.specs.Execution.{event}
use Rattle.tcl_core.specs.Trees.{Event, Node, Tree, What, effect}
use Rattle.tcl_core.specs.Trees.What.{Dropped, In, Done, Back}
use Rattle.tcl_run.specs.Ends.{Interrupts}
use Rattle.tcl_run.specs.Entering.{whole_entry}
use Rattle.tcl_run.specs.Outsides.{Going, reply_of, told_to}
use Rattle.tcl_run.specs.declared.interruption.Interruption.{Interruption}
use Rattle.tcl_run.specs.declared.outside.Turn.{Turn}
use Rattle.tcl_run.specs.declared.outside.Turn.TheVariants as turn
use Rattle.tcl_tree.specs.Own.{Own}
use Rattle.tcl_recorder.specs.Boundary.{boundary}
use Rattle.tcl_recorder.specs.Records.{RecordView}
use Rattle.tcl_recorder.specs.declared.recorder.Recorder.{Recorder}

-- what is recorded after these happenings
abbrev pub after : RecordView → List (Event Own) → RecordView
after r τ = record { watched = r.watched; crossings = r.crossings ++ boundary r.watched τ }

-- and after one
abbrev pub crossed : RecordView → Event Own → RecordView
crossed r ev = after r (ev ∷ [])

-- what happens is that an interpreter is dropped, below which the other one is so far, if it is
-- there at all
abbrev pub drops_at : What Own → Option Path → Bool
drops_at Dropped (Some q) = true
drops_at Dropped None = false
drops_at _ b = false

-- the interpreter at c is dropped by it, or with one above it
abbrev pub falls : Place → Event Own → Bool
falls c ev = drops_at ev.what (strip ev.place c)

-- whether it was dropped after these happenings, where it was or wasn't before
abbrev pub fallen_after : Bool → Place → List (Event Own) → Bool
fallen_after b c [] = b
fallen_after b c (ev ∷ τ) = fallen_after (either (falls c ev) b) c τ

-- ## Of what happens

-- An entry from outside is met where somebody stands at its path. (Of one that finds nobody an
-- outside is told as it is handed in, and again as it is told so: it is recorded then.)
abbrev pub met_by : What Own → Option (Node Own) → Place → List (Event Own)
met_by (In None i) None p = []
met_by x n p = event p x ∷ []

abbrev pub met : Tree Own → Event Own → List (Event Own)
met T ev = met_by ev.what (T ev.place) ev.place

-- what is noted of a happening: nothing once the watched interpreter was dropped
abbrev pub noted_of : Bool → Tree Own → Event Own → List (Event Own)
noted_of true T ev = []
noted_of false T ev = met T ev

-- the same of all these happenings, from a tree on
abbrev pub told_of : Bool → Place → Tree Own → List (Event Own) → List (Event Own)
told_of b c T [] = []
told_of b c T (ev ∷ τ) = noted_of b T ev ++ told_of (either (falls c ev) b) c
    (effect ev.place ev.what T) τ

-- Those of them up to which the interpreter at c is there: all, where it isn't dropped; none, where
-- it was before.
abbrev pub while_there : Bool → Place → List (Event Own) → List (Event Own)
while_there true c τ = []
while_there false c [] = []
while_there false c (ev ∷ τ) = ev ∷ while_there (falls c ev) c τ

-- What is recorded of a happening, where nothing was missing before: what crosses the boundary, as
-- long as the watched interpreter is there; and whether it is dropped.
pub record Keeps {S : Type 0} (T : Tree Own) (o : Recorder S) (ev : Event Own) (z : Recorder S) :
    Type 0 where
  pub whole : o.incomplete ≡ false
  pub kept : z.kept ≡ after o.kept (noted_of o.deleted T ev)
  pub fate : z.deleted ≡ either (falls o.kept.watched ev) o.deleted

-- an entry from outside of the tree is done
abbrev pub IsLeft : What Own → Type 0
IsLeft (Done None r) = Unit {0}
IsLeft x = Prim.⊥

-- A recorder goes as the outside that it holds. Where nothing is missing from the record
-- afterwards, the happening is recorded; and that an entry is done is told only where nothing is
-- missing.
pub record Records {S : Type 0} (goes : Going S) (T : Tree Own) (o : Recorder S) (s : Wait)
    (ev : Event Own) (z : Recorder S) : Type 0 where
  pub outside : goes T o.outside s ev z.outside
  pub keeps : z.incomplete ≡ false → Keeps T o ev z
  pub ends : IsLeft ev.what → z.incomplete ≡ false

abbrev pub recorded : {S : Type 0} → Going S → Going (Recorder S)
recorded goes T o s ev z = Records goes T o s ev z

-- the record after a crossing, where the watched interpreter was dropped or wasn't
abbrev pub noted_in : Bool → RecordView → Event Own → RecordView
noted_in true r ev = r
noted_in false r ev = crossed r ev

-- the recorder after a crossing of which the outside that it holds isn't told
abbrev pub noted : {S : Type 0} → Recorder S → Event Own → Recorder S
noted o ev = record {
  outside = o.outside;
  kept = noted_in o.deleted o.kept ev;
  deleted = o.deleted;
  incomplete =
      o.incomplete;
}

-- ## Of what comes next to an open call

-- what its caller is told for an answer, where it is gone or isn't
abbrev pub HasCome : RecordView → Path → Option ℕ → Height → Answer → RecordView → Type 0
HasCome r p away h a s = s ≡ crossed r (event p (Back h (told_to away a)))

abbrev pub Turns : RecordView → Tree Own → Path → Option ℕ → Height → Result Turn Interruption →
    RecordView → Type 0
Turns r T p away h (Ok (turn.Entry target entry)) s = s
    ≡ after r (met T (event target.items (In None (whole_entry entry))))
Turns r T p away h (Ok (turn.Completed text)) s = HasCome r p away h (Replied (Completed (ok text)))
    s
Turns r T p away h (Ok (turn.Heard reply)) s = HasCome r p away h (Heard (reply_of reply)) s
Turns r T p away h (Ok turn.Nobody) s = HasCome r p away h Nobody s
Turns r T p away h (Err e) s = Interrupts e (λ x. HasCome r p away h (Replied x) s)
