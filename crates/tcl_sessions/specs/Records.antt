-- Records and saved interpreters.
use Rattle.std.specs.Prelude.{◌≡◌, ℕ, ◌⊎◌, Some, Result, Ok, Err, IsSome, None}
use Rattle.tcl_core.specs.Paths.{Path}
use Rattle.tcl_eval.specs.declared.running.Refused.{Refused}
use Rattle.tcl_recorder.specs.Records.{RecordView}
use Rattle.tcl_replay.specs.Replaying.{unfit}
use Rattle.tcl_replay.specs.Saved.{saved_of, unsavable}
use Rattle.tcl_replay.specs.declared.replaying.Unplayed.{Unplayed}
use Rattle.tcl_replay.specs.declared.saving.Saved.{Saved}
use Rattle.tcl_sessions.specs.Refusals.{of_refused, of_unplayed}
use Rattle.tcl_sessions.specs.declared.refusal.Refusal.{Refusal}
use Rattle.tcl_sessions.specs.declared.refusal.Refusal.TheVariants.{CallOpen, Deleted, Memory}
use Rattle.tcl_sessions.specs.declared.refusal.Refusal.TheVariants.{NoRecord}
use Rattle.tcl_sessions.specs.declared.session.Session.{Session}
use Rattle.tcl_sessions.specs.declared.session.Watch.{Watch}
use Rattle.tcl_sessions.specs.declared.session.Watch.TheVariants as watch

-- why there is no record to be taken
abbrev pub IsMissing : Watch → Refusal → Type 0
IsMissing watch.Nothing e = e ≡ NoRecord
IsMissing (watch.Recorded r) e = Prim.⊥
IsMissing watch.Deleted e = e ≡ Deleted

-- the record is taken out; or nothing changes
abbrev pub Takes : Session → Result RecordView Refusal → Session → Type 0
Takes old (Ok r) new = (old.waiting ≡ None) × (old.watch ≡ watch.Recorded r) ×
    (new ≡ record old { watch = watch.Nothing })
Takes old (Err e) new = (new ≡ old) ×
    (((e ≡ CallOpen) × IsSome old.waiting) ⊎ IsMissing old.watch e)

-- why nothing is saved
abbrev pub IsUnsaved : Session → Path → Refusal → Type 0
IsUnsaved s path e = ((e ≡ CallOpen) × IsSome s.waiting) ⊎ (e ≡ Memory) ⊎
    ((u : Refused) × (e ≡ of_refused u) × (unsavable s.tree path ≡ Some u))

-- why nothing is replayed
abbrev pub IsUnplayed : Saved → ℕ → Refusal → Type 0
IsUnplayed s limit e = (e ≡ Memory) ⊎
    ((u : Unplayed) × (e ≡ of_unplayed u) × (unfit (saved_of s) limit ≡ Some u))
