-- What a script comes to: by the evaluator's own account of its run, in the tree and the host that
-- it finds.
use Rattle.std.specs.Prelude.{◌≡◌, ◌≢◌, ◌<◌, ◌≤◌, ◌+◌, ◌⊎◌, ℕ, ℤ, pos, negsuc, List, length, map}
use Rattle.std.specs.Prelude.{Some, Result, Ok, Err}
use Rattle.std.specs.Str.{IsUtf8}
use Rattle.std.specs.declared.alloc.AllocError.{AllocError}
use Rattle.tcl_core.specs.Paths.{Path, Text}
use Rattle.tcl_flow.specs.declared.completion.Completion.{Completion}
use Rattle.tcl_eval.specs.Running.{AsksFirst, IsRun, unfit, root_count}
use Rattle.tcl_eval.specs.declared.running.End.{End}
use Rattle.tcl_eval.specs.declared.running.End.TheVariants.{Done, Exit}
use Rattle.tcl_eval.specs.declared.running.End.TheVariants as end
use Rattle.tcl_eval.specs.declared.running.Refused.{Refused}
use Rattle.tcl_eval.specs.declared.running.Refused.TheVariants.{TooLong}
use Rattle.tcl_run.specs.Outsides.{hosted}
use Rattle.tcl_tree.specs.declared.tree.Tree.{Tree}
use Rattle.tcl_text.specs.Messages as messages
use Rattle.tcl_shell.specs.Beginning.{Begins, path_of, setting_of}
use Rattle.tcl_shell.specs.Reading.{Serving}
use Rattle.tcl_shell.specs.declared.ending.Ending.{Ending}
use Rattle.tcl_shell.specs.declared.ending.Ending.TheVariants.{Finished, Failed, Unreadable}
use Rattle.tcl_shell.specs.declared.ending.Ending.TheVariants.{Stopped, Exited, OutOfMemory}
use Rattle.tcl_shell.specs.declared.options.Options.{Options}

-- the most bytes that a script may have
abbrev pub longest : ℕ
longest = 16777216

abbrev pub too_long : Text
too_long = messages.too_long

abbrev pub bad_status : Text
bad_status = messages.bad_status

-- an error, unless memory ran out for its text
abbrev pub failed_so : Result Text AllocError → Ending
failed_so (Ok text) = Failed text
failed_so (Err e) = OutOfMemory

-- ## One evaluation

-- an integer is no status
abbrev pub IsNoStatus : ℤ → Type 0
IsNoStatus (pos n) = 255 < n
IsNoStatus (negsuc n) = Unit {0}

-- What the end of a run comes to: a result where its code is 0, and an error else; a limit; a
-- status. Want of memory says nothing.
abbrev pub Comes : End → Ending → Type 0
Comes e (Finished text) = (c : Completion) × (e ≡ Done c) × (c.code ≡ pos 0) × (text ≡ c.text)
Comes e (Failed text) = ((c : Completion) × (e ≡ Done c) × (c.code ≢ pos 0) × (text ≡ c.text)) ⊎
    ((n : ℤ) × (e ≡ Exit n) × IsNoStatus n × (text ≡ bad_status))
Comes e (Stopped kind) = e ≡ end.Stopped kind
Comes e (Exited n) = e ≡ Exit (pos n)
Comes e OutOfMemory = Unit {0}
Comes e _ = Prim.⊥

-- What a refusal comes to.
abbrev pub IsRefused : Refused → Ending → Type 0
IsRefused TooLong e = (e ≡ Failed too_long) ⊎ (e ≡ OutOfMemory)
IsRefused _ e = e ≡ OutOfMemory

-- The script ran in the interpreter at the path with so many steps, and this is what its end comes
-- to; or it was too long to be run; or memory was wanted, before it ran, on its way, or for the
-- text of its end, and the host was asked what the script asks it first.
abbrev pub RunsIn : {S : Type 0} → Serving S → Tree → S → Path → Text → ℕ → Ending → Tree → S →
    Type 0
RunsIn step t h path script limit e u z = (end : End) ×
    IsRun (hosted step) t h path script (root_count t + limit) u z end × Comes end e

abbrev pub IsTooLongIn : {S : Type 0} → Tree → S → Path → Text → ℕ → Ending → S → Type 0
IsTooLongIn t h path script limit e z = (unfit t path script limit ≡ Some TooLong) × (z ≡ h) ×
    (e ≡ Failed too_long)

abbrev pub EndsAs : {S : Type 0} → Serving S → Tree → S → Path → Text → ℕ → Ending → Tree → S →
    Type 0
EndsAs step t h path script limit OutOfMemory u z = (z ≡ h) ⊎
    (AsksFirst step t h path script limit z ⊎ RunsIn step t h path script limit OutOfMemory u z)
EndsAs step t h path script limit e u z = RunsIn step t h path script limit e u z ⊎ IsTooLongIn t h
    path script limit e z

-- ## A script

-- what comes of a script, the variables of the command line having been set with this end
abbrev pub Then : {S : Type 0} → Serving S → Options → Text → Ending → Tree → S → Ending → S →
    Type 0
Then step o script (Finished text) t h e z = (u : Tree) ×
    EndsAs step t h (path_of o.is_safe) script o.limit e u z
Then step o script first t h e z = (e ≡ first) × (z ≡ h)

-- In a fresh tree the variables of the command line are set by three steps, and then the script
-- runs, with as many as were asked for.
abbrev pub SetsAndRuns : {S : Type 0} → Serving S → Options → Text → S → Ending → S → Type 0
SetsAndRuns {S} step o script h e z =
    (t : Tree) × (u : Tree) × (mid : S) × (first : Ending) × Begins o t ×
    EndsAs step t h (path_of o.is_safe)
    (setting_of o.file.now (map (λ word. word.now) o.arguments.items)) 3 first u mid
    × Then step o script first u mid e z

-- So it is, or memory was wanted before anything ran.
abbrev pub RunsTo : {S : Type 0} → Serving S → Options → Text → S → Ending → S → Type 0
RunsTo step o script h OutOfMemory z = (z ≡ h) ⊎ SetsAndRuns step o script h OutOfMemory z
RunsTo step o script h e z = SetsAndRuns step o script h e z

-- What the bytes of a script come to: they are too long for one; they aren't UTF-8; or the script
-- ends so. Where memory was wanted, nothing ran, or the script ends by that.
abbrev pub EvaluatesTo : {S : Type 0} → Serving S → Options → List ℕ → S → Ending → S → Type 0
EvaluatesTo step o bytes h OutOfMemory z = (z ≡ h) ⊎
    ((length bytes ≤ longest) × IsUtf8 bytes × RunsTo step o bytes h OutOfMemory z)
EvaluatesTo step o bytes h Unreadable z = (length bytes ≤ longest) × (IsUtf8 bytes → Prim.⊥) ×
    (z ≡ h)
EvaluatesTo step o bytes h e z = ((longest < length bytes) × (e ≡ Failed too_long) × (z ≡ h)) ⊎
    ((length bytes ≤ longest) × IsUtf8 bytes × RunsTo step o bytes h e z)
