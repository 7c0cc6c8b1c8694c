-- What is told of evaluations.
use Rattle.std.specs.Prelude.{◌≡◌, ℤ, ◌⊎◌, [], codes, pos}
use Rattle.tcl_core.specs.Paths.{Text}
use Rattle.tcl_eval.specs.declared.running.End.{End}
use Rattle.tcl_eval.specs.declared.running.End.TheVariants as end
use Rattle.tcl_flow.specs.Returning.{caught, shown}
use Rattle.tcl_flow.specs.View.{completion_of}
use Rattle.tcl_flow.specs.declared.completion.Completion.{Completion}
use Rattle.tcl_flow.specs.declared.stop.StopKind.{StopKind}
use Rattle.tcl_flow.specs.declared.stop.StopKind.TheVariants as stop
use Rattle.tcl_player.specs.declared.player.Outcome.{Outcome as Played}
use Rattle.tcl_player.specs.declared.player.Outcome.TheVariants as played
use Rattle.tcl_sessions.specs.declared.outcome.Outcome.{Outcome}
use Rattle.tcl_sessions.specs.declared.outcome.Outcome.TheVariants.{Done, Open, Stopped, Exited}
use Rattle.tcl_sessions.specs.declared.outcome.Report.{Report}
use Rattle.tcl_sessions.specs.declared.standing.OpenCall.{OpenCall}
use Rattle.tcl_text.specs.Writing.{written_list}
use Rattle.tcl_value.specs.Limits.{IsPast}
use Rattle.tcl_value.specs.Writing.{write}

abbrev pub number_of : Outcome → ℤ
number_of Done = pos 0
number_of Open = pos 1
number_of Stopped = pos 2
number_of Exited = pos 3

abbrev pub replay_number : Played → ℤ
replay_number played.Finished = pos 0
replay_number played.Waiting = pos 1
replay_number played.Spent = pos 2
replay_number (played.Exited n) = pos 3
replay_number played.Ended = pos 4
replay_number played.Misfit = pos 5

-- the texts of stops
abbrev pub stop_text : StopKind → Text
stop_text stop.Count = codes "command count limit exceeded"
stop_text stop.Depth = codes "too many nested evaluations (infinite loop?)"
stop_text stop.Gone = codes "interpreter was deleted"

-- before any evaluation: an empty result
abbrev pub nothing_yet : Report
nothing_yet = record { outcome = Done; code = pos 0; text = []; options = []; caller = [] }

-- the options of a completion that is caught, or nothing where they are too long for a value
abbrev pub ShowsOptions : Completion → Text → Type 0
ShowsOptions c text = (text ≡ write (shown (caught (completion_of c)))) ⊎
    ((text ≡ []) × IsPast (write (shown (caught (completion_of c)))))

-- what is told of an end
abbrev pub ShowsEnd : End → Report → Type 0
ShowsEnd (end.Done c) r = ShowsOptions c r.options × (r ≡ record nothing_yet
    { code = c.code; text = c.text; options = r.options })
ShowsEnd (end.Stopped kind) r = r ≡ record nothing_yet
    { outcome = Stopped; text = stop_text kind }
ShowsEnd (end.Exit n) r = r ≡ record nothing_yet { outcome = Exited; code = n }

-- what is told of a call that is open
abbrev pub ShowsCall : OpenCall → Report → Type 0
ShowsCall call r = r ≡ record nothing_yet {
  outcome = Open;
  text = written_list call.words.items;
  caller = written_list call.caller.items;
}
