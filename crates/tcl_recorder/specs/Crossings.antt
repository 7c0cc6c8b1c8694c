-- Crossings as they are recorded, in the words of the core.
use Rattle.std.specs.Prelude.{ℕ, ◌-◌, List, length, map, Option, None}
use Rattle.std.specs.Option.{option_map}
use Rattle.tcl_core.specs.Endings as core
use Rattle.tcl_core.specs.Endings.Cause.{Above}
use Rattle.tcl_core.specs.Endings.Reply.{Completed, Exit, Cut}
use Rattle.tcl_core.specs.Entries as entries
use Rattle.tcl_core.specs.Entries.Answer.{Replied, Heard, Nobody}
use Rattle.tcl_core.specs.Execution.{event}
use Rattle.tcl_core.specs.Trees.{Event}
use Rattle.tcl_core.specs.Trees.What.{Out, In, Done, Back}
use Rattle.tcl_flow.specs.Stopping as stopping
use Rattle.tcl_flow.specs.View.{completion_of}
use Rattle.tcl_run.specs.Entering.{whole_entry}
use Rattle.tcl_run.specs.Outsides as outsides
use Rattle.tcl_tree.specs.Own.{Own}
use Rattle.tcl_recorder.specs.declared.crossing.Answer.{Answer}
use Rattle.tcl_recorder.specs.declared.crossing.Answer.TheVariants as answer
use Rattle.tcl_recorder.specs.declared.crossing.Crossing.{Crossing}
use Rattle.tcl_recorder.specs.declared.crossing.Crossing.TheVariants as crossing
use Rattle.tcl_recorder.specs.declared.crossing.Reply.{Reply}
use Rattle.tcl_recorder.specs.declared.crossing.Reply.TheVariants as reply

-- What ended from outside was cut off above: no reply of an interpreter below says more of it.
abbrev pub reply_of : Reply → core.Reply
reply_of (reply.Completed c) = Completed (completion_of c)
reply_of (reply.Stopped s) = stopping.reply_of s
reply_of (reply.Exited n) = Exit n
reply_of reply.Ended = Cut Above

abbrev pub answer_of : Answer → entries.Answer
answer_of (answer.Replied r) = Replied (reply_of r)
answer_of (answer.Heard r) = Heard (outsides.reply_of r)
answer_of answer.Nobody = Nobody

abbrev pub event_of : Crossing → Event Own
event_of (crossing.In target entry) = event target.items (In None (whole_entry entry))
event_of (crossing.Done target reply) = event target.items (Done None (reply_of reply))
event_of (crossing.Out caller up down entry) = event caller.items
    (Out up down.items (whole_entry entry))
event_of (crossing.Back caller up answer) = event caller.items (Back up (answer_of answer))

-- how many levels above the watched interpreter the way of a call goes up
abbrev pub levels_above : Crossing → Option ℕ
levels_above (crossing.In target entry) = None
levels_above (crossing.Done target reply) = None
levels_above (crossing.Out caller up down entry) = option_map (λ n. n - length caller.items) up
levels_above (crossing.Back caller up answer) = option_map (λ n. n - length caller.items) up

abbrev pub events_of : List Crossing → List (Event Own)
events_of xs = map event_of xs
