use Rattle.std.proofs.Common.{refl}
use Rattle.tcl_functions.proofs.Ways.{ends, enters, spent}
use Rattle.tcl_functions.specs.Actions.{action_of}
use Rattle.tcl_functions.specs.declared.serving.WithFunctions.{WithFunctions}
use Rattle.tcl_run.specs.Entering.{whole_entry}
use Rattle.tcl_functions.proofs.serving.WithFunctions.serve.Goals as goal

pub returns-in-Ok-reopen-clause-serves : goal.returns-in-Ok-reopen-clause-serves
returns-in-Ok-reopen-clause-serves g c =
    let o = c.args.self.now in
    let u : WithFunctions g.row.F.Denot g.row.H.Denot = record { functions = c.call.new.self; host = o.host; calls = c.pop.new.self; entries = o.entries; exits = o.exits } in
    enters g.F.Functions.serves o c.reopen.new.self u c.pop.new.self.items c.in-Some.call (action_of c.in_ok-action.action) c.in-Ok.target.items c.in-Ok.ensures.0 c.in-Ok.ensures.1 c.in-Some.ensures.items c.in_ok-action.ensures
    (record { calls = refl; exits = refl; keeps = record { host = refl; entries = refl } }) (whole_entry c.in-Ok.entry) c.in-Ok.ensures.2 c.in-Ok-reopen.ensures.reopens

pub returns-in-Err-reopen-clause-serves : goal.returns-in-Err-reopen-clause-serves
returns-in-Err-reopen-clause-serves g c =
    let o = c.args.self.now in
    let u : WithFunctions g.row.F.Denot g.row.H.Denot = record { functions = c.call.new.self; host = o.host; calls = c.pop.new.self; entries = o.entries; exits = o.exits } in
    spent g.F.Functions.serves o c.reopen.new.self u c.pop.new.self.items c.in-Some.call (action_of c.in_ok-action.action) c.in-Ok.target.items c.in-Ok.ensures.0 c.in-Ok.ensures.1 c.in-Some.ensures.items c.in_ok-action.ensures
    (record { calls = refl; exits = refl; keeps = record { host = refl; entries = refl } }) c.in-Err-reopen.interruption c.in-Err-reopen.ensures.spent

pub returns-in-Err-clause-serves : goal.returns-in-Err-clause-serves
returns-in-Err-clause-serves g c =
    ends g.F.Functions.serves c.args.self.now _ c.pop.new.self.items c.in-Some.call (action_of c.in_ok-action.action) c.in-Err.interruption c.in-Some.ensures.items c.in_ok-action.ensures
    (record { calls = refl; exits = refl; keeps = record { host = refl; entries = refl } }) c.in-Err.ensures
