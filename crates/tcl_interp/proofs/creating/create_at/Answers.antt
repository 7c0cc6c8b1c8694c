use Rattle.std.proofs.Common.{◌-◌, length, take, []}
use Rattle.tcl_language.specs.Faults.{bad_name}
use Rattle.tcl_language.specs.Interpreters as interpreters
use Rattle.tcl_calls.proofs.EntryTelling.{evaluates_as, fails_told}
use Rattle.tcl_interp.proofs.Forms.{last_made, none_made}
use Rattle.tcl_interp.proofs.creating.create_at.Goals as goal

pub returns-in-len1-up-clause-evaluates : goal.returns-in-len1-up-clause-evaluates
returns-in-len1-up-clause-evaluates g c = evaluates_as g.O.Outside.goes c.args.tree.now c.create_below.new.tree c.args.outside.now c.create_below.new.outside c.args.place (λ style. interpreters.makes_named c.args.word.now c.args.safe c.args.path.now)
    (λ style. interpreters.makes_at c.args.word.now c.args.safe (take (length c.args.path.now - 1) c.args.path.now, c.name-item.result)) c.create_below.result
    (λ style. last_made c.args.word.now c.args.safe c.args.path.now c.name-item.result c.in-len1-up.len_at_least c.name-item.is) c.create_below.ensures.evaluates

pub returns-in-empty-clause-evaluates : goal.returns-in-empty-clause-evaluates
returns-in-empty-clause-evaluates g c = fails_told g.O.Outside.goes c.args.tree.now c.args.outside.now c.args.place (λ style. interpreters.makes_named c.args.word.now c.args.safe c.args.path.now) (bad_name []) c.bad_name.result
    (λ style. none_made c.args.word.now c.args.safe c.args.path.now c.in-empty.len_below) c.bad_name.ensures
