use Rattle.std.proofs.Common.{[], ap}
use Rattle.tcl_core.specs.Entries.Entry.{Ask}
use Rattle.tcl_core.specs.Entries.Question.{DepthLimitOf}
use Rattle.tcl_language.specs.Faults.{wrong_args}
use Rattle.tcl_calls.proofs.EntryTelling.{evaluates_as, fails_told}
use Rattle.tcl_interp.specs.Programs.{depth_form, depth_of, depths}
use Rattle.tcl_interp.specs.Subjects.{about, asks_of}
use Rattle.tcl_interp.proofs.Forms.{depth_of_child, depth_of_path}
use Rattle.tcl_interp.proofs.limits.depth_limit_of.Goals as goal

pub returns-in-Itself-clause-evaluates : goal.returns-in-Itself-clause-evaluates
returns-in-Itself-clause-evaluates g c = fails_told g.O.Outside.goes c.args.tree.now c.args.outside.now c.args.place (λ style. depths style (about c.args.subject) []) (wrong_args depth_form) c.wrong_args.result (λ style. ap depth_of (ap about c.in-Itself.is)) c.wrong_args.ensures

pub returns-in-Path-clause-evaluates : goal.returns-in-Path-clause-evaluates
returns-in-Path-clause-evaluates g c = evaluates_as g.O.Outside.goes c.args.tree.now c.ask_subject.new.tree c.args.outside.now c.ask_subject.new.outside c.args.place (λ style. depths style (about c.args.subject) []) (λ style. asks_of (about c.args.subject) (Ask DepthLimitOf)) c.ask_subject.result
    (λ style. depth_of_path (about c.args.subject) _ (ap about c.in-Path.is)) c.ask_subject.ensures.evaluates

pub returns-in-Child-clause-evaluates : goal.returns-in-Child-clause-evaluates
returns-in-Child-clause-evaluates g c = evaluates_as g.O.Outside.goes c.args.tree.now c.ask_subject-in-Child.new.tree c.args.outside.now c.ask_subject-in-Child.new.outside c.args.place (λ style. depths style (about c.args.subject) []) (λ style. asks_of (about c.args.subject) (Ask DepthLimitOf)) c.ask_subject-in-Child.result
    (λ style. depth_of_child (about c.args.subject) _ (ap about c.in-Child.is)) c.ask_subject-in-Child.ensures.evaluates
