use Rattle.std.proofs.Common.{[], ◌∷◌, ap}
use Rattle.tcl_language.specs.Faults.{wrong_args}
use Rattle.tcl_language.specs.Interpreters as interpreters
use Rattle.tcl_calls.proofs.EntryTelling.{evaluates_as, fails_told}
use Rattle.tcl_text.proofs.Items.{one_item}
use Rattle.tcl_interp.proofs.Forms.{create_none, create_wrong}
use Rattle.tcl_interp.proofs.creating.create_named.Goals as goal

pub returns-in-empty-clause-evaluates : goal.returns-in-empty-clause-evaluates
returns-in-empty-clause-evaluates g c = evaluates_as g.O.Outside.goes c.args.tree.now c.create_unnamed.new.tree c.args.outside.now c.create_unnamed.new.outside c.args.place (λ style. interpreters.create_path c.args.safe c.args.words.now)
    (λ style. interpreters.create_path c.args.safe []) c.create_unnamed.result (λ style. ap (interpreters.create_path c.args.safe) (create_none c.args.safe c.args.words.now c.in-empty.len_below)) c.create_unnamed.ensures.evaluates

pub returns-in-len1-clause-evaluates : goal.returns-in-len1-clause-evaluates
returns-in-len1-clause-evaluates g c = evaluates_as g.O.Outside.goes c.args.tree.now c.create_there.new.tree c.args.outside.now c.create_there.new.outside c.args.place (λ style. interpreters.create_path c.args.safe c.args.words.now)
    (λ style. interpreters.create_path c.args.safe (c.word-item.result ∷ [])) c.create_there.result (λ style. ap (interpreters.create_path c.args.safe) (one_item c.args.words.now c.word-item.result c.in-len1.len_at_least c.in-len1.len_below c.word-item.is)) c.create_there.ensures.evaluates

pub returns-in_default-clause-evaluates : goal.returns-in_default-clause-evaluates
returns-in_default-clause-evaluates g c = fails_told g.O.Outside.goes c.args.tree.now c.args.outside.now c.args.place (λ style. interpreters.create_path c.args.safe c.args.words.now) (wrong_args interpreters.create_form) c.wrong_args.result
    (λ style. create_wrong c.args.safe c.args.words.now c.in_default.len_at_least) c.wrong_args.ensures
