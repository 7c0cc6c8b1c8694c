use Rattle.std.proofs.Common.{◌-◌, length, take, drop, ap}
use Rattle.tcl_language.specs.Faults.{wrong_args}
use Rattle.tcl_language.specs.Interpreters.{alias_form, alias_path}
use Rattle.tcl_calls.proofs.EntryTelling.{evaluates_as, fails_told}
use Rattle.tcl_text.proofs.Items.{no_item, split_first}
use Rattle.tcl_interp.specs.Programs.{gives_alias}
use Rattle.tcl_interp.specs.Subjects.{on_path}
use Rattle.tcl_interp.proofs.alias.give_alias_at.Goals as goal

pub returns-in_default-clause-evaluates : goal.returns-in_default-clause-evaluates
returns-in_default-clause-evaluates g c = fails_told g.O.Outside.goes c.args.tree.now c.args.outside.now c.args.place (λ style. gives_alias (on_path c.args.source.now) c.args.name.now c.args.target.now c.args.words.now) (wrong_args alias_form) c.wrong_args.result
    (λ style. ap (gives_alias (on_path c.args.source.now) c.args.name.now c.args.target.now) (no_item c.args.words.now c.in_default.len_below)) c.wrong_args.ensures

pub returns-clause-evaluates : goal.returns-clause-evaluates
returns-clause-evaluates g c = evaluates_as g.O.Outside.goes c.args.tree.now c.set_alias_between.new.tree c.args.outside.now c.set_alias_between.new.outside c.args.place (λ style. gives_alias (on_path c.args.source.now) c.args.name.now c.args.target.now c.args.words.now)
    (λ style. alias_path c.args.source.now c.args.name.now c.args.target.now c.word-item.result (take (length c.args.words.now - 1) (drop 1 c.args.words.now))) c.set_alias_between.result
    (λ style. ap (gives_alias (on_path c.args.source.now) c.args.name.now c.args.target.now) (split_first c.args.words.now c.word-item.result c.in-len1-up.len_at_least c.word-item.is)) c.set_alias_between.ensures.evaluates
