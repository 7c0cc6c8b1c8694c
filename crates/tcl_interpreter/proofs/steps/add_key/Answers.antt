use Rattle.tcl_interpreter.proofs.TableLemmas.{keys_pushed}
use Rattle.tcl_interpreter.proofs.steps.add_key.Goals as goal

pub returns-clause-names : goal.returns-clause-names
returns-clause-names c = keys_pushed c.args.up.now.children c.insert.new.self _ _ c.in_ok-insert.ensures.entries c.requires.absent
