use Rattle.std.proofs.Common.{subst}
use Rattle.tcl_text.specs.Reading.{Gives}
use Rattle.tcl_text.proofs.Spellings.{list_from, fault_from}
use Rattle.tcl_text.proofs.Steps.{spells_from, faults_from}
use Rattle.tcl_text.proofs.list.read_list.Goals as goal

pub returns-clause-found : goal.returns-clause-found
returns-clause-found c = spells_from (λ v. v.items) c.read_all.result c.args.text.now c.read_all.ensures

pub returns-clause-only : goal.returns-clause-only
returns-clause-only c = λ list h. subst (Gives (λ v. v.items) c.read_all.result) (list_from list c.args.text.now h) c.read_all.ensures

pub returns-clause-fault : goal.returns-clause-fault
returns-clause-fault c = faults_from (λ v. v.items) c.read_all.result c.args.text.now c.read_all.ensures

pub returns-clause-only_fault : goal.returns-clause-only_fault
returns-clause-only_fault c = λ f h. subst (Gives (λ v. v.items) c.read_all.result) (fault_from h.0 f c.args.text.now h.1) c.read_all.ensures
