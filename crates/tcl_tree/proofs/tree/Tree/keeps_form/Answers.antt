use Rattle.tcl_tree.proofs.FormLemmas.{least_depth, most_of_depth}
use Rattle.tcl_tree.proofs.tree.Tree.keeps_form.Goals as goal

pub returns : goal.returns
returns c = record { least = least_depth c.args.self.now; most = most_of_depth c.args.self.now }
