use Rattle.std.proofs.Common.{List, inr, subst}
use Rattle.tcl_core.specs.Paths.{Text}
use Rattle.tcl_interpreter.specs.Commands.{way_past}
use Rattle.tcl_interpreter.specs.declared.command.Command.TheVariants as command
use Rattle.tcl_tree.specs.Naming.{Becomes, RefusesAt, named}
use Rattle.tcl_tree.specs.TreeOf.{tree_of}
use Rattle.tcl_functions.proofs.aliases.alias_to.Goals as goal

pub returns-in-Ok-clause-set : goal.returns-in-Ok-clause-set
returns-in-Ok-clause-set c = subst (λ (w : List Text). Becomes (tree_of c.args.tree.now) (tree_of c.set_alias_past.new.self) c.args.path.now (λ own. named own c.args.name (command.Alias (way_past c.args.path.now w))))
    c.in_ok-one_word.ensures c.in-Ok.ensures.set

pub returns-in-Err-clause-refused : goal.returns-in-Err-clause-refused
returns-in-Err-clause-refused c = inr (inr (subst (λ (w : List Text). RefusesAt c.in-Err.refused (tree_of c.args.tree.now) c.args.path.now (λ own. named own c.args.name (command.Alias (way_past c.args.path.now w))))
    c.in_ok-one_word.ensures c.in-Err.ensures.refused))
