use Rattle.std.proofs.Common.{◌≡◌, Some, None, sym, ◌∙◌}
use Rattle.tcl_run.proofs.Hosting.{nobody_comes}
use Rattle.tcl_tree.specs.TreeOf.{tree_of}
use Rattle.tcl_run.proofs.outside.AnyOutside.next.Goals.{in_default-via-in-None+in_default, in_default-via-in_default}
use Rattle.tcl_run.proofs.outside.AnyOutside.next.Goals as goal

pub returns-in_default-clause-comes : goal.returns-in_default-clause-comes
returns-in_default-clause-comes g c = λ p d at above.
    nobody_comes g.H.Host.step (tree_of c.args._tree.now) c.args.self.now p d c.args.up c.args.entry.now c.requires.asked
    (λ q none is. elim c.in_default.branch [ in_default-via-in-None+in_default w ↦ w.in_default.not-AskHost-1 q is | in_default-via-in_default w ↦ let x : None ≡ Some w.in_default.field-0-0 = sym none ∙ w.in_default.is-0 in absurd cc ]) above
