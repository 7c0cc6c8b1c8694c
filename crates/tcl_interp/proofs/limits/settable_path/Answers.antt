use Rattle.std.proofs.Common.{ap}
use Rattle.tcl_calls.proofs.Looks.{gets_as}
use Rattle.tcl_interp.specs.Programs.{settable}
use Rattle.tcl_interp.specs.Subjects.{About, about, on_path}
use Rattle.tcl_interp.proofs.Limiting.{settable_child, settable_itself}
use Rattle.tcl_interp.proofs.Subjects.{finds_as}
use Rattle.tcl_interp.proofs.limits.settable_path.Goals as goal

pub returns-in-Itself : goal.returns-in-Itself
returns-in-Itself c = finds_as c.args.tree.now c.args.place (λ path. path.items) (λ rest style. settable c.args.limit (on_path c.empty.result) (λ path. rest path style)) (λ rest style. settable c.args.limit (about c.args.subject) (λ path. rest path style)) c.settable_word.result
    (λ rest style. settable_itself c.args.limit (about c.args.subject) c.empty.result (ap about c.in-Itself.is) c.empty.ensures (λ path. rest path style)) c.settable_word.ensures

pub returns-in-Path : goal.returns-in-Path
returns-in-Path c = finds_as c.args.tree.now c.args.place (λ path. path.items) (λ rest style. settable c.args.limit (on_path c.in-Path.word.now) (λ path. rest path style)) (λ rest style. settable c.args.limit (about c.args.subject) (λ path. rest path style)) c.settable_word-in-Path.result
    (λ rest style. ap (λ (x : About). settable c.args.limit x (λ path. rest path style)) (ap about c.in-Path.is)) c.settable_word-in-Path.ensures

pub returns-in_ok-one_name-in-Child : goal.returns-in_ok-one_name-in-Child
returns-in_ok-one_name-in-Child c = λ rest. gets_as c.args.tree.now c.args.place (λ style. settable c.args.limit (about c.args.subject) (λ path. rest path style)) (rest c.in_ok-one_name-in-Child.field-0.items)
    (λ style. settable_child c.args.limit (about c.args.subject) c.in-Child.name.now c.in_ok-one_name-in-Child.field-0.items (ap about c.in-Child.is) c.in_ok-one_name-in-Child.ensures (λ path. rest path style))
