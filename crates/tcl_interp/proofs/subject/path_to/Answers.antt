use Rattle.std.proofs.Common.{ap}
use Rattle.tcl_language.specs.Interpreters.{at_path}
use Rattle.tcl_calls.proofs.Looks.{gets_as}
use Rattle.tcl_interp.specs.Subjects.{about, path_text, reached}
use Rattle.tcl_interp.proofs.Subjects.{finds_as, reached_child, reached_itself, reached_path}
use Rattle.tcl_interp.proofs.subject.path_to.Goals as goal

pub returns-in-Itself : goal.returns-in-Itself
returns-in-Itself c = finds_as c.args.tree.now c.args.place (λ path. path.items) (λ rest style. at_path (path_text (about c.args.subject)) (λ path n. rest path style)) (λ rest style. reached (about c.args.subject) (λ path. rest path style)) c.standing_path.result
    (λ rest style. reached_itself (about c.args.subject) (ap about c.in-Itself.is) (λ path. rest path style)) c.standing_path.ensures

pub returns-in-Path : goal.returns-in-Path
returns-in-Path c = finds_as c.args.tree.now c.args.place (λ path. path.items) (λ rest style. at_path (path_text (about c.args.subject)) (λ path n. rest path style)) (λ rest style. reached (about c.args.subject) (λ path. rest path style)) c.standing_path-in-Path.result
    (λ rest style. reached_path (about c.args.subject) _ (ap about c.in-Path.is) (λ path. rest path style)) c.standing_path-in-Path.ensures

pub returns-in_ok-one_name-in-Child : goal.returns-in_ok-one_name-in-Child
returns-in_ok-one_name-in-Child c = λ rest. gets_as c.args.tree.now c.args.place (λ style. reached (about c.args.subject) (λ path. rest path style)) (rest c.in_ok-one_name-in-Child.field-0.items)
    (λ style. reached_child (about c.args.subject) c.in-Child.name.now c.in_ok-one_name-in-Child.field-0.items (ap about c.in-Child.is) c.in_ok-one_name-in-Child.ensures (λ path. rest path style))
