use Rattle.std.proofs.Common.{ap, sym, ◌∙◌}
use Rattle.std.specs.FinMap.{insert}
use Rattle.tcl_host.specs.Names.{by_name}
use Rattle.tcl_host.proofs.NameLemmas.{get-of_view, insert-of_view, insert-same, is_some_at, on_ok_as, on_err_as}
use Rattle.tcl_host.proofs.FileLemmas.{appended-there, appended-missing}
use Rattle.tcl_host.proofs.memory.files.Files.append.Goals as goal

pub returns-in_default-clause-appended : goal.returns-in_default-clause-appended
returns-in_default-clause-appended c =
    let is = get-of_view c.self.inside.entries _ c.args.name.now c.self.view_is in
    ap by_name c.get_mut.follows.holds-at-none ∙ c.self.view_is ∙ sym (appended-missing _ _ c.args.more.now (c.in_default.ensures.value ∙ is))

pub returns-clause-appended : goal.returns-clause-appended
returns-clause-appended c =
    let is = get-of_view c.self.inside.entries _ c.args.name.now c.self.view_is in
    let some = c.in-Some.ensures.value ∙ is in
    let writes = (c.get_mut.follows.holds c.append.new.self).3 (is_some_at _ _ c.in-Some.ensures.value) in
    let written = insert-of_view _ c.self.inside.entries (c.get_mut.follows.lender c.append.new.self) _ _ c.self.view_is writes in
    on_ok_as c.append.result
    (λ e. written ∙ ap (insert c.args.self.now c.args.name.now) e ∙ sym (appended-there _ _ c.args.more.now _ some))
    c.append.ensures.appended

pub returns-clause-unchanged : goal.returns-clause-unchanged
returns-clause-unchanged c =
    let is = get-of_view c.self.inside.entries _ c.args.name.now c.self.view_is in
    let some = c.in-Some.ensures.value ∙ is in
    let writes = (c.get_mut.follows.holds c.append.new.self).3 (is_some_at _ _ c.in-Some.ensures.value) in
    let written = insert-of_view _ c.self.inside.entries (c.get_mut.follows.lender c.append.new.self) _ _ c.self.view_is writes in
    on_err_as c.append.result
    (λ e. written ∙ ap (insert c.args.self.now c.args.name.now) e ∙ insert-same _ _ _ (sym some))
    c.append.ensures.unchanged
