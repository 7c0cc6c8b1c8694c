use Rattle.std.proofs.Common.{rules, ◌≡◌, ◌∷◌, List, inl, inr, refl, sym, ap, subst, ◌∙◌}
use Rattle.std.proofs.lemmas.Result.{err_from_is_err_and}
use Rattle.std.specs.String.{string_bytes}
use Rattle.tcl_frames.specs.Chain.{read}
use Rattle.tcl_language.specs.Faults.{frame_message}
use Rattle.tcl_language.specs.Scripts.{element_text}
use Rattle.tcl_run.specs.Ends.{IsFailure}
use Rattle.tcl_language.specs.Instructions.{Open}
use Rattle.tcl_calls.specs.Words.{opens, open_of, Closes}
use Rattle.tcl_run.proofs.Endings.{at_err, Interrupts-at}
use Rattle.tcl_calls.proofs.Closing.{opens-push, closed_by, at_ok}
use Rattle.tcl_calls.proofs.words.close_element.Goals as goal

pub returns-in_err-value-clause-refused : goal.returns-in_err-value-clause-refused
returns-in_err-value-clause-refused c =
    let same : opens c.args.elements.now.items ≡ open_of c.in-Some.element ∷ opens c.pop.new.self.items = ap opens c.in-Some.ensures.items ∙ opens-push c.pop.new.self.items c.in-Some.element in
    let written : c.new-variable.result ≡ element_text c.in-Some.element.name (string_bytes c.args.text.now) = search rules in
    let p = err_from_is_err_and c.from_residual-in_err-value.result c.from_residual-in_err-value.ensures.1 in
    at_err c.from_residual-in_err-value.result c.in_err-value.field-0.0 p.0 _ _ p.1 p.2
    (Interrupts-at c.in_err-value.field-0.0 c.args.tree.now c.args.place (λ n e. IsFailure frame_message (read n.own.chain.frames c.new-variable.result) e) c.in_err-value.ensures.read)
    (λ e f q n at there. closed_by n _ _ _ _ e same (inl (rw written at f q n at there)))

pub returns-in_err-append_value-clause-refused : goal.returns-in_err-append_value-clause-refused
returns-in_err-append_value-clause-refused c =
    let same : opens c.args.elements.now.items ≡ open_of c.in-Some.element ∷ opens c.pop.new.self.items = ap opens c.in-Some.ensures.items ∙ opens-push c.pop.new.self.items c.in-Some.element in
    let written : c.new-variable.result ≡ element_text c.in-Some.element.name (string_bytes c.args.text.now) = search rules in
    let p = err_from_is_err_and c.from_residual-in_err-append_value.result c.from_residual-in_err-append_value.ensures.1 in
    at_err c.from_residual-in_err-append_value.result c.in_err-append_value.field-0.0 p.0 _ _ p.1 p.2 c.in_err-append_value.ensures.refused
    (λ e f q n at there. closed_by n _ _ _ _ e same (inr (at_ok _ c.in_ok-value.value _ (rw written at c.in_ok-value.ensures.read q n at there) f)))

pub returns-clause-closes : goal.returns-clause-closes
returns-clause-closes c = λ q n at there.
    let same : opens c.args.elements.now.items ≡ open_of c.in-Some.element ∷ opens c.pop.new.self.items = ap opens c.in-Some.ensures.items ∙ opens-push c.pop.new.self.items c.in-Some.element in
    let written : c.new-variable.result ≡ element_text c.in-Some.element.name (string_bytes c.args.text.now) = search rules in
    subst (λ (l : List Open). Closes n l (string_bytes c.args.text.now) (opens c.pop.new.self.items) (string_bytes c.append_value.new.text)) (sym same)
    (refl, at_ok _ c.in_ok-value.value _ (rw written at c.in_ok-value.ensures.read q n at there) c.in_ok-append_value.ensures.added)
