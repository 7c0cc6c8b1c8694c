use Rattle.std.proofs.Common.{◌∙◌, sym, ap, ℕ, List, Ok}
use Rattle.tcl_expr.specs.declared.token.Leaf.TheVariants.{Literal}
use Rattle.tcl_expr.specs.declared.token.Token.TheVariants.{Operand}
use Rattle.tcl_text.specs.Booleans.{boolean_of}
use Rattle.tcl_expr.specs.Tokens.{boolean_word}
use Rattle.tcl_expr.proofs.Words.{truth_found, truth_missing}
use Rattle.tcl_expr.proofs.operand.boolean_word.Goals as goal

pub returns-in_ok-new-in-Ok : goal.returns-in_ok-new-in-Ok
returns-in_ok-new-in-Ok c =
    let found = truth_found (boolean_of c.args.style c.args.text.now) c.in-Ok.field-0 _ (sym c.read_bool.ensures ∙ c.in-Ok.is) in
    ap (boolean_word c.args.text.now) found ∙ ap (λ (x : List ℕ). Ok (Operand (Literal x))) (sym (c.from_short_text-value.ensures ∙ c.in_ok-new-in-Ok.ensures))

pub returns-in-Err : goal.returns-in-Err
returns-in-Err c =
    let missing = truth_missing (boolean_of c.args.style c.args.text.now) c.in-Err.field-0 _ (sym c.read_bool.ensures ∙ c.in-Err.is) in
    ap (boolean_word c.args.text.now) missing
