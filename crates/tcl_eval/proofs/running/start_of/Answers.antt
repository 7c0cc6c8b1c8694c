use Rattle.std.proofs.Common.{◌≡◌, ◌<◌, ◌≤◌, ◌+◌, ℕ, true, false, sym, ◌∙◌, subst, arith}
use Rattle.std.proofs.lemmas.Bool.Decides.{nat_tests}
use Rattle.tcl_language.specs.Instructions.{fits}
use Rattle.tcl_tree.proofs.CoreLemmas.{tree_there}
use Rattle.tcl_eval.specs.Running.{most_steps}
use Rattle.tcl_eval.proofs.Starting.{counts_too_far, is_too_long, is_fit}
use Rattle.tcl_eval.proofs.running.start_of.Goals as goal

pub returns-in_default-most_of-clause-refused : goal.returns-in_default-most_of-clause-refused
returns-in_default-most_of-clause-refused c =
    counts_too_far c.args.tree.now c.args.path.now c.args.script.now c.args.limit (sym c.is_broken.ensures ∙ c.if-is_broken.false) (tree_there c.args.tree.now c.args.path.now _ c.in-Some.ensures.there)
    (subst (λ (n : ℕ). most_steps < n + c.args.limit) c.root_meters-count.ensures.count c.in_default-most_of.ensures.none)

pub returns-then-script-gt-MOST_BYTES-clause-refused : goal.returns-then-script-gt-MOST_BYTES-clause-refused
returns-then-script-gt-MOST_BYTES-clause-refused c =
    let long = c.if-script-gt-MOST_BYTES.true in
    let past : fits c.args.script.now ≡ false = grind (arith, nat_tests) in
    is_too_long c.args.tree.now c.args.path.now c.args.script.now c.args.limit (sym c.is_broken.ensures ∙ c.if-is_broken.false) (tree_there c.args.tree.now c.args.path.now _ c.in-Some.ensures.there)
    (subst (λ (n : ℕ). n + c.args.limit ≤ most_steps) c.root_meters-count.ensures.count c.in-Some-most_of.ensures.most.1) past

pub returns-clause-fit : goal.returns-clause-fit
returns-clause-fit c =
    let short = c.if-script-gt-MOST_BYTES.false in
    let within : fits c.args.script.now ≡ true = grind (arith, nat_tests) in
    is_fit c.args.tree.now c.args.path.now c.args.script.now c.args.limit (sym c.is_broken.ensures ∙ c.if-is_broken.false) (tree_there c.args.tree.now c.args.path.now _ c.in-Some.ensures.there)
    (subst (λ (n : ℕ). n + c.args.limit ≤ most_steps) c.root_meters-count.ensures.count c.in-Some-most_of.ensures.most.1) within
