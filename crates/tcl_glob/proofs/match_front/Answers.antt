use Rattle.std.proofs.Common.{◌∙◌, ◌∷◌, sym, ap, arith, rules}
use Rattle.tcl_glob.specs.Patterns.{letters, items}
use Rattle.tcl_glob.specs.Fronts.{item_of}
use Rattle.tcl_glob.proofs.Matching.{run_whole, run_some, one_whole, one_some, not_run, ends_whole, ends_part, empty, filled}
use Rattle.tcl_glob.proofs.match_front.Goals as goal

pub returns-in-Run : goal.returns-in-Run
returns-in-Run c =
    let found = c.in-Some.ensures in
    let first = found.0 ∙ ap (λ i. item_of c.args.nocase i ∷ items (letters c.args.nocase c.in-Some.after.now)) c.in-Run.is in (
      run_whole c.args.nocase c.args.pattern.now c.args.text.now c.items.left.now c.items.rest.now c.items.invariant.2 c.items.invariant.3 c.in-Some.after.now first,
      run_some c.args.nocase c.args.pattern.now c.args.text.now c.items.left.now c.items.rest.now c.items.invariant.2 c.items.invariant.3 c.in-Some.after.now first,
      omega (arith, found.1, c.items.invariant.4),
      c.items.invariant.5,
    )

pub items-preserved : goal.items-preserved
items-preserved c =
    let item = item_of c.args.nocase c.in-Some.item in
    let apart = not_run c.args.nocase c.in-Some.item c.in_default-item.not-Run in
    let found = c.in-Some.ensures in
    let letter = c.in-Some-first_letter.ensures.letters in
    let taken = sym c.takes.ensures ∙ c.if-not-takes.false in (
      search rules,
      search rules,
      one_whole c.args.nocase c.args.pattern.now c.args.text.now c.items.left.now c.items.rest.now c.items.invariant.2 c.items.invariant.3 c.in-Some.after.now c.in-Some-first_letter.behind.now item c.in-Some-first_letter.letter found.0 letter.0 apart taken,
      one_some c.args.nocase c.args.pattern.now c.args.text.now c.items.left.now c.items.rest.now c.items.invariant.2 c.items.invariant.3 c.in-Some.after.now c.in-Some-first_letter.behind.now item c.in-Some-first_letter.letter found.0 letter.0 apart,
      omega (arith, found.1, c.items.invariant.4),
      omega (arith, letter.1, c.items.invariant.5),
    )

pub returns-then-is_empty : goal.returns-then-is_empty
returns-then-is_empty c =
    ends_whole c.args.nocase c.args.pattern.now c.args.text.now c.items.left.now c.items.rest.now c.items.invariant.2 c.in_default.ensures (empty _ (sym c.is_empty.ensures ∙ c.if-is_empty.true))

pub returns-else-is_empty : goal.returns-else-is_empty
returns-else-is_empty c =
    ends_part c.args.nocase c.args.pattern.now c.args.text.now c.items.left.now c.items.rest.now c.items.invariant.2 c.in_default.ensures c.items.invariant.1 (filled _ (sym c.is_empty.ensures ∙ c.if-is_empty.false))
