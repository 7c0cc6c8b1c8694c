use Rattle.std.proofs.Common.{◌∙◌, sym, ap, rules}
use Rattle.tcl_glob.specs.Patterns.{letters, contains, set_text}
use Rattle.tcl_glob.proofs.Sets.{range_more}
use Rattle.tcl_glob.proofs.set_contains.Goals as goal

pub set-preserved : goal.set-preserved
set-preserved c =
    let step = range_more (letters c.args.nocase c.in-Some.after.now) (letters c.args.nocase c.range_end-to.result.1.now) c.in-Some.from c.args.letter c.range_end-to.result.0 c.is_between.result c.if-from-eq93.false c.range_end-to.ensures.to c.range_end-to.ensures.rest c.is_between.ensures c.if-is_between.false in
    let first = ap (λ cs. contains (set_text cs) c.args.letter) (sym c.in-Some.ensures.letters.0) in
    (search rules, step ∙ first ∙ c.set.invariant.1)
