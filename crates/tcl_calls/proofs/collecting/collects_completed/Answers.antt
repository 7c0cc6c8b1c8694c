use Rattle.std.proofs.Common.{◌≡◌, rules, pos, sym}
use Rattle.tcl_flow.specs.View.{completion_of}
use Rattle.tcl_calls.proofs.Gathering.{goes_on_with, kept_with, over_with}
use Rattle.tcl_calls.proofs.collecting.collects_completed.Goals as goal

pub returns-then-deref-eq-OK : goal.returns-then-deref-eq-OK
returns-then-deref-eq-OK c =
    let f = c.if-deref-eq-OK.true in
    let e : c.args.completion.value.code ≡ pos 0 = search rules in
    let t : c.into_inner.result.text ≡ c.args.completion.value.text = search rules in
    kept_with (completion_of c.args.completion.value) c.args.made.now c.keep.new.made c.into_inner.result.text c.keep.result e (sym t) c.keep.ensures

pub returns-then-deref-eq-CONTINUE : goal.returns-then-deref-eq-CONTINUE
returns-then-deref-eq-CONTINUE c =
    let f = c.if-deref-eq-CONTINUE.true in
    let e : c.args.completion.value.code ≡ pos 4 = search rules in
    goes_on_with (completion_of c.args.completion.value) c.args.made.now e

pub returns-then-deref-eq-BREAK : goal.returns-then-deref-eq-BREAK
returns-then-deref-eq-BREAK c =
    let f = c.if-deref-eq-BREAK.true in
    let e : c.args.completion.value.code ≡ pos 3 = search rules in
    over_with (completion_of c.args.completion.value) c.args.made.now e
