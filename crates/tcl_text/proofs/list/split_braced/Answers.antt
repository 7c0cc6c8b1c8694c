use Rattle.std.proofs.Common.{arith, ◌≡◌, ◌<◌, ◌∙◌, sym, ap, length, get_or, Some, take_all}
use Rattle.std.proofs.lemmas.Str.{IsCharBoundary-after_ascii}
use Rattle.tcl_text.specs.Lists.{count, count_all, none_open}
use Rattle.tcl_text.proofs.Counting.{count-depth, count_none, close_none, count_all_nil, found_at, counted_at}
use Rattle.tcl_text.proofs.list.split_braced.Goals as goal

pub bytes-init : goal.bytes-init
bytes-init c = record { counted = count_all_nil none_open; bounded = omega arith }

pub split_at-requires-in-None : goal.split_at-requires-in-None
split_at-requires-in-None c =
    let s = c.args.text.now in
    let whole = c.as_bytes-byte-items.ensures.value in
    let l : c.bytes.i < length s = omega (arith, ap length whole) in
    let is = count_none c.bytes.braces _ (sym c.in-None.ensures) in
    let at : get_or s c.bytes.i 0 ≡ 125 = ap (λ t. get_or t c.bytes.i 0) (sym whole) ∙ is.1 in
    IsCharBoundary-after_ascii s c.bytes.i c.utf8.text l (omega arith)

pub returns-in-None : goal.returns-in-None
returns-in-None c =
    let s = c.args.text.now in
    let whole = c.as_bytes-byte-items.ensures.value in
    let l : c.bytes.i < length s = omega (arith, ap length whole) in
    let stops = ap (λ t. count c.bytes.braces (get_or t c.bytes.i 0)) (sym whole) ∙ sym c.in-None.ensures in
    found_at s c.bytes.i c.bytes.braces l c.bytes.invariant.counted stops ∙ (λ j. Some (sym c.split_at.ensures.front j, sym c.split_at-in-None.ensures.back j))

pub bytes-preserved : goal.bytes-preserved
bytes-preserved c =
    let s = c.args.text.now in
    let whole = c.as_bytes-byte-items.ensures.value in
    let l : c.bytes.i < length s = omega (arith, ap length whole) in
    let goes : count c.bytes.braces (get_or s c.bytes.i 0) ≡ Some c.in-Some.next = ap (λ t. count c.bytes.braces (get_or t c.bytes.i 0)) (sym whole) ∙ sym c.in-Some.ensures in
    let depth = count-depth c.bytes.braces c.in-Some.next (get_or s c.bytes.i 0) goes in
    record {
      counted = counted_at s c.bytes.i c.bytes.braces c.in-Some.next l c.bytes.invariant.counted goes;
      bounded = omega (arith, c.bytes.invariant.bounded);
    }

pub returns : goal.returns
returns c =
    let s = c.args.text.now in
    let all = take_all c.bytes.i s (omega (arith, ap length c.as_bytes-byte-items.ensures.value)) in
    close_none s none_open _ (ap (λ t. count_all t none_open) (sym all) ∙ c.bytes.invariant.counted)
