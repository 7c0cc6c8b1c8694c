use Rattle.std.proofs.Common.{arith, ◌≡◌, ◌<◌, ◌==◌, ◌&&◌, ◌∙◌, sym, ap, refl, length, get_or, Some, None}
use Rattle.tcl_text.specs.Lists.{count, none_open}
use Rattle.tcl_text.proofs.Counting.{count_all_nil, counted_at, count-depth}
use Rattle.tcl_text.proofs.Forms.{unbalanced, joined, last_at, apart_at}
use Rattle.tcl_text.proofs.list_writing.fits_braces.Goals as goal

pub bytes-init : goal.bytes-init
bytes-init c = record { counted = count_all_nil none_open; bounded = omega arith; last = refl; apart = refl }

pub returns-then-joins_lines : goal.returns-then-joins_lines
returns-then-joins_lines c =
    let s = c.args.element.now in
    let whole = c.as_bytes-byte-items.ensures.value in
    let l : c.bytes.i < length s = omega (arith, ap length whole) in
    joined s c.bytes.i l (rw c.bytes.invariant.last (ap (λ t. (c.bytes.last == 92) && (get_or t c.bytes.i 0 == 10)) (sym whole) ∙ sym c.if-joins_lines.ensures))

pub returns-in-None : goal.returns-in-None
returns-in-None c =
    let s = c.args.element.now in
    let whole = c.as_bytes-byte-items.ensures.value in
    let l : c.bytes.i < length s = omega (arith, ap length whole) in
    let stops : count c.bytes.braces (get_or s c.bytes.i 0) ≡ None = ap (λ t. count c.bytes.braces (get_or t c.bytes.i 0)) (sym whole) ∙ sym c.in-None.ensures in
    unbalanced s c.bytes.i c.bytes.braces l c.bytes.invariant.counted stops

pub bytes-preserved : goal.bytes-preserved
bytes-preserved c =
    let s = c.args.element.now in
    let whole = c.as_bytes-byte-items.ensures.value in
    let l : c.bytes.i < length s = omega (arith, ap length whole) in
    let goes : count c.bytes.braces (get_or s c.bytes.i 0) ≡ Some c.in-Some.next = ap (λ t. count c.bytes.braces (get_or t c.bytes.i 0)) (sym whole) ∙ sym c.in-Some.ensures in
    let depth = count-depth c.bytes.braces c.in-Some.next (get_or s c.bytes.i 0) goes in
    let same : get_or s c.bytes.i 0 ≡ get_or c.as_bytes-byte-items.result.now c.bytes.i 0 = ap (λ t. get_or t c.bytes.i 0) (sym whole) in
    record {
      counted = counted_at s c.bytes.i c.bytes.braces c.in-Some.next l c.bytes.invariant.counted goes;
      bounded = omega (arith, c.bytes.invariant.bounded);
      last = last_at s c.bytes.i l ∙ same;
      apart = apart_at s c.bytes.i l c.bytes.invariant.apart (rw c.bytes.invariant.last (ap (λ t. (c.bytes.last == 92) && (get_or t c.bytes.i 0 == 10)) (sym whole) ∙ sym c.if-joins_lines.ensures));
    }
