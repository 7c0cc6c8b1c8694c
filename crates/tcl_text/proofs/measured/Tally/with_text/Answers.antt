use Rattle.std.proofs.Common.{◌≡◌, ◌+◌, ◌<◌, ◌∙◌, ap, arith, length, drop, get_or}
use Rattle.tcl_text.specs.declared.measured.Tally.{Tally}
use Rattle.tcl_text.specs.Measuring.{tallied, tally_with, depth_of}
use Rattle.tcl_text.proofs.Measures.{tally_rest, tallied_bounds}
use Rattle.tcl_text.proofs.measured.Tally.with_text.Goals as goal

pub bytes-preserved : goal.bytes-preserved
bytes-preserved c =
    let s = c.args.text.now in
    let i = c.bytes.byte-index in
    let whole = c.as_bytes-byte-items.ensures.value in
    let inside : i < length s = omega (arith, ap length whole) in
    let step : c.with_byte-tally.result ≡ tallied c.bytes.tally (get_or s i 0) = c.with_byte-tally.ensures ∙ ap (λ t. tallied c.bytes.tally (get_or t i 0)) whole in
    let bounds = tallied_bounds c.bytes.tally (get_or s i 0) in
    record {
      whole = ap (λ t. tally_with t (drop (i + 1) s)) step ∙ tally_rest c.bytes.tally s i inside ∙ c.bytes.invariant.whole;
      special = omega (arith, ap (λ (t : Tally). t.special) step, bounds.0, c.bytes.invariant.special);
      depth = omega (arith, ap (λ (t : Tally). depth_of t.braces) step, bounds.1, c.bytes.invariant.depth);
    }
