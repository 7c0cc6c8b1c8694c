use Rattle.std.proofs.Common.{◌≡◌, ◌∙◌, true, false, length, get_or, take, drop, ap, sym, arith}
use Rattle.tcl_parser.specs.Runs.{ends_run, run_len}
use Rattle.tcl_parser.proofs.RunLemmas.{run_grows, run_stops, run_ends, run_boundary, run_end_boundary}
use Rattle.tcl_parser.proofs.scan.split_run.Goals as goal
use Rattle.tcl_parser.proofs.scan.split_run.Goals.{then-bytes-test+else-not-ends_at, else-bytes-test}

pub bytes-preserved : goal.bytes-preserved
bytes-preserved c =
    let s = c.args.text.now in
    let whole = c.as_bytes-bytes.ensures.value in
    let on : ends_run c.args.run (get_or s c.bytes.count 0) ≡ false = sym (ap (λ t. ends_run c.args.run (get_or t c.bytes.count 0)) whole) ∙ sym c.ends_at.ensures ∙ c.if-not-ends_at.true in
    run_grows c.args.run s c.bytes.count c.bytes.invariant (omega (arith, ap length whole)) on

pub split_at-requires : goal.split_at-requires
split_at-requires c =
    let s = c.args.text.now in
    let whole = c.as_bytes-bytes.ensures.value in
    elim c.bytes-test.branch [
      | then-bytes-test+else-not-ends_at w ↦
          let stop : ends_run c.args.run (get_or s c.bytes.count 0) ≡ true = sym (ap (λ t. ends_run c.args.run (get_or t c.bytes.count 0)) whole) ∙ sym w.ends_at.ensures ∙ w.if-not-ends_at.false in
          run_boundary c.args.run s c.bytes.count (omega (arith, ap length whole)) stop
      | else-bytes-test w ↦ run_end_boundary c.args.run s c.bytes.count c.bytes.invariant (omega (arith, ap length whole))
    ]

count_is : (c : goal.After-split_at) → run_len c.args.run c.args.text.now ≡ c.bytes.count
count_is c =
    let s = c.args.text.now in
    let whole = c.as_bytes-bytes.ensures.value in
    elim c.bytes-test.branch [
      | then-bytes-test+else-not-ends_at w ↦
          let stop : ends_run c.args.run (get_or s c.bytes.count 0) ≡ true = sym (ap (λ t. ends_run c.args.run (get_or t c.bytes.count 0)) whole) ∙ sym w.ends_at.ensures ∙ w.if-not-ends_at.false in
          run_stops c.args.run s c.bytes.count c.bytes.invariant (omega (arith, ap length whole)) stop
      | else-bytes-test w ↦ run_ends c.args.run s c.bytes.count c.bytes.invariant (omega (arith, ap length whole))
    ]

pub returns-clause-front : goal.returns-clause-front
returns-clause-front c = c.split_at.ensures.front ∙ ap (λ n. take n c.args.text.now) (sym (count_is c))

pub returns-clause-rest : goal.returns-clause-rest
returns-clause-rest c = c.split_at.ensures.back ∙ ap (λ n. drop n c.args.text.now) (sym (count_is c))
