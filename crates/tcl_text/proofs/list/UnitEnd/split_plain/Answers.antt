use Rattle.std.proofs.Common.{arith, ◌≡◌, ◌<◌, ◌∙◌, sym, ap, subst, length, take, drop, get_or, true, IsCharBoundary}
use Rattle.std.specs.List.{prefix_len}
use Rattle.tcl_text.specs.Reading.{is_plain, stop_test}
use Rattle.tcl_text.proofs.Fronts.{prefix_len_grows, prefix_len_ends, stop_boundary}
use Rattle.tcl_text.proofs.list.UnitEnd.split_plain.Goals as goal
use Rattle.tcl_text.proofs.list.UnitEnd.split_plain.Goals.{then-plain-test+else-is_plain, else-plain-test}

pub plain-preserved : goal.plain-preserved
plain-preserved c =
    let s = c.args.text.now in
    let whole = c.as_bytes-bytes.ensures.value in
    let l : c.plain.count < length s = omega (arith, ap length whole) in
    let plain : is_plain (stop_test c.args.self) (get_or s c.plain.count 0) ≡ true = sym (c.if-is_plain.ensures ∙ ap (λ t. is_plain (stop_test c.args.self) (get_or t c.plain.count 0)) whole) in
    record { plain = prefix_len_grows (is_plain (stop_test c.args.self)) s c.plain.count c.plain.invariant.plain l plain }

count_is : (c : goal.Left-plain) → prefix_len (is_plain (stop_test c.args.self)) c.args.text.now ≡ c.plain.count
count_is c =
    let s = c.args.text.now in
    let whole = c.as_bytes-bytes.ensures.value in
    let is = prefix_len_ends (is_plain (stop_test c.args.self)) s c.plain.count c.plain.invariant.plain in
    elim c.plain-test.branch [
      | then-plain-test+else-is_plain w ↦ is (λ _. sym (w.if-is_plain.ensures ∙ ap (λ t. is_plain (stop_test c.args.self) (get_or t c.plain.count 0)) whole))
      | else-plain-test w ↦ is (λ l. absurd (omega (arith, ap length whole)))
    ]

count_left : (c : goal.After-split_at) → prefix_len (is_plain (stop_test c.args.self)) c.args.text.now ≡ c.plain.count
count_left c =
    let s = c.args.text.now in
    let whole = c.as_bytes-bytes.ensures.value in
    let is = prefix_len_ends (is_plain (stop_test c.args.self)) s c.plain.count c.plain.invariant.plain in
    elim c.plain-test.branch [
      | then-plain-test+else-is_plain w ↦ is (λ _. sym (w.if-is_plain.ensures ∙ ap (λ t. is_plain (stop_test c.args.self) (get_or t c.plain.count 0)) whole))
      | else-plain-test w ↦ is (λ l. absurd (omega (arith, ap length whole)))
    ]

pub split_at-requires : goal.split_at-requires
split_at-requires c = subst (IsCharBoundary c.args.text.now) (count_is c) (stop_boundary c.args.self c.args.text.now)

pub returns-clause-plain : goal.returns-clause-plain
returns-clause-plain c = c.split_at.ensures.front ∙ sym (ap (λ n. take n c.args.text.now) (count_left c))

pub returns-clause-rest : goal.returns-clause-rest
returns-clause-rest c = c.split_at.ensures.back ∙ sym (ap (λ n. drop n c.args.text.now) (count_left c))
