use Rattle.std.proofs.Common.{arith, ◌≡◌, ◌<◌, ◌∙◌, sym, ap, subst, length, take, get_or, true, not, IsCharBoundary}
use Rattle.std.specs.List.{prefix_len}
use Rattle.tcl_text.specs.Lists.{is_white}
use Rattle.tcl_text.proofs.Fronts.{prefix_len_grows, prefix_len_ends, dark_boundary}
use Rattle.tcl_text.proofs.list.first_word.Goals as goal
use Rattle.tcl_text.proofs.list.first_word.Goals.{then-dark-test+else-not-is_white, else-dark-test}

pub dark-preserved : goal.dark-preserved
dark-preserved c =
    let s = c.args.text.now in
    let whole = c.as_bytes-bytes.ensures.value in
    let l : c.dark.count < length s = omega (arith, ap length whole) in
    let same = c.if-not-is_white.ensures ∙ ap (λ t. is_white (get_or t c.dark.count 0)) whole in
    let dark : not (is_white (get_or s c.dark.count 0)) ≡ true = sym (ap not same) in
    record { dark = prefix_len_grows (λ b. not (is_white b)) s c.dark.count c.dark.invariant.dark l dark }

count_is : (c : goal.Left-dark) → prefix_len (λ b. not (is_white b)) c.args.text.now ≡ c.dark.count
count_is c =
    let s = c.args.text.now in
    let whole = c.as_bytes-bytes.ensures.value in
    let is = prefix_len_ends (λ b. not (is_white b)) s c.dark.count c.dark.invariant.dark in
    elim c.dark-test.branch [
      | then-dark-test+else-not-is_white w ↦ let same = w.if-not-is_white.ensures ∙ ap (λ t. is_white (get_or t c.dark.count 0)) whole in is (λ _. sym (ap not same))
      | else-dark-test w ↦ is (λ l. absurd (omega (arith, ap length whole)))
    ]

count_left : (c : goal.After-word-1) → prefix_len (λ b. not (is_white b)) c.args.text.now ≡ c.dark.count
count_left c =
    let s = c.args.text.now in
    let whole = c.as_bytes-bytes.ensures.value in
    let is = prefix_len_ends (λ b. not (is_white b)) s c.dark.count c.dark.invariant.dark in
    elim c.dark-test.branch [
      | then-dark-test+else-not-is_white w ↦ let same = w.if-not-is_white.ensures ∙ ap (λ t. is_white (get_or t c.dark.count 0)) whole in is (λ _. sym (ap not same))
      | else-dark-test w ↦ is (λ l. absurd (omega (arith, ap length whole)))
    ]

pub split_at-requires : goal.split_at-requires
split_at-requires c = subst (IsCharBoundary c.args.text.now) (count_is c) (dark_boundary c.args.text.now)

pub returns : goal.returns
returns c = c.split_at.ensures.front ∙ sym (ap (λ n. take n c.args.text.now) (count_left c))
