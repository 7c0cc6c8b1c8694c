use Rattle.std.proofs.Common.{arith, ◌≡◌, ◌<◌, ◌≤◌, ◌+◌, ◌∙◌, ◌*◌, sym, ap, refl, length, take, drop, get_or}
use Rattle.std.specs.Str.Parse.{digits_value}
use Rattle.std.proofs.lemmas.Str.{IsCharBoundary-start, IsCharBoundary-after_ascii}
use Rattle.tcl_text.specs.Backslash.{number_len}
use Rattle.tcl_text.proofs.Fronts.{Number, number_len_is, number_more, no_digit_more, too_great_more, ends_more, digit_is_ascii}
use Rattle.tcl_text.proofs.backslash.read_number.Goals as goal
use Rattle.tcl_text.proofs.backslash.read_number.Goals.{then-digits-test+else-count-bytes, else-digits-test, then-digits-test+then-count-bytes+in_default, then-digits-test+then-count-bytes+in-Some+then-next-greatest}

pub digits-init : goal.digits-init
digits-init c = record { within = omega arith; digits = omega arith; value = refl; small = omega arith; seam = IsCharBoundary-start _ c.utf8.text }

pub digits-preserved : goal.digits-preserved
digits-preserved c =
    let s = c.args.text.now in
    let whole = c.as_bytes-bytes.ensures.value in
    let i = c.digits.invariant in
    let e : get_or s c.digits.count 0 ≡ c.from.result = sym (c.from.ensures ∙ ap (λ t. get_or t c.digits.count 0) whole) in
    let d = c.in-Some.ensures.value in
    let l : c.digits.count < length s = omega (arith, ap length whole) in
    let more = number_more c.args.base c.args.greatest c.digits.count c.from.result c.digits.value s l e i.digits d.0 i.value in
    let ascii : get_or s c.digits.count 0 < 128 = omega (arith, digit_is_ascii c.from.result c.args.base c.requires.small_base d.0) in
    record {
      within = omega arith;
      digits = more.0;
      value = ap (λ x. c.digits.value * c.args.base + x) d.1 ∙ more.1;
      small = omega arith;
      seam = IsCharBoundary-after_ascii s c.digits.count c.utf8.text l ascii;
    }

count_is : (c : goal.After-rest-2-1) → number_len c.args.width c.args.base c.args.greatest c.args.text.now ≡ c.digits.count
count_is c =
    let s = c.args.text.now in
    let whole = c.as_bytes-bytes.ensures.value in
    let i = c.digits.invariant in
    let small : digits_value c.args.base (take c.digits.count s) ≤ c.args.greatest = omega arith in
    let h : Number c.args.base c.args.greatest c.digits.count s = record { digits = i.digits; small = small } in
    let is = number_len_is c.args.base c.args.greatest c.args.width c.digits.count s (omega arith) i.within h in
    elim c.digits-test.branch [
      | then-digits-test+else-count-bytes w ↦ is (λ _. ends_more c.args.base c.args.greatest c.digits.count s (omega (arith, ap length whole)))
      | else-digits-test w ↦ is (λ l. absurd (omega arith))
      | then-digits-test+then-count-bytes+in_default w ↦
          let e : get_or s c.digits.count 0 ≡ w.from.result = sym (w.from.ensures ∙ ap (λ t. get_or t c.digits.count 0) whole) in
          is (λ _. no_digit_more c.args.base c.args.greatest c.digits.count w.from.result s (omega (arith, ap length whole)) e w.in_default.ensures.value)
      | then-digits-test+then-count-bytes+in-Some+then-next-greatest w ↦
          let e : get_or s c.digits.count 0 ≡ w.from.result = sym (w.from.ensures ∙ ap (λ t. get_or t c.digits.count 0) whole) in
          let d = w.in-Some.ensures.value in
          is (λ _. too_great_more c.args.base c.args.greatest c.digits.count w.from.result c.digits.value s (omega (arith, ap length whole)) e i.value (omega arith))
    ]

pub returns-clause-value : goal.returns-clause-value
returns-clause-value c = c.digits.invariant.value ∙ sym (ap (λ n. digits_value c.args.base (take n c.args.text.now)) (count_is c))

pub returns-clause-rest : goal.returns-clause-rest
returns-clause-rest c = c.split_at.ensures.back ∙ sym (ap (λ n. drop n c.args.text.now) (count_is c))

pub returns-clause-len : goal.returns-clause-len
returns-clause-len c = let e = count_is c in omega (arith, c.split_at.ensures.back_len)
