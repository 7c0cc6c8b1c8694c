use Rattle.std.proofs.Common.{arith, ◌≡◌, ◌<◌, ◌∙◌, sym, ap, length, drop, get_or, true}
use Rattle.std.specs.List.{prefix_len}
use Rattle.std.proofs.lemmas.Str.{IsCharBoundary-start, IsCharBoundary-after_ascii}
use Rattle.tcl_text.specs.Backslash.{is_blank}
use Rattle.tcl_text.proofs.Fronts.{prefix_len_grows, prefix_len_ends, blank_is_ascii}
use Rattle.tcl_text.proofs.backslash.skip_blanks.Goals as goal
use Rattle.tcl_text.proofs.backslash.skip_blanks.Goals.{then-blanks-test+else-is_blank, else-blanks-test}

pub blanks-init : goal.blanks-init
blanks-init c = record { blanks = omega arith; seam = IsCharBoundary-start _ c.utf8.text }

pub blanks-preserved : goal.blanks-preserved
blanks-preserved c =
    let s = c.args.text.now in
    let whole = c.as_bytes-bytes.ensures.value in
    let l : c.blanks.count < length s = omega (arith, ap length whole) in
    let blank : is_blank (get_or s c.blanks.count 0) ≡ true = sym (c.if-is_blank.ensures ∙ ap (λ t. is_blank (get_or t c.blanks.count 0)) whole) in
    record {
      blanks = prefix_len_grows is_blank s c.blanks.count c.blanks.invariant.blanks l blank;
      seam = IsCharBoundary-after_ascii s c.blanks.count c.utf8.text l (blank_is_ascii _ blank);
    }

count_is : (c : goal.After-rest-1) → prefix_len is_blank c.args.text.now ≡ c.blanks.count
count_is c =
    let s = c.args.text.now in
    let whole = c.as_bytes-bytes.ensures.value in
    let is = prefix_len_ends is_blank s c.blanks.count c.blanks.invariant.blanks in
    elim c.blanks-test.branch [
      | then-blanks-test+else-is_blank w ↦ is (λ _. sym (w.if-is_blank.ensures ∙ ap (λ t. is_blank (get_or t c.blanks.count 0)) whole))
      | else-blanks-test w ↦ is (λ l. absurd (omega (arith, ap length whole)))
    ]

pub returns : goal.returns
returns c = record { rest = c.split_at.ensures.back ∙ sym (ap (λ n. drop n c.args.text.now) (count_is c)) }
