use Rattle.std.proofs.Common.{arith, ◌≡◌, ◌<◌, ◌∙◌, sym, ap, length, drop, get_or, true}
use Rattle.std.specs.List.{prefix_len}
use Rattle.std.proofs.lemmas.Str.{IsCharBoundary-start, IsCharBoundary-after_ascii}
use Rattle.tcl_text.specs.Lists.{is_white}
use Rattle.tcl_text.proofs.Fronts.{prefix_len_grows, prefix_len_ends, white_is_ascii}
use Rattle.tcl_text.proofs.list.skip_white.Goals as goal
use Rattle.tcl_text.proofs.list.skip_white.Goals.{then-white-test+else-is_white, else-white-test}

pub white-init : goal.white-init
white-init c = record { white = omega arith; seam = IsCharBoundary-start _ c.utf8.text }

pub white-preserved : goal.white-preserved
white-preserved c =
    let s = c.args.text.now in
    let whole = c.as_bytes-bytes.ensures.value in
    let l : c.white.count < length s = omega (arith, ap length whole) in
    let white : is_white (get_or s c.white.count 0) ≡ true = sym (c.if-is_white.ensures ∙ ap (λ t. is_white (get_or t c.white.count 0)) whole) in
    record {
      white = prefix_len_grows is_white s c.white.count c.white.invariant.white l white;
      seam = IsCharBoundary-after_ascii s c.white.count c.utf8.text l (white_is_ascii _ white);
    }

count_is : (c : goal.After-rest-1) → prefix_len is_white c.args.text.now ≡ c.white.count
count_is c =
    let s = c.args.text.now in
    let whole = c.as_bytes-bytes.ensures.value in
    let is = prefix_len_ends is_white s c.white.count c.white.invariant.white in
    elim c.white-test.branch [
      | then-white-test+else-is_white w ↦ is (λ _. sym (w.if-is_white.ensures ∙ ap (λ t. is_white (get_or t c.white.count 0)) whole))
      | else-white-test w ↦ is (λ l. absurd (omega (arith, ap length whole)))
    ]

pub returns : goal.returns
returns c = record { rest = c.split_at.ensures.back ∙ sym (ap (λ n. drop n c.args.text.now) (count_is c)) }
