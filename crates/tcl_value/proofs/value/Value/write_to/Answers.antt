use Rattle.std.proofs.Common.{arith, ◌≡◌, ◌≤◌, ◌∙◌, sym, ap, subst, length, take, string_bytes, length-append, take_at}
use Rattle.std.specs.Str.{IsUtf8}
use Rattle.std.proofs.lemmas.Str.{IsUtf8-string_bytes, IsCharBoundary-from_take}
use Rattle.tcl_value.proofs.value.Value.write_to.Goals as goal

pub truncate-requires : goal.truncate-requires
truncate-requires c =
    let old = string_bytes c.args.out.now in
    let new = string_bytes c.push_to-written.new.out in
    let kept = c.push_to-written.ensures.kept in
    let len : length old ≡ (length c.as_str-len.result.now) = sym (ap length c.as_str-len.ensures.value) in
    let front : take (length c.as_str-len.result.now) new ≡ old = ap (take (length c.as_str-len.result.now)) kept.1 ∙ take_at old kept.0 (length c.as_str-len.result.now) len in
    let whole : IsUtf8 (take (length c.as_str-len.result.now) new) = subst IsUtf8 (sym front) (IsUtf8-string_bytes c.args.out.now) in
    let room : (length c.as_str-len.result.now) ≤ length new = omega (arith, ap length kept.1, length-append old kept.0) in
    let cut = IsCharBoundary-from_take new (length c.as_str-len.result.now) (IsUtf8-string_bytes c.push_to-written.new.out) room whole in
    λ _. (cut.0, λ _. cut.1)
