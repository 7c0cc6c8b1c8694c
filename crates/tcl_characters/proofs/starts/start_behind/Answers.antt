use Rattle.std.proofs.Common.{◌≡◌, ◌≤◌, ◌<◌, ◌+◌, ◌-◌, length, take, drop, sym, ◌∙◌, arith, rules}
use Rattle.tcl_characters.proofs.StartLemmas.{starts, starts-range, few-starts, behind_left, all_behind}
use Rattle.tcl_characters.proofs.starts.start_behind.Goals as goal

pub whole-preserved : goal.whole-preserved
whole-preserved c =
    let at = c.whole.at in
    let bytes = c.as_bytes-bytes.result.now in
    let block : c.starts_in_block.result ≡ starts (take (at + 64 - at) (drop at bytes)) = c.starts_in_block.ensures in
    let many : 64 ≤ c.whole.left = search rules in
    (search rules, omega (arith, block, many, c.from-left.ensures, c.whole.invariant.1, few-starts bytes at 64, starts-range bytes at 64))

pub returns-then-left-eq0-clause-front : goal.returns-then-left-eq0-clause-front
returns-then-left-eq0-clause-front c =
    let lt : c.bytes.at < length c.as_bytes-bytes.result.now = search rules in
    let none : c.bytes.left ≡ 0 = search rules in
    (behind_left c.args.text.now c.as_bytes-bytes.result.now c.args.count c.bytes.at c.bytes.left c.as_bytes-bytes.ensures.value c.utf8.text lt (sym c.begins_character.ensures ∙ c.if-begins_character.true) c.bytes.invariant.1 none).front

pub returns-then-left-eq0-clause-rest : goal.returns-then-left-eq0-clause-rest
returns-then-left-eq0-clause-rest c =
    let lt : c.bytes.at < length c.as_bytes-bytes.result.now = search rules in
    let none : c.bytes.left ≡ 0 = search rules in
    (behind_left c.args.text.now c.as_bytes-bytes.result.now c.args.count c.bytes.at c.bytes.left c.as_bytes-bytes.ensures.value c.utf8.text lt (sym c.begins_character.ensures ∙ c.if-begins_character.true) c.bytes.invariant.1 none).rest

pub returns-clause-front : goal.returns-clause-front
returns-clause-front c =
    let end : c.bytes.at ≡ length c.as_bytes-bytes.result.now = search rules in
    (all_behind c.args.text.now c.as_bytes-bytes.result.now c.args.count c.bytes.at c.bytes.left c.as_bytes-bytes.ensures.value c.utf8.text end c.bytes.invariant.1).front

pub returns-clause-rest : goal.returns-clause-rest
returns-clause-rest c =
    let end : c.bytes.at ≡ length c.as_bytes-bytes.result.now = search rules in
    (all_behind c.args.text.now c.as_bytes-bytes.result.now c.args.count c.bytes.at c.bytes.left c.as_bytes-bytes.ensures.value c.utf8.text end c.bytes.invariant.1).rest
