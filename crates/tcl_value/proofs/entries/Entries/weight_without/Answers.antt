use Rattle.std.proofs.Common.{arith, ap, ◌≡◌, ◌∙◌, ◌+◌, ◌<◌, ◌≤◌, ◌^◌, refl}
use Rattle.std.specs.Prelude.{◌==◌, true, false}
use Rattle.std.proofs.lemmas.Bool.Decides.{nat_tests}
use Rattle.tcl_value.specs.Texts.{element_text, flat, weight}
use Rattle.tcl_value.specs.Dicts.{entry_dropped}
use Rattle.tcl_value.proofs.Weights.{size}
use Rattle.tcl_value.proofs.Written.{size_at_most}
use Rattle.tcl_value.proofs.Entered.{entries_few}
use Rattle.tcl_value.proofs.Removed.{later_dropped, alone_dropped, first_dropped, dropped_within}
use Rattle.tcl_value.proofs.entries.Entries.weight_without.Goals as goal
use Rattle.tcl_value.proofs.entries.Entries.weight_without.Goals.{then-index-gt0-via-then-index-gt0, then-index-gt0-via-else-index-gt0+then-len-eq1}

pub overflow_sub-rest : goal.overflow_sub-rest
overflow_sub-rest c =
    let key : c.written_len-key.result ≡ size (c.args.index == 0) c.key.result.now = c.written_len-key.ensures ∙ ap (size (c.args.index == 0)) c.as_str.ensures in
    let all = c.self.invariant.weighs ∙ ap (λ z. weight (flat z)) c.self.view_is in
    omega (arith, dropped_within c.args.self.now c.args.index c.key.result.now (element_text c.value.result.now) (c.args.index == 0) c.requires refl c.key.ensures.key c.value.ensures.text, c.written_len-value.ensures.len)

pub returns-then-index-gt0 : goal.returns-then-index-gt0
returns-then-index-gt0 c =
    let key : c.written_len-key.result ≡ size (c.args.index == 0) c.key.result.now = c.written_len-key.ensures ∙ ap (size (c.args.index == 0)) c.as_str.ensures in
    let all = c.self.invariant.weighs ∙ ap (λ z. weight (flat z)) c.self.view_is in
    elim c.then-index-gt0.branch [
      | then-index-gt0-via-then-index-gt0 w ↦
          let later : (c.args.index == 0) ≡ false = grind (arith, nat_tests) in
          let plain = ap (λ b. size b c.key.result.now) later in
          omega (arith, later_dropped c.args.self.now c.args.index c.key.result.now (element_text c.value.result.now) c.requires w.if-index-gt0.true c.key.ensures.key c.value.ensures.text, c.written_len-value.ensures.len)
      | then-index-gt0-via-else-index-gt0+then-len-eq1 w ↦
          let none : (c.args.index == 0) ≡ true = grind (arith, nat_tests) in
          let plain = ap (λ b. size b c.key.result.now) none in
          omega (arith, alone_dropped c.args.self.now c.args.index c.key.result.now (element_text c.value.result.now) c.requires (omega (arith, w.len.ensures)) c.key.ensures.key c.value.ensures.text, c.written_len-value.ensures.len)
    ]

few : (c : goal.After-written_len-more) → c.self.inside.weight < 2 ^ 91
few c = entries_few _ _ _ c.self.inside.keys.keys c.self.inside.values.items c.self.invariant c.self.inside.values.ok.0 c.self.inside.values.ok.1 c.self.inside.values.small

more_few : (c : goal.After-written_len-more) → c.written_len-more.result ≤ 33554434
more_few c =
    let next = c.written_len-more.ensures ∙ ap (size true) c.as_str-next.ensures in
    omega (arith, size_at_most true c.key-2.result.now, c.key-2.ensures.within)

pub overflow_add-result : goal.overflow_add-result
overflow_add-result c = omega (arith, few c, more_few c)

without : (c : goal.After-written_len-more) → c.self.inside.weight + c.written_len-more.result ≡ c.written_len-key.result + c.written_len-value.result + 2 + c.written_len-less.result + weight (flat (entry_dropped c.args.self.now c.args.index))
without c =
    let none : (c.args.index == 0) ≡ true = grind (arith, nat_tests) in
    let zero : c.args.index ≡ 0 = omega arith in
    let key : c.written_len-key.result ≡ size (c.args.index == 0) c.key.result.now = c.written_len-key.ensures ∙ ap (size (c.args.index == 0)) c.as_str.ensures in
    let plain = ap (λ b. size b c.key.result.now) none in
    let less : c.written_len-less.result ≡ size false c.key-2.result.now = c.written_len-less.ensures ∙ ap (size false) c.as_str-next.ensures in
    let more : c.written_len-more.result ≡ size true c.key-2.result.now = c.written_len-more.ensures ∙ ap (size true) c.as_str-next.ensures in
    let all = c.self.invariant.weighs ∙ ap (λ z. weight (flat z)) c.self.view_is in
    omega (arith, first_dropped c.args.self.now c.args.index c.key.result.now (element_text c.value.result.now) c.key-2.result.now zero (omega (arith, c.len.ensures, c.requires, c.if-len-eq1.false)) c.key.ensures.key c.value.ensures.text c.key-2.ensures.key, c.written_len-value.ensures.len)
