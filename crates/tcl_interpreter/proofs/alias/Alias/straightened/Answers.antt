use Rattle.std.proofs.Common.{◌≡◌, ◌≤◌, ◌<◌, ◌++◌, ◌-◌, Some, None, length, drop, sym, ap, subst, ◌∙◌, arith}
use Rattle.std.proofs.lemmas.Bool.Decides.{nat_tests}
use Rattle.tcl_core.specs.Paths.{falls, rise, together}
use Rattle.tcl_core.proofs.PathLaws.{not_both, rise_past}
use Rattle.tcl_interpreter.specs.Paths.{Path}
use Rattle.tcl_interpreter.specs.Commands.{AliasView}
use Rattle.tcl_interpreter.proofs.AliasLemmas.{whole_rest}
use Rattle.tcl_interpreter.proofs.LastNames.{falls_length, straight_leads}
use Rattle.tcl_interpreter.proofs.Outcomes.{if_ok_all, if_ok_map}
use Rattle.tcl_interpreter.proofs.alias.Alias.straightened.Goals as goal

pub overflow_sub-up : goal.overflow_sub-up
overflow_sub-up c =
    let names = c.last_names.ensures in
    let most = falls_length c.up-up.result c.args.at.now in
    let common = c.in_common-common.ensures.these in
    let same = ap length names in
    omega arith

pub returns-then-up-at-clause-leads : goal.returns-then-up-at-clause-leads
returns-then-up-at-clause-leads c = if_ok_all c.clone.result (λ made b up.
    let is_up = c.up-up.ensures in
    let more = c.if-up-at.true in
    let far : length c.args.at.now < c.args.self.now.up = grind (arith, nat_tests) in
    absurd (not_both (rise_past c.args.self.now.up c.args.at.now far) up))

pub returns-clause-leads : goal.returns-clause-leads
returns-clause-leads c = if_ok_map c.new.result c.new.ensures (λ made is b up.
    let is_up : c.up-up.result ≡ c.args.self.now.up = c.up-up.ensures in
    let no_more = c.if-up-at.false in
    let within : c.args.self.now.up ≤ length c.args.at.now = grind (arith, nat_tests) in
    let t = c.in_common-common.result in
    let names : c.last_names.result.now ≡ falls c.args.self.now.up c.args.at.now = c.last_names.ensures ∙ ap (λ n. falls n c.args.at.now) is_up in
    let down : c.down-down.result.now ≡ c.args.self.now.down = c.down-down.ensures in
    let shared : t ≡ together (falls c.args.self.now.up c.args.at.now) c.args.self.now.down =
    c.in_common-common.ensures.names ∙ ap (λ x. together x c.down-down.result.now) names ∙ ap (together (falls c.args.self.now.up c.args.at.now)) down in
    let most : t ≤ length (falls c.args.self.now.up c.args.at.now) = subst (λ x. t ≤ length x) names c.in_common-common.ensures.these in
    let rest : c.in_ok-rest.rest.items ≡ drop t c.args.self.now.down =
    c.in_ok-rest.ensures.items_if_clones_equal (λ x y h. h) ∙ whole_rest c.down-down.result.now t ∙ ap (drop t) down in
    let view : record { up = c.args.self.now.up - t; down = drop t c.args.self.now.down; words = c.in_ok-words.words.items } ≡ made =
    (λ i. record { up = sym is_up i - t; down = sym rest i; words = c.in_ok-words.words.items }) ∙ sym is in
    subst (λ (m : AliasView). (x : Path) × (rise m.up c.args.at.now ≡ Some x) × (x ++ m.down ≡ b ++ c.args.self.now.down)) view
    (straight_leads c.args.at.now c.args.self.now.down c.args.self.now.up t within shared most b up))
