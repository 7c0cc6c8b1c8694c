use Rattle.std.proofs.Common.{◌≡◌, [], ◌∷◌, ◌-◌, List, take, drop, length, map, None, ap, sym, subst, ◌∙◌, rules}
use Rattle.std.proofs.lemmas.Option.{same_Some}
use Rattle.std.specs.Option.{option_map}
use Rattle.tcl_core.specs.Trees.{Node}
use Rattle.tcl_frames.specs.Chain.{Chain}
use Rattle.tcl_parser.specs.Words.{WordRead}
use Rattle.tcl_prepared.specs.Views.{literal_word, seen_command, seen_word}
use Rattle.tcl_prepared.specs.declared.prepared.PreparedWord.{PreparedWord}
use Rattle.tcl_text.proofs.Items.{one_item, split_first}
use Rattle.tcl_text.specs.declared.integer.Integers.{Integers}
use Rattle.tcl_tree.specs.Own.{Own}
use Rattle.tcl_value.specs.Writing.{write}
use Rattle.tcl_evaluation.specs.Hands.{AllStand, IsAnswer}
use Rattle.tcl_evaluation.proofs.HandCalling.{some_more}
use Rattle.tcl_evaluation.proofs.Steps.{within_fits}
use Rattle.tcl_evaluation.proofs.list_parts.part_of_script.Goals as goal

pub returns-clause-answer : goal.returns-clause-answer
returns-clause-answer c =
    let name = c.in-Literal.name in
    let others = take (length c.as_slice.result.now - 1) (drop 1 c.as_slice.result.now) in
    let commands : c.args.script.now.commands ≡ (literal_word name ∷ map seen_word others) ∷ [] =
    sym c.commands.ensures ∙ ap (map seen_command) (one_item c.commands.result.now c.command-item.result c.in-len1.len_at_least c.in-len1.len_below c.command-item.is)
    ∙ ap (λ x. seen_command x ∷ []) c.in-AtHand.is
    ∙ ap (λ (ws : List PreparedWord). map seen_word ws ∷ []) (sym c.as_slice.ensures.value ∙ split_first c.as_slice.result.now c.first-item.result c.in-len1-up.len_at_least c.first-item.is)
    ∙ ap (λ (w : WordRead). (w ∷ map seen_word others) ∷ []) (ap seen_word c.in-Literal.is)
    in
    let fault : c.args.script.now.fault ≡ None = search rules in
    some_more c.part_of_words.result _ _ (λ part h p n names there.
    let chain : c.in_ok-frames.frames.now ≡ n.own.chain = same_Some _ _ (c.in_ok-frames.ensures p names ∙ ap (option_map (λ (m : Node Own). m.own.chain)) there) in
    record {
      word = name;
      called = c.in_ok-builtin.builtin;
      rest = map seen_word others;
      args = h.0;
      is = λ i. record { commands = commands i; fault = fault i };
      short = within_fits name c.keeps_limit.ensures;
      named = c.in_ok-builtin.ensures p n names there;
      stand = subst (λ (x : Chain). AllStand x.frames (map seen_word others) h.0) chain h.1;
      answer = subst (λ (s : Integers). IsAnswer s c.in_ok-builtin.builtin h.0 (write part)) c.integers.ensures h.2;
    }) c.part_of_words.ensures.answer
