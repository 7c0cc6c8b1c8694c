use Rattle.std.proofs.Common.{◌≡◌, ℕ, List, [], ◌∷◌, ◌-◌, take, drop, get_or, length, map, None, ap, sym, subst, ◌∙◌, FitsSigned, w64, rules, arith}
use Rattle.std.proofs.lemmas.Int.{to_z-of_z}
use Rattle.std.specs.Fmt.{signed_decimal}
use Rattle.tcl_expr.specs.declared.tree.ExprTree.{ExprTree}
use Rattle.tcl_expression_evaluation.specs.AtHand.{IsNumberAtHand}
use Rattle.tcl_interpreter.specs.declared.builtin.Builtin.{Builtin}
use Rattle.tcl_interpreter.specs.declared.command.Command.TheVariants as command
use Rattle.tcl_language.specs.Instructions.{fits}
use Rattle.tcl_language.specs.Words.{concat}
use Rattle.tcl_prepared.specs.Views.{literal_word, seen_command}
use Rattle.tcl_text.proofs.Items.{one_item, split_first}
use Rattle.tcl_value.specs.Texts.{AllWithin}
use Rattle.tcl_calls.specs.Expressions.{IsKept}
use Rattle.tcl_evaluation.specs.Hands.{IsNamed}
use Rattle.tcl_evaluation.proofs.Alone.{only_item}
use Rattle.tcl_evaluation.proofs.hands.sum_at_hand.Goals as goal

pub returns-clause-at_hand : goal.returns-clause-at_hand
returns-clause-at_hand c = λ p n names there.
    let word = c.word-item.result in
    let args = take (length c.words.result.now - 1) (drop 1 c.words.result.now) in
    let argument = get_or args 0 [] in
    let alone : args ≡ argument ∷ [] = only_item args (omega (arith, c.if-args-ne1.false)) in
    let texts : c.in-Constant.literals ≡ word ∷ argument ∷ [] = sym c.words.ensures.words ∙ split_first c.words.result.now word c.in-len1-up.len_at_least c.word-item.is ∙ ap (λ (ts : List (List ℕ)). word ∷ ts) alone in
    let commands : c.args.script.now.commands ≡ (literal_word word ∷ literal_word argument ∷ []) ∷ [] =
    sym c.commands.ensures ∙ ap (map seen_command) (one_item c.commands.result.now c.command-item.result c.in-len1.len_at_least c.in-len1.len_below c.command-item.is)
    ∙ ap (λ x. seen_command x ∷ []) c.in-Constant.is ∙ ap (λ (ts : List (List ℕ)). map literal_word ts ∷ []) texts in
    let fault : c.args.script.now.fault ≡ None = search rules in
    let fits64 : FitsSigned w64 c.in_ok-number.number = search rules in
    record {
      word = word;
      argument = argument;
      is = λ i. record { commands = commands i; fault = fault i };
      within = subst AllWithin texts c.words.ensures.within;
      named = subst (λ (b : Builtin). IsNamed n word (command.Builtin b)) c.in-Expr.is (c.in_ok-builtin_named.ensures p n names there);
      short = ap (λ (ts : List (List ℕ)). fits (concat ts)) (sym alone) ∙ c.in_ok-kept.ensures.short;
      kept = c.in_ok-kept.kept.value;
      is_kept = subst (λ (ts : List (List ℕ)). IsKept c.args.tree.now.integers (concat ts) c.in_ok-kept.kept.value) alone (subst (λ s. IsKept s (concat args) c.in_ok-kept.kept.value) c.integers-style.ensures c.in_ok-kept.ensures.read);
      number = c.in_ok-number.number;
      at_hand = subst (λ (x : ExprTree). IsNumberAtHand n.own.chain.frames c.args.tree.now.integers x.nodes.items c.in_ok-number.number) c.deref.ensures (subst (λ s. IsNumberAtHand n.own.chain.frames s c.deref.result.now.nodes.items c.in_ok-number.number) c.integers-style.ensures (c.in_ok-number.ensures p n names there));
      comes = c.known_short.ensures.same ∙ c.from_int.ensures ∙ ap signed_decimal (to_z-of_z w64 c.in_ok-number.number fits64);
    }
