use Rattle.std.proofs.Common.{◌≡◌, ◌-◌, ◌∷◌, ◌++◌, ℕ, List, take, drop, length, map, inl, refl, sym, ap, subst, ◌∙◌}
use Rattle.tcl_commands.specs.Entries.{words_behind, words_of}
use Rattle.tcl_interpreter.specs.declared.builtin.Builtin.{Builtin}
use Rattle.tcl_interpreter.specs.declared.command.Command.TheVariants as command
use Rattle.tcl_language.specs.Instructions.{fits}
use Rattle.tcl_parser.specs.Words.{WordRead}
use Rattle.tcl_prepared.specs.Views.{literal_word, seen_word}
use Rattle.tcl_text.proofs.Items.{split_first}
use Rattle.tcl_evaluation.specs.Hands.{AllEnd, IsNamed}
use Rattle.tcl_evaluation.proofs.HandCalling.{literal_stands}
use Rattle.tcl_evaluation.proofs.Steps.{within_fits}
use Rattle.tcl_evaluation.proofs.entry_changes.key_change_at_hand.Goals as goal

pub returns : goal.returns
returns c = λ p n names there.
    let style = c.args.tree.now.integers in
    let sub = c.in-Literal.subcommand in
    let name = c.name-name.result.now in
    let change = c.in_ok-change.change in
    let sums = c.in_ok-change.sums in
    let others = take (length c.args.words.now - 1) (drop 1 c.args.words.now) in
    let rest = take (length others - 1) (drop 1 others) in
    let seen : map seen_word c.args.words.now ≡ literal_word sub ∷ literal_word name ∷ map seen_word rest =
    ap (map seen_word) (split_first c.args.words.now c.first-item.result c.in-len1-up.len_at_least c.first-item.is)
    ∙ ap (λ (w : WordRead). w ∷ map seen_word others) (ap seen_word c.in-Literal.is)
    ∙ ap (λ ws. literal_word sub ∷ map seen_word ws) (split_first others c.second-item.result c.in-len1-up-others.len_at_least c.second-item.is)
    ∙ ap (λ (w : WordRead). literal_word sub ∷ w ∷ map seen_word rest) (ap seen_word c.in-Name.is ∙ ap literal_word (sym c.name-name.ensures.name))
    in
    let texts : words_of name change ≡ sub ∷ name ∷ words_behind change = ap (λ (ts : List (List ℕ)). ts ++ name ∷ words_behind change) c.in_ok-change.ensures.before in
    let frames = n.own.chain.frames in
    let first = literal_stands frames (literal_word sub) sub refl (within_fits sub c.keeps_limit.ensures) in
    let second = literal_stands frames (literal_word name) name refl (ap fits c.name-name.ensures.name ∙ within_fits c.in-Name.variable c.name-name.ensures.within) in (
      subst (λ (b : Builtin). IsNamed n c.args.command.now (command.Builtin b)) (c.in-Dict.is ∙ sym c.in_ok-change.ensures.command) (c.in_ok-builtin_named.ensures p n names there),
      subst (λ (ws : List WordRead). AllEnd style n ws sums (words_of name change)) (sym seen)
          (subst (λ (ts : List (List ℕ)). AllEnd style n (literal_word sub ∷ literal_word name ∷ map seen_word rest) sums ts) (sym texts)
          (inl (first, inl (second, c.in_ok-change.ensures.behind p n names there)))),
    )
