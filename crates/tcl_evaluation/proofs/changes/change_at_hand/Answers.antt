use Rattle.std.proofs.Common.{◌≡◌, ◌-◌, ◌∷◌, take, drop, length, map, inl, refl, sym, ap, subst, ◌∙◌}
use Rattle.std.specs.Prelude.{Ok}
use Rattle.tcl_commands.specs.Named.{builtin_of, words_of}
use Rattle.tcl_interpreter.specs.declared.builtin.Builtin.{Builtin}
use Rattle.tcl_interpreter.specs.declared.command.Command.TheVariants as command
use Rattle.tcl_language.specs.Instructions.{fits}
use Rattle.tcl_parser.specs.Words.{WordRead}
use Rattle.tcl_prepared.specs.Views.{literal_word, seen_word}
use Rattle.tcl_text.proofs.Items.{split_first}
use Rattle.tcl_evaluation.specs.Hands.{AllEnd, IsNamed}
use Rattle.tcl_evaluation.proofs.HandCalling.{literal_stands}
use Rattle.tcl_evaluation.proofs.Steps.{within_fits}
use Rattle.tcl_evaluation.proofs.changes.change_at_hand.Goals as goal

pub returns : goal.returns
returns c = (
  c.in-Literal.command,
  λ p n names there.
      let word = c.in-Literal.command in
      let variable = c.in-Name.variable in
      let name = c.name-name.result.now in
      let others = take (length c.args.words.now - 1) (drop 1 c.args.words.now) in
      let rest = take (length others - 1) (drop 1 others) in
      let seen : map seen_word c.args.words.now ≡ literal_word word ∷ literal_word name ∷ map seen_word rest =
      ap (map seen_word) (split_first c.args.words.now c.first-item.result c.in-len1-up.len_at_least c.first-item.is)
      ∙ ap (λ (w : WordRead). w ∷ map seen_word others) (ap seen_word c.in-Literal.is)
      ∙ ap (λ ws. literal_word word ∷ map seen_word ws) (split_first others c.second-item.result c.in-len1-up-others.len_at_least c.second-item.is)
      ∙ ap (λ (w : WordRead). literal_word word ∷ w ∷ map seen_word rest) (ap seen_word c.in-Name.is ∙ ap literal_word (sym c.name-name.ensures.name))
      in
      let named : IsNamed n word (command.Builtin (builtin_of c.in_ok-change.change)) =
      c.in_ok-builtin.ensures p n names there ∙ ap (λ (b : Builtin). Ok (command.Builtin b)) (sym c.in_ok-change.ensures.command)
      in
      let frames = n.own.chain.frames in (
        named,
        subst (λ ws. AllEnd c.args.tree.now.integers n ws c.in_ok-change.sums (word ∷ name ∷ words_of c.in_ok-change.change)) (sym seen)
            (inl (
              literal_stands frames (literal_word word) word refl (within_fits word c.keeps_limit.ensures),
              inl (literal_stands frames (literal_word name) name refl (ap fits c.name-name.ensures.name ∙ within_fits variable c.name-name.ensures.within), c.in_ok-change.ensures.words p n names there),
            )),
      ),
)
