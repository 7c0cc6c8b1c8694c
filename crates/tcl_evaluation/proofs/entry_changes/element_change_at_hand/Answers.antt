use Rattle.std.proofs.Common.{◌≡◌, ◌∷◌, [], List, map, inl, refl, sym, ap, subst, ◌∙◌}
use Rattle.tcl_interpreter.specs.declared.builtin.Builtin.{Builtin}
use Rattle.tcl_interpreter.specs.declared.command.Command.TheVariants as command
use Rattle.tcl_language.specs.Instructions.{fits}
use Rattle.tcl_parser.specs.Words.{WordRead}
use Rattle.tcl_prepared.specs.Views.{literal_word, seen_word}
use Rattle.tcl_text.proofs.Items.{three_items}
use Rattle.tcl_evaluation.specs.Hands.{AllEnd, IsNamed}
use Rattle.tcl_evaluation.proofs.HandCalling.{literal_stands}
use Rattle.tcl_evaluation.proofs.Steps.{within_fits}
use Rattle.tcl_evaluation.proofs.entry_changes.element_change_at_hand.Goals as goal

pub returns : goal.returns
returns c = λ p n names there.
    let name = c.name-name.result.now in
    let rest = seen_word c.second-item.result ∷ seen_word c.third-item.result ∷ [] in
    let found = c.in_ok-index in
    let seen : map seen_word c.args.words.now ≡ literal_word name ∷ rest =
    ap (map seen_word) (three_items c.args.words.now c.first-item.result c.second-item.result c.third-item.result c.in-len3.len_at_least c.in-len3.len_below c.first-item.is c.second-item.is c.third-item.is)
    ∙ ap (λ (w : WordRead). w ∷ rest) (ap seen_word c.in-Name.is ∙ ap literal_word (sym c.name-name.ensures.name))
    in
    let stands = literal_stands n.own.chain.frames (literal_word name) name refl (ap fits c.name-name.ensures.name ∙ within_fits c.in-Name.variable c.name-name.ensures.within) in (
      subst (λ (b : Builtin). IsNamed n c.args.command.now (command.Builtin b)) c.in-Lset.is (c.in_ok-builtin_named.ensures p n names there),
      subst (λ (ws : List WordRead). AllEnd c.args.tree.now.integers n ws found.sums (name ∷ found.index ∷ found.value ∷ [])) (sym seen) (inl (stands, found.ensures p n names there)),
    )
