use Rattle.std.proofs.Common.{◌≤◌, ◌∙◌, ap, subst}
use Rattle.tcl_parser.specs.Words.{WordRead}
use Rattle.tcl_prepared.specs.Brackets.{word_weight, parts_weight}
use Rattle.tcl_prepared.proofs.ListLemmas.{heaviest_more}
use Rattle.tcl_prepared.proofs.preparing.are_words_light.Goals as goal

pub words-preserved : goal.words-preserved
words-preserved c =
    heaviest_more word_weight c.args.words.now c.words.word-index c.word-item.result c.args.most c.words-test.true c.word-item.is (subst (λ ps. parts_weight ps ≤ c.args.most) (c.as_slice.ensures.value ∙ ap (λ (w : WordRead). w.parts) c.word.view_is) (c.are_parts_light.ensures c.if-not-are_parts_light.false)) c.words.invariant
