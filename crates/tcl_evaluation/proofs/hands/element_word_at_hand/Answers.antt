use Rattle.std.proofs.Common.{inr, refl, map, sym, ap, subst, List, ◌∙◌}
use Rattle.tcl_language.specs.Instructions.{fits}
use Rattle.tcl_parser.specs.Words.{WordRead}
use Rattle.tcl_prepared.specs.Views.{seen_part, seen_word}
use Rattle.tcl_prepared.specs.declared.prepared.PreparedPart.{PreparedPart}
use Rattle.tcl_evaluation.specs.Hands.{ElementStands, StandsFor}
use Rattle.tcl_evaluation.proofs.hands.element_word_at_hand.Goals as goal

pub returns : goal.returns
returns c =
    let frames = c.args.frames.now.frames in
    let parts = c.in-Parts.parts.items in
    let value = c.in_ok-element_at_hand.field-0 in
    let stands = subst (λ (ps : List PreparedPart). ElementStands frames (map seen_part ps) value) c.as_slice.ensures.value c.in_ok-element_at_hand.ensures in
    subst (λ (w : WordRead). StandsFor frames w c.known_short.result) (sym (ap seen_word c.in-Parts.is))
    (record {
      single = refl;
      short = ap fits c.known_short.ensures.same ∙ c.known_short.ensures.short;
      by = inr (subst (λ t. ElementStands frames (map seen_part parts) t) (sym c.known_short.ensures.same) stands);
    })
