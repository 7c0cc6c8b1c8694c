use Rattle.std.proofs.Common.{[], ◌∷◌, ℕ, List, map, ap, sym, subst, ◌∙◌, ◌≡◌}
use Rattle.tcl_language.specs.Instructions.{fits}
use Rattle.tcl_parser.specs.declared.script.Part.{Part}
use Rattle.tcl_parser.specs.declared.script.Part.TheVariants.{Element, EndElement}
use Rattle.tcl_prepared.specs.Views.{seen_part}
use Rattle.tcl_text.proofs.Items.{three_items}
use Rattle.tcl_evaluation.specs.Hands.{PartStands}
use Rattle.tcl_evaluation.proofs.HandCalling.{some_more}
use Rattle.tcl_evaluation.proofs.hands.element_at_hand.Goals as goal

pub returns : goal.returns
returns c =
    let key = seen_part c.second-item.result in
    let array = c.as_str.result.now in
    let seen : map seen_part c.args.parts.now ≡ Element array ∷ key ∷ EndElement ∷ [] =
    ap (map seen_part) (three_items c.args.parts.now c.first-item.result c.second-item.result c.third-item.result c.in-len3.len_at_least c.in-len3.len_below c.first-item.is c.second-item.is c.third-item.is)
    ∙ ap (λ (x : Part). x ∷ key ∷ seen_part c.third-item.result ∷ []) (ap seen_part c.in-Element.is)
    ∙ ap (λ (x : Part). Element c.in-Element.array ∷ key ∷ x ∷ []) (ap seen_part c.in-EndElement.is)
    ∙ ap (λ (x : List ℕ). Element x ∷ key ∷ EndElement ∷ []) (sym c.as_str.ensures)
    in
    some_more c.held_element.result _ _ (λ value h. record {
      array = array;
      part = key;
      key = c.known_short-key.result;
      are = seen;
      stands = subst (λ (t : List ℕ). PartStands c.args.frames.now.frames key t) (sym c.known_short-key.ensures.same) c.in_ok-part_at_hand.ensures;
      short = ap fits c.known_short-key.ensures.same ∙ c.known_short-key.ensures.short;
      holds = h;
    }) c.held_element.ensures
