use Rattle.std.proofs.Common.{rules, ◌≡◌, ℕ, List, [], ◌∷◌, ◌+◌, ◌++◌, map, take, sym, ap, subst, ◌∙◌}
use Rattle.std.proofs.lemmas.List.{map_push, take_more}
use Rattle.std.specs.String.{string_bytes}
use Rattle.tcl_parser.specs.declared.script.Part.{Part}
use Rattle.tcl_prepared.specs.Views.{seen_part}
use Rattle.tcl_evaluation.specs.Hands.{PartsStand}
use Rattle.tcl_evaluation.proofs.Standing.{parts_stand_more}
use Rattle.tcl_evaluation.proofs.hands.text_at_hand.Goals as goal

pub parts-preserved : goal.parts-preserved
parts-preserved c =
    let frames = c.args.frames.now.frames in
    let items = c.args.parts.now in
    let i = c.parts.part-index in
    let item = c.part-item.result in
    let adds = c.in_ok-add_part.ensures in
    let seen : map seen_part (take (i + 1) items) ≡ map seen_part (take i items) ++ seen_part item ∷ [] =
    ap (map seen_part) (take_more items i item c.parts-test.true ∙ ap (λ x. take i items ++ x ∷ []) (sym c.part-item.is)) ∙ map_push seen_part (take i items) item in (
      subst (λ (ps : List Part). PartsStand frames ps (string_bytes c.add_part.new.text)) (sym seen)
          (subst (λ (t : List ℕ). PartsStand frames (map seen_part (take i items) ++ seen_part item ∷ []) t) (sym adds.1)
          (parts_stand_more frames (map seen_part (take i items)) (seen_part item) (string_bytes c.parts.text) adds.0 c.parts.invariant.0 adds.2)),
      search rules,
    )
