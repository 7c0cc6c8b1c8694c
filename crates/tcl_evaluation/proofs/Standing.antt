-- Parts of words that stand for texts.
use Rattle.std.proofs.Common.{ℕ, List, [], ◌∷◌, ◌++◌, refl, sym, ◌∙◌, ap, append-nil, append_assoc}
use Rattle.tcl_frames.specs.Places.{Levels}
use Rattle.tcl_parser.specs.declared.script.Part.{Part}
use Rattle.tcl_prepared.specs.Views.{literal_parts}
use Rattle.tcl_evaluation.specs.Hands.{PartStands, PartsStand}

-- the parts of a literal stand for its text
pub literal_parts_stand : (frames : Levels) (text : List ℕ) → PartsStand frames (literal_parts text) text
literal_parts_stand frames [] = refl
literal_parts_stand frames (b ∷ text) = (b ∷ text, [], sym (append-nil (b ∷ text)), refl, refl)

-- where parts stand for a text, and one more for another, all of them stand for both
pub parts_stand_more : (frames : Levels) (ps : List Part) (p : Part) (before text : List ℕ) → PartsStand frames ps before → PartStands frames p text → PartsStand frames (ps ++ p ∷ []) (before ++ text)
parts_stand_more frames [] p before text h s = (text, [], ap (λ (b : List ℕ). b ++ text) h ∙ sym (append-nil text), s, refl)
parts_stand_more frames (x ∷ ps) p before text h s =
    (h.0, h.1 ++ text, ap (λ (b : List ℕ). b ++ text) h.2 ∙ append_assoc h.0 h.1 text, h.3, parts_stand_more frames ps p h.1 text h.4 s)
