use Rattle.std.proofs.Common.{◌≡◌, Bool, [], ◌∷◌, ◌++◌, ◌∙◌, ap}
use Rattle.tcl_recorder.proofs.Recorders.{fate_another, fate_watched}
use Rattle.tcl_recorder.specs.declared.recorder.Recorder.{Recorder}
use Rattle.tcl_recorder.proofs.recorder.Recorder.note_drop.Goals.{then-falls_with, else-falls_with}
use Rattle.tcl_recorder.proofs.recorder.Recorder.note_drop.Goals as goal

pub returns-clause-fate : goal.returns-clause-fate
returns-clause-fate g c = λ p at.
    let old = c.args.self.now in
    let name = c.args.name.now in
    let q = c.as_slice.result.now in
    let Fate : Recorder g.row.O.Denot → Bool = λ r. r.deleted in
    let path : q ≡ p ++ name ∷ [] = c.as_slice.ensures.value ∙ c.in_ok-push.ensures.items ∙ ap (λ x. c.in_ok-path.path.items ++ x ∷ []) c.in_ok-clone.ensures.cases ∙ ap (λ xs. xs ++ name ∷ []) (c.in_ok-path.ensures.named p at) in
    elim c.if-falls_with.branch [
      | then-falls_with w ↦ fate_watched old.kept.watched q (p ++ name ∷ []) c.falls_with.result old.deleted _ path c.falls_with.ensures w.if-falls_with.true (ap Fate w.self-is)
      | else-falls_with w ↦ fate_another old.kept.watched q (p ++ name ∷ []) c.falls_with.result old.deleted _ path c.falls_with.ensures w.if-falls_with.false (ap Fate w.self-is)
    ]
