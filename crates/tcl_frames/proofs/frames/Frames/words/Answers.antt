use Rattle.std.proofs.Common.{◌∙◌, ap, List, Some}
use Rattle.std.proofs.lemmas.Option.{slice_get_past}
use Rattle.tcl_frames.specs.Names.{Text}
use Rattle.tcl_frames.specs.Places.{Levels}
use Rattle.tcl_frames.specs.Chain.{Chain, words_at}
use Rattle.tcl_frames.proofs.ChainLemmas.{words_there, words_nowhere}
use Rattle.tcl_frames.proofs.ReachLemmas.{get_there}
use Rattle.tcl_frames.proofs.frames.Frames.words.Goals as goal

pub returns-in-Some : goal.returns-in-Some
returns-in-Some c =
    let h = c.in-Some.ensures.lookup in
    let fs = c.deref.result.now in
    ap (λ (ws : List Text). Some ws) c.words.ensures
    ∙ words_there fs c.args.level c.in-Some.frame.now (get_there fs c.args.level c.in-Some.frame.now h.0 h.1)
    ∙ ap (λ (gs : Levels). words_at gs c.args.level) (c.deref.ensures.value ∙ ap (λ (d : Chain). d.frames) c.self.view_is)

pub returns-in-None : goal.returns-in-None
returns-in-None c =
    let h = c.in-None.ensures.lookup in
    let fs = c.deref.result.now in
    words_nowhere fs c.args.level (slice_get_past fs c.args.level h.3)
    ∙ ap (λ (gs : Levels). words_at gs c.args.level) (c.deref.ensures.value ∙ ap (λ (d : Chain). d.frames) c.self.view_is)
