use Rattle.std.proofs.Common.{◌≡◌, List, ap, subst, sym, ◌∙◌}
use Rattle.std.specs.Prelude.{◌↔◌, IsTrue}
use Rattle.tcl_core.specs.Lives.{React}
use Rattle.tcl_core.specs.Trees.{Event}
use Rattle.tcl_core.specs.Views.{moves_of}
use Rattle.tcl_run.specs.Language.{language}
use Rattle.tcl_player.specs.Moves.{moves_in}
use Rattle.tcl_player.specs.Players.{result_of}
use Rattle.tcl_player.specs.Lines.{outcome_text}
use Rattle.tcl_recorder.specs.Crossings.{events_of}
use Rattle.tcl_replay.specs.Saved.{saved_of}
use Rattle.tcl_replay.specs.declared.saving.Saved.{Saved}
use Rattle.tcl_tree.specs.Own.{Own}
use Rattle.tcl_serve.specs.Keeping.{lines_in, outward}
use Rattle.tcl_serve.proofs.keeping.replayed.Goals as goal

pub returns-in-Ok : goal.returns-in-Ok
returns-in-Ok c =
    let parts = c.into_parts-outcome.ensures in
    let played = c.in-Ok.replayed in
    let view = saved_of c.args.saved.now in
    let moves = ap moves_in c.as_slice.ensures.value ∙ c.in_ok-moves.ensures ∙ ap moves_of c.crossings.ensures in
    record {
      outcome = played.outcome;
      outwards = played.outwards.items;
      reacts = subst (λ (v : Saved). React (language view.integers) view.tree (moves_of c.args.kept.now.crossings) c.args.limit (result_of played.outcome) (events_of played.outwards.items) (saved_of v).tree) (sym (ap (λ r. r.2) parts))
          (subst (λ ms. React (language view.integers) view.tree ms c.args.limit (result_of played.outcome) (events_of played.outwards.items) (saved_of played.saved).tree) moves c.in-Ok.ensures.reacts);
      style = ap (λ r. (saved_of r.2).integers) parts ∙ c.in-Ok.ensures.style;
      came = c.in_ok-outcome-in-Ok.ensures ∙ c.in_ok-outcome_text-in-Ok.ensures ∙ ap (λ r. outcome_text r.0) parts;
      told = c.in_ok-lines-in-Ok.ensures ∙ ap (λ xs. lines_in (events_of xs)) (c.as_slice-in-Ok.ensures.value ∙ ap (λ r. r.1.items) parts);
      same = subst (λ xs. IsTrue c.in_ok-same-in-Ok.same ↔ (xs ≡ lines_in (outward c.args.kept.now.crossings))) c.as_slice-in-Ok-2.ensures.value
          (subst (λ (es : List (Event Own)). IsTrue c.in_ok-same-in-Ok.same ↔ (c.as_slice-in-Ok-2.result.now ≡ lines_in (outward es))) c.crossings-in-Ok.ensures c.in_ok-same-in-Ok.ensures);
    }
