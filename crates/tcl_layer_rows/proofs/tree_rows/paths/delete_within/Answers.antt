use Rattle.std.proofs.Common.{[], ◌∷◌, ◌++◌, sym, ◌∙◌}
use Rattle.tcl_tree.proofs.StayLemmas.{began_holds, began_innermost}
use Rattle.tcl_layer_rows.proofs.Deleting.{deleted_or_not}
use Rattle.tcl_layer_rows.proofs.tree_rows.paths.delete_within.Goals as goal

pub is_gone-gone-requires : goal.is_gone-gone-requires
is_gone-gone-requires c =
    let began = c.in_ok-place.ensures in
    let p = c.args.path.now in (
      p,
      1,
      began_holds c.args.tree.now c.in_ok-place.place p (sym (began.keys p) ∙ began.place) c.nest.new.self c.delete-deleted.new.self began.keys began.deeper
          (deleted_or_not c.nest.new.self c.delete-deleted.new.self (c.args.parent.now ++ c.args.name.now ∷ []) c.delete-deleted.result c.delete-deleted.ensures.parts c.delete-deleted.ensures.held),
    )

pub unnest-requires : goal.unnest-requires
unnest-requires c =
    let began = c.in_ok-place.ensures in
    let p = c.args.path.now in
    let named = sym (began.keys p) ∙ began.place in
    let stays = deleted_or_not c.nest.new.self c.delete-deleted.new.self (c.args.parent.now ++ c.args.name.now ∷ []) c.delete-deleted.result c.delete-deleted.ensures.parts c.delete-deleted.ensures.held in
    record {
      holds = (p, 1, began_holds c.args.tree.now c.in_ok-place.place p named c.nest.new.self c.delete-deleted.new.self began.keys began.deeper stays);
      innermost = began_innermost c.args.tree.now c.in_ok-place.place p named c.nest.new.self c.delete-deleted.new.self began.keys began.deeper stays;
    }
