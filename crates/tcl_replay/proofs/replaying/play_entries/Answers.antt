use Rattle.std.proofs.Common.{refl, sym, ◌∙◌, ap, subst}
use Rattle.tcl_run.specs.Language.{language}
use Rattle.tcl_player.specs.Players.{Begins, IsAtEnd, player_of}
use Rattle.tcl_reactions.specs.Playing.{Lived}
use Rattle.tcl_reactions.specs.Playing.Lived.{begun}
use Rattle.tcl_run.specs.Entering.{whole_entry}
use Rattle.tcl_tree.specs.TreeOf.{Marks, tree_of}
use Rattle.tcl_replay.proofs.Serving.{goes_on}
use Rattle.tcl_run.proofs.Endings.{none_holds, some_holds}
use Rattle.tcl_replay.proofs.replaying.play_entries.Goals as goal

pub entries-init : goal.entries-init
entries-init c = (begun, refl)

pub entries-preserved : goal.entries-preserved
entries-preserved c =
    let begins = some_holds (λ x. Begins (player_of c.entries.player) x.0.items (whole_entry x.1) (player_of c.next_entry.new.self)) c.in_ok-target.field-0 _ c.in-Some.is c.in_ok-target.ensures.begins in (
      goes_on c.args.tree.now.integers (tree_of c.args.tree.now) (tree_of c.play_entry.new.tree) c.entries.tree (player_of c.args.player.now) c.entries.player c.next_entry.new.self c.play_entry.new.player _ _
          (ap (λ (m : Marks). m.integers) c.entries.invariant.1) c.entries.invariant.0 begins c.in_ok-play_entry-in-Some.ensures.plays,
      c.in_ok-play_entry-in-Some.ensures.marks ∙ c.entries.invariant.1,
    )

pub returns-in-None-clause-lived : goal.returns-in-None-clause-lived
returns-in-None-clause-lived c =
    let ends = none_holds (IsAtEnd (player_of c.entries.player) (player_of c.next_entry.new.self)) c.in_ok-target.field-0 c.in-None.is c.in_ok-target.ensures.ends in
    subst (λ z. Lived (language c.args.tree.now.integers) (tree_of c.args.tree.now) (player_of c.args.player.now) (tree_of c.entries.tree) z) (sym ends.1) c.entries.invariant.0
