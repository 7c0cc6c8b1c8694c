use Rattle.std.proofs.Common.{sym, ap, ◌∙◌}
use Rattle.tcl_run.specs.Entering.{whole_entry}
use Rattle.tcl_tree.specs.TreeOf.{tree_of}
use Rattle.tcl_player.specs.Moves.{move_of, moves_in}
use Rattle.tcl_player.specs.Players.{player_of}
use Rattle.tcl_player.proofs.Played.{goes_still, is_ended, is_read, is_unfit, over_already}
use Rattle.tcl_player.proofs.player.Player.read_on.Goals as goal

pub returns-then-is_some-clause-over : goal.returns-then-is_some-clause-over
returns-then-is_some-clause-over c = λ p d known. over_already (tree_of c.args.tree.now) p d c.args.self.now c.args.up (whole_entry c.args.entry.now) (sym c.is_some.ensures ∙ c.if-is_some.true)

pub returns-then-not-suits-clause-over : goal.returns-then-not-suits-clause-over
returns-then-not-suits-clause-over c = λ p d known.
    is_unfit (tree_of c.args.tree.now) (player_of c.args.self.now) c.args.gone c.args.up (whole_entry c.args.entry.now) c.args.self.now.exited (moves_in c.in-Some.later.now)
    (goes_still c.args.self.now.fate (sym c.is_some.ensures ∙ c.if-is_some.false)) c.args.self.now.last p d known
    (move_of c.in-Some.first.now) (ap moves_in c.in-Some.ensures.cases.0) (sym c.suits.ensures ∙ c.if-not-suits.true)

pub returns-then-ends_above-clause-over : goal.returns-then-ends_above-clause-over
returns-then-ends_above-clause-over c = λ p d known.
    is_ended (tree_of c.args.tree.now) (player_of c.args.self.now) c.args.gone c.args.up (whole_entry c.args.entry.now) c.args.self.now.exited (moves_in c.in-Some.later.now)
    (goes_still c.args.self.now.fate (sym c.is_some.ensures ∙ c.if-is_some.false)) c.args.self.now.last p d known
    (move_of c.in-Some.first.now) (ap moves_in c.in-Some.ensures.cases.0) (sym c.suits.ensures ∙ c.if-not-suits.false) (sym c.ends_above.ensures ∙ c.if-ends_above.true)

pub returns-clause-reads : goal.returns-clause-reads
returns-clause-reads c = λ p d known.
    is_read (tree_of c.args.tree.now) (player_of c.args.self.now) c.args.gone c.args.up (whole_entry c.args.entry.now) c.args.self.now.exited (moves_in c.in-Some.later.now)
    (goes_still c.args.self.now.fate (sym c.is_some.ensures ∙ c.if-is_some.false)) c.args.self.now.last p d known
    c.in-Some.first.now (ap moves_in c.in-Some.ensures.cases.0) (sym c.suits.ensures ∙ c.if-not-suits.false) (sym c.ends_above.ensures ∙ c.if-ends_above.false)
