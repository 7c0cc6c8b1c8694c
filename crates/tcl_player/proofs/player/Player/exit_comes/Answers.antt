use Rattle.std.proofs.Common.{◌≡◌, ℕ, true, sym, subst, ◌∙◌, w64}
use Rattle.std.proofs.lemmas.Int.{to_z-of_z}
use Rattle.tcl_core.specs.Endings.Reply.{Exit}
use Rattle.tcl_core.specs.Entries.Answer.{Replied}
use Rattle.tcl_core.specs.Paths.{Path, rise_to}
use Rattle.tcl_core.specs.Runs.{gone, is_exit}
use Rattle.tcl_reactions.specs.Playing.{Answers}
use Rattle.tcl_reactions.proofs.Free.{same_exit}
use Rattle.tcl_run.specs.Entering.{whole_entry}
use Rattle.tcl_tree.specs.TreeOf.{tree_of}
use Rattle.tcl_recorder.specs.Crossings.{answer_of}
use Rattle.tcl_player.specs.Moves.{move_of}
use Rattle.tcl_player.specs.Players.{GoesOn, IsOverBy, player_of}
use Rattle.std.proofs.Common.{Some, None}
use Rattle.tcl_player.specs.Answering.{IsKnown}
use Rattle.tcl_player.proofs.Played.{answered, by_test, known_exit, outer, over_already, over_at, read_at}
use Rattle.tcl_player.proofs.player.Player.exit_comes.Goals as goal

pub returns-then-is_some-clause-told : goal.returns-then-is_some-clause-told
returns-then-is_some-clause-told c = λ p d up.
    outer (rise_to c.args.up p) (player_of c.args.self.now) (player_of c.args.self.now) _ up
    (over_already (tree_of c.args.tree.now) p d c.args.self.now c.args.up (whole_entry c.args.entry.now) (sym c.is_some.ensures ∙ c.if-is_some.true) (Replied (Exit c.args.status)) tt)

pub returns-in-None-clause-told : goal.returns-in-None-clause-told
returns-in-None-clause-told c = λ p d up.
    let T = tree_of c.args.tree.now in
    let known = known_exit c.args.self.now.exited None (gone d T p) (by_test c.args.self.now.exited c.is_none.result c.is_none.ensures c.if-is_none.false) in
    let over = over_at c.in_ok-read_on.field-0 ((q : Path) (e : ℕ) → IsKnown c.args.self.now.exited None (gone e T q) → IsOverBy T q e (player_of c.args.self.now) c.args.up (whole_entry c.args.entry.now) (player_of c.read_on.new.self)) c.in-None.is c.in_ok-read_on.ensures.over in
    outer (rise_to c.args.up p) (player_of c.args.self.now) (player_of c.read_on.new.self) _ up (over p d known (Replied (Exit c.args.status)) tt)

pub returns-in-Some-Come-clause-told : goal.returns-in-Some-Come-clause-told
returns-in-Some-Come-clause-told c = λ p d up.
    let T = tree_of c.args.tree.now in
    let o = player_of c.args.self.now in
    let z = player_of c.read_on.new.self in
    let h = c.args.up in
    let i = whole_entry c.args.entry.now in
    let answer = c.in-Some-Come.answer in
    let known = known_exit c.args.self.now.exited None (gone d T p) (by_test c.args.self.now.exited c.is_none.result c.is_none.ensures c.if-is_none.false) in
    let read = read_at c.in_ok-read_on.field-0 c.in-Some-Come.field-0 (λ m. (q : Path) (e : ℕ) → IsKnown c.args.self.now.exited None (gone e T q) → GoesOn T q e o h i (move_of m.now) z) c.in-Some-Come.is c.in_ok-read_on.ensures.reads in
    let g = answered T p d o z h i c.in-Some-Come.field-0.now answer c.in-Some-Come.field-0-is (read p d known) in
    let exits : is_exit c.args.status (answer_of answer) ≡ true = subst (λ n. is_exit n (answer_of answer) ≡ true) (to_z-of_z w64 c.args.status c.ranges.status) (sym c.exits.ensures ∙ c.if-exits.true) in
    outer (rise_to h p) o z _ up (subst (λ a. Answers T p o (Some (h, i, d)) a z) (same_exit c.args.status (answer_of answer) exits) g.0)
