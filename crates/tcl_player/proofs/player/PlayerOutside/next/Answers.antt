use Rattle.std.proofs.Common.{◌≡◌, ℕ, ◌∙◌}
use Rattle.tcl_core.specs.Paths.{Path}
use Rattle.tcl_core.specs.Runs.{gone}
use Rattle.tcl_run.specs.Entering.{whole_entry}
use Rattle.tcl_tree.specs.TreeOf.{tree_of}
use Rattle.tcl_recorder.specs.Crossings.{answer_of}
use Rattle.tcl_recorder.proofs.Recorders.{unspoken}
use Rattle.tcl_player.specs.Answering.{IsKnown}
use Rattle.tcl_player.specs.Moves.{move_of}
use Rattle.tcl_player.specs.Players.{GoesOn, IsOverBy, player_of}
use Rattle.tcl_player.proofs.Played.{answered, entered, is_over, is_told_so, known_so, over_at, read_at, unsaid}
use Rattle.tcl_player.proofs.player.PlayerOutside.next.Goals as goal

pub returns-in_ok-copy-in-Some-Enter-clause-comes : goal.returns-in_ok-copy-in-Some-Enter-clause-comes
returns-in_ok-copy-in-Some-Enter-clause-comes c = λ p d at up.
    let T = tree_of c.args.tree.now in
    let o = player_of c.args.self.now in
    let z = player_of c.read_on.new.self in
    let h = c.args.up in
    let i = whole_entry c.args.entry.now in
    let known = known_so c.args.self.now.exited c.is_gone-gone.result (gone d T p) (c.is_gone-gone.ensures p d at) in
    let read = read_at c.in_ok-target.field-0 c.in-Some-Enter.field-0 (λ m. (q : Path) (e : ℕ) → IsKnown c.args.self.now.exited c.is_gone-gone.result (gone e T q) → GoesOn T q e o h i (move_of m.now) z) c.in-Some-Enter.is c.in_ok-target.ensures.reads in
    let names = c.in_ok-from_clones-in-Some-Enter.ensures.items_if_clones_equal (λ x y e. e) ∙ c.as_slice.ensures.value in
    (entered T p d o z h i c.in-Some-Enter.field-0.now c.in-Some-Enter.target c.in-Some-Enter.entry c.in_ok-from_clones-in-Some-Enter.field-0.items (whole_entry c.in_ok-copy-in-Some-Enter.field-0) c.in-Some-Enter.field-0-is names c.in_ok-copy-in-Some-Enter.ensures (read p d known), tt)

pub returns-in-Some-Come-clause-comes : goal.returns-in-Some-Come-clause-comes
returns-in-Some-Come-clause-comes c = λ p d at up.
    let T = tree_of c.args.tree.now in
    let o = player_of c.args.self.now in
    let z = player_of c.read_on.new.self in
    let h = c.args.up in
    let i = whole_entry c.args.entry.now in
    let answer = c.in-Some-Come.answer in
    let known = known_so c.args.self.now.exited c.is_gone-gone.result (gone d T p) (c.is_gone-gone.ensures p d at) in
    let read = read_at c.in_ok-target.field-0 c.in-Some-Come.field-0 (λ m. (q : Path) (e : ℕ) → IsKnown c.args.self.now.exited c.is_gone-gone.result (gone e T q) → GoesOn T q e o h i (move_of m.now) z) c.in-Some-Come.is c.in_ok-target.ensures.reads in
    let g = answered T p d o z h i c.in-Some-Come.field-0.now answer c.in-Some-Come.field-0-is (read p d known) in
    is_told_so T c.args.self.now c.read_on.new.self p d h i up (answer_of answer) c.turn_of.result c.turn_of.ensures g.0 g.1

pub returns-in-None-clause-comes : goal.returns-in-None-clause-comes
returns-in-None-clause-comes c = λ p d at up.
    let T = tree_of c.args.tree.now in
    let known = known_so c.args.self.now.exited c.is_gone-gone.result (gone d T p) (c.is_gone-gone.ensures p d at) in
    let over = over_at c.in_ok-target.field-0 ((q : Path) (e : ℕ) → IsKnown c.args.self.now.exited c.is_gone-gone.result (gone e T q) → IsOverBy T q e (player_of c.args.self.now) c.args.up (whole_entry c.args.entry.now) (player_of c.read_on.new.self)) c.in-None.is c.in_ok-target.ensures.over in
    is_over T c.args.self.now c.read_on.new.self p d c.args.up (whole_entry c.args.entry.now) up (over p d known)

pub returns-in-Some-Come-clause-lost : goal.returns-in-Some-Come-clause-lost
returns-in-Some-Come-clause-lost c = unspoken c.turn_of.result

pub returns-in-Some-Come-clause-handed : goal.returns-in-Some-Come-clause-handed
returns-in-Some-Come-clause-handed c = unsaid c.turn_of.result
