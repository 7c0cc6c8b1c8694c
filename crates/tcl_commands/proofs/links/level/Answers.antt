use Rattle.std.proofs.Common.{ap, ◌∙◌}
use Rattle.tcl_language.specs.Variables.{level_of}
use Rattle.tcl_commands.proofs.Levels.{level_found, level_missing}
use Rattle.tcl_commands.proofs.links.level.Goals as goal

pub returns-in-Some : goal.returns-in-Some
returns-in-Some c =
    level_found c.args.tree.now c.args.place c.args.word.now c.frames_seen.result.now c.integers.result c.in-Some.level c.integers.ensures c.frames_seen.ensures
    (c.in-Some.ensures ∙ ap (λ n. level_of c.integers.result n c.args.word.now) c.level-current.ensures)

pub returns-in-None : goal.returns-in-None
returns-in-None c =
    level_missing c.args.tree.now c.args.place c.args.word.now c.frames_seen.result.now c.integers.result c.bad_level.result c.integers.ensures c.frames_seen.ensures
    (c.in-None.ensures ∙ ap (λ n. level_of c.integers.result n c.args.word.now) c.level-current.ensures) c.bad_level.ensures
