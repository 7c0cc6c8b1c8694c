use Rattle.std.proofs.Common.{arith}
use Rattle.std.proofs.lemmas.Option.{MatchOption-at_none}
use Rattle.std.proofs.lemmas.Str.Pattern.{split_parts}
use Rattle.tcl_frames.proofs.frames.elements.is_base.Goals as goal

pub returns-in-None-clause-unopened : goal.returns-in-None-clause-unopened
returns-in-None-clause-unopened c = λ yes. MatchOption-at_none _ _ c.in-None.is (split_parts 40 c.args.array.now c.split_once.result c.split_once.ensures.cases (omega arith))
