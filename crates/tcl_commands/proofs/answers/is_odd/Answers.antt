use Rattle.std.proofs.Common.{sym}
use Rattle.tcl_language.proofs.Counting.{odd_is}
use Rattle.tcl_commands.proofs.answers.is_odd.Goals as goal

pub returns : goal.returns
returns c = sym (odd_is c.args.words.now)
