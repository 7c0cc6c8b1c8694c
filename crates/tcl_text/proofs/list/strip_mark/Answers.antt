use Rattle.std.proofs.lemmas.Str.Pattern.{strip_prefix_char}
use Rattle.tcl_text.proofs.list.strip_mark.Goals as goal

pub returns : goal.returns
returns c = strip_prefix_char c.args.mark c.args.text.now _ c.strip_prefix.ensures.cases c.requires
