use Rattle.std.proofs.Common.{false, refl}
use Rattle.tcl_glob.proofs.Letters.{found_letter}
use Rattle.tcl_format.proofs.specifier.first.Goals as goal

pub returns : goal.returns
returns c = (found_letter false c.args.text.now _ _ c.as_str.result.now c.in_ok-letter.letter c.in_ok-letter.letter c.utf8.text c.chars-characters.ensures.rest c.as_str.ensures c.in_ok-letter.ensures.steps.0 refl).0
