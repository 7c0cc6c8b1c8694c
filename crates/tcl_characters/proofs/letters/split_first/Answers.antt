use Rattle.tcl_characters.proofs.LetterSteps.{first_cut, first_front}
use Rattle.tcl_characters.proofs.letters.split_first.Goals as goal

pub split_at-requires : goal.split_at-requires
split_at-requires c = first_cut c.args.text.now _ _ c.as_str-behind.result.now c.in_ok-next.field-0 c.as_str-behind.utf8 c.chars-characters.ensures.rest c.as_str-behind.ensures c.in_ok-next.ensures.steps.0

pub returns : goal.returns
returns c = first_front c.args.text.now _ _ c.as_str-behind.result.now _ c.in_ok-next.field-0 c.utf8.text c.chars-characters.ensures.rest c.as_str-behind.ensures c.in_ok-next.ensures.steps.0 c.split_at.ensures.front
