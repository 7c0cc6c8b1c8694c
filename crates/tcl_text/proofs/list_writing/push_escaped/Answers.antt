use Rattle.std.proofs.Common.{string_bytes}
use Rattle.std.specs.Str.Iter.{chars_rest}
use Rattle.tcl_text.proofs.Pushes.{escaped_on, extends_more}
use Rattle.tcl_text.proofs.list_writing.push_escaped.Goals as goal

pub characters-preserved : goal.characters-preserved
characters-preserved c = record {
  whole = escaped_on (string_bytes c.push_character.new.out) (string_bytes c.characters.out) (string_bytes c.args.out.now) _ (chars_rest c.characters.rest) (chars_rest c.next.new.self) c.in-Some.character c.characters.invariant.whole c.in-Some.ensures.steps.0 c.in_ok-push_character.ensures.added;
  kept = extends_more (string_bytes c.args.out.now) (string_bytes c.characters.out) (string_bytes c.push_character.new.out) c.characters.invariant.kept c.push_character.ensures.kept;
}
