use Rattle.std.proofs.Common.{◌++◌, ap, sym, flat_map, string_bytes}
use Rattle.std.specs.Char.{encode_utf8}
use Rattle.tcl_text.specs.Writing.{escaped_byte}
use Rattle.tcl_text.proofs.Pushes.{push_ok, plain_bytes, special_bytes}
use Rattle.tcl_text.proofs.list_writing.push_character.Goals as goal

pub returns-then-not-is_special_character-clause-added : goal.returns-then-not-is_special_character-clause-added
returns-then-not-is_special_character-clause-added c =
    push_ok c.push.result (string_bytes c.push.new.self) (string_bytes c.args.out.now) (encode_utf8 c.args.character) (string_bytes c.args.out.now) (flat_map escaped_byte (encode_utf8 c.args.character))
    c.push.ensures.bytes (ap (λ z. string_bytes c.args.out.now ++ z) (sym (plain_bytes c.args.character (sym c.if-not-is_special_character.ensures))))

pub returns-clause-added : goal.returns-clause-added
returns-clause-added c =
    push_ok c.push-3.result (string_bytes c.push-3.new.self) (string_bytes c.push-2.new.self) (encode_utf8 c.letter_of.result) (string_bytes c.args.out.now) (flat_map escaped_byte (encode_utf8 c.args.character))
    c.push-3.ensures.bytes (special_bytes c.args.character c.letter_of.result (string_bytes c.args.out.now) _ (sym c.if-not-is_special_character.ensures) c.in_ok-push.ensures.bytes c.letter_of.ensures)
