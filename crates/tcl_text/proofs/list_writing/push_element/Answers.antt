use Rattle.std.proofs.Common.{◌++◌, ◌∙◌, ap, sym, flat_map, string_bytes}
use Rattle.std.specs.Char.{encode_utf8}
use Rattle.tcl_text.specs.Writing.{escaped_byte, hash_mark, is_comment, written}
use Rattle.tcl_text.proofs.Pushes.{push_ok, call_ok, written_plain, written_braced, written_escaped, braced_bytes, escaped_bytes}
use Rattle.tcl_text.proofs.list_writing.push_element.Goals as goal

pub returns-in-Plain-clause-added : goal.returns-in-Plain-clause-added
returns-in-Plain-clause-added c =
    push_ok c.push_str.result (string_bytes c.push_str.new.self) (string_bytes c.args.out.now) c.args.element.now (string_bytes c.args.out.now) (written c.args.first c.args.element.now)
    c.push_str.ensures.bytes (ap (λ z. string_bytes c.args.out.now ++ z) (sym (written_plain c.args.first c.args.element.now (sym c.in-Plain.ensures))))

pub returns-in_ok-push_str-in-Braced-clause-added : goal.returns-in_ok-push_str-in-Braced-clause-added
returns-in_ok-push_str-in-Braced-clause-added c =
    push_ok c.push-in-Braced.result (string_bytes c.push-in-Braced.new.self) (string_bytes c.push_str-in-Braced.new.self) (encode_utf8 125) (string_bytes c.args.out.now) (written c.args.first c.args.element.now)
    c.push-in-Braced.ensures.bytes
    (braced_bytes (string_bytes c.args.out.now) (string_bytes c.push.new.self) (string_bytes c.push_str-in-Braced.new.self) c.args.element.now _ c.in_ok-push-in-Braced.ensures.bytes c.in_ok-push_str-in-Braced.ensures.bytes (written_braced c.args.first c.args.element.now (sym c.in-Braced.ensures)))

pub returns-in_ok-push_hash_mark-in-Escaped-clause-added : goal.returns-in_ok-push_hash_mark-in-Escaped-clause-added
returns-in_ok-push_hash_mark-in-Escaped-clause-added c =
    call_ok c.push_escaped.result (string_bytes c.push_escaped.new.out) (string_bytes c.push_hash_mark.new.out) (flat_map escaped_byte c.args.element.now) (string_bytes c.args.out.now) (written c.args.first c.args.element.now)
    c.push_escaped.ensures.added
    (escaped_bytes (string_bytes c.args.out.now) (string_bytes c.push_hash_mark.new.out) (hash_mark (is_comment c.args.first c.args.element.now)) (flat_map escaped_byte c.args.element.now) _
    (c.in_ok-push_hash_mark-in-Escaped.ensures.added ∙ ap (λ z. string_bytes c.args.out.now ++ hash_mark z) c.is_comment.ensures)
    (written_escaped c.args.first c.args.element.now (sym c.in-Escaped.ensures)))
