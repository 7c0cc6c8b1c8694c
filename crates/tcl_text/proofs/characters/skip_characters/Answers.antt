use Rattle.std.proofs.Common.{[], sym, ap, subst}
use Rattle.std.specs.Str.{chars, IsUtf8}
use Rattle.std.proofs.lemmas.Str.{IsUtf8-nil, chars-nil}
use Rattle.tcl_text.proofs.Turns.{turn, some_turn}
use Rattle.tcl_text.proofs.characters.skip_characters.Goals as goal

pub skip-init : goal.skip-init
skip-init c = record {
  utf8 = subst IsUtf8 (sym c.chars-rest.ensures.rest) c.utf8.text;
  rest = ap chars c.chars-rest.ensures.rest;
  front = [];
  whole = IsUtf8-nil;
  cut = sym c.chars-rest.ensures.rest;
  first = chars-nil;
}

pub skip-preserved : goal.skip-preserved
skip-preserved c =
    let i = c.skip.invariant in
    let letter = some_turn _ _ _ _ c.next.ensures.steps.0 c.if-is_none.ensures in
    let t = turn c.args.text.now i.front _ _ c.skip.counter letter.0 (record { utf8 = i.utf8; left = i.rest; whole = i.whole; cut = i.cut; first = i.first }) letter.1 in
    record { utf8 = t.utf8; rest = t.left; front = _; whole = t.whole; cut = t.cut; first = t.first }
