use Rattle.std.proofs.Common.{◌≡◌, ℕ, List, ◌++◌, take, drop}
use Rattle.std.specs.Str.{chars, IsUtf8}
use Rattle.std.specs.Str.Iter.{chars_rest}
use Rattle.tcl_text.proofs.characters.skip_characters.Given as goal

abbrev pub invariant-skip : goal.invariant-skip
invariant-skip l = record {
  utf8 : IsUtf8 (chars_rest l.rest);
  rest : chars (chars_rest l.rest) ≡ drop l.counter (chars l.text);
  front : List ℕ;
  whole : IsUtf8 front;
  cut : l.text ≡ front ++ chars_rest l.rest;
  first : chars front ≡ take l.counter (chars l.text);
}
