-- The order of texts by the numbers of their characters, which is that of their bytes.
use Rattle.std.specs.Prelude.{◌≡◌}
use Rattle.std.specs.Ordering.{nat_cmp}
use Rattle.std.specs.Cmp.Lexicographic.{slice_cmp}
use Rattle.std.specs.Str.{chars, IsUtf8}
use Rattle.tcl_value.specs.Limits.{Bytes}

abbrev pub BytesOrderCharacters : Type 0
BytesOrderCharacters = (a b : Bytes) → IsUtf8 a → IsUtf8 b →
    slice_cmp nat_cmp a b ≡ slice_cmp nat_cmp (chars a) (chars b)
