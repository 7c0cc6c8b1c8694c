-- What the length of a text as an element of a list depends on, byte by byte.
use Rattle.std.specs.Prelude.{ℕ, ◌+◌, ◌<◌, ◌^◌, Bool, false, not, ◌||◌, ◌&&◌, cond, ◌==◌, List, []}
use Rattle.std.specs.Prelude.{◌∷◌, Some, None}
use Rattle.std.specs.declared.option.Option.{Option}
use Rattle.std.specs.Option.{option_and_then}
use Rattle.tcl_text.specs.declared.list.Braces.{Braces}
use Rattle.tcl_text.specs.declared.list_writing.Form.{Form}
use Rattle.tcl_text.specs.declared.list_writing.Form.TheVariants.{Plain, Braced, Escaped}
use Rattle.tcl_text.specs.declared.measured.Tally.{Tally}
use Rattle.tcl_text.specs.Lists.{none_open, count}
use Rattle.tcl_text.specs.Writing.{is_special, all_closed}

abbrev pub counted : Option Braces → ℕ → Option Braces
counted found c = option_and_then (λ b. count b c) found

-- what one more byte makes of a tally
abbrev pub tallied : Tally → ℕ → Tally
tallied t b = record {
  special = t.special + cond (is_special b) 1 0;
  braces = counted t.braces b;
  last = b;
  joins = t.joins || ((t.last == 92) && (b == 10));
}

-- what the bytes of a text make of a tally, from the left
abbrev pub tally_with : Tally → List ℕ → Tally
tally_with t [] = t
tally_with t (b ∷ x) = tally_with (tallied t b) x

-- the tally of a text
abbrev pub tally_of : List ℕ → Tally
tally_of x = tally_with (record { special = 0; braces = Some none_open; last = 0; joins = false }) x

-- whether a text with a tally may stand in braces
abbrev pub fits_by : Tally → Bool
fits_by t = (all_closed t.braces && not (t.last == 92)) && not t.joins

-- how a text with a tally is written, by its length and by whether it is a first element that
-- begins with `#`
abbrev pub form_by : Tally → ℕ → Bool → Form
form_by t len comment =
    cond (len == 0) Braced
    (cond ((t.special == 0) && not comment) Plain
    (cond (fits_by t) Braced Escaped))

abbrev pub depth_of : Option Braces → ℕ
depth_of None = 0
depth_of (Some b) = b.depth

-- so many bytes more can be counted
pub record HasRoom (t : Tally) (n : ℕ) : Type 0 where
  pub special : t.special + n < 2 ^ 64
  pub depth : depth_of t.braces + n < 2 ^ 64
