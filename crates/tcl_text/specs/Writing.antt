-- The text that a list is written as.
use Rattle.std.specs.Prelude.{◌≡◌, ℕ, Bool, true, false, not, ◌||◌, ◌&&◌, cond, ◌==◌, List, [], ◌∷◌}
use Rattle.std.specs.Prelude.{◌++◌, Some, None, codes}
use Rattle.std.specs.declared.option.Option.{Option}
use Rattle.std.specs.List.{list_any, flat_map}
use Rattle.tcl_text.specs.declared.list.Braces.{Braces}
use Rattle.tcl_text.specs.declared.list.ListFault.{ListFault}
use Rattle.tcl_text.specs.declared.list.ListFault.TheVariants.{UnmatchedBrace, UnmatchedQuote}
use Rattle.tcl_text.specs.declared.list.ListFault.TheVariants.{AfterBrace, AfterQuote}
use Rattle.tcl_text.specs.declared.list_writing.Form.{Form}
use Rattle.tcl_text.specs.declared.list_writing.Form.TheVariants.{Plain, Braced, Escaped}
use Rattle.tcl_text.specs.Lists.{is_white, none_open, count_all, Spells}

-- The special characters: white space, the braces 123 and 125, the brackets 91 and 93, `$` (36),
-- `;` (59), the quote (34) and the backslash (92).
abbrev pub is_special : ℕ → Bool
is_special b = is_white b || ((b == 123) ||
    ((b == 125) || ((b == 91) ||
    ((b == 93) || ((b == 36) || ((b == 59) || ((b == 34) || (b == 92))))))))

-- whether a text begins with `#`, which is 35
abbrev pub begins_with_hash : List ℕ → Bool
begins_with_hash [] = false
begins_with_hash (b ∷ s) = b == 35

-- the last byte of a text that stands behind the byte p
abbrev pub last_byte : ℕ → List ℕ → ℕ
last_byte p [] = p
last_byte p (b ∷ s) = last_byte b s

-- whether a backslash stands right before a newline, in a text behind the byte p
abbrev pub joins_lines : ℕ → List ℕ → Bool
joins_lines p [] = false
joins_lines p (b ∷ s) = ((p == 92) && (b == 10)) || joins_lines b s

abbrev pub all_closed : Option Braces → Bool
all_closed None = false
all_closed (Some b) = (b.depth == 0) && not b.skips

-- Whether a text may stand in braces: its braces balance as they are counted in reading, it doesn't
-- end in a backslash and holds no backslash before a newline.
abbrev pub fits_braces : List ℕ → Bool
fits_braces x = (all_closed (count_all x none_open) && not (last_byte 0 x == 92)) && not
    (joins_lines 0 x)

-- whether the element is the first of its list and begins with `#`
abbrev pub is_comment : Bool → List ℕ → Bool
is_comment first x = first && begins_with_hash x

abbrev pub has_special : List ℕ → Bool
has_special x = list_any is_special x

-- how an element is written: in braces where it is empty, as it is where nothing in it is special,
-- in braces where it fits, and with backslashes else
abbrev pub form_of : Bool → List ℕ → Form
form_of first [] = Braced
form_of first (b ∷ s) = cond (has_special (b ∷ s) || is_comment first (b ∷ s))
    (cond (fits_braces (b ∷ s)) Braced Escaped) Plain

-- what stands behind the backslash of a special character: `n`, `t`, `v`, `f` and `r` for white
-- space other than a space, or the character
abbrev pub letter_of : ℕ → ℕ
letter_of b = cond (b == 10) 110
    (cond (b == 9) 116 (cond (b == 11) 118 (cond (b == 12) 102 (cond (b == 13) 114 b))))

abbrev pub escaped_byte : ℕ → List ℕ
escaped_byte b = cond (is_special b) (92 ∷ letter_of b ∷ []) (b ∷ [])

abbrev pub hash_mark : Bool → List ℕ
hash_mark true = 92 ∷ []
hash_mark false = []

abbrev pub in_form : Form → Bool → List ℕ → List ℕ
in_form Plain comment x = x
in_form Braced comment x = 123 ∷ (x ++ 125 ∷ [])
in_form Escaped comment x = hash_mark comment ++ flat_map escaped_byte x

-- an element as it is written
unfoldable pub written : Bool → List ℕ → List ℕ
written first x = in_form (form_of first x) (is_comment first x) x

-- a list as it is written: its elements with one space between any two
abbrev pub written_list : List (List ℕ) → List ℕ
written_list [] = []
written_list (x ∷ l) = written true x ++ flat_map (λ y. 32 ∷ written false y) l

-- the text begins with the other
abbrev pub Extends : List ℕ → List ℕ → Type 0
Extends old new = (more : List ℕ) × (new ≡ old ++ more)

-- What is written spells the list.
abbrev pub WrittenSpells : Type 0
WrittenSpells = (l : List (List ℕ)) → Spells l (written_list l)

-- what an error says
abbrev pub shown_after : List ℕ → List ℕ → List ℕ
shown_after kind x = codes "list element in " ++ kind ++ codes " followed by \"" ++ x ++ codes
    "\" instead of space"

abbrev pub fault_message : ListFault → List ℕ
fault_message UnmatchedBrace = codes "unmatched open brace in list"
fault_message UnmatchedQuote = codes "unmatched open quote in list"
fault_message (AfterBrace x) = shown_after (codes "braces") x
fault_message (AfterQuote x) = shown_after (codes "quotes") x
