-- Lists in texts: the list that a text spells, and the fault of a text that spells none.
use Rattle.std.specs.Prelude.{◌≡◌, ◌≢◌, ℕ, zero, suc, ◌-◌, Bool, true, false, not, ◌||◌, cond, ◌==◌}
use Rattle.std.specs.Prelude.{List, [], ◌∷◌, ◌++◌, length, take, Some, None, Ok, Err, ◌⊎◌, ◌↔◌}
use Rattle.std.specs.declared.option.Option.{Option}
use Rattle.std.specs.declared.result.Result.{Result}
use Rattle.std.specs.Option.{option_and_then}
use Rattle.std.specs.List.{list_all, take_while}
use Rattle.std.specs.Int.{is_in_range}
use Rattle.std.specs.Str.{chars, encode_utf8_all}
use Rattle.tcl_text.specs.Backslash.{Escape, escape, escape_of}
use Rattle.tcl_text.specs.declared.list.Braces.{Braces}
use Rattle.tcl_text.specs.declared.list.ListFault.{ListFault}
use Rattle.tcl_text.specs.declared.list.ListFault.TheVariants.{UnmatchedBrace, UnmatchedQuote}
use Rattle.tcl_text.specs.declared.list.ListFault.TheVariants.{AfterBrace, AfterQuote}

-- White space: space, and 9 to 13, which are tab, newline, vertical tab, form feed and carriage
-- return.
abbrev pub is_white : ℕ → Bool
is_white b = (b == 32) || is_in_range 9 13 b

abbrev pub is_quote : ℕ → Bool
is_quote b = b == 34

abbrev pub IsWhite : List ℕ → Type 0
IsWhite s = list_all is_white s ≡ true

-- whether a text is at its end, or at a byte that passes
abbrev pub stops : (ℕ → Bool) → List ℕ → Bool
stops stop [] = true
stops stop (b ∷ s) = stop b

-- whether an element may end before this: at the end, or at white space
abbrev pub ends : List ℕ → Bool
ends s = stops is_white s

-- Braces as they are counted, 123 and 125: how many are open, and whether a backslash, 92, has just
-- been passed, so that the next character is skipped.
abbrev pub braces : ℕ → Bool → Braces
braces depth skips = record { depth = depth; skips = skips }

abbrev pub none_open : Braces
none_open = braces 0 false

-- a brace less, where one is open
abbrev pub closed : ℕ → Option Braces
closed zero = None
closed (suc n) = Some (braces n false)

-- what a byte makes of the count: nothing where it closes a brace that isn't open
abbrev pub count : Braces → ℕ → Option Braces
count b c =
    cond b.skips (Some (braces b.depth false))
    (cond (c == 92) (Some (braces b.depth true))
    (cond (c == 123) (Some (braces (suc b.depth) false))
    (cond (c == 125) (closed b.depth)
    (Some (braces b.depth false)))))

unfoldable pub count_all : List ℕ → Braces → Option Braces
count_all [] b = Some b
count_all (c ∷ s) b = option_and_then (count_all s) (count b c)

-- The braces of a text balance, and never more are closed than opened; no backslash at its end is
-- left over.
abbrev pub IsBalanced : List ℕ → Type 0
IsBalanced x = count_all x none_open ≡ Some none_open

-- a unit at the head of a text: a byte that isn't a backslash, or a backslash with its sequence
abbrev pub unit : ℕ → List ℕ → Escape
unit b s = cond (b == 92) (escape s) (escape_of (b ∷ []) 0)

-- The text s, with `after` behind it, is units that mean x, none of them a bare byte that stops.
-- A sequence has all bytes that the whole text lets it have.
pub data Units (stop : ℕ → Bool) (after : List ℕ) : List ℕ → List ℕ → Type 0 where
  none : Units stop after [] []
  byte : (b : ℕ) (x s : List ℕ) → b ≢ 92 → stop b ≡ false → Units stop after x s →
      Units stop after (b ∷ x) (b ∷ s)
  sequence : (own x s m t : List ℕ) → t ≡ own ++ s → (escape (t ++ after)).taken ≡ length own →
      m ≡ (escape (t ++ after)).meaning ++ x → Units stop after x s → Units stop after m (92 ∷ t)

-- s, with `after` behind it, is one element, x: in braces, in quotes (34), or bare.
pub data Elem (x s after : List ℕ) : Type 0 where
  braced : s ≡ 123 ∷ (x ++ 125 ∷ []) → IsBalanced x → Elem x s after
  quoted : (t : List ℕ) → s ≡ 34 ∷ (t ++ 34 ∷ []) → Units is_quote (34 ∷ after) x t → Elem x s after
  bare : (b : ℕ) (t : List ℕ) → s ≡ b ∷ t → b ≢ 123 → b ≢ 34 → Units is_white after x (b ∷ t) →
      Elem x s after

-- s is perhaps white space, the element x, which may end where it does, and a rest of which `Goes`
-- holds.
pub record Begins (x s : List ℕ) (Goes : List ℕ → Type 0) : Type 0 where
  pub white : List ℕ
  pub elem : List ℕ
  pub rest : List ℕ
  pub whole : s ≡ white ++ (elem ++ rest)
  pub is_white : IsWhite white
  pub is_elem : Elem x elem rest
  pub is_end : ends rest ≡ true
  pub goes : Goes rest

-- The text s spells the list: its elements in order, with white space between any two and perhaps
-- at both ends.
abbrev pub Spells : List (List ℕ) → List ℕ → Type 0
Spells [] s = IsWhite s
Spells (x ∷ l) s = Begins x s (Spells l)

-- what an error shows of the text behind an element: up to white space, and at most 20 characters
abbrev pub offending : List ℕ → List ℕ
offending s = encode_utf8_all (take 20 (chars (take_while (λ b. not (is_white b)) s)))

-- s begins with an element that isn't closed, or that is closed and followed by neither white space
-- nor the end.
abbrev pub Breaks : ListFault → List ℕ → Type 0
Breaks UnmatchedBrace s = (t : List ℕ) × (s ≡ 123 ∷ t) ×
    ((x after : List ℕ) → t ≡ x ++ 125 ∷ after → IsBalanced x → ⊥)
Breaks UnmatchedQuote s = (t : List ℕ) × (s ≡ 34 ∷ t) ×
    ((x u after : List ℕ) → t ≡ u ++ 34 ∷ after → Units is_quote (34 ∷ after) x u → ⊥)
Breaks (AfterBrace y) s = (x : List ℕ) × (after : List ℕ) × (s ≡ 123 ∷ (x ++ 125 ∷ after)) ×
    IsBalanced x × (ends after ≡ false) × (y ≡ offending after)
Breaks (AfterQuote y) s = (x : List ℕ) × (u : List ℕ) × (after : List ℕ) ×
    (s ≡ 34 ∷ (u ++ 34 ∷ after)) × Units is_quote (34 ∷ after) x u × (ends after ≡ false) ×
    (y ≡ offending after)

-- After these elements, each followed by white space, comes one that breaks.
abbrev pub FaultAfter : List (List ℕ) → ListFault → List ℕ → Type 0
FaultAfter [] f s = (white : List ℕ) × (rest : List ℕ) × (s ≡ white ++ rest) × IsWhite white ×
    Breaks f rest
FaultAfter (x ∷ l) f s = Begins x s (FaultAfter l f)

abbrev pub HasFault : List ℕ → ListFault → Type 0
HasFault s f = (l : List (List ℕ)) × FaultAfter l f s

-- The same as functions, which decide it from the left.

abbrev pub with_byte : ℕ → Option (List ℕ × List ℕ) → Option (List ℕ × List ℕ)
with_byte c None = None
with_byte c (Some p) = Some (c ∷ p.0, p.1)

abbrev pub next_brace : Option Braces → List ℕ → ℕ → (Braces → Option (List ℕ × List ℕ)) →
    Option (List ℕ × List ℕ)
next_brace None s c go = Some ([], s)
next_brace (Some b) s c go = with_byte c (go b)

-- the text before the brace that closes one brace more than are open, and the text behind it
unfoldable pub close_brace : List ℕ → Braces → Option (List ℕ × List ℕ)
close_brace [] b = None
close_brace (c ∷ s) b = next_brace (count b c) s c (close_brace s)

abbrev pub with_meaning : List ℕ → List ℕ × List ℕ → List ℕ × List ℕ
with_meaning m p = (m ++ p.0, p.1)

-- what the units up to the first byte that stops mean, and the text from that byte on; the bytes
-- that are skipped belong to a sequence
unfoldable pub units : (ℕ → Bool) → List ℕ → ℕ → List ℕ × List ℕ
units stop [] skip = ([], [])
units stop (b ∷ s) (suc skip) = units stop s skip
units stop (b ∷ s) zero = cond (stop b) ([], b ∷ s)
    (with_meaning (unit b s).meaning (units stop s (unit b s).taken))

-- an element and what follows it, which is white space or the end
abbrev pub after_brace : Option (List ℕ × List ℕ) → Result (List ℕ × List ℕ) ListFault
after_brace None = Err UnmatchedBrace
after_brace (Some p) = cond (ends p.1) (Ok p) (Err (AfterBrace (offending p.1)))

abbrev pub after_quote : List ℕ → List ℕ → Result (List ℕ × List ℕ) ListFault
after_quote x [] = Err UnmatchedQuote
after_quote x (q ∷ s) = cond (ends s) (Ok (x, s)) (Err (AfterQuote (offending s)))

unfoldable pub element_at : List ℕ → Result (List ℕ × List ℕ) ListFault
element_at [] = Ok ([], [])
element_at (b ∷ s) =
    cond (b == 123) (after_brace (close_brace s none_open))
    (cond (b == 34) (after_quote (units is_quote s 0).0 (units is_quote s 0).1)
    (Ok (units is_white (b ∷ s) 0)))

abbrev pub with_element : List ℕ → Result (List (List ℕ)) ListFault →
    Result (List (List ℕ)) ListFault
with_element x (Ok l) = Ok (x ∷ l)
with_element x (Err f) = Err f

abbrev pub next_element : Result (List ℕ × List ℕ) ListFault →
    (List ℕ → Result (List (List ℕ)) ListFault) → Result (List (List ℕ)) ListFault
next_element (Ok p) go = with_element p.0 (go p.1)
next_element (Err f) go = Err f

-- the elements of a text behind the bytes that are skipped, which belong to an element
unfoldable pub elements : List ℕ → ℕ → Result (List (List ℕ)) ListFault
elements [] skip = Ok []
elements (b ∷ s) (suc skip) = elements s skip
elements (b ∷ s) zero = cond (is_white b) (elements s 0)
    (next_element (element_at (b ∷ s)) (λ rest. elements s (length s - length rest)))

-- the list that a text spells, or the fault that it has
abbrev pub list_of : List ℕ → Result (List (List ℕ)) ListFault
list_of s = elements s 0

-- What the definitions promise: each text has just one of a list that it spells and a fault, and
-- just one such list or fault.
abbrev pub Decided : Type 0
Decided = (s : List ℕ) → ((l : List (List ℕ)) × Spells l s) ⊎ ((f : ListFault) × HasFault s f)

abbrev pub OneList : Type 0
OneList = (l m : List (List ℕ)) (s : List ℕ) → Spells l s → Spells m s → l ≡ m

abbrev pub OneFault : Type 0
OneFault = (f g : ListFault) (s : List ℕ) → HasFault s f → HasFault s g → f ≡ g

abbrev pub NeverBoth : Type 0
NeverBoth = (l : List (List ℕ)) (f : ListFault) (s : List ℕ) → Spells l s → HasFault s f → ⊥

-- The functions say what the relations say.
abbrev pub GivesList : Type 0
GivesList = (l : List (List ℕ)) (s : List ℕ) → (list_of s ≡ Ok l) ↔ Spells l s

abbrev pub GivesFault : Type 0
GivesFault = (f : ListFault) (s : List ℕ) → (list_of s ≡ Err f) ↔ HasFault s f
