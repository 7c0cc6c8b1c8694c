-- The names that scripts write for variables.
use Rattle.std.specs.Prelude.{ℕ, Bool, true, false, ◌&&◌, ◌||◌, not, ◌==◌, List, [], ◌∷◌, Option}
use Rattle.std.specs.Prelude.{Some, None, is_some, if◌then◌else◌}

abbrev pub Text : Type 0
Text = List ℕ

-- A name that was read: of level 0 or of the level where it is written, and of an element where
-- there is a key.
pub record Name : Type 0 where
  pub is_global : Bool
  pub base : Text
  pub key : Option Text

abbrev pub behind : ℕ → Option Text → Option Text
behind b None = None
behind b (Some rest) = Some (b ∷ rest)

-- the text before a close parenthesis at its end
unfoldable pub closed : Text → Option Text
closed [] = None
closed (b ∷ []) = if b == 41 then Some [] else None
closed (b ∷ c ∷ rest) = behind b (closed (c ∷ rest))

abbrev pub behind_first : ℕ → Option (Text × Text) → Option (Text × Text)
behind_first b None = None
behind_first b (Some p) = Some (b ∷ p.0, p.1)

-- what stands before the first open parenthesis, and what after it
unfoldable pub opened : Text → Option (Text × Text)
opened [] = None
opened (b ∷ rest) = if b == 40 then Some ([], rest) else behind_first b (opened rest)

abbrev pub opened_in : Option Text → Option (Text × Text)
opened_in None = None
opened_in (Some rest) = opened rest

-- the array and the key of an element's name: `a(k)`, with the first open parenthesis in it and a
-- close parenthesis at its end
unfoldable pub element_of : Text → Option (Text × Text)
element_of x = opened_in (closed x)

-- whether two colons stand side by side, where one may stand just before the text
unfoldable pub colons_after : Bool → Text → Bool
colons_after before [] = false
colons_after before (b ∷ rest) = (before && (b == 58)) || colons_after (b == 58) rest

-- whether two colons stand side by side
abbrev pub has_colons : Text → Bool
has_colons x = colons_after false x

-- what follows a leading colon
unfoldable pub after_colon : Text → Option Text
after_colon [] = None
after_colon (b ∷ rest) = if b == 58 then Some rest else None

abbrev pub after_colon_in : Option Text → Option Text
after_colon_in None = None
after_colon_in (Some rest) = after_colon rest

-- what follows two leading colons
unfoldable pub after_colons : Text → Option Text
after_colons x = after_colon_in (after_colon x)

abbrev pub without_colons : Bool → Text → Option Text → Option Name
without_colons g base key = if has_colons base then None
    else Some (record { is_global = g; base = base; key = key })

abbrev pub of_level : Option Text → Text → Option Text → Option Name
of_level None base key = without_colons false base key
of_level (Some rest) base key = without_colons true rest key

abbrev pub name_or_element : Option (Text × Text) → Text → Option Name
name_or_element None x = of_level (after_colons x) x None
name_or_element (Some p) x = of_level (after_colons p.0) p.0 (Some p.1)

-- The name that a text is. Two leading colons make it one of level 0, and no other two may stand
-- before its key.
unfoldable pub name_of : Text → Option Name
name_of x = name_or_element (element_of x) x

-- a name that a procedure's parameter or a link may have: neither an element's, nor with two colons
-- in it
unfoldable pub is_plain : Text → Bool
is_plain x = not (is_some (element_of x)) && not (has_colons x)

-- whether a text holds neither a colon nor a close parenthesis
unfoldable pub is_simple : Text → Bool
is_simple [] = true
is_simple (b ∷ rest) = not ((b == 58) || (b == 41)) && is_simple rest
