-- What a specifier makes of a value.
use Rattle.std.specs.Prelude.{ℕ, suc, ◌-◌, ◌^◌, ℤ, pos, negsuc, ◌&&◌, ◌||◌, nat_lt, nat_le, Bool}
use Rattle.std.specs.Prelude.{true, false, if◌then◌else◌, List, [], ◌∷◌, ◌++◌, length, take}
use Rattle.std.specs.Prelude.{unsigned_abs, Ok, Err, Some, None, codes}
use Rattle.std.specs.declared.option.Option.{Option}
use Rattle.std.specs.Char.{encode_utf8}
use Rattle.std.specs.Fmt.{decimal, digits}
use Rattle.std.specs.Str.{chars}
use Rattle.tcl_text.specs.declared.integer.Integers.{Integers}
use Rattle.tcl_words.specs.Outcomes.{Outcome, next}
use Rattle.tcl_words.specs.Faults.{quoted}
use Rattle.tcl_words.specs.Words.{integer_word}
use Rattle.tcl_characters.specs.Texts.{text_of, copies}
use Rattle.tcl_format.specs.declared.specifier.Radix.{Radix}
use Rattle.tcl_format.specs.declared.specifier.Radix.TheVariants.{Binary, Octal, Hexadecimal}
use Rattle.tcl_format.specs.declared.specifier.Radix.TheVariants.{UpperHexadecimal}
use Rattle.tcl_format.specs.declared.specifier.Kind.{Kind}
use Rattle.tcl_format.specs.declared.specifier.Kind.TheVariants.{Decimal, Pattern, Character, Text}
use Rattle.tcl_format.specs.declared.specifier.Specifier.{Specifier}

-- ---- padding

-- how many characters are missing to the width
abbrev pub room : ℕ → List ℕ → List ℕ → ℕ
room width sign body = width - length sign - length (chars body)

-- A sign and a body, with blanks or zeros where the width asks for more characters: blanks behind
-- them by the flag -, zeros between them by the flag 0 if they are a number, else blanks before
-- them.
abbrev pub padded : Specifier → Bool → List ℕ → List ℕ → List ℕ
padded s numeric sign body =
    if s.flags.left then sign ++ (body ++ copies (room s.width sign body) (32 ∷ []))
    else (if s.flags.zeros && numeric
    then sign ++ (copies (room s.width sign body) (48 ∷ []) ++ body)
    else copies (room s.width sign body) (32 ∷ []) ++ (sign ++ body))

-- ---- numbers

abbrev pub sign_of : Bool → ℤ → List ℕ
sign_of plus (pos n) = if plus then 43 ∷ [] else []
sign_of plus (negsuc n) = 45 ∷ []

-- the number below 2 ^ 64 that has the same 64 bits
abbrev pub pattern : ℤ → ℕ
pattern (pos n) = n
pattern (negsuc n) = 2 ^ 64 - suc n

abbrev pub digits_in : Radix → ℕ → List ℕ
digits_in Binary n = digits 2 false n
digits_in Octal n = digits 8 false n
digits_in Hexadecimal n = digits 16 false n
digits_in UpperHexadecimal n = digits 16 true n

-- A sign and digits. A precision asks for at least so many digits, with zeros in front of them, and
-- leaves the flag 0 out of account.
abbrev pub numbered : Option ℕ → Specifier → List ℕ → List ℕ → List ℕ
numbered None s sign digits = padded s true sign digits
numbered (Some least) s sign digits = padded s false sign
    (copies (least - length digits) (48 ∷ []) ++ digits)

-- ---- characters

abbrev pub is_scalar : ℕ → Bool
is_scalar n = nat_lt n 0xD800 || (nat_le 0xE000 n && nat_le n 0x10FFFF)

-- the character of a number
abbrev pub scalar_of : ℤ → Option ℕ
scalar_of (pos n) = if is_scalar n then Some n else None
scalar_of (negsuc n) = None

-- what is told of the characters behind a `%`
abbrev pub bad_format : List ℕ → List ℕ
bad_format cs = quoted (codes "bad format \"%") (text_of cs)

abbrev pub character_or : Specifier → List ℕ → Option ℕ → Outcome
character_or s cs None = Err (bad_format cs)
character_or s cs (Some c) = Ok (padded s false [] (encode_utf8 c))

-- ---- texts

-- a text of at most so many characters
abbrev pub cut : Option ℕ → List ℕ → List ℕ
cut None text = text
cut (Some n) text = text_of (take n (chars text))

-- ---- each kind; `cs` are the characters of the specifier

abbrev pub piece : Integers → Specifier → List ℕ → Kind → List ℕ → Outcome
piece style s cs Decimal value = next (integer_word style value)
    (λ n. Ok (numbered s.precision s (sign_of s.flags.plus n) (decimal (unsigned_abs n))))
piece style s cs (Pattern radix) value = next (integer_word style value)
    (λ n. Ok (numbered s.precision s [] (digits_in radix (pattern n))))
piece style s cs Character value = next (integer_word style value)
    (λ n. character_or s cs (scalar_of n))
piece style s cs Text value = Ok (padded s false [] (cut s.precision value))
