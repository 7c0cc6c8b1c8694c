-- Backslash sequences: what a backslash means with the bytes that follow it.
use Rattle.std.specs.Prelude.{ℕ, zero, suc, Bool, ◌&&◌, ◌||◌, cond, nat_le, ◌==◌, List, [], ◌∷◌}
use Rattle.std.specs.Prelude.{length, take, drop}
use Rattle.std.specs.List.{prefix_len}
use Rattle.std.specs.Int.{is_in_range}
use Rattle.std.specs.Char.{encode_utf8, is_digit}
use Rattle.std.specs.Str.{continuation_len}
use Rattle.std.specs.Str.Parse.{digits_value}

-- What a sequence means, one character in UTF-8, and how many of the bytes behind the backslash
-- belong to it.
pub record Escape : Type 0 where
  pub meaning : List ℕ
  pub taken : ℕ

abbrev pub escape_of : List ℕ → ℕ → Escape
escape_of meaning taken = record { meaning = meaning; taken = taken }

-- whether the first n bytes are digits of the base, which stand for no more than `greatest`
abbrev pub is_number : ℕ → ℕ → ℕ → List ℕ → Bool
is_number base greatest n s = nat_le n (prefix_len (λ b. is_digit b base) s) && nat_le
    (digits_value base (take n s)) greatest

-- how many digits of the base stand at the head: the most that are a number up to `greatest`, and
-- no more than the first argument
unfoldable pub number_len : ℕ → ℕ → ℕ → List ℕ → ℕ
number_len zero base greatest s = 0
number_len (suc n) base greatest s = cond (is_number base greatest (suc n) s) (suc n)
    (number_len n base greatest s)

-- the value of that number
abbrev pub number_value : ℕ → ℕ → ℕ → List ℕ → ℕ
number_value width base greatest s = digits_value base (take (number_len width base greatest s) s)

-- the character with a number, or U+FFFD where a surrogate has it
abbrev pub character : ℕ → ℕ
character n = cond (is_in_range 0xD800 0xDFFF n) 0xFFFD n

-- a letter and a number in base 16, or the letter itself where there is no digit
abbrev pub hexadecimal : ℕ → ℕ → ℕ → List ℕ → Escape
hexadecimal letter width greatest s =
    cond (number_len width 16 greatest s == 0) (escape_of (letter ∷ []) 1)
    (escape_of (encode_utf8 (character (number_value width 16 greatest s)))
    (suc (number_len width 16 greatest s)))

abbrev pub is_blank : ℕ → Bool
is_blank b = (b == 32) || (b == 9)

-- By the first character c and the text s behind it: an octal digit begins a number of up to three.
-- 97 is 'a', 98 'b', 102 'f', 110 'n', 114 'r', 116 't', 118 'v', 10 newline, 120 'x', 117 'u' and
-- 85 'U'.
abbrev pub escape_by : ℕ → List ℕ → Escape → Escape
escape_by c s itself =
    cond (is_digit c 8) (escape_of (encode_utf8 (character (number_value 3 8 255 (c ∷ s))))
    (number_len 3 8 255 (c ∷ s)))
    (cond (c == 97) (escape_of (7 ∷ []) 1)
    (cond (c == 98) (escape_of (8 ∷ []) 1)
    (cond (c == 102) (escape_of (12 ∷ []) 1)
    (cond (c == 110) (escape_of (10 ∷ []) 1)
    (cond (c == 114) (escape_of (13 ∷ []) 1)
    (cond (c == 116) (escape_of (9 ∷ []) 1)
    (cond (c == 118) (escape_of (11 ∷ []) 1)
    (cond (c == 10) (escape_of (32 ∷ []) (suc (prefix_len is_blank s)))
    (cond (c == 120) (hexadecimal 120 2 255 s)
    (cond (c == 117) (hexadecimal 117 4 0xFFFF s)
    (cond (c == 85) (hexadecimal 85 8 0x10_FFFF s)
    itself)))))))))))

-- how many bytes the first character has
abbrev pub first_len : ℕ → ℕ
first_len b = suc (continuation_len b)

-- The sequence of a backslash and what follows it. A backslash at the end of a text is itself.
unfoldable pub escape : List ℕ → Escape
escape [] = escape_of (92 ∷ []) 0
escape (b ∷ s) = escape_by b s
    (escape_of (take (first_len b) (b ∷ s)) (length (take (first_len b) (b ∷ s))))

-- what follows the sequence
abbrev pub escape_rest : List ℕ → List ℕ
escape_rest s = drop (escape s).taken s
