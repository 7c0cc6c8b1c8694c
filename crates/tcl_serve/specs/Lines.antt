-- What lines are to the bytes that are read and written.
use Rattle.std.specs.Io.KnownBytes.{Appends, Consumes, IsAtEnd}
use Rattle.std.specs.Prelude.{◌≡◌, ◌≢◌, ◌⊎◌, ℕ, ◌+◌, ◌<◌, ◌≤◌, List, [], ◌∷◌, ◌++◌, length, take}
use Rattle.std.specs.Prelude.{All, Option, Some, None, Result, Ok, Err, IfSome, Vec, codes, decimal}
use Rattle.std.specs.declared.alloc.Global.{Global}
use Rattle.tcl_serve.specs.declared.lines.Ending.{Ending}
use Rattle.tcl_serve.specs.declared.lines.Ending.TheVariants.{Finished, TooLong, CutShort}
use Rattle.tcl_serve.specs.declared.lines.Ending.TheVariants.{Unreadable, Unwritable, Memory}
use Rattle.tcl_serve.specs.declared.lines.Shown.{Shown}
use Rattle.tcl_serve.specs.declared.lines.Step.{Step}
use Rattle.tcl_serve.specs.declared.lines.Step.TheVariants.{More, Whole, AtEnd}

-- the bytes that are left to be read, and those that were written, where they are known; and why no
-- line is read any more, where none is
pub record Traffic : Type 0 where
  pub unread : Option (List ℕ)
  pub written : Option (List ℕ)
  pub ending : Option Ending

-- the most bytes of a line
abbrev pub most_line : ℕ
most_line = 67108864

-- no newline is among the bytes
abbrev pub IsWithin : List ℕ → Type 0
IsWithin bytes = All (λ x. x ≢ 10) bytes

-- bytes are a line, without its newline
abbrev pub IsLine : List ℕ → Type 0
IsLine bytes = IsWithin bytes × (length bytes ≤ most_line)

-- ## Reading

-- what is known to be left begins with more bytes than a line has
abbrev pub BeginsTooLong : List ℕ → Type 0
BeginsTooLong xs = (front : List ℕ) × (rest : List ℕ) × (xs ≡ front ++ rest) × IsWithin front ×
    (most_line < length front)

-- why no line comes, of what is left to be read
abbrev pub IsEnd : Option (List ℕ) → Ending → Type 0
IsEnd unread Finished = IsAtEnd unread
IsEnd unread TooLong = IfSome unread BeginsTooLong
IsEnd unread CutShort = IfSome unread (λ xs. IsWithin xs × (0 < length xs))
IsEnd unread Unreadable = Unit {0}
IsEnd unread Unwritable = Prim.⊥
IsEnd unread Memory = Unit {0}

-- A line is read, and its newline.
pub record Hears (old : Traffic) (line : List ℕ) (new : Traffic) : Type 0 where
  pub unended : old.ending ≡ None
  pub is_line : IsLine line
  pub unread : Consumes old.unread new.unread (line ++ 10 ∷ [])
  pub written : new.written ≡ old.written
  pub stays : new.ending ≡ None

-- None is read, for this reason.
pub record Ends (old : Traffic) (e : Ending) (new : Traffic) : Type 0 where
  pub unended : old.ending ≡ None
  pub end : IsEnd old.unread e
  pub written : new.written ≡ old.written
  pub ending : new.ending ≡ Some e

abbrev pub HearsOrEnds : Traffic → Result (Vec ℕ Global) Ending → Traffic → Type 0
HearsOrEnds old (Ok line) new = Hears old line.items new
HearsOrEnds old (Err e) new = Ends old e new

-- ## Writing

-- what is said where lines can be written
abbrev pub IfWritable : Option Ending → Type 0 → Type 0
IfWritable (Some Unwritable) P = Unit {0}
IfWritable e P = P

-- A line is written, and its newline; or it can't be, which is the end.
pub record Says (old : Traffic) (line : List ℕ) (new : Traffic) : Type 0 where
  pub unread : new.unread ≡ old.unread
  pub written : IfWritable new.ending (Appends old.written new.written (line ++ 10 ∷ []))
  pub ending : (new.ending ≡ old.ending) ⊎ (new.ending ≡ Some Unwritable)

-- an id as it is written
abbrev pub id_text : Option ℕ → List ℕ
id_text (Some id) = decimal id
id_text None = codes "null"

-- the line of a message for which memory was wanted
abbrev pub out_of_memory : Option ℕ → List ℕ
out_of_memory id = codes "{\"error\":{\"number\":500,\"text\":\"out of memory\"},\"id\":" ++
    id_text id ++ codes "}"

-- ## The end

abbrev pub status_of : Ending → ℕ
status_of Finished = 0
status_of Unwritable = 1
status_of TooLong = 2
status_of CutShort = 2
status_of Unreadable = 2
status_of Memory = 4

-- ## Steps

-- a part of a line, and its newline where that was met
abbrev pub through : Step → List ℕ → List ℕ
through More part = part
through Whole part = part ++ 10 ∷ []
through AtEnd part = part

-- what bytes show of a line
pub record Looks (bytes : List ℕ) (shown : Shown) : Type 0 where
  pub len : shown.len ≤ shown.used
  pub used : shown.used ≤ length bytes
  pub within : IsWithin (take shown.len bytes)
  pub taken : take shown.used bytes ≡ through shown.step (take shown.len bytes)
  pub at_end : shown.step ≡ AtEnd → (shown.len ≡ 0) × (bytes ≡ [])

-- More of a line is read, that began with `before`.
pub record ReadsMore (old new : Option (List ℕ)) (before after : List ℕ) (step : Step) : Type 0
  where
    pub more : List ℕ
    pub after_is : after ≡ before ++ more
    pub within : IsWithin more
    pub short : length after ≤ most_line
    pub unread : Consumes old new (through step more)
    pub at_end : step ≡ AtEnd → (more ≡ []) × IsAtEnd old

-- what is known to be left makes the line too long that has `before` before it
abbrev pub PassesLimit : Option (List ℕ) → List ℕ → Type 0
PassesLimit unread before = IfSome unread (λ xs. (front : List ℕ) × (rest : List ℕ) ×
    (xs ≡ front ++ rest) × IsWithin front × (most_line < length before + length front))

abbrev pub Reads : Option (List ℕ) → Option (List ℕ) → List ℕ → List ℕ → Result Step Ending →
    Type 0
Reads old new before after (Ok step) = ReadsMore old new before after step
Reads old new before after (Err e) = (e ≡ Memory) ⊎ (e ≡ Unreadable) ⊎
    ((e ≡ TooLong) × PassesLimit old before)

-- why no line comes behind these bytes of one, where nothing is left
abbrev pub IsRest : List ℕ → Ending → Type 0
IsRest line e = ((e ≡ Finished) × (line ≡ [])) ⊎ ((e ≡ CutShort) × (0 < length line))

-- a whole line, or why none came
abbrev pub ReadsLine : Option (List ℕ) → Option (List ℕ) → Result (Vec ℕ Global) Ending → Type 0
ReadsLine old new (Ok line) = IsLine line.items × Consumes old new (line.items ++ 10 ∷ [])
ReadsLine old new (Err e) = IsEnd old e
