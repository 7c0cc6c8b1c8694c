-- The commands that read and change variables.
use Rattle.std.specs.Prelude.{ℕ, ℤ, pos, negsuc, Bool, true, false, List, [], ◌∷◌, ◌++◌, Option}
use Rattle.std.specs.Prelude.{Some, None, Result, Ok, Err, codes, ◌==◌, ◌+ℤ◌, ◌-◌, nat_le, cond}
use Rattle.std.specs.Fmt.{signed_decimal}
use Rattle.std.specs.Str.{bytes_eq}
use Rattle.tcl_core.specs.Paths.{Text}
use Rattle.tcl_core.specs.Endings.{ok}
use Rattle.tcl_core.specs.Programs.Prog.{done}
use Rattle.tcl_frames.specs.Chain.{Chain, read, after_set, after_unset, after_link}
use Rattle.tcl_frames.specs.Names.{name_of, Name}
use Rattle.tcl_frames.specs.Places.{current}
use Rattle.tcl_frames.specs.declared.fault.FrameFault.{FrameFault}
use Rattle.tcl_frames.specs.declared.fault.FrameFault.TheVariants as fault
use Rattle.tcl_text.specs.declared.integer.Integers.{Integers}
use Rattle.tcl_text.specs.Numbers.{integer_of, in_64_bits, fits_64}
use Rattle.tcl_text.specs.Messages as messages
use Rattle.tcl_tree.specs.Own.{Own}
use Rattle.tcl_language.specs.Instructions.{Program, either, fails, grown, or_fails, look, change}
use Rattle.tcl_language.specs.Instructions.{with_chain}
use Rattle.tcl_language.specs.Faults.{frame_message, integer_message, wrong_args, bad_level}

-- on with the own part whose chain is this, or the error that says why there is none
abbrev pub chain_becomes : Own → Result Chain FrameFault → Program → Program
chain_becomes own given k = or_fails frame_message given (λ chain. change (with_chain own chain) k)

-- a variable is set, and on
abbrev pub sets : Text → Text → Program → Program
sets name value k = look (λ n. chain_becomes n.own (after_set n.own.chain name value) k)

-- `set varName ?newValue?`
abbrev pub set : List Text → Program
set (name ∷ []) = look (λ n. or_fails frame_message (read n.own.chain.frames name)
    (λ value. done (ok value)))
set (name ∷ value ∷ []) = sets name value (done (ok value))
set _ = fails (wrong_args (codes "set varName ?newValue?"))

-- what hides a refusal: all but a name that no variable may have
abbrev pub unset_left : Bool → Own → Program → Result Chain FrameFault → Program
unset_left hides own k (Ok chain) = change (with_chain own chain) k
unset_left hides own k (Err (fault.BadName x)) = fails (frame_message (fault.BadName x))
unset_left true own k (Err f) = k
unset_left false own k (Err f) = fails (frame_message f)

-- the variables are unset from the left, up to the first that can't be
abbrev pub unset_all : Bool → List Text → Program
unset_all hides [] = done (ok [])
unset_all hides (name ∷ names) = look
    (λ n. unset_left hides n.own (unset_all hides names) (after_unset n.own.chain name))

abbrev pub after_dashes : Bool → List Text → Program
after_dashes hides [] = done (ok [])
after_dashes hides (name ∷ names) = either (bytes_eq name (codes "--")) (unset_all hides names)
    (unset_all hides (name ∷ names))

-- `unset ?-nocomplain? ?--? ?name ...?`
abbrev pub unset : List Text → Program
unset [] = done (ok [])
unset (word ∷ words) = either (bytes_eq word (codes "-nocomplain")) (after_dashes true words)
    (after_dashes false (word ∷ words))

-- what a variable holds, or what stands in its place where there is none
abbrev pub or_missing : Text → Result Text FrameFault → Result Text FrameFault
or_missing other (Ok value) = Ok value
or_missing other (Err (fault.NoVariable v x)) = Ok other
or_missing other (Err (fault.NoElement v x)) = Ok other
or_missing other (Err f) = Err f

abbrev pub reads_or : Text → Text → (Text → Program) → Program
reads_or name other k = look (λ n. or_fails frame_message
    (or_missing other (read n.own.chain.frames name)) k)

-- on with the number of an integer text
abbrev pub integer : Integers → Text → (ℤ → Program) → Program
integer style text k = or_fails (integer_message text) (in_64_bits (integer_of style text)) k

abbrev pub overflow : Text
overflow = messages.overflow

-- the variable becomes the sum, where it fits 64 bits
abbrev pub becomes : Text → ℤ → Program
becomes name sum = either (fits_64 sum)
    (sets name (signed_decimal sum) (done (ok (signed_decimal sum)))) (fails overflow)

abbrev pub raises : Integers → Text → (ℤ → (ℤ → Program) → Program) → Program
raises style name by = reads_or name (codes "0")
    (λ value. integer style value (λ n. by n (λ m. becomes name (n +ℤ m))))

-- `incr varName ?increment?`: a missing variable counts as 0
abbrev pub incr : Integers → List Text → Program
incr style (name ∷ []) = raises style name (λ n k. k (pos 1))
incr style (name ∷ increment ∷ []) = raises style name (λ n k. integer style increment k)
incr style _ = fails (wrong_args (codes "incr varName ?increment?"))

abbrev pub joined : List Text → Text
joined [] = []
joined (x ∷ xs) = x ++ joined xs

-- `append varName ?value ...?`: with no value the variable is read
abbrev pub append : List Text → Program
append [] = fails (wrong_args (codes "append varName ?value ...?"))
append (name ∷ []) = look (λ n. or_fails frame_message (read n.own.chain.frames name)
    (λ value. done (ok value)))
append (name ∷ value ∷ values) =
    reads_or name [] (λ old. grown (old ++ joined (value ∷ values))
    (λ new. sets name new (done (ok new))))

-- ## Levels

abbrev pub where_true : Bool → ℕ → Option ℕ
where_true true n = Some n
where_true false n = None

-- so many levels up, and the level of that number
abbrev pub level_up : ℕ → Option ℤ → Option ℕ
level_up current None = None
level_up current (Some (negsuc n)) = None
level_up current (Some (pos n)) = where_true (nat_le n current) (current - n)

abbrev pub level_at : ℕ → Option ℤ → Option ℕ
level_at current None = None
level_at current (Some (negsuc n)) = None
level_at current (Some (pos n)) = where_true (nat_le n current) n

-- The level that a word names: `N` is N levels up, `#N` is level N.
abbrev pub level_of : Integers → ℕ → Text → Option ℕ
level_of style current [] = None
level_of style current (c ∷ cs) = cond (c == 35) (level_at current (integer_of style cs))
    (level_up current (integer_of style (c ∷ cs)))

abbrev pub found_level : Option ℕ → Text → (ℕ → Program) → Program
found_level None word k = fails (bad_level word)
found_level (Some n) word k = k n

-- on with the level that a word names
abbrev pub level : Integers → Text → (ℕ → Program) → Program
level style word k = look (λ n. found_level (level_of style (current n.own.chain.frames) word) word
    k)

-- links are made from the left: each other name and the local name after it
abbrev pub link_all : ℕ → List Text → Program
link_all at (other ∷ local ∷ rest) = look
    (λ n. chain_becomes n.own (after_link n.own.chain at other local) (link_all at rest))
link_all at _ = done (ok [])

abbrev pub is_odd : {A : Type 0} → List A → Bool
is_odd [] = false
is_odd (x ∷ []) = true
is_odd (x ∷ y ∷ xs) = is_odd xs

-- the links that are made with a level before them, and with none
abbrev pub upvar_words : Integers → Bool → List Text → Program
upvar_words style true (word ∷ pairs) = level style word (λ at. link_all at pairs)
upvar_words style true [] = done (ok [])
upvar_words style false pairs = level style (codes "1") (λ at. link_all at pairs)

-- `upvar ?level? otherVar localVar ?otherVar localVar ...?`: there is a level exactly where the
-- number of words is odd
abbrev pub upvar : Integers → List Text → Program
upvar style (a ∷ b ∷ rest) = upvar_words style (is_odd rest) (a ∷ b ∷ rest)
upvar style _ = fails (wrong_args (codes "upvar ?level? otherVar localVar ?otherVar localVar ...?"))

-- the local name of a global variable; the name of an element, as it is written, can be none
abbrev pub local_of : Option Text → Text → Text → Text
local_of None name base = base
local_of (Some key) name base = name

abbrev pub local_name : Text → Option Name → Text
local_name name None = name
local_name name (Some x) = local_of x.key name x.base

abbrev pub global_all : List Text → Program
global_all [] = done (ok [])
global_all (name ∷ names) = look
    (λ n. chain_becomes n.own (after_link n.own.chain 0 name (local_name name (name_of name)))
    (global_all names))

-- `global ?varName ...?`: nothing at level 0
abbrev pub global : List Text → Program
global names = look (λ n. either (current n.own.chain.frames == 0) (done (ok []))
    (global_all names))
