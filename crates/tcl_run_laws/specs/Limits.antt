-- Who sets limits of steps.
use Rattle.std.specs.Prelude.{◌≡◌, Bool, true, false, [], ◌∷◌, Some}
use Rattle.tcl_core.specs.Endings.{Completion}
use Rattle.tcl_core.specs.Entries.{Entry, Said}
use Rattle.tcl_core.specs.Entries.Entry.{SetCountLimit}
use Rattle.tcl_core.specs.Paths.{Path}
use Rattle.tcl_core.specs.Programs.{Prog, Table}
use Rattle.tcl_core.specs.Programs.Act.{Limit}
use Rattle.tcl_core.specs.Programs.Prog.{done, exit, act, go, inside, call, wait}
use Rattle.tcl_core.specs.Trees.{Node, Tree}

-- an interpreter is asked to set its limit of steps
abbrev pub sets_steps : Entry → Bool
sets_steps (SetCountLimit l) = true
sets_steps i = false

-- For that only an interpreter is asked to which a call goes down, by a name at least.
abbrev pub AsksBelow : Path → Entry → Type 0
AsksBelow [] i = sets_steps i ≡ false
AsksBelow (name ∷ down) i = Unit {0}

-- A program that asks only so, and goes on only as `fine` says; `may` says whether it may set the
-- limit of steps of its own interpreter.
abbrev pub LimitsBelow : {O I : Type 0} → (I → Bool) → Bool → Prog O I → Type 0
LimitsBelow fine may (done c) = Unit {0}
LimitsBelow fine may (exit n) = Unit {0}
LimitsBelow {O} fine may (act (Limit l) k) = (may ≡ true) ×
    ((T : Tree O) → LimitsBelow fine may (k T))
LimitsBelow {O} fine may (act d k) = (T : Tree O) → LimitsBelow fine may (k T)
LimitsBelow fine may (go i k) = (fine i ≡ true) × ((c : Completion) → LimitsBelow fine may (k c))
LimitsBelow fine may (inside b i k) = (fine i ≡ true) ×
    ((c : Completion) → LimitsBelow fine may (k c))
LimitsBelow fine may (call h down i lost k) = AsksBelow down i ×
    ((s : Said) → LimitsBelow fine may (k s))
LimitsBelow fine may (wait s k) = (a : Said) → LimitsBelow fine may (k a)

-- The commands are such programs: a limit of steps is set by the entry for it, and by nothing else.
-- So the top of a tree keeps the limit that it has.
pub record KeepTops {O I : Type 0} (fine : I → Bool) (prog : Table O I) : Type 0 where
  pub programs : (i : I) → fine i ≡ true → LimitsBelow fine false (prog.program i)
  pub entries : (i : Entry) → sets_steps i ≡ false → LimitsBelow fine false (prog.entry i)
  pub limiting : (i : Entry) → LimitsBelow fine true (prog.entry i)

-- an interpreter stands at the top of the tree
abbrev pub HasTop : {O : Type 0} → Tree O → Type 0
HasTop {O} T = (n : Node O) × (T [] ≡ Some n)
