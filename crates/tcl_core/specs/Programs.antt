-- What a command is: a program over a few acts. I is what can be going on inside an interpreter: a
-- script, the commands that are left, a turn of a loop and so on.
use Rattle.std.specs.Prelude.{ℕ, zero, suc, ℤ, Bool, true, false, [], ◌∷◌, ◌++◌, Option, Some, None}
use Rattle.std.specs.Prelude.{nat_le, nat_lt, length}
use Rattle.tcl_core.specs.Paths.{Text, Path, Place, Height}
use Rattle.tcl_core.specs.Endings.{Meter, Completion, Reply}
use Rattle.tcl_core.specs.Endings.Meter.{Count, Depth}
use Rattle.tcl_core.specs.Endings.Kind.{Full}
use Rattle.tcl_core.specs.Endings.Reply.{Stop, Cut}
use Rattle.tcl_core.specs.Endings.Cause.{Above, Over}
use Rattle.tcl_core.specs.Entries.{Entry, Said}
use Rattle.tcl_core.specs.Entries.Said.{Finished, Missed}
use Rattle.tcl_core.specs.Trees.{Grants, Node, Tree, What, depth_of}
use Rattle.tcl_core.specs.Trees.Grant.{Allow, Deny}
use Rattle.tcl_core.specs.Trees.Grants.{Listed, Budget}
use Rattle.tcl_core.specs.Trees.What.{Seen, Changed, Charged, Refused, Nested, Unnested, Limited}
use Rattle.tcl_core.specs.Trees.What.{DepthLimited, Made, Dropped}

-- An act at the current interpreter.
pub data Act (O : Type 0) : Type 0 where
  Look : Act O
  Change : (own : O) → Act O
  Charge : Act O
  Limit : (limit : Option ℕ) → Act O
  LimitDepth : (limit : ℕ) → Act O
  -- a child is made, if none has the name; dropped, if one has
  Make : (name : Text) (own : O) (safe : Bool) → Act O
  Drop : (name : Text) → Act O

-- What is done before an inner evaluation and undone after it, however it ends: one level of depth;
-- or frames, which `back` undoes.
pub data Wrap (O : Type 0) : Type 0 where
  Deeper : Wrap O
  Framed : (own : O) (back : O → O) → Wrap O

-- The call that waits for its answer: how far up it goes, what it asks for, and how many
-- evaluations were in progress where it is made; none where control waits at the top.
abbrev pub Wait : Type 0
Wait = Option (Height × Entry × ℕ)

-- A program ends by a completion or an exit. It goes on after an act, told the subtree as it stood;
-- after an inner evaluation that completed; or after a call that was answered. Stops, exits and
-- cuts it never sees.
pub data Prog (O I : Type 0) : Type 0 where
  done : (completion : Completion) → Prog O I
  exit : (status : ℤ) → Prog O I
  act : Act O → (Tree O → Prog O I) → Prog O I
  go : I → (Completion → Prog O I) → Prog O I
  inside : Wrap O → I → (Completion → Prog O I) → Prog O I
  -- to the interpreter so many levels up and these names down, or to the host; `lost` is the
  -- completion where nobody stands there
  call : Height → (down : Path) → Entry → (lost : Completion) → (Said → Prog O I) → Prog O I
  wait : Wait → (Said → Prog O I) → Prog O I

-- How a program goes on after a call that left the tree: where nobody is there, by the call's own
-- `lost`.
abbrev pub or_lost : {O I : Type 0} → Completion → (Said → Prog O I) → Said → Prog O I
or_lost lost k Missed = k (Finished lost)
or_lost lost k said = k said

-- A program calls, and doesn't wait without a call. (A program that waits for an answer is what a
-- run makes of a call.)
abbrev pub Calls_only : {O I : Type 0} → Prog O I → Type 0
Calls_only (done c) = Unit {0}
Calls_only (exit n) = Unit {0}
Calls_only {O} (act d k) = (T : Tree O) → Calls_only (k T)
Calls_only (go i k) = (c : Completion) → Calls_only (k c)
Calls_only (inside b i k) = (c : Completion) → Calls_only (k c)
Calls_only (call h down i lost k) = (s : Said) → Calls_only (k s)
Calls_only (wait s k) = Prim.⊥

-- What the interpreters' commands are: the program of each instruction and of each entry, and what
-- an entry from outside is told whose path finds nobody. All programs call, and none waits.
pub record Table (O I : Type 0) : Type 0 where
  pub program : I → Prog O I
  pub entry : Entry → Prog O I
  pub lost : Path → Completion
  pub programs_call : (i : I) → Calls_only (program i)
  pub entries_call : (i : Entry) → Calls_only (entry i)

-- How it goes on after an act: the program goes on; the evaluation is too deep, which is an error;
-- or it ends so.
pub data Next : Type 0 where
  On : Next
  TooDeep : Next
  Off : (reply : Reply) → Next

-- the limit, where none is set
abbrev pub most_steps : ℕ
most_steps = 9223372036854775807

abbrev pub limit_or : Option ℕ → ℕ
limit_or None = most_steps
limit_or (Some l) = l

abbrev pub nearer : Option ℕ → Bool → ℕ → Option ℕ
nearer (Some n) b m = Some n
nearer None true m = Some m
nearer None false m = None

module _ {O : Type 0} where
  -- no further step, no further evaluation
  abbrev pub is_spent : Node O → Bool
  is_spent n = nat_le (limit_or n.limit) n.count

  abbrev pub is_deep : Node O → Bool
  is_deep n = nat_le n.depth_limit n.depth

  abbrev pub full_at : (Node O → Bool) → Option (Node O) → Bool
  full_at full None = false
  full_at full (Some n) = full n

  -- how many steps up the nearest full interpreter is, the one at p first
  abbrev pub blocked : (Node O → Bool) → Tree O → Place → Option ℕ
  blocked full T [] = nearer None (full_at full (T [])) 0
  blocked full T (x ∷ xs) = nearer (blocked full (λ p. T (x ∷ p)) xs) (full_at full (T []))
      (suc (length xs))

abbrev pub either : Bool → Bool → Bool
either true b = true
either false b = b

-- What an act comes to: where (here, or at the child of that name), what happens there, and how it
-- goes on.
abbrev pub Deed : Type 0 → Type 0
Deed O = Option Text × What O × Next

abbrev pub spot : Place → Option Text → Place
spot p None = p
spot p (Some name) = p ++ name ∷ []

-- A limit refuses. An interpreter's own depth limit is an error there; all else is a stop.
abbrev pub by_limit : Meter → ℕ → Next
by_limit Count n = Off (Stop n (Full Count))
by_limit Depth zero = TooDeep
by_limit Depth (suc n) = Off (Stop (suc n) (Full Depth))

module _ {O : Type 0} where
  abbrev pub by_grant : Meter → What O → Grants → Option (Deed O)
  by_grant m x (Listed []) = None
  by_grant m x (Listed (Allow ∷ gs)) = Some (None, x, On)
  by_grant m x (Listed (Deny ∷ gs)) = Some (None, Refused m None, Off (Cut Above))
  by_grant Count x (Budget zero) = Some (None, Refused Count None, Off (Cut Over))
  by_grant Count x (Budget (suc n)) = Some (None, x, On)
  by_grant Depth x (Budget n) = Some (None, x, On)

  -- the nearest full interpreter refuses, and then the outside may
  abbrev pub metered : Meter → What O → Option ℕ → Grants → Option (Deed O)
  metered m x (Some n) gs = Some (None, Refused m (Some n), by_limit m n)
  metered m x None gs = by_grant m x gs

  abbrev pub changing : O → Option (Node O) → Deed O
  changing o None = (None, Seen, On)
  changing o (Some n) = (None, Changed o, On)

  -- a child of a safe interpreter is safe
  abbrev pub making : Text → O → Bool → Option (Node O) → Option (Node O) → Deed O
  making name o s None n = (None, Seen, On)
  making name o s (Some p) None = (Some name, Made o (either s p.safe), On)
  making name o s (Some p) (Some n) = (None, Seen, On)

  -- whether it is in use or not
  abbrev pub dropping : Text → Option (Node O) → Deed O
  dropping name None = (None, Seen, On)
  dropping name (Some n) = (Some name, Dropped, On)

  -- what happens when the act is done at p; none where a word of the outside is wanted and there is
  -- none
  abbrev pub decide : Act O → Tree O → Place → Grants → Option (Deed O)
  decide Look T p gs = Some (None, Seen, On)
  decide (Change o) T p gs = Some (changing o (T p))
  decide Charge T p gs = metered Count Charged (blocked is_spent T p) gs
  decide (Limit l) T p gs = Some (None, Limited l, On)
  decide (LimitDepth l) T p gs = Some (None, DepthLimited l, On)
  decide (Make name o s) T p gs = Some (making name o s (T p) (T (p ++ name ∷ [])))
  decide (Drop name) T p gs = Some (dropping name (T (p ++ name ∷ [])))

  -- the same of what a wrap does before
  abbrev pub opens : Wrap O → Tree O → Place → Grants → Option (Deed O)
  opens Deeper T p gs = metered Depth Nested (blocked is_deep T p) gs
  opens (Framed o back) T p gs = Some (changing o (T p))

  -- And what it does after. Frames are brought back where the same interpreter stands as before:
  -- one that is in use less deeply was made anew.
  abbrev pub brought_back : Bool → (O → O) → Option (Node O) → What O
  brought_back b back None = Seen
  brought_back true back (Some n) = Seen
  brought_back false back (Some n) = Changed (back n.own)

  abbrev pub closes : Wrap O → Option (Node O) → Option (Node O) → What O
  closes Deeper m n = Unnested
  closes (Framed o back) m n = brought_back (nat_lt (depth_of n) (depth_of m)) back n
