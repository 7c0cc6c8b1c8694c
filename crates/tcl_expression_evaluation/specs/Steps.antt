-- The steps of a kept expression, one after another, over the values that wait for their operator.
use Rattle.std.specs.Prelude.{◌≡◌, ℕ, zero, suc, ◌-◌, ◌<◌, Bool, true, false, List, [], ◌∷◌, ◌++◌}
use Rattle.std.specs.Prelude.{length, take, drop, Option, Some, None, Result, Ok, Err}
use Rattle.tcl_text.specs.declared.integer.Integers.{Integers}
use Rattle.tcl_parser.specs.Words.{WordRead}
use Rattle.tcl_value.specs.Limits.{Bytes}
use Rattle.tcl_expr.specs.declared.operator.BinaryOperator.{BinaryOperator}
use Rattle.tcl_expr.specs.declared.operator.BinaryOperator.TheVariants as operator
use Rattle.tcl_expression_evaluation.specs.declared.fault.ApplyError.{ApplyError}
use Rattle.tcl_expression_evaluation.specs.declared.fault.ApplyError.TheVariants as error
use Rattle.tcl_expression_evaluation.specs.Apply.{Outcome, truth, apply_unary, apply_binary}
use Rattle.tcl_expr.specs.declared.tree.Node.{Node}
use Rattle.tcl_expr.specs.declared.tree.Node.TheVariants as node
use Rattle.tcl_expression_evaluation.specs.declared.evaluation.Progress.{Progress}
use Rattle.tcl_expression_evaluation.specs.declared.evaluation.Progress.TheVariants as progress
use Rattle.tcl_expression_evaluation.specs.Computations.{Computation, value, refused, substitute}
use Rattle.tcl_expression_evaluation.specs.Computations.{and_then, decided, operand, needing, call}

-- the value that came last, and those before it; where none is, the empty text stands for it
abbrev pub top : List Bytes → Bytes
top [] = []
top (x ∷ []) = x
top (x ∷ y ∷ s) = top (y ∷ s)

abbrev pub below : List Bytes → List Bytes
below [] = []
below (x ∷ []) = []
below (x ∷ y ∷ s) = x ∷ below (y ∷ s)

-- so many values that came last, and those before them
abbrev pub last_of : ℕ → List Bytes → List Bytes
last_of n s = drop (length s - n) s

abbrev pub without : ℕ → List Bytes → List Bytes
without n s = take (length s - n) s

-- Steps are done; or they are left out up to the mark that ends what isn't needed, and so many
-- marks within it.
pub data Mode : Type 0 where
  doing : Mode
  leaving : ℕ → Mode

abbrev pub closed : ℕ → Mode
closed zero = doing
closed (suc d) = leaving d

abbrev pub parted : ℕ → Mode
parted zero = doing
parted (suc d) = leaving (suc d)

-- a step that is left out
abbrev pub passed : Node → ℕ → Mode
passed (node.Needed o) d = leaving (suc d)
passed (node.Binary operator.And) d = closed d
passed (node.Binary operator.Or) d = closed d
passed node.Question d = leaving (suc d)
passed node.Colon d = parted d
passed node.Choice d = closed d
passed n d = leaving d

-- a step that is done
abbrev pub does : Integers → Node → List Bytes → (Mode → List Bytes → Computation) → Computation
does style (node.Operand x) s k = operand x (λ v. k doing (s ++ v ∷ []))
does style (node.Unary o) s k = and_then (apply_unary style o (top s))
    (λ v. k doing (below s ++ v ∷ []))
does style (node.Needed o) s k = needing style o (top s) (k doing (below s ++ top s ∷ []))
    (λ v. k (leaving 0) (below s ++ v ∷ []))
does style (node.Binary o) s k = and_then (apply_binary style o (top (below s)) (top s))
    (λ v. k doing (below (below s) ++ v ∷ []))
does style node.Question s k = decided (truth style (top s)) (k doing (below s))
    (k (leaving 0) (below s))
does style node.Colon s k = k (leaving 0) s
does style node.Choice s k = k doing s
does style (node.Call f n) s k = and_then (call style f (last_of n s))
    (λ v. k doing (without n s ++ v ∷ []))

unfoldable pub goes : Integers → List Node → Mode → List Bytes → Computation
goes style [] m s = value (top s)
goes style (n ∷ code) doing s = does style n s (goes style code)
goes style (n ∷ code) (leaving d) s = goes style code (passed n d) s

-- what is computed from a step on
abbrev pub from : Integers → List Node → ℕ → List Bytes → Computation
from style code next s = goes style (drop next code) doing s

-- How a computation is brought forward: to a part that is to be substituted, behind which it goes
-- on; to its value; or to its refusal.
abbrev pub Advances : Result Progress ApplyError → Computation → (Bytes → Computation) → Type 0
Advances (Ok (progress.Wants w)) c go = c ≡ substitute w.now go
Advances (Ok (progress.Done v)) c go = c ≡ value v
Advances (Err error.Memory) c go = Unit {0}
Advances (Err (error.Fault f)) c go = c ≡ refused f

-- behind a part that is handed out fewer steps are left
abbrev pub Nears : Result Progress ApplyError → ℕ → ℕ → Type 0
Nears (Ok (progress.Wants w)) old new = new < old
Nears (Ok (progress.Done v)) old new = Unit {0}
Nears (Err e) old new = Unit {0}

-- ## What the functions of an evaluation do

-- a result is pushed
abbrev pub Pushes : Result (Unit {0}) ApplyError → Outcome → List Bytes → List Bytes → Type 0
Pushes (Ok u) o s s' = (v : Bytes) × (o ≡ Ok v) × (s' ≡ s ++ v ∷ [])
Pushes (Err error.Memory) o s s' = Unit {0}
Pushes (Err (error.Fault f)) o s s' = o ≡ Err f

-- the first operand tells the answer, or the second is needed
abbrev pub Answers : Result (Option Bytes) ApplyError → Integers → BinaryOperator → Bytes → Type 0
Answers (Ok None) style o x = (second : Computation) (k : Bytes → Computation) →
    needing style o x second k ≡ second
Answers (Ok (Some v)) style o x = (second : Computation) (k : Bytes → Computation) →
    needing style o x second k ≡ k v
Answers (Err error.Memory) style o x = Unit {0}
Answers (Err (error.Fault f)) style o x = (second : Computation) (k : Bytes → Computation) →
    needing style o x second k ≡ refused f

-- the second operand is needed, or the answer is pushed
abbrev pub Needs : Result Bool ApplyError → Integers → BinaryOperator → Bytes → List Bytes →
    List Bytes → Type 0
Needs (Ok true) style o x s s' = (s' ≡ s ++ x ∷ []) ×
    ((second : Computation) (k : Bytes → Computation) → needing style o x second k ≡ second)
Needs (Ok false) style o x s s' = (v : Bytes) × (s' ≡ s ++ v ∷ []) ×
    ((second : Computation) (k : Bytes → Computation) → needing style o x second k ≡ k v)
Needs (Err error.Memory) style o x s s' = Unit {0}
Needs (Err (error.Fault f)) style o x s s' = (second : Computation) (k : Bytes → Computation) →
    needing style o x second k ≡ refused f

abbrev pub mode_of : Option ℕ → Mode
mode_of (Some d) = leaving d
mode_of None = doing

-- a step is done, and behind it the rest comes; or a part is handed out
abbrev pub Acts : {W : Type 0} → (W → WordRead) → Result (Option W) ApplyError → Computation →
    Computation → (Bytes → Computation) → Type 0
Acts seen (Ok None) c rest go = c ≡ rest
Acts seen (Ok (Some w)) c rest go = c ≡ substitute (seen w) go
Acts seen (Err error.Memory) c rest go = Unit {0}
Acts seen (Err (error.Fault f)) c rest go = c ≡ refused f
