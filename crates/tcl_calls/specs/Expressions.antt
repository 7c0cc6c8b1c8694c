-- What contracts see of expressions that commands read.
use Rattle.std.specs.Prelude.{◌≡◌, ◌<◌, ℕ, [], Result, Ok, Err}
use Rattle.tcl_core.specs.Endings.{Reply, ok}
use Rattle.tcl_core.specs.Endings.Reply.{Completed}
use Rattle.tcl_core.specs.Paths.{Text}
use Rattle.tcl_core.specs.Programs.Prog.{done}
use Rattle.tcl_expr.specs.Expressions.{expression_of}
use Rattle.tcl_expr.specs.Trees.{Tree}
use Rattle.tcl_expr.specs.declared.operator.BinaryOperator.{BinaryOperator}
use Rattle.tcl_expression_evaluation.specs.Apply.{apply_binary}
use Rattle.tcl_expression_evaluation.specs.Computations.{Computation, value, refused, substitute}
use Rattle.tcl_expression_evaluation.specs.Computations.{computation_of, final}
use Rattle.tcl_expression_evaluation.specs.Steps.{from}
use Rattle.tcl_expression_evaluation.specs.declared.evaluation.Progress.{Progress}
use Rattle.tcl_expression_evaluation.specs.declared.evaluation.Progress.TheVariants as progress
use Rattle.tcl_expr.specs.declared.tree.ExprTree.{ExprTree}
use Rattle.tcl_language.specs.Instructions.{Program, or_fails}
use Rattle.tcl_expression_evaluation.specs.Messages.{message_of}
use Rattle.tcl_expression_evaluation.specs.declared.fault.OperatorFault.{OperatorFault}
use Rattle.tcl_expression_evaluation.specs.declared.fault.ApplyError.{ApplyError}
use Rattle.tcl_expression_evaluation.specs.declared.fault.ApplyError.TheVariants as error
use Rattle.tcl_run.specs.Ends.{Interrupts, failing}
use Rattle.tcl_run.specs.declared.interruption.Interruption.{Interruption}
use Rattle.tcl_run.specs.declared.interruption.Interruption.TheVariants as interruption
use Rattle.tcl_text.specs.declared.integer.Integers.{Integers}

-- the steps are those of the text's expression
abbrev pub IsKept : Integers → Text → ExprTree → Type 0
IsKept style text kept = (t : Tree) × (expression_of style text ≡ Ok t) ×
    (from style kept.nodes.items 0 [] ≡ computation_of style t)

-- how a refusal of an operator ends what wanted its value
abbrev pub OperatorTells : ApplyError → Interruption → Type 0
OperatorTells error.Memory i = i ≡ interruption.Memory
OperatorTells (error.Fault f) i = Interrupts i (λ e. e ≡ Completed (failing (message_of f)))

-- an expression whose value is this is over
abbrev pub settles : Integers → Text → Program
settles style v = or_fails message_of (final style v) (λ result. done (ok result))

-- an expression of an operator and of two operands with these values is over
abbrev pub settles_two : Integers → BinaryOperator → Text → Text → Program
settles_two style operator x y = or_fails message_of (apply_binary style operator x y)
    (settles style)

-- a computation ends in a refusal
abbrev pub IsRefused : Computation → Reply → Type 0
IsRefused c e = (f : OperatorFault) × (c ≡ refused f) × (e ≡ Completed (failing (message_of f)))

-- How a computation goes on: to a part that is to be substituted, behind which it goes on so; to
-- its value; or to its refusal.
abbrev pub GivesPart : Result Progress Interruption → Computation → (Text → Computation) → Type 0
GivesPart (Ok (progress.Wants w)) c go = c ≡ substitute w.now go
GivesPart (Ok (progress.Done v)) c go = c ≡ value v
GivesPart (Err i) c go = Interrupts i (IsRefused c)

-- behind a part fewer steps are left
abbrev pub IsNearer : Result Progress Interruption → ℕ → ℕ → Type 0
IsNearer (Ok (progress.Wants w)) old new = new < old
IsNearer (Ok (progress.Done v)) old new = Unit {0}
IsNearer (Err i) old new = Unit {0}
