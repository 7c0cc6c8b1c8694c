-- Expressions, and the commands with conditions.
use Rattle.std.specs.Prelude.{ℕ, zero, suc, ℤ, pos, Bool, List, [], ◌∷◌, length, Option, Some, None}
use Rattle.std.specs.Prelude.{codes}
use Rattle.std.specs.Str.{bytes_eq}
use Rattle.tcl_core.specs.Paths.{Text}
use Rattle.tcl_core.specs.Endings.{Completion, ok}
use Rattle.tcl_core.specs.Programs.Act.{Charge}
use Rattle.tcl_core.specs.Programs.Prog.{done, act, go}
use Rattle.tcl_text.specs.declared.integer.Integers.{Integers}
use Rattle.tcl_expr.specs.Expressions.{expression_of}
use Rattle.tcl_expr.specs.Faults as expr_faults
use Rattle.tcl_expression_evaluation.specs.Apply.{truth}
use Rattle.tcl_expression_evaluation.specs.Messages as operators
use Rattle.tcl_expression_evaluation.specs.Computations.{Computation, value, refused, substitute}
use Rattle.tcl_expression_evaluation.specs.Computations.{computation_of, final}
use Rattle.tcl_language.specs.Instructions.{Program, either, fails, grown, on_ok, or_fails}
use Rattle.tcl_language.specs.Instructions.Instr.{Script, Parts, Expression, While, For}
use Rattle.tcl_language.specs.Faults.{wrong_args}
use Rattle.tcl_language.specs.Words.{concat}
use Rattle.tcl_language.specs.Control.{after_body}

-- on with the value of a computation: a part is substituted when its value is asked for
abbrev pub computed : Computation → (Text → Program) → Program
computed (value v) k = k v
computed (refused f) k = fails (operators.message_of f)
computed (substitute part next) k = go (Parts part.parts [] []) (on_ok (λ v. computed (next v) k))

-- A text is read whole as an expression, and then computed.
abbrev pub expression : Integers → Text → Program
expression style text = or_fails (expr_faults.message_of text) (expression_of style text)
    (λ tree. computed (computation_of style tree)
    (λ v. or_fails operators.message_of (final style v) (λ result. done (ok result))))

-- `expr arg ?arg ...?`
abbrev pub expr : List Text → Program
expr [] = fails (wrong_args (codes "expr arg ?arg ...?"))
expr (arg ∷ args) = grown (concat (arg ∷ args)) (λ text. go (Expression text) done)

-- ## Conditions

-- on with what a condition comes to: the boolean that its value is
abbrev pub condition : Integers → Text → (Bool → Program) → Program
condition style test k = go (Expression test)
    (on_ok (λ v. or_fails operators.message_of (truth style v) k))

-- The branches of an `if`: conditions, each with its body; and a last body, if there is one.
pub record Branches : Type 0 where
  pub tests : List (Text × Text)
  pub last : Option Text

abbrev pub led_by : Text → Text → Option Branches → Option Branches
led_by test body None = None
led_by test body (Some b) = Some (record { tests = (test, body) ∷ b.tests; last = b.last })

-- words without one that may stand first
abbrev pub without_first : Text → List Text → List Text
without_first word [] = []
without_first word (x ∷ xs) = either (bytes_eq x word) xs (x ∷ xs)

-- a last body, behind which there is nothing
abbrev pub last_branch : List Text → Option Branches
last_branch (body ∷ []) = Some (record { tests = []; last = Some body })
last_branch _ = None

-- behind a body: `elseif` and what a branch begins with; a last body, before which `else` may
-- stand; or nothing
abbrev pub behind_body : List Text → (List Text → Option Branches) → Option Branches
behind_body [] go_on = Some (record { tests = []; last = None })
behind_body (word ∷ words) go_on = either (bytes_eq word (codes "elseif")) (go_on words)
    (last_branch (without_first (codes "else") (word ∷ words)))

abbrev pub body_first : Text → List Text → (List Text → Option Branches) → Option Branches
body_first test [] go_on = None
body_first test (body ∷ words) go_on = led_by test body (behind_body words go_on)

-- a condition, and its body, before which `then` may stand
abbrev pub test_first : List Text → (List Text → Option Branches) → Option Branches
test_first [] go_on = None
test_first (test ∷ words) go_on = body_first test (without_first (codes "then") words) go_on

-- branch after branch; the number is at least how many there can be
abbrev pub branches_within : ℕ → List Text → Option Branches
branches_within zero words = None
branches_within (suc n) words = test_first words (branches_within n)

-- the branches that the words of an `if` are, if they are some
abbrev pub branches_of : List Text → Option Branches
branches_of words = branches_within (length words) words

abbrev pub runs_last : Option Text → Program
runs_last None = done (ok [])
runs_last (Some body) = go (Script body) done

-- the body of the first condition that is true
abbrev pub first_true : Integers → List (Text × Text) → Option Text → Program
first_true style [] last = runs_last last
first_true style (branch ∷ rest) last = condition style branch.0
    (λ holds. either holds (go (Script branch.1) done) (first_true style rest last))

abbrev pub runs_branches : Integers → Option Branches → Program
runs_branches style None = fails
    (wrong_args (codes "if expr1 ?then? body1 ?elseif expr2 ?then? body2 ...? ?else? ?bodyN?"))
runs_branches style (Some b) = first_true style b.tests b.last

-- `if expr1 ?then? body1 ?elseif expr2 ?then? body2 ...? ?else? ?bodyN?`: the words are read as
-- branches first
abbrev pub if_first : Integers → List Text → Program
if_first style words = runs_branches style (branches_of words)

-- ## Loops

-- the turn of a loop while its condition is true: it is counted, and the body runs
abbrev pub turn : Integers → Text → Text → (Completion → Program) → Program
turn style test body k = condition style test
    (λ holds. either holds (act Charge (λ T. go (Script body) k)) (done (ok [])))

abbrev pub while_turns : Integers → Text → Text → Program
while_turns style test body = turn style test body
    (λ c. after_body c.code c (go (While test body) done))

-- `while test command`
abbrev pub while_loop : List Text → Program
while_loop (test ∷ body ∷ []) = go (While test body) done
while_loop _ = fails (wrong_args (codes "while test command"))

-- what a loop does after the script between two turns: on, or it is over, or the script's end is
-- its own, a `continue` too
abbrev pub after_next : ℤ → Completion → Program → Program
after_next (pos zero) c more = more
after_next (pos (suc (suc (suc zero)))) c more = done (ok [])
after_next n c more = done c

abbrev pub for_turns : Integers → Text → Text → Text → Program
for_turns style test next body = turn style test body
    (λ c. after_body c.code c (go (Script next)
    (λ d. after_next d.code d (go (For test next body) done))))

-- `for start test next command`
abbrev pub for_loop : List Text → Program
for_loop (start ∷ test ∷ next ∷ body ∷ []) = go (Script start)
    (on_ok (λ text. go (For test next body) done))
for_loop _ = fails (wrong_args (codes "for start test next command"))
