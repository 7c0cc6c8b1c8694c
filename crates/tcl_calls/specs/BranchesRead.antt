-- What contracts see of the branches of an `if`.
use Rattle.std.specs.Option.{option_copied}
use Rattle.std.specs.Prelude.{List, [], ◌∷◌, ◌++◌, map, Option, Some, None, codes}
use Rattle.tcl_core.specs.Paths.{Text}
use Rattle.tcl_language.specs.Expressions.{Branches, without_first}
use Rattle.tcl_calls.specs.declared.branches.Branch.{Branch}
use Rattle.tcl_calls.specs.declared.branches.Branches as read

-- a condition with its body
abbrev pub branch_of : Branch → Text × Text
branch_of b = (b.test.now, b.body.now)

abbrev pub tests_of : List Branch → List (Text × Text)
tests_of bs = map branch_of bs

abbrev pub seen : read.Branches → Branches
seen b = record { tests = tests_of b.tests.items; last = option_copied b.last }

-- the branches of an `if` with one condition
abbrev pub alone : Text × Text → Option Text → Branches
alone branch last = record { tests = branch ∷ []; last = last }

-- these conditions, and then others
abbrev pub behind : List (Text × Text) → Option Branches → Option Branches
behind tests None = None
behind tests (Some b) = Some (record { tests = tests ++ b.tests; last = b.last })

-- a condition and its body, before which `then` may stand, with the words behind them
abbrev pub with_body : Text → List Text → Option ((Text × Text) × List Text)
with_body test [] = None
with_body test (body ∷ words) = Some ((test, body), words)

abbrev pub first_of : List Text → Option ((Text × Text) × List Text)
first_of [] = None
first_of (test ∷ words) = with_body test (without_first (codes "then") words)

-- the only word
abbrev pub lone : List Text → Option Text
lone (word ∷ []) = Some word
lone _ = None
