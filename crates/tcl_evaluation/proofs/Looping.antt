-- What loops come to.
use Rattle.std.proofs.Common.{◌≡◌, ◌⊎◌, inl, inr, ℕ, zero, suc, pos, ◌<◌, ◌≤◌, List, [], ◌∷◌, length, get_or, Some, arith}
use Rattle.std.specs.Prelude.{codes}
use Rattle.tcl_core.specs.Endings.{Completion, Reply}
use Rattle.tcl_core.specs.Endings.Reply.{Completed}
use Rattle.tcl_core.specs.Runs.{Ending}
use Rattle.tcl_core.specs.Paths.{Text, Path}
use Rattle.tcl_core.specs.Programs.Prog.{done, go}
use Rattle.tcl_run.proofs.Proceeding.{completed}
use Rattle.tcl_core.specs.Trees.{Tree}
use Rattle.tcl_language.specs.Expressions.{while_loop, while_turns, after_next, for_loop, for_turns}
use Rattle.tcl_language.specs.Faults.{wrong_args}
use Rattle.tcl_language.specs.Instructions.{Program}
use Rattle.tcl_language.specs.Instructions.Instr.{Script, While, For}
use Rattle.tcl_run.specs.Language.{language}
use Rattle.tcl_language.specs.Scripts.{script}
use Rattle.tcl_run.specs.Ends.{Stays, failing}
use Rattle.tcl_run.specs.Runs.{Proceeds, Ways}
use Rattle.tcl_run.proofs.Proceeding.{at_reply, goes_done}
use Rattle.tcl_text.specs.declared.integer.Integers.{Integers}
use Rattle.tcl_tree.specs.Own.{Own}
use Rattle.tcl_evaluation.proofs.Steps

-- an item of a list that is long enough
pub item_at : (xs : List Text) (i : ℕ) (x : Text) → i < length xs → x ≡ get_or xs i x → x ≡ get_or xs i []
item_at [] i x h e = absurd (omega arith)
item_at (y ∷ ys) zero x h e = e
item_at (y ∷ ys) (suc i) x h e = item_at ys i x (omega arith) e

-- what comes behind the body of a `for`
abbrev pub next_then : Text → Text → Text → Program
next_then test next body = go (Script next) (λ d. after_next d.code d (go (For test next body) done))

module _ {S : Type 0} {ways : Ways S} (style : Integers) where
  -- ## while

  pub while_begins : {T V : Tree Own} {o z : S} {p : Path} {r : Ending} (args : List Text) → 2 ≤ length args → length args < 3 →
      Proceeds ways (language style) T o p (while_turns style (get_or args 0 []) (get_or args 1 [])) V z r → Proceeds ways (language style) T o p (while_loop args) V z r
  while_begins [] h k t = absurd (omega arith)
  while_begins (a ∷ []) h k t = absurd (omega arith)
  while_begins (test ∷ body ∷ []) h k t = goes_done {i = While test body} t
  while_begins (a ∷ b ∷ c ∷ rest) h k t = absurd (omega arith)

  pub while_few : {T : Tree Own} {o : S} {p : Path} {r : Reply} (args : List Text) → length args < 2 → r ≡ Completed (failing (wrong_args (codes "while test command"))) → Proceeds ways (language style) T o p (while_loop args) T o (Some r)
  while_few [] h e = at_reply e completed
  while_few (a ∷ []) h e = at_reply e completed
  while_few (a ∷ b ∷ rest) h e = absurd (omega arith)

  pub while_many : {T : Tree Own} {o : S} {p : Path} {r : Reply} (args : List Text) → 3 ≤ length args → r ≡ Completed (failing (wrong_args (codes "while test command"))) → Proceeds ways (language style) T o p (while_loop args) T o (Some r)
  while_many [] h e = absurd (omega arith)
  while_many (a ∷ []) h e = absurd (omega arith)
  while_many (a ∷ b ∷ []) h e = absurd (omega arith)
  while_many (a ∷ b ∷ c ∷ rest) h e = at_reply e completed

  pub while_other : {T : Tree Own} {o : S} {p : Path} {r : Reply} (args : List Text) → (length args < 2) ⊎ (3 ≤ length args) → r ≡ Completed (failing (wrong_args (codes "while test command"))) → Proceeds ways (language style) T o p (while_loop args) T o (Some r)
  while_other args (inl h) e = while_few args h e
  while_other args (inr h) e = while_many args h e

  -- ## for

  pub for_begins : {T U V : Tree Own} {o u z : S} {p : Path} {r : Ending} (args : List Text) (c : Completion) (text : Text) → 4 ≤ length args → length args < 5 → c.code ≡ pos 0 → c.text ≡ text →
      Proceeds ways (language style) T o p (script (get_or args 0 [])) U u (Some (Completed c)) →
      Proceeds ways (language style) U u p (for_turns style (get_or args 1 []) (get_or args 2 []) (get_or args 3 [])) V z r → Proceeds ways (language style) T o p (for_loop args) V z r
  for_begins [] c text h k a b t s = absurd (omega arith)
  for_begins (w ∷ []) c text h k a b t s = absurd (omega arith)
  for_begins (w ∷ x ∷ []) c text h k a b t s = absurd (omega arith)
  for_begins (w ∷ x ∷ y ∷ []) c text h k a b t s = absurd (omega arith)
  for_begins (start ∷ test ∷ next ∷ body ∷ []) c text h k a b t s = Steps.goes_text style {i = Script start} (λ x. go (For test next body) done) c text a b t (goes_done {i = For test next body} s)
  for_begins (v ∷ w ∷ x ∷ y ∷ z ∷ rest) c text h k a b t s = absurd (omega arith)

  pub for_stays : {T U : Tree Own} {o u : S} {p : Path} (args : List Text) (e : Ending) → 4 ≤ length args → length args < 5 → Stays e →
      Proceeds ways (language style) T o p (script (get_or args 0 [])) U u e → Proceeds ways (language style) T o p (for_loop args) U u e
  for_stays [] e h k s t = absurd (omega arith)
  for_stays (w ∷ []) e h k s t = absurd (omega arith)
  for_stays (w ∷ x ∷ []) e h k s t = absurd (omega arith)
  for_stays (w ∷ x ∷ y ∷ []) e h k s t = absurd (omega arith)
  for_stays (start ∷ test ∷ next ∷ body ∷ []) e h k s t = Steps.goes_stays style {i = Script start} (λ x. go (For test next body) done) e s t
  for_stays (v ∷ w ∷ x ∷ y ∷ z ∷ rest) e h k s t = absurd (omega arith)

  pub for_few : {T : Tree Own} {o : S} {p : Path} {r : Reply} (args : List Text) → length args < 4 → r ≡ Completed (failing (wrong_args (codes "for start test next command"))) → Proceeds ways (language style) T o p (for_loop args) T o (Some r)
  for_few [] h e = at_reply e completed
  for_few (w ∷ []) h e = at_reply e completed
  for_few (w ∷ x ∷ []) h e = at_reply e completed
  for_few (w ∷ x ∷ y ∷ []) h e = at_reply e completed
  for_few (w ∷ x ∷ y ∷ z ∷ rest) h e = absurd (omega arith)

  pub for_many : {T : Tree Own} {o : S} {p : Path} {r : Reply} (args : List Text) → 5 ≤ length args → r ≡ Completed (failing (wrong_args (codes "for start test next command"))) → Proceeds ways (language style) T o p (for_loop args) T o (Some r)
  for_many [] h e = absurd (omega arith)
  for_many (w ∷ []) h e = absurd (omega arith)
  for_many (w ∷ x ∷ []) h e = absurd (omega arith)
  for_many (w ∷ x ∷ y ∷ []) h e = absurd (omega arith)
  for_many (w ∷ x ∷ y ∷ z ∷ []) h e = absurd (omega arith)
  for_many (v ∷ w ∷ x ∷ y ∷ z ∷ rest) h e = at_reply e completed

  pub for_other : {T : Tree Own} {o : S} {p : Path} {r : Reply} (args : List Text) → (length args < 4) ⊎ (5 ≤ length args) → r ≡ Completed (failing (wrong_args (codes "for start test next command"))) → Proceeds ways (language style) T o p (for_loop args) T o (Some r)
  for_other args (inl h) e = for_few args h e
  for_other args (inr h) e = for_many args h e
