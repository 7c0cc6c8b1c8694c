-- Which limits may be set, and the numbers that they may be.
use Rattle.std.proofs.Common.{◌≡◌, ℕ, ℤ, ◌<◌, ◌≤◌, [], ◌∷◌, length, Option, Some, None, refl, sym, ◌∙◌, ap, subst, arith}
use Rattle.std.specs.Prelude.{Result, Ok, Err, codes}
use Rattle.tcl_core.specs.Endings.{Reply}
use Rattle.tcl_core.specs.Paths.{Text, Path}
use Rattle.tcl_language.specs.Instructions.{Program, fails, or_fails}
use Rattle.tcl_language.specs.Faults.{integer_message}
use Rattle.tcl_language.specs.Interpreters as interpreters
use Rattle.tcl_language.specs.Variables.{integer}
use Rattle.tcl_run.specs.Ends.{IsFailure, failing}
use Rattle.tcl_run.specs.declared.interruption.Interruption.{Interruption}
use Rattle.tcl_run.proofs.Endings.{Interrupts-more}
use Rattle.tcl_text.specs.Numbers.{in_64_bits, integer_of}
use Rattle.tcl_text.specs.declared.integer.IntegerFault.{IntegerFault}
use Rattle.tcl_text.specs.declared.integer.Integers.{Integers}
use Rattle.tcl_tree.specs.TreeOf.{tree_of, marks_of}
use Rattle.tcl_tree.specs.declared.tree.Tree.{Tree as Table_of}
use Rattle.tcl_tree.specs.declared.tree.Place.{Place as TablePlace}
use Rattle.tcl_calls.specs.Asking.{Styled}
use Rattle.tcl_calls.specs.Looking.{LooksToEnd, GetsTo, GetsToEnd, Finds, here}
use Rattle.tcl_calls.proofs.Looks.{gets_as, gets_end, gets_failed, is_program, looks_as, looks_then}
use Rattle.tcl_interp.specs.Limits.{DepthGiven}
use Rattle.tcl_interp.specs.Programs.{settable}
use Rattle.tcl_interp.specs.Subjects.{About, on_child, on_itself, on_path}
use Rattle.tcl_interp.specs.declared.limits.LimitOf.{LimitOf}

pub below_goes : (path : Path) (k : Program) → 1 ≤ length path → interpreters.below_itself path k ≡ k
below_goes [] k h = absurd (omega arith)
below_goes (x ∷ xs) k h = refl

pub below_denied : (path : Path) (k : Program) → length path < 1 → interpreters.below_itself path k ≡ fails interpreters.denied
below_denied [] k h = refl
below_denied (x ∷ xs) k h = absurd (omega arith)

pub unless_goes : (path : Path) (k : Program) → 1 ≤ length path → interpreters.unless_root path k ≡ k
unless_goes [] k h = absurd (omega arith)
unless_goes (x ∷ xs) k h = refl

-- ## Integers

pub integer_goes : (t : Table_of) (place : TablePlace) (own : Integers) (word : Text) (n : ℤ) (rest : ℤ → Styled) → own ≡ (marks_of t).integers → in_64_bits (integer_of own word) ≡ Ok n →
    GetsTo t place (λ style. integer style word (λ z. rest z style)) (rest n)
integer_goes t place own word n rest same read = λ p style at.
    is_program (tree_of t) p _ _ (ap (λ (x : Result ℤ IntegerFault). or_fails (integer_message word) x (λ z. rest z style)) (ap (λ (s : Integers). in_64_bits (integer_of s word)) (sym (same ∙ at.style_is)) ∙ read))

pub integer_fails : (t : Table_of) (place : TablePlace) (own : Integers) (word : Text) (e : Reply) (rest : ℤ → Styled) → own ≡ (marks_of t).integers → IsFailure (integer_message word) (in_64_bits (integer_of own word)) e →
    GetsToEnd t place (λ style. integer style word (λ z. rest z style)) e
integer_fails t place own word e rest same f = λ p style at. by (in_64_bits (integer_of style word)) p style (subst (λ (s : Integers). IsFailure (integer_message word) (in_64_bits (integer_of s word)) e) (same ∙ at.style_is) f)
  where
    by : (x : Result ℤ IntegerFault) (p : Path) (style : Integers) → IsFailure (integer_message word) x e → LooksToEnd (tree_of t) p (or_fails (integer_message word) x (λ z. rest z style)) e
    by (Ok z) p style g = elim g [ ]
    by (Err x) p style g = record { completion = failing (integer_message word x); way = here; end = g }

pub depth_found : (t : Table_of) (place : TablePlace) (own : Integers) (word : Text) (n given : ℤ) (r : Result ℕ Interruption) → own ≡ (marks_of t).integers → in_64_bits (integer_of own word) ≡ Ok n → given ≡ n → DepthGiven given r →
    Finds t place (λ limit. limit) (λ rest style. integer style word (λ z. interpreters.depth_number z (λ limit. rest limit style))) r
depth_found t place own word n given (Ok m) same read is d = λ rest p style at.
    looks_then (integer_goes t place own word n (λ z style. interpreters.depth_number z (λ limit. rest limit style)) same read p style at)
    (is_program (tree_of t) p _ _ (ap (λ (z : ℤ). interpreters.depth_number z (λ limit. rest limit style)) (sym is ∙ d)))
depth_found t place own word n given (Err i) same read is d = Interrupts-more i _ _ (λ e h rest. gets_end t place _ (λ style. interpreters.depth_number n (λ limit. rest limit style)) e
    (integer_goes t place own word n (λ z style. interpreters.depth_number z (λ limit. rest limit style)) same read)
    (gets_failed t place (λ style. interpreters.depth_number n (λ limit. rest limit style)) (codes "recursion limit must be between 1 and 1000") e (λ style. ap (λ (z : ℤ). interpreters.depth_number z (λ limit. rest limit style)) (sym is ∙ h.1)) h.2)) d

pub no_limit : (style : Integers) (word : Text) (k : Option ℕ → Program) → word ≡ [] → interpreters.limit_value style word k ≡ k None
no_limit style word k e = ap (λ (w : Text). interpreters.limit_value style w k) e

some_limit : (style : Integers) (word : Text) (k : Option ℕ → Program) → (word ≡ [] → Prim.⊥) → interpreters.limit_value style word k ≡ integer style word (λ z. interpreters.limit_number word z (λ n. k (Some n)))
some_limit style [] k other = absurd (other refl)
some_limit style (c ∷ cs) k other = refl

pub limit_fails : (t : Table_of) (place : TablePlace) (own : Integers) (word : Text) (e : Reply) (rest : Option ℕ → Styled) → (word ≡ [] → Prim.⊥) → own ≡ (marks_of t).integers → IsFailure (integer_message word) (in_64_bits (integer_of own word)) e →
    GetsToEnd t place (λ style. interpreters.limit_value style word (λ l. rest l style)) e
limit_fails t place own word e rest other same f = gets_end t place _ (λ style. integer style word (λ z. interpreters.limit_number word z (λ n. rest (Some n) style))) e
    (gets_as t place _ _ (λ style. some_limit style word (λ l. rest l style) other)) (integer_fails t place own word e (λ z style. interpreters.limit_number word z (λ n. rest (Some n) style)) same f)

pub limit_goes : (t : Table_of) (place : TablePlace) (own : Integers) (word : Text) (n : ℤ) (rest : Option ℕ → Styled) → (word ≡ [] → Prim.⊥) → own ≡ (marks_of t).integers → in_64_bits (integer_of own word) ≡ Ok n →
    GetsTo t place (λ style. interpreters.limit_value style word (λ l. rest l style)) (λ style. interpreters.limit_number word n (λ m. rest (Some m) style))
limit_goes t place own word n rest other same read = λ p style at.
    looks_as (tree_of t) p _ _ _ (some_limit style word (λ l. rest l style) other) (integer_goes t place own word n (λ z style. interpreters.limit_number word z (λ m. rest (Some m) style)) same read p style at)

-- ## The path at which a limit may be set

pub settable_itself : (limit : LimitOf) (a : About) (text : Text) → a ≡ on_itself → text ≡ [] → (k : Path → Program) → settable limit a k ≡ settable limit (on_path text) k
settable_itself limit a text e f k = ap (λ (x : About). settable limit x k) e ∙ ap (λ (x : Text). settable limit (on_path x) k) (sym f)

pub settable_child : (limit : LimitOf) (a : About) (name : Text) (path : Path) → a ≡ on_child name → path ≡ name ∷ [] → (k : Path → Program) → settable limit a k ≡ k path
settable_child limit a name path e f k = ap (λ (x : About). settable limit x k) e ∙ ap k (sym f)
