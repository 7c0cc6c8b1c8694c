-- What stands in a list or a dict is no longer than what is written of it.
use Rattle.std.proofs.Common.{arith, ℕ, zero, suc, ◌≤◌, Bool, true, false, List, [], ◌∷◌, length, length-append}
use Rattle.std.specs.Prelude.{if◌then◌else◌}
use Rattle.std.specs.Str.{bytes_eq}
use Rattle.tcl_text.specs.Writing.{written}
use Rattle.tcl_value.specs.Writing.{write_rest, write}
use Rattle.tcl_value.specs.Texts.{flat}
use Rattle.tcl_value.specs.Dicts.{Pairs, put}
use Rattle.tcl_value.proofs.Longer.{written_longer}
use Rattle.tcl_lists.specs.Nested.{Texts, with_element}

-- the first of the elements that aren't the first of their list
head_longer : (x : List ℕ) (l : Texts) → length x ≤ length (write_rest (x ∷ l))
head_longer x l = omega (arith, written_longer false x, length-append (written false x) (write_rest l))

tail_longer : (x y : List ℕ) (l : Texts) → length x ≤ length (write_rest l) → length x ≤ length (write_rest (y ∷ l))
tail_longer x y l h = omega (arith, h, length-append (written false y) (write_rest l))

rest_longer : (n : ℕ) (x : List ℕ) (l : Texts) → length x ≤ length (write_rest (with_element n x l))
rest_longer n x [] = head_longer x []
rest_longer zero x (y ∷ l) = head_longer x l
rest_longer (suc n) x (y ∷ l) = tail_longer x y (with_element n x l) (rest_longer n x l)

first_longer : (x : List ℕ) (l : Texts) → length x ≤ length (write (x ∷ l))
first_longer x l = omega (arith, written_longer true x, length-append (written true x) (write_rest l))

later_longer : (x y : List ℕ) (l : Texts) → length x ≤ length (write_rest l) → length x ≤ length (write (y ∷ l))
later_longer x y l h = omega (arith, h, length-append (written true y) (write_rest l))

pub element_longer : (n : ℕ) (x : List ℕ) (l : Texts) → length x ≤ length (write (with_element n x l))
element_longer n x [] = first_longer x []
element_longer zero x (y ∷ l) = first_longer x l
element_longer (suc n) x (y ∷ l) = later_longer x y (with_element n x l) (rest_longer n x l)

entry_rest : (b : Bool) (e : List ℕ × List ℕ) (es tail : Pairs) (x : List ℕ) → length x ≤ length (write_rest (flat tail)) → length x ≤ length (write_rest (flat (if b then (e.0, x) ∷ es else e ∷ tail)))
entry_rest true e es tail x h = tail_longer x e.0 (x ∷ flat es) (head_longer x (flat es))
entry_rest false e es tail x h = tail_longer x e.0 (e.1 ∷ flat tail) (tail_longer x e.1 (flat tail) h)

value_rest : (es : Pairs) (k x : List ℕ) → length x ≤ length (write_rest (flat (put es k x)))
value_rest [] k x = tail_longer x k (x ∷ []) (head_longer x [])
value_rest (e ∷ es) k x = entry_rest (bytes_eq k e.0) e es (put es k x) x (value_rest es k x)

entry_first : (b : Bool) (e : List ℕ × List ℕ) (es tail : Pairs) (x : List ℕ) → length x ≤ length (write_rest (flat tail)) → length x ≤ length (write (flat (if b then (e.0, x) ∷ es else e ∷ tail)))
entry_first true e es tail x h = later_longer x e.0 (x ∷ flat es) (head_longer x (flat es))
entry_first false e es tail x h = later_longer x e.0 (e.1 ∷ flat tail) (tail_longer x e.1 (flat tail) h)

pub value_longer : (es : Pairs) (k x : List ℕ) → length x ≤ length (write (flat (put es k x)))
value_longer [] k x = later_longer x k (x ∷ []) (head_longer x [])
value_longer (e ∷ es) k x = entry_first (bytes_eq k e.0) e es (put es k x) x (value_rest es k x)
