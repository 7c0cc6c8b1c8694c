-- Lists in order: the command lsort.
use Rattle.std.specs.declared.result.Result.{Result}
use Rattle.tcl_value.specs.declared.value.Value.{Value}
use Rattle.tcl_words.specs.declared.refusal.Refusal.{Refusal}
use Rattle.tcl_words.specs.declared.refusal.Refusal.TheVariants.{Memory, Fault}
use Rattle.tcl_text.specs.declared.integer.Integers.{Integers}
use Rattle.tcl_words.specs.Outcomes.{Outcome, next}
use Rattle.tcl_words.specs.Words.{integer_word}
use Rattle.tcl_lists.specs.Lists.{Texts, list_value}
use Rattle.std.specs.Prelude.{◌≡◌, Ok, Err, ℕ, ℤ, Bool, true, false, cond, ◌&&◌, List, [], ◌∷◌, map}
use Rattle.std.specs.Str.{bytes_eq}
use Rattle.std.specs.declared.cmp.Ordering.{Ordering}
use Rattle.std.specs.Ordering.{is_lt, nat_cmp, int_cmp, int_eq}
use Rattle.std.specs.List.Sorted.{IsPermutation, IsSortedBy, IsStableBy}
use Rattle.std.specs.Cmp.Lexicographic.{slice_cmp}

-- the order of texts, by the numbers of their characters, which is that of their bytes
abbrev pub text_order : List ℕ → List ℕ → Ordering
text_order = slice_cmp nat_cmp

-- whether one comes before another by an order, or by its opposite where the list is to decrease
abbrev pub is_before : {X : Type 0} → (X → X → Ordering) → Bool → X → X → Bool
is_before order false x y = is_lt (order x y)
is_before order true x y = is_lt (order y x)

-- the elements of a list in order, in which those of which neither comes before the other stand as
-- they stood
pub record IsOrdered {X : Type 0} (before : X → X → Bool) (l m : List X) : Type 0 where
  pub permutation : IsPermutation l m
  pub ordered : IsSortedBy before m
  pub stable : IsStableBy before l m

-- whether the next of a list's elements is equal to one that stands before it
abbrev pub is_repeated : {X : Type 0} → (X → X → Bool) → X → List X → Bool
is_repeated same x [] = false
is_repeated same x (y ∷ l) = same x y

-- all elements of a list in order, or the last of each run of equal ones
abbrev pub kept : {X : Type 0} → (X → X → Bool) → Bool → List X → List X
kept same unique [] = []
kept same unique (x ∷ l) = cond (unique && is_repeated same x l) (kept same unique l)
    (x ∷ kept same unique l)

-- whether two texts are the same
abbrev pub same_text : List ℕ → List ℕ → Bool
same_text = bytes_eq

-- A list's elements in the order of their texts, as a value: what there is, or what is told.
abbrev pub IsSortedList : Texts → Bool → Bool → Outcome → Type 0
IsSortedList l decreasing unique outcome = (m : Texts) ×
    IsOrdered (is_before text_order decreasing) l m ×
    (outcome ≡ list_value (kept same_text unique m))

-- an element with its integer
abbrev pub Numbered : Type 0
Numbered = List ℕ × ℤ

-- the order of elements by their integers
abbrev pub number_order : Numbered → Numbered → Ordering
number_order x y = int_cmp x.1 y.1

-- whether two elements have the same integer
abbrev pub same_number : Numbered → Numbered → Bool
same_number x y = int_eq x.1 y.1

-- an element with its integer, or what is told of it where it has none
abbrev pub with_number : Integers → List ℕ → Result Numbered (List ℕ)
with_number style x = next (integer_word style x) (λ n. Ok (x, n))

-- elements with their integers, or what is told of the first that has none
abbrev pub numbered : Integers → Texts → Result (List Numbered) (List ℕ)
numbered style [] = Ok []
numbered style (x ∷ l) =
    next (with_number style x) (λ row.
    next (numbered style l) (λ rows. Ok (row ∷ rows)))

-- the elements alone
abbrev pub elements_of : List Numbered → Texts
elements_of rows = map (λ r. r.0) rows

-- what holds of an outcome: this of what there is, or that it is the refusal
abbrev pub After : {X : Type 0} → Result X (List ℕ) → (X → Outcome → Type 0) → Outcome → Type 0
After (Ok x) P outcome = P x outcome
After (Err fault) P outcome = outcome ≡ Err fault

-- Rows in the order of their integers, as a value of their elements.
abbrev pub IsSortedRows : Bool → Bool → List Numbered → Outcome → Type 0
IsSortedRows decreasing unique rows outcome = (m : List Numbered) ×
    IsOrdered (is_before number_order decreasing) rows m ×
    (outcome ≡ list_value (elements_of (kept same_number unique m)))

-- A list's elements in the order of their integers, as a value.
abbrev pub IsSortedNumbers : Integers → Texts → Bool → Bool → Outcome → Type 0
IsSortedNumbers style l decreasing unique = After (numbered style l)
    (IsSortedRows decreasing unique)

-- what a call returned is such an outcome, unless memory ran out
abbrev pub GivesSome : Result Value Refusal → (Outcome → Type 0) → Type 0
GivesSome (Ok value) P = P (Ok value)
GivesSome (Err Memory) P = Unit {0}
GivesSome (Err (Fault text)) P = P (Err text)
