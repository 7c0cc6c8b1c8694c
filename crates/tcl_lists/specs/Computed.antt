-- What the command lsort comes to, computed: the elements are put into a list in order one after
-- the other, from the last to the first.
use Rattle.std.specs.Prelude.{ℕ, Bool, true, false, cond, List, [], ◌∷◌, codes}
use Rattle.tcl_text.specs.declared.integer.Integers.{Integers}
use Rattle.tcl_words.specs.Outcomes.{Outcome, next}
use Rattle.tcl_words.specs.Words.{list_word}
use Rattle.tcl_lists.specs.Lists.{Texts, all_and_last, list_value}
use Rattle.tcl_lists.specs.Sorting.{is_before, kept, text_order, same_text, Numbered}
use Rattle.tcl_lists.specs.Sorting.{number_order, same_number, numbered, elements_of}
use Rattle.tcl_lists.specs.SortCommand.{plain, with_options}
use Rattle.tcl_lists.specs.declared.sort_options.Sorting.{Sorting}

-- a list in order with one more element: before the first that doesn't come before it
abbrev pub put_in : {X : Type 0} → (X → X → Bool) → X → List X → List X
put_in before x [] = x ∷ []
put_in before x (y ∷ l) = cond (before y x) (y ∷ put_in before x l) (x ∷ y ∷ l)

-- the elements of a list in order
abbrev pub in_order : {X : Type 0} → (X → X → Bool) → List X → List X
in_order before [] = []
in_order before (x ∷ l) = put_in before x (in_order before l)

-- rows in the order of their integers, as a value of their elements
abbrev pub rows_of : Bool → Bool → List Numbered → Outcome
rows_of decreasing unique rows = list_value
    (elements_of (kept same_number unique (in_order (is_before number_order decreasing) rows)))

-- a list in order, by its texts or by its integers
abbrev pub sorted_as : Integers → Sorting → Bool → Texts → Outcome
sorted_as style s false l = list_value
    (kept same_text s.unique (in_order (is_before text_order s.decreasing) l))
sorted_as style s true l = next (numbered style l) (rows_of s.decreasing s.unique)

-- the list of a word in order
abbrev pub sorted_word : Integers → List ℕ → Sorting → Outcome
sorted_word style word s = next (list_word word) (sorted_as style s s.by_number)

-- the list of the last word in the order that the words before it name
abbrev pub sorted_behind : Integers → Texts × List ℕ → Outcome
sorted_behind style p = next (with_options plain p.0) (sorted_word style p.1)

abbrev pub lsort_of : Integers → Texts → Outcome
lsort_of style words = next (all_and_last (codes "lsort ?option ...? list") words)
    (sorted_behind style)
