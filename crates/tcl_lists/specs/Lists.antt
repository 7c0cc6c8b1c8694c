-- The list commands as functions of texts. A value that is read as a list is the list of its
-- elements' texts.
use Rattle.std.specs.Prelude.{◌≡◌, ℕ, zero, suc, ◌+◌, ℤ, pos, negsuc, List, [], ◌∷◌, ◌++◌, length}
use Rattle.std.specs.Prelude.{reverse, drop, slice_index_or, Ok, Err, codes}
use Rattle.std.specs.declared.result.Result.{Result}
use Rattle.tcl_text.specs.declared.integer.Integers.{Integers}
use Rattle.tcl_text.specs.declared.index.Index.{Index}
use Rattle.tcl_text.specs.declared.index.Index.TheVariants.{Before, At, Beyond}
use Rattle.tcl_words.specs.declared.refusal.Refusal.{Refusal}
use Rattle.tcl_words.specs.Outcomes.{Outcome, Refuses, next}
use Rattle.tcl_words.specs.Arguments.{one_word, three_words}
use Rattle.tcl_words.specs.Faults.{wrong_arguments, bad_count}
use Rattle.tcl_words.specs.Words.{integer_word, index_word, list_word}
use Rattle.tcl_words.specs.Limits.{limited, counted}
use Rattle.tcl_words.specs.Spans.{before, from, span}
use Rattle.tcl_value.specs.Writing.{write}

-- texts in order: words, or the elements of a list
abbrev pub Texts : Type 0
Texts = List (List ℕ)

-- a list as a value: its text, or 122
abbrev pub list_value : Texts → Outcome
list_value l = limited (write l)

-- a call returned the elements of the list that is the outcome, which may be too long for a value;
-- or its refusal is the outcome
abbrev pub GivesPart : Result Texts Refusal → Outcome → Type 0
GivesPart (Ok part) outcome = outcome ≡ list_value part
GivesPart (Err e) outcome = Refuses e outcome

-- a word that must stand, and those behind it
abbrev pub first_and_rest : List ℕ → Texts → Result (List ℕ × Texts) (List ℕ)
first_and_rest form [] = Err (wrong_arguments form)
first_and_rest form (a ∷ rest) = Ok (a, rest)

-- two words that must stand, and those behind them
abbrev pub two_and_rest : List ℕ → Texts → Result (List ℕ × List ℕ × Texts) (List ℕ)
two_and_rest form (a ∷ b ∷ rest) = Ok (a, b, rest)
two_and_rest form words = Err (wrong_arguments form)

-- three words that must stand, and those behind them
abbrev pub three_and_rest : List ℕ → Texts → Result (List ℕ × List ℕ × List ℕ × Texts) (List ℕ)
three_and_rest form (a ∷ b ∷ c ∷ rest) = Ok (a, b, c, rest)
three_and_rest form words = Err (wrong_arguments form)

-- the last word and those before it, or 241
abbrev pub all_and_last : List ℕ → Texts → Result (Texts × List ℕ) (List ℕ)
all_and_last form [] = Err (wrong_arguments form)
all_and_last form (w ∷ []) = Ok ([], w)
all_and_last form (w ∷ v ∷ words) = next (all_and_last form (v ∷ words)) (λ p. Ok (w ∷ p.0, p.1))

-- the first word, those between, and the last word, or 241
abbrev pub first_middle_last : List ℕ → Texts → Result (List ℕ × Texts × List ℕ) (List ℕ)
first_middle_last form words =
    next (first_and_rest form words) (λ p.
    next (all_and_last form p.1) (λ q. Ok (p.0, q.0, q.1)))

-- the list of the words
abbrev pub list_of : Texts → Outcome
list_of words = list_value words

-- how many elements
abbrev pub llength_of : Texts → Outcome
llength_of words =
    next (one_word (codes "llength list") words) (λ w.
    next (list_word w) (λ l. counted (length l)))

-- the elements from one index to another
abbrev pub lrange_of : Integers → Texts → Outcome
lrange_of style words =
    next (three_words (codes "lrange list first last") words) (λ p.
    next (list_word p.0) (λ l.
    next (index_word style (length l) p.1) (λ first.
    next (index_word style (length l) p.2) (λ last.
    list_value (span first last l)))))

-- the elements with others before an index; `end` is the place past the last
abbrev pub linsert_of : Integers → Texts → Outcome
linsert_of style words =
    next (two_and_rest (codes "linsert list index ?element ...?") words) (λ p.
    next (list_word p.0) (λ l.
    next (index_word style (length l + 1) p.1) (λ at.
    list_value (before at l ++ p.2 ++ from at l))))

-- the elements behind those between two indexes: all that stand from the first place on, but for
-- those between
abbrev pub behind_span : Index → Index → Texts → Texts
behind_span first last l = drop (length (span first last l)) (from first l)

-- the elements with others in the place of those between two indexes
abbrev pub lreplace_of : Integers → Texts → Outcome
lreplace_of style words =
    next (three_and_rest (codes "lreplace list first last ?element ...?") words) (λ p.
    next (list_word p.0) (λ l.
    next (index_word style (length l) p.1) (λ first.
    next (index_word style (length l) p.2) (λ last.
    list_value (before first l ++ p.3 ++ behind_span first last l)))))

-- the elements from the last to the first
abbrev pub lreverse_of : Texts → Outcome
lreverse_of words =
    next (one_word (codes "lreverse list") words) (λ w.
    next (list_word w) (λ l. list_value (reverse l)))

-- the words, so many times
abbrev pub copies : ℕ → Texts → Texts
copies zero words = []
copies (suc n) words = words ++ copies n words

-- the words, as often as a count says; 245 where it is negative, and `text` is the word that says
-- it
abbrev pub counted_copies : List ℕ → Texts → ℤ → Outcome
counted_copies text words (pos n) = list_value (copies n words)
counted_copies text words (negsuc n) = Err (bad_count text)

abbrev pub lrepeat_of : Integers → Texts → Outcome
lrepeat_of style words =
    next (first_and_rest (codes "lrepeat count ?value ...?") words) (λ p.
    next (integer_word style p.0) (λ count. counted_copies p.0 p.1 count))

-- what `lassign` leaves of a list: all but as many elements as there are names
abbrev pub lassign_rest : ℕ → Texts → Outcome
lassign_rest names l = list_value (drop names l)

-- the element at a place, and nothing where there is none
abbrev pub element : Index → Texts → List ℕ
element Before l = []
element (At n) l = slice_index_or l n []
element Beyond l = []

-- what stands at an index of the list that a text reads as
abbrev pub at_index : Integers → List ℕ → List ℕ → Outcome
at_index style text i =
    next (list_word text) (λ l.
    next (index_word style (length l) i) (λ at. Ok (element at l)))

-- what stands at an index, at the next index of that, and so on
abbrev pub at_indexes : Integers → List ℕ → Texts → Outcome
at_indexes style text [] = Ok text
at_indexes style text (i ∷ is) = next (at_index style text i) (λ found. at_indexes style found is)

-- the indexes of words each of which is a list of them
abbrev pub indexes_of : Texts → Result Texts (List ℕ)
indexes_of [] = Ok []
indexes_of (w ∷ ws) =
    next (list_word w) (λ is.
    next (indexes_of ws) (λ rest. Ok (is ++ rest)))

-- The list is read first, then each word as a list of indexes, and then one index after the other.
abbrev pub read_at : Integers → List ℕ → Texts → Outcome
read_at style text words =
    next (list_word text) (λ _.
    next (indexes_of words) (λ is. at_indexes style text is))

-- one word, and how it reads as a list: an empty one leaves the value as it is
abbrev pub at_word : Integers → List ℕ → List ℕ → Result Texts (List ℕ) → Outcome
at_word style text word (Ok []) = Ok text
at_word style text word (Ok (i ∷ is)) = read_at style text (word ∷ [])
at_word style text word (Err message) = read_at style text (word ∷ [])

-- the words behind a list
abbrev pub at_words : Integers → List ℕ → Texts → Outcome
at_words style text [] = Ok text
at_words style text (word ∷ []) = at_word style text word (list_word word)
at_words style text (word ∷ other ∷ words) = read_at style text (word ∷ other ∷ words)

abbrev pub lindex_of : Integers → Texts → Outcome
lindex_of style words =
    next (first_and_rest (codes "lindex list ?index ...?") words) (λ p. at_words style p.0 p.1)

-- the list with elements behind its own; this is written anew, also where there are none
abbrev pub lappend_of : List ℕ → Texts → Outcome
lappend_of old words = next (list_word old) (λ l. list_value (l ++ words))

-- what a change of a value returned and left: the outcome, or the value as it was and the refusal
abbrev pub Changes : {X : Type 0} → Result X Refusal → List ℕ → List ℕ → Outcome → Type 0
Changes (Ok x) old new outcome = outcome ≡ Ok new
Changes (Err e) old new outcome = Refuses e outcome × (new ≡ old)
