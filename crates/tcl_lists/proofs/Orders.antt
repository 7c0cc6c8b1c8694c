-- A list has one order, and that is the computed one.
use Rattle.std.proofs.Common.{◌≡◌, ℕ, zero, suc, ◌<◌, Bool, true, false, cond, List, [], ◌∷◌, length, get_or, filter, refl, sym, ap, subst, ◌∙◌, arith, inl, inr, suc-le-suc, zero-le, ◌+◌}
use Rattle.std.specs.Prelude.{not, ◌&&◌, codes, Result, Ok, Err}
use Rattle.std.proofs.lemmas.Bool.{cond-true, cond-false, cases_Bool, and_parts, not-true}
use Rattle.std.proofs.lemmas.List.Sorted.{ranks_by, IsStrictWeakOrder-flip}
use Rattle.std.specs.Cmp.{IsStrictWeakOrder, int_cmp_total}
use Rattle.std.specs.Cmp.Lexicographic.{nat_list_cmp_total}
use Rattle.std.specs.List.Sorted.{IsSortedBy, ties}
use Rattle.tcl_text.specs.declared.integer.Integers.{Integers}
use Rattle.tcl_value.specs.declared.value.Value.{Value}
use Rattle.tcl_words.specs.Outcomes.{Outcome, Gives, next}
use Rattle.tcl_words.specs.Words.{list_word}
use Rattle.tcl_words.specs.declared.refusal.Refusal.{Refusal}
use Rattle.tcl_words.specs.declared.refusal.Refusal.TheVariants.{Memory, Fault}
use Rattle.tcl_lists.specs.Lists.{Texts, all_and_last, list_value}
use Rattle.tcl_lists.specs.Computed.{put_in, in_order, rows_of, sorted_as, sorted_word, sorted_behind, lsort_of}
use Rattle.tcl_lists.specs.SortCommand.{plain, with_options, IsSortedAs, IsSortedWord, IsSortedBehind, IsLsort}
use Rattle.tcl_lists.specs.Sorting.{is_before, kept, text_order, same_text, Numbered, number_order, same_number, numbered, elements_of, After, GivesSome, IsOrdered, IsSortedRows}
use Rattle.tcl_lists.specs.declared.sort_options.Sorting.{Sorting}

filter-kept : {X : Type 0} (p : X → Bool) (y : X) (ys : List X) → p y ≡ true → filter p (y ∷ ys) ≡ y ∷ filter p ys
filter-kept p y ys h = cond-true _ _ _ h

filter-dropped : {X : Type 0} (p : X → Bool) (y : X) (ys : List X) → p y ≡ false → filter p (y ∷ ys) ≡ filter p ys
filter-dropped p y ys h = cond-false _ _ _ h

module _ {X : Type 0} (before : X → X → Bool) (o : IsStrictWeakOrder before) where
  tied : (x y : X) → ties before x y ≡ true → (before x y ≡ false) × (before y x ≡ false)
  tied x y h = let p = and_parts (not (before x y)) (not (before y x)) h in (not-true _ p.0, not-true _ p.1)

  tie : (x y : X) → before x y ≡ false → before y x ≡ false → ties before x y ≡ true
  tie x y h k = ap (λ b. not b && not (before y x)) h ∙ ap (λ b. not false && not b) k

  itself : (x : X) → before x x ≡ false
  itself x = elim (cases_Bool (before x x)) [ inl holds ↦ o.one_way x x holds | inr fails ↦ fails ]

  -- no element of a list comes before this one
  abbrev NoneBefore : X → List X → Type 0
  NoneBefore a [] = Unit {0}
  NoneBefore a (y ∷ ys) = (before y a ≡ false) × NoneBefore a ys

  abbrev Rises : List X → Type 0
  Rises [] = Unit {0}
  Rises (y ∷ ys) = NoneBefore y ys × Rises ys

  none_more : (a b : X) (ys : List X) → before a b ≡ false → NoneBefore a ys → NoneBefore b ys
  none_more a b [] h k = tt
  none_more a b (y ∷ ys) h k = (o.chain y a b k.0 h, none_more a b ys h k.1)

  none_at : (a : X) (ys : List X) → ((j : ℕ) → j < length ys → before (get_or ys j a) a ≡ false) → NoneBefore a ys
  none_at a [] h = tt
  none_at a (y ∷ ys) h = (h zero (suc-le-suc zero-le), none_at a ys (λ j lt. h (suc j) (suc-le-suc lt)))

  found : (n x : X) (ys : List X) (w : X) (ws : List X) → NoneBefore n ys → filter (ties before x) ys ≡ w ∷ ws → before x n ≡ false
  found n x [] w ws h e = cc
  found n x (y ∷ ys) w ws h e =
      elim (cases_Bool (ties before x y)) [
        | inl with ↦ o.chain x y n (tied x y with).0 h.0
        | inr without ↦ found n x ys w ws h.1 (sym (filter-dropped (ties before x) y ys without) ∙ e)
      ]

  same_from_ties : (ys zs : List X) → Rises ys → Rises zs → ((x : X) → filter (ties before x) ys ≡ filter (ties before x) zs) → ys ≡ zs
  same_from_ties [] [] left right same = refl
  same_from_ties [] (z ∷ zs) left right same =
      let clash = same z ∙ filter-kept (ties before z) z zs (tie z z (itself z) (itself z)) in cc
  same_from_ties (y ∷ ys) [] left right same =
      let clash = sym (same y) ∙ filter-kept (ties before y) y ys (tie y y (itself y) (itself y)) in cc
  same_from_ties (y ∷ ys) (z ∷ zs) left right same =
      let at_y = filter-kept (ties before y) y ys (tie y y (itself y) (itself y)) in
      let at_z = filter-kept (ties before z) z zs (tie z z (itself z) (itself z)) in
      let up : before y z ≡ false = found z y (z ∷ zs) y _ (itself z, right.0) (sym (same y) ∙ at_y) in
      let down : before z y ≡ false = found y z (y ∷ ys) z _ (itself y, left.0) (same z ∙ at_z) in
      let heads = sym at_y ∙ same y ∙ filter-kept (ties before y) z zs (tie y z up down) in
      let head : y ≡ z = cc in
      let tails : (x : X) → filter (ties before x) ys ≡ filter (ties before x) zs =
      λ x. elim (cases_Bool (ties before x y)) [
        | inl with ↦
            let both = sym (filter-kept (ties before x) y ys with) ∙ same x ∙ filter-kept (ties before x) z zs (ap (ties before x) (sym head) ∙ with) in cc
        | inr without ↦
            sym (filter-dropped (ties before x) y ys without) ∙ same x ∙ filter-dropped (ties before x) z zs (ap (ties before x) (sym head) ∙ without)
      ] in
      ap (λ w. w ∷ ys) head ∙ ap (λ l. z ∷ l) (same_from_ties ys zs left.1 right.1 tails)

  -- ## The computed order

  filter_put : (z x : X) (l : List X) → filter (ties before z) (put_in before x l) ≡ filter (ties before z) (x ∷ l)
  filter_put z x [] = refl
  filter_put z x (y ∷ l) =
      let p = ties before z in
      elim (cases_Bool (before y x)) [
        | inr stays ↦ ap (filter p) (cond-false (before y x) (y ∷ put_in before x l) (x ∷ y ∷ l) stays)
        | inl past ↦
            ap (filter p) (cond-true (before y x) (y ∷ put_in before x l) (x ∷ y ∷ l) past)
            ∙ elim (cases_Bool (p y)) [
              | inr without ↦
                  filter-dropped p y (put_in before x l) without ∙ filter_put z x l
                  ∙ ap (λ t. cond (p x) (x ∷ t) t) (sym (filter-dropped p y l without))
              | inl with ↦
                  elim (cases_Bool (p x)) [
                    | inl both ↦ let clash = sym past ∙ o.chain y z x (tied z y with).1 (tied z x both).0 in cc
                    | inr only ↦
                        filter-kept p y (put_in before x l) with ∙ ap (λ t. y ∷ t) (filter_put z x l ∙ filter-dropped p x l only)
                        ∙ sym (filter-dropped p x (y ∷ l) only ∙ filter-kept p y l with)
                  ]
            ]
      ]

  filter_in_order : (z : X) (l : List X) → filter (ties before z) (in_order before l) ≡ filter (ties before z) l
  filter_in_order z [] = refl
  filter_in_order z (x ∷ l) = filter_put z x (in_order before l) ∙ ap (λ t. cond (ties before z x) (x ∷ t) t) (filter_in_order z l)

  none_put : (a x : X) (l : List X) → before x a ≡ false → NoneBefore a l → NoneBefore a (put_in before x l)
  none_put a x [] h k = (h, tt)
  none_put a x (y ∷ l) h k =
      elim (cases_Bool (before y x)) [
        | inl past ↦ subst (NoneBefore a) (sym (cond-true (before y x) (y ∷ put_in before x l) (x ∷ y ∷ l) past)) (k.0, none_put a x l h k.1)
        | inr stays ↦ subst (NoneBefore a) (sym (cond-false (before y x) (y ∷ put_in before x l) (x ∷ y ∷ l) stays)) (h, k)
      ]

  rises_put : (x : X) (l : List X) → Rises l → Rises (put_in before x l)
  rises_put x [] r = (tt, tt)
  rises_put x (y ∷ l) r =
      elim (cases_Bool (before y x)) [
        | inl past ↦ subst Rises (sym (cond-true (before y x) (y ∷ put_in before x l) (x ∷ y ∷ l) past)) (none_put y x l (o.one_way y x past) r.0, rises_put x l r.1)
        | inr stays ↦ subst Rises (sym (cond-false (before y x) (y ∷ put_in before x l) (x ∷ y ∷ l) stays)) ((stays, none_more y x l stays r.0), r)
      ]

  rises_in_order : (l : List X) → Rises (in_order before l)
  rises_in_order [] = tt
  rises_in_order (x ∷ l) = rises_put x (in_order before l) (rises_in_order l)

  rises_next : (y : X) (ys : List X) → Rises ys → IsSortedBy before (y ∷ ys) → Rises (y ∷ ys)
  rises_next y [] r s = (tt, r)
  rises_next y (z ∷ zs) r s =
      let first : before z y ≡ false = s 0 y zero-le (suc-le-suc (suc-le-suc zero-le)) in
      ((first, none_more z y zs first r.0), r)

  rises_from_sorted : (ys : List X) → IsSortedBy before ys → Rises ys
  rises_from_sorted [] s = tt
  rises_from_sorted (y ∷ ys) s = rises_next y ys (rises_from_sorted ys (λ k d low high.
      let next : suc (k + 1) ≡ suc k + 1 = omega arith in
      ap (λ (n : ℕ). before (get_or (y ∷ ys) n d) (get_or ys k d)) next ∙ s (suc k) d zero-le (omega arith))) s

  pub one_order : (l m : List X) → IsOrdered before l m → m ≡ in_order before l
  one_order l m h = same_from_ties m (in_order before l) (rises_from_sorted m h.ordered) (rises_in_order l) (λ x. h.stable x ∙ sym (filter_in_order x l))

-- ## The command

text_weak : (decreasing : Bool) → IsStrictWeakOrder (is_before text_order decreasing)
text_weak false = ranks_by nat_list_cmp_total (λ (x : List ℕ). x)
text_weak true = IsStrictWeakOrder-flip (is_before text_order false) (ranks_by nat_list_cmp_total (λ (x : List ℕ). x))

number_weak : (decreasing : Bool) → IsStrictWeakOrder (is_before number_order decreasing)
number_weak false = ranks_by int_cmp_total (λ (r : Numbered). r.1)
number_weak true = IsStrictWeakOrder-flip (is_before number_order false) (ranks_by int_cmp_total (λ (r : Numbered). r.1))

after : {X : Type 0} (r : Result X (List ℕ)) (P : X → Outcome → Type 0) (f : X → Outcome) (o : Outcome) → ((x : X) → P x o → o ≡ f x) → After r P o → o ≡ next r f
after (Ok x) P f o h a = h x a
after (Err fault) P f o h a = a

rows_are : (decreasing unique : Bool) (o : Outcome) (rows : List Numbered) → IsSortedRows decreasing unique rows o → o ≡ rows_of decreasing unique rows
rows_are decreasing unique o rows h =
    h.2 ∙ ap (λ (t : List Numbered). list_value (elements_of (kept same_number unique t))) (one_order (is_before number_order decreasing) (number_weak decreasing) rows h.0 h.1)

list_is : (style : Integers) (s : Sorting) (by_number : Bool) (o : Outcome) (l : Texts) → IsSortedAs style s by_number l o → o ≡ sorted_as style s by_number l
list_is style s false o l h =
    h.2 ∙ ap (λ (t : Texts). list_value (kept same_text s.unique t)) (one_order (is_before text_order s.decreasing) (text_weak s.decreasing) l h.0 h.1)
list_is style s true o l h = after (numbered style l) (IsSortedRows s.decreasing s.unique) (rows_of s.decreasing s.unique) o (rows_are s.decreasing s.unique o) h

pub lsort_is : (style : Integers) (words : Texts) (o : Outcome) → IsLsort style words o → o ≡ lsort_of style words
lsort_is style words o h =
    after (all_and_last (codes "lsort ?option ...? list") words) (IsSortedBehind style) (sorted_behind style) o
    (λ p. after (with_options plain p.0) (IsSortedWord style p.1) (sorted_word style p.1) o
    (λ s. after (list_word p.1) (IsSortedAs style s s.by_number) (sorted_as style s s.by_number) o (list_is style s s.by_number o))) h

-- what a call returned that is such an outcome, where there is only one
pub given_only : (r : Result Value Refusal) (P : Outcome → Type 0) (x : Outcome) → ((o : Outcome) → P o → o ≡ x) → GivesSome r P → Gives {X = Value} {Y = List ℕ} (λ value. value) r x
given_only (Ok value) P x f h = sym (f (Ok value) h)
given_only (Err Memory) P x f h = tt
given_only (Err (Fault text)) P x f h = sym (f (Err text) h)
