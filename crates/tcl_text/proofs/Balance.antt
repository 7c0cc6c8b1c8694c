-- What is written of a list has balanced braces, and no backslash before a newline.
use Rattle.std.proofs.Common.{◌≡◌, ℕ, suc, zero, Bool, true, false, cond, not, ◌||◌, ◌&&◌, List, [], ◌∷◌, ◌++◌, refl, sym, ◌∙◌, ap, subst, arith, inl, inr, Option, Some, None}
use Rattle.std.specs.Prelude.{◌==◌}
use Rattle.std.specs.List.{flat_map}
use Rattle.std.specs.Option.{option_and_then}
use Rattle.std.proofs.lemmas.Bool.{cases_Bool, and_parts, eqb-true, not-true}
use Rattle.std.proofs.lemmas.Bool.Decides.{nat_tests}
use Rattle.tcl_text.specs.declared.list.Braces.{Braces}
use Rattle.tcl_text.specs.Lists.{braces, none_open, closed, count, count_all}
use Rattle.tcl_text.specs.Writing.{is_special, has_special, is_comment, all_closed, fits_braces, last_byte, joins_lines, letter_of, escaped_byte, hash_mark, written, written_list}

abbrev write_rest : List (List ℕ) → List ℕ
write_rest xs = flat_map (λ y. 32 ∷ written false y) xs

or_parts : (s t : Bool) → (s || t) ≡ false → (s ≡ false) × (t ≡ false)
or_parts true t h = absurd (let e : true ≡ false = h in cc)
or_parts false t h = (refl, h)

or_false : (s t : Bool) → s ≡ false → t ≡ false → (s || t) ≡ false
or_false true t h k = absurd (let e : true ≡ false = h in cc)
or_false false t h k = k

and_false : (s t : Bool) → t ≡ false → (s && t) ≡ false
and_false true t h = h
and_false false t h = refl

and_true : (s t : Bool) → s ≡ true → t ≡ true → (s && t) ≡ true
and_true true t h k = k
and_true false t h k = absurd (let e : false ≡ true = h in cc)

-- bytes that aren't special
plain_10 : (b : ℕ) → is_special b ≡ false → (b == 10) ≡ false
plain_10 b h = grind (arith, nat_tests)

plain_92 : (b : ℕ) → is_special b ≡ false → (b == 92) ≡ false
plain_92 b h = grind (arith, nat_tests)

plain_123 : (b : ℕ) → is_special b ≡ false → (b == 123) ≡ false
plain_123 b h = grind (arith, nat_tests)

plain_125 : (b : ℕ) → is_special b ≡ false → (b == 125) ≡ false
plain_125 b h = grind (arith, nat_tests)

letter_10 : (b : ℕ) → (letter_of b == 10) ≡ false
letter_10 b = grind (arith, nat_tests)

-- braces, counted in parts
and_then : (s t : List ℕ) (n : Braces) (o : Option Braces) → ((m : Braces) → count_all s m ≡ Some n → count_all (s ++ t) m ≡ count_all t n) → option_and_then (count_all s) o ≡ Some n → option_and_then (count_all (s ++ t)) o ≡ count_all t n
and_then s t n None later h = absurd (cc)
and_then s t n (Some m) later h = later m h

count_append : (s t : List ℕ) (b n : Braces) → count_all s b ≡ Some n → count_all (s ++ t) b ≡ count_all t n
unfolding count_all
count_append [] t b n h = let same : b ≡ n = cc in ap (count_all t) same
count_append (c ∷ s) t b n h = and_then s t n (count b c) (λ m k. count_append s t m n k) h

-- a brace more, all the way
deeper_test : (k t u v : Bool) (d : ℕ) (m : Braces) → cond k (Some (braces d false)) (cond t (Some (braces d true)) (cond u (Some (braces (suc d) false)) (cond v (closed d) (Some (braces d false))))) ≡ Some m → cond k (Some (braces (suc d) false)) (cond t (Some (braces (suc d) true)) (cond u (Some (braces (suc (suc d)) false)) (cond v (closed (suc d)) (Some (braces (suc d) false))))) ≡ Some (braces (suc m.depth) m.skips)
deeper_test true t u v d m h = let same : braces d false ≡ m = cc in ap (λ (x : Braces). Some (braces (suc x.depth) x.skips)) same
deeper_test false true u v d m h = let same : braces d true ≡ m = cc in ap (λ (x : Braces). Some (braces (suc x.depth) x.skips)) same
deeper_test false false true v d m h = let same : braces (suc d) false ≡ m = cc in ap (λ (x : Braces). Some (braces (suc x.depth) x.skips)) same
deeper_test false false false true zero m h = absurd (cc)
deeper_test false false false true (suc d) m h = let same : braces d false ≡ m = cc in ap (λ (x : Braces). Some (braces (suc x.depth) x.skips)) same
deeper_test false false false false d m h = let same : braces d false ≡ m = cc in ap (λ (x : Braces). Some (braces (suc x.depth) x.skips)) same

deeper_then : (s : List ℕ) (n : Braces) (o p : Option Braces) → ((m : Braces) → o ≡ Some m → p ≡ Some (braces (suc m.depth) m.skips)) → ((m : Braces) → count_all s m ≡ Some n → count_all s (braces (suc m.depth) m.skips) ≡ Some (braces (suc n.depth) n.skips)) → option_and_then (count_all s) o ≡ Some n → option_and_then (count_all s) p ≡ Some (braces (suc n.depth) n.skips)
deeper_then s n None p one later h = absurd (cc)
deeper_then s n (Some m) p one later h = ap (option_and_then (count_all s)) (one m refl) ∙ later m h

count_deeper : (s : List ℕ) (b n : Braces) → count_all s b ≡ Some n → count_all s (braces (suc b.depth) b.skips) ≡ Some (braces (suc n.depth) n.skips)
unfolding count_all
count_deeper [] b n h = let same : b ≡ n = cc in ap (λ (x : Braces). Some (braces (suc x.depth) x.skips)) same
count_deeper (c ∷ s) b n h = deeper_then s n (count b c) (count (braces (suc b.depth) b.skips) c) (λ m k. deeper_test b.skips (c == 92) (c == 123) (c == 125) b.depth m k) (λ m k. count_deeper s m n k) h

-- what is written of an element is balanced
plain_step : (t u v : Bool) → t ≡ false → u ≡ false → v ≡ false → cond t (Some (braces 0 true)) (cond u (Some (braces 1 false)) (cond v (closed 0) (Some (braces 0 false)))) ≡ Some none_open
plain_step true u v h i j = absurd (let e : true ≡ false = h in cc)
plain_step false true v h i j = absurd (let e : true ≡ false = i in cc)
plain_step false false true h i j = absurd (let e : true ≡ false = j in cc)
plain_step false false false h i j = refl

plain_count : (b : ℕ) → is_special b ≡ false → count none_open b ≡ Some none_open
plain_count b h = plain_step (b == 92) (b == 123) (b == 125) (plain_92 b h) (plain_123 b h) (plain_125 b h)

balanced_plain : (x : List ℕ) → has_special x ≡ false → count_all x none_open ≡ Some none_open
unfolding count_all
balanced_plain [] h = refl
balanced_plain (b ∷ x) h =
    let two = or_parts (is_special b) (has_special x) h in
    ap (option_and_then (count_all x)) (plain_count b two.0) ∙ balanced_plain x two.1

escaped_step : (t : Bool) (b : ℕ) (r : List ℕ) → t ≡ is_special b → count_all r none_open ≡ Some none_open → count_all (cond t (92 ∷ letter_of b ∷ []) (b ∷ []) ++ r) none_open ≡ Some none_open
unfolding count_all
escaped_step true b r e h = h
escaped_step false b r e h = ap (option_and_then (count_all r)) (plain_count b (sym e)) ∙ h

balanced_escaped : (x : List ℕ) → count_all (flat_map escaped_byte x) none_open ≡ Some none_open
unfolding count_all
balanced_escaped [] = refl
balanced_escaped (b ∷ x) = escaped_step (is_special b) b (flat_map escaped_byte x) refl (balanced_escaped x)

balanced_marked : (b : ℕ) (s : List ℕ) (comment : Bool) → (comment ≡ true → b ≡ 35) → count_all (hash_mark comment ++ flat_map escaped_byte (b ∷ s)) none_open ≡ Some none_open
unfolding count_all
balanced_marked b s false h = balanced_escaped (b ∷ s)
balanced_marked b s true h = subst (λ z. count_all (92 ∷ flat_map escaped_byte (z ∷ s)) none_open ≡ Some none_open) (sym (h refl)) (balanced_escaped s)

balanced_braced : (x : List ℕ) → count_all x none_open ≡ Some none_open → count_all (123 ∷ (x ++ 125 ∷ [])) none_open ≡ Some none_open
unfolding count_all
balanced_braced x h = count_append x (125 ∷ []) (braces 1 false) (braces 1 false) (count_deeper x none_open none_open h)

closed_is : (o : Option Braces) → all_closed o ≡ true → o ≡ Some none_open
closed_is None h = absurd (let e : false ≡ true = h in cc)
closed_is (Some b) h =
    let two = and_parts _ _ h in
    let depth = eqb-true b.depth 0 two.0 in
    let skips = not-true b.skips two.1 in
    λ i. Some (braces (depth i) (skips i))

hash_is : (first : Bool) (b : ℕ) (s : List ℕ) → is_comment first (b ∷ s) ≡ true → b ≡ 35
hash_is first b s h = let two = and_parts _ _ h in eqb-true b 35 two.1

balanced_written : (first : Bool) (x : List ℕ) → count_all (written first x) none_open ≡ Some none_open
unfolding written count_all
balanced_written first [] = refl
balanced_written first (b ∷ s) =
    elim (cases_Bool (has_special (b ∷ s) || is_comment first (b ∷ s))) [
      | inl marked ↦ elim (cases_Bool (fits_braces (b ∷ s))) [
        | inl fits ↦ rw (marked, fits) (balanced_braced (b ∷ s) (closed_is (count_all (b ∷ s) none_open) (and_parts _ _ (and_parts _ _ fits).0).0))
        | inr never ↦ rw (marked, never) (balanced_marked b s (is_comment first (b ∷ s)) (hash_is first b s))
      ]
      | inr plain ↦ rw plain (balanced_plain (b ∷ s) (or_parts _ _ plain).0)
    ]

balanced_rest : (xs : List (List ℕ)) → count_all (write_rest xs) none_open ≡ Some none_open
unfolding count_all
balanced_rest [] = refl
balanced_rest (x ∷ xs) = count_append (written false x) (write_rest xs) none_open none_open (balanced_written false x) ∙ balanced_rest xs

balanced_write : (x : List ℕ) (xs : List (List ℕ)) → count_all (written_list (x ∷ xs)) none_open ≡ Some none_open
balanced_write x xs = count_append (written true x) (write_rest xs) none_open none_open (balanced_written true x) ∙ balanced_rest xs

-- no backslash stands before a newline
joins_append : (s t : List ℕ) (p : ℕ) → ((q : ℕ) → joins_lines q t ≡ false) → joins_lines p s ≡ false → joins_lines p (s ++ t) ≡ false
joins_append [] t p h k = h p
joins_append (b ∷ s) t p h k = let two = or_parts ((p == 92) && (b == 10)) (joins_lines b s) k in or_false _ _ two.0 (joins_append s t b h two.1)

joins_plain : (x : List ℕ) (p : ℕ) → has_special x ≡ false → joins_lines p x ≡ false
joins_plain [] p h = refl
joins_plain (b ∷ x) p h = let two = or_parts (is_special b) (has_special x) h in or_false _ _ (and_false (p == 92) (b == 10) (plain_10 b two.0)) (joins_plain x b two.1)

joins_step : (t : Bool) (b : ℕ) (r : List ℕ) (p : ℕ) → t ≡ is_special b → ((q : ℕ) → joins_lines q r ≡ false) → joins_lines p (cond t (92 ∷ letter_of b ∷ []) (b ∷ []) ++ r) ≡ false
joins_step true b r p e h = or_false _ _ (and_false (p == 92) false refl) (or_false _ _ (letter_10 b) (h (letter_of b)))
joins_step false b r p e h = or_false _ _ (and_false (p == 92) (b == 10) (plain_10 b (sym e))) (h b)

joins_escaped : (x : List ℕ) (p : ℕ) → joins_lines p (flat_map escaped_byte x) ≡ false
joins_escaped [] p = refl
joins_escaped (b ∷ x) p = joins_step (is_special b) b (flat_map escaped_byte x) p refl (λ q. joins_escaped x q)

joins_marked : (x : List ℕ) (comment : Bool) (p : ℕ) → joins_lines p (hash_mark comment ++ flat_map escaped_byte x) ≡ false
joins_marked x false p = joins_escaped x p
joins_marked x true p = or_false _ _ (and_false (p == 92) false refl) (joins_escaped x 92)

joins_start : (x : List ℕ) → joins_lines 0 x ≡ false → joins_lines 123 x ≡ false
joins_start [] h = h
joins_start (b ∷ x) h = h

joins_braced : (x : List ℕ) (p : ℕ) → joins_lines 0 x ≡ false → joins_lines p (123 ∷ (x ++ 125 ∷ [])) ≡ false
joins_braced x p h = or_false _ _ (and_false (p == 92) false refl) (joins_append x (125 ∷ []) 123 (λ q. or_false _ _ (and_false (q == 92) false refl) refl) (joins_start x h))

joins_written : (first : Bool) (x : List ℕ) (p : ℕ) → joins_lines p (written first x) ≡ false
unfolding written
joins_written first [] p = or_false _ _ (and_false (p == 92) false refl) refl
joins_written first (b ∷ s) p =
    elim (cases_Bool (has_special (b ∷ s) || is_comment first (b ∷ s))) [
      | inl marked ↦ elim (cases_Bool (fits_braces (b ∷ s))) [
        | inl fits ↦ rw (marked, fits) (joins_braced (b ∷ s) p (not-true _ (and_parts _ _ fits).1))
        | inr never ↦ rw (marked, never) (joins_marked (b ∷ s) (is_comment first (b ∷ s)) p)
      ]
      | inr plain ↦ rw plain (joins_plain (b ∷ s) p (or_parts _ _ plain).0)
    ]

joins_rest : (xs : List (List ℕ)) (p : ℕ) → joins_lines p (write_rest xs) ≡ false
joins_rest [] p = refl
joins_rest (x ∷ xs) p = or_false _ _ (and_false (p == 92) false refl) (joins_append (written false x) (write_rest xs) 32 (λ q. joins_rest xs q) (joins_written false x 32))

joins_write : (x : List ℕ) (xs : List (List ℕ)) → joins_lines 0 (written_list (x ∷ xs)) ≡ false
joins_write x xs = joins_append (written true x) (write_rest xs) 0 (λ q. joins_rest xs q) (joins_written true x 0)

closed_none : (o : Option Braces) → o ≡ Some none_open → all_closed o ≡ true
closed_none o h = ap all_closed h

turned_false : (b : Bool) → b ≡ false → not b ≡ true
turned_false true h = absurd (let e : true ≡ false = h in cc)
turned_false false h = refl

-- it may stand in braces where it doesn't end in a backslash
pub fits_list : (x : List ℕ) (xs : List (List ℕ)) → (last_byte 0 (written_list (x ∷ xs)) == 92) ≡ false → fits_braces (written_list (x ∷ xs)) ≡ true
fits_list x xs h =
    and_true _ _
    (and_true _ _ (closed_none _ (balanced_write x xs)) (turned_false _ h))
    (turned_false _ (joins_write x xs))
