-- What is written spells the list.
use Rattle.std.proofs.Common.{◌≡◌, ◌≢◌, ℕ, Bool, true, false, ◌||◌, List, [], ◌∷◌, ◌++◌, refl, sym, ◌∙◌, ap, subst, inl, inr, arith, Option, Some, None}
use Rattle.std.specs.List.{flat_map}
use Rattle.std.proofs.lemmas.Bool.{cases_Bool, cases_eq, and_parts, eqb-true, not-true}
use Rattle.std.proofs.lemmas.Bool.Decides.{nat_tests}
use Rattle.tcl_text.specs.Backslash.{Escape, escape, escape_of}
use Rattle.tcl_text.specs.declared.list.Braces.{Braces}
use Rattle.tcl_text.specs.Lists.{is_white, ends, braces, none_open, count_all, IsBalanced, Units, none, byte, sequence, Elem, braced, bare, Spells}
use Rattle.tcl_text.specs.Writing.{is_special, all_closed, fits_braces, is_comment, has_special, letter_of, escaped_byte, hash_mark, written, WrittenSpells}
use Rattle.tcl_text.proofs.Counting.{count_all_nil}

or_parts : (s t : Bool) → (s || t) ≡ false → (s ≡ false) × (t ≡ false)
or_parts true t h = absurd (let e : true ≡ false = h in cc)
or_parts false t h = (refl, h)

-- a byte that isn't special has no meaning in a list
pub record Ordinary (b : ℕ) : Type 0 where
  pub dark : is_white b ≡ false
  pub no_backslash : b ≢ 92
  pub no_brace : b ≢ 123
  pub no_quote : b ≢ 34

ordinary : (b : ℕ) → is_special b ≡ false → Ordinary b
ordinary b h = record {
  dark = (or_parts _ _ h).0;
  no_backslash = λ e. let f : is_special 92 ≡ false = ap is_special (sym e) ∙ h in cc;
  no_brace = λ e. let f : is_special 123 ≡ false = ap is_special (sym e) ∙ h in cc;
  no_quote = λ e. let f : is_special 34 ≡ false = ap is_special (sym e) ∙ h in cc;
}

no_special : (b : ℕ) → is_special b ≡ true → b ≢ 10 → b ≢ 9 → b ≢ 11 → b ≢ 12 → b ≢ 13 → b ≢ 32 → b ≢ 123 → b ≢ 125 → b ≢ 91 → b ≢ 93 → b ≢ 36 → b ≢ 59 → b ≢ 34 → b ≢ 92 → ⊥
no_special b h n10 n9 n11 n12 n13 n32 n123 n125 n91 n93 n36 n59 n34 n92 = grind (arith, nat_tests)

-- a backslash and the letter of a special character mean it
pub escape_letter : (b : ℕ) (s : List ℕ) → is_special b ≡ true → escape (letter_of b ∷ s) ≡ escape_of (b ∷ []) 1
unfolding escape
escape_letter b s h =
    elim (cases_eq b 10) [
      | inl is ↦ subst (λ z. escape (letter_of z ∷ s) ≡ escape_of (z ∷ []) 1) (sym is) refl
      | inr n10 ↦
          elim (cases_eq b 9) [
            | inl is ↦ subst (λ z. escape (letter_of z ∷ s) ≡ escape_of (z ∷ []) 1) (sym is) refl
            | inr n9 ↦
                elim (cases_eq b 11) [
                  | inl is ↦ subst (λ z. escape (letter_of z ∷ s) ≡ escape_of (z ∷ []) 1) (sym is) refl
                  | inr n11 ↦
                      elim (cases_eq b 12) [
                        | inl is ↦ subst (λ z. escape (letter_of z ∷ s) ≡ escape_of (z ∷ []) 1) (sym is) refl
                        | inr n12 ↦
                            elim (cases_eq b 13) [
                              | inl is ↦ subst (λ z. escape (letter_of z ∷ s) ≡ escape_of (z ∷ []) 1) (sym is) refl
                              | inr n13 ↦
                                  elim (cases_eq b 32) [
                                    | inl is ↦ subst (λ z. escape (letter_of z ∷ s) ≡ escape_of (z ∷ []) 1) (sym is) refl
                                    | inr n32 ↦
                                        elim (cases_eq b 123) [
                                          | inl is ↦ subst (λ z. escape (letter_of z ∷ s) ≡ escape_of (z ∷ []) 1) (sym is) refl
                                          | inr n123 ↦
                                              elim (cases_eq b 125) [
                                                | inl is ↦ subst (λ z. escape (letter_of z ∷ s) ≡ escape_of (z ∷ []) 1) (sym is) refl
                                                | inr n125 ↦
                                                    elim (cases_eq b 91) [
                                                      | inl is ↦ subst (λ z. escape (letter_of z ∷ s) ≡ escape_of (z ∷ []) 1) (sym is) refl
                                                      | inr n91 ↦
                                                          elim (cases_eq b 93) [
                                                            | inl is ↦ subst (λ z. escape (letter_of z ∷ s) ≡ escape_of (z ∷ []) 1) (sym is) refl
                                                            | inr n93 ↦
                                                                elim (cases_eq b 36) [
                                                                  | inl is ↦ subst (λ z. escape (letter_of z ∷ s) ≡ escape_of (z ∷ []) 1) (sym is) refl
                                                                  | inr n36 ↦
                                                                      elim (cases_eq b 59) [
                                                                        | inl is ↦ subst (λ z. escape (letter_of z ∷ s) ≡ escape_of (z ∷ []) 1) (sym is) refl
                                                                        | inr n59 ↦
                                                                            elim (cases_eq b 34) [
                                                                              | inl is ↦ subst (λ z. escape (letter_of z ∷ s) ≡ escape_of (z ∷ []) 1) (sym is) refl
                                                                              | inr n34 ↦
                                                                                  elim (cases_eq b 92) [
                                                                                    | inl is ↦ subst (λ z. escape (letter_of z ∷ s) ≡ escape_of (z ∷ []) 1) (sym is) refl
                                                                                    | inr n92 ↦
                                                                                        absurd (no_special b h n10 n9 n11 n12 n13 n32 n123 n125 n91 n93 n36 n59 n34 n92)
                                                                                  ]
                                                                            ]
                                                                      ]
                                                                ]
                                                          ]
                                                    ]
                                              ]
                                        ]
                                  ]
                            ]
                      ]
                ]
          ]
    ]

units_ordinary : (x after : List ℕ) → has_special x ≡ false → Units is_white after x x
units_ordinary [] after h = none
units_ordinary (b ∷ x) after h =
    let parts = or_parts _ _ h in
    let is = ordinary b parts.0 in
    byte b x x is.no_backslash is.dark (units_ordinary x after parts.1)

unit_special : (b : ℕ) (x s after : List ℕ) → is_special b ≡ true → Units is_white after x s → Units is_white after (b ∷ x) (92 ∷ letter_of b ∷ s)
unit_special b x s after h r =
    let is = escape_letter b (s ++ after) h in
    sequence (letter_of b ∷ []) x s (b ∷ x) (letter_of b ∷ s) refl (ap (λ (e : Escape). e.taken) is) (sym (ap (λ (e : Escape). e.meaning ++ x) is)) r

pub units_escaped : (x after : List ℕ) → Units is_white after x (flat_map escaped_byte x)
units_escaped [] after = none
units_escaped (b ∷ x) after =
    elim (cases_Bool (is_special b)) [
      | inl holds ↦ rw holds (unit_special b x (flat_map escaped_byte x) after holds (units_escaped x after))
      | inr fails ↦ let is = ordinary b fails in rw fails (byte b x (flat_map escaped_byte x) is.no_backslash is.dark (units_escaped x after))
    ]

escape_hash : (s : List ℕ) → escape (35 ∷ s) ≡ escape_of (35 ∷ []) 1
unfolding escape
escape_hash s = refl

elem_escaped : (b : ℕ) (s after : List ℕ) → Elem (b ∷ s) (flat_map escaped_byte (b ∷ s)) after
elem_escaped b s after =
    elim (cases_Bool (is_special b)) [
      | inl holds ↦ rw holds (bare 92 (letter_of b ∷ flat_map escaped_byte s) refl (λ e. omega (arith, e)) (λ e. omega (arith, e)) (unit_special b s (flat_map escaped_byte s) after holds (units_escaped s after)))
      | inr fails ↦ let is = ordinary b fails in rw fails (bare b (flat_map escaped_byte s) refl is.no_brace is.no_quote (byte b s (flat_map escaped_byte s) is.no_backslash is.dark (units_escaped s after)))
    ]

elem_comment : (s after : List ℕ) → Elem (35 ∷ s) (92 ∷ flat_map escaped_byte (35 ∷ s)) after
elem_comment s after =
    let rest : List ℕ = flat_map escaped_byte s in
    let is = escape_hash (rest ++ after) in
    bare 92 (35 ∷ rest) refl (λ e. omega (arith, e)) (λ e. omega (arith, e))
    (sequence (35 ∷ []) s rest (35 ∷ s) (35 ∷ rest) refl (ap (λ (e : Escape). e.taken) is) (sym (ap (λ (e : Escape). e.meaning ++ s) is)) (units_escaped s after))

elem_marked : (b : ℕ) (s after : List ℕ) (comment : Bool) → (comment ≡ true → b ≡ 35) → Elem (b ∷ s) (hash_mark comment ++ flat_map escaped_byte (b ∷ s)) after
elem_marked b s after false h = elem_escaped b s after
elem_marked b s after true h = subst (λ z. Elem (z ∷ s) (92 ∷ flat_map escaped_byte (z ∷ s)) after) (sym (h refl)) (elem_comment s after)

closed_is : (o : Option Braces) → all_closed o ≡ true → o ≡ Some none_open
closed_is None h = absurd (let e : false ≡ true = h in cc)
closed_is (Some b) h =
    let parts = and_parts _ _ h in
    let depth = eqb-true b.depth 0 parts.0 in
    let skips = not-true b.skips parts.1 in
    λ i. Some (braces (depth i) (skips i))

fits_balanced : (x : List ℕ) → fits_braces x ≡ true → IsBalanced x
fits_balanced x h = let parts = and_parts _ _ h in let inner = and_parts _ _ parts.0 in closed_is (count_all x none_open) inner.0

hash_is : (first : Bool) (b : ℕ) (s : List ℕ) → is_comment first (b ∷ s) ≡ true → b ≡ 35
hash_is first b s h = let parts = and_parts _ _ h in eqb-true b 35 parts.1

-- an element as it is written is that element
pub written_elem : (first : Bool) (x after : List ℕ) → Elem x (written first x) after
unfolding written
written_elem first [] after = braced refl (count_all_nil none_open)
written_elem first (b ∷ s) after =
    elim (cases_Bool (has_special (b ∷ s) || is_comment first (b ∷ s))) [
      | inl marked ↦ elim (cases_Bool (fits_braces (b ∷ s))) [
        | inl fits ↦ rw (marked, fits) (braced refl (fits_balanced (b ∷ s) fits))
        | inr never ↦ rw (marked, never) (elem_marked b s after (is_comment first (b ∷ s)) (hash_is first b s))
      ]
      | inr plain ↦
          let parts = or_parts _ _ plain in
          let is = ordinary b (or_parts _ _ parts.0).0 in
          rw plain (bare b s refl is.no_brace is.no_quote (units_ordinary (b ∷ s) after parts.0))
    ]

tail_ends : (l : List (List ℕ)) → ends (flat_map (λ y. 32 ∷ written false y) l) ≡ true
tail_ends [] = refl
tail_ends (y ∷ l) = refl

tail_spells : (l : List (List ℕ)) → Spells l (flat_map (λ y. 32 ∷ written false y) l)
tail_spells [] = refl
tail_spells (y ∷ l) =
    record { white = 32 ∷ []; elem = written false y; rest = flat_map (λ z. 32 ∷ written false z) l; whole = refl; is_white = refl; is_elem = written_elem false y _; is_end = tail_ends l; goes = tail_spells l }

pub written_spells : WrittenSpells
written_spells [] = refl
written_spells (x ∷ l) =
    record { white = []; elem = written true x; rest = flat_map (λ z. 32 ∷ written false z) l; whole = refl; is_white = refl; is_elem = written_elem true x _; is_end = tail_ends l; goes = tail_spells l }
