-- One element at the head of a text.
use Rattle.std.proofs.Common.{◌≡◌, ◌≢◌, ◌==◌, ℕ, ◌<◌, Bool, true, false, cond, List, [], ◌∷◌, ◌++◌, length, refl, sym, ◌∙◌, ap, subst, inl, inr, arith, append_assoc, ne_eqb, Option, Some, None, Result, Ok, Err, length-append}
use Rattle.std.proofs.lemmas.Bool.{cases_eq, true≢false}
use Rattle.std.proofs.lemmas.Bool.Decides.{nat_tests}
use Rattle.tcl_text.specs.declared.list.ListFault.{ListFault}
use Rattle.tcl_text.specs.declared.list.ListFault.TheVariants.{UnmatchedBrace, UnmatchedQuote, AfterBrace, AfterQuote}
use Rattle.tcl_text.specs.Lists.{is_white, is_quote, ends, none_open, IsBalanced, close_brace, units, Units, Elem, braced, quoted, bare, offending, Breaks, after_brace, after_quote, element_at}
use Rattle.tcl_text.proofs.Counting.{Closed, close_sound, close_found}
use Rattle.tcl_text.proofs.Runs.{Run, units_sound, units_from}

-- an element that was found at the head of a text
pub record Found (s : List ℕ) (p : List ℕ × List ℕ) : Type 0 where
  pub elem : List ℕ
  pub whole : s ≡ elem ++ p.1
  pub is_elem : Elem p.0 elem p.1
  pub end : ends p.1 ≡ true
  pub shorter : length p.1 < length s

-- what an answer says of a text
abbrev pub Tells : List ℕ → Result (List ℕ × List ℕ) ListFault → Type 0
Tells s (Ok p) = Found s p
Tells s (Err f) = Breaks f s

some_not_none : {A : Type 0} (x : A) → Some x ≡ None → ⊥
some_not_none x e = cc

brace_is : (s : List ℕ) → element_at (123 ∷ s) ≡ after_brace (close_brace s none_open)
unfolding element_at
brace_is s = refl

quote_is : (s : List ℕ) → element_at (34 ∷ s) ≡ after_quote (units is_quote s 0).0 (units is_quote s 0).1
unfolding element_at
quote_is s = refl

bare_is : (b : ℕ) (s : List ℕ) → b ≢ 123 → b ≢ 34 → element_at (b ∷ s) ≡ Ok (units is_white (b ∷ s) 0)
unfolding element_at
bare_is b s n m =
    let e : (b == 123) ≡ false = ne_eqb b 123 n in
    let f : (b == 34) ≡ false = ne_eqb b 34 m in
    rw e (rw f refl)

balanced_close : (x t : List ℕ) → IsBalanced x → close_brace (x ++ 125 ∷ t) none_open ≡ Some (x, t)
balanced_close x t h = close_found x t 125 none_open none_open h refl

closed_tells : (s : List ℕ) (p : List ℕ × List ℕ) (t : Bool) → ends p.1 ≡ t → Closed s none_open p → Tells (123 ∷ s) (cond t (Ok p) (Err (AfterBrace (offending p.1))))
closed_tells s p true e h =
    record {
      elem = 123 ∷ (p.0 ++ 125 ∷ []);
      whole = ap (λ z. 123 ∷ z) (h.whole ∙ sym (append_assoc p.0 (125 ∷ []) p.1));
      is_elem = braced refl h.counted;
      end = e;
      shorter = omega (arith, ap length h.whole, length-append p.0 (125 ∷ p.1));
    }
closed_tells s p false e h = (p.0, p.1, ap (λ z. 123 ∷ z) h.whole, h.counted, e, refl)

brace_tells : (s : List ℕ) (r : Option (List ℕ × List ℕ)) → close_brace s none_open ≡ r → Tells (123 ∷ s) (after_brace r)
brace_tells s None e = (s, refl, λ x after split h. some_not_none (x, after) (sym (balanced_close x after h) ∙ ap (λ z. close_brace z none_open) (sym split) ∙ e))
brace_tells s (Some p) e = closed_tells s p (ends p.1) refl (close_sound s none_open p e)

quote_done : (s x after : List ℕ) (u : List ℕ) (t : Bool) → ends after ≡ t → s ≡ u ++ 34 ∷ after → Units is_quote (34 ∷ after) x u → Tells (34 ∷ s) (cond t (Ok (x, after)) (Err (AfterQuote (offending after))))
quote_done s x after u true e whole h =
    record {
      elem = 34 ∷ (u ++ 34 ∷ []);
      whole = ap (λ z. 34 ∷ z) (whole ∙ sym (append_assoc u (34 ∷ []) after));
      is_elem = quoted u refl h;
      end = e;
      shorter = omega (arith, ap length whole, length-append u (34 ∷ after));
    }
quote_done s x after u false e whole h = (x, u, after, ap (λ z. 34 ∷ z) whole, h, e, refl)

no_quote : (s x u after : List ℕ) (p : List ℕ × List ℕ) → units is_quote s 0 ≡ p → p.1 ≡ [] → s ≡ u ++ 34 ∷ after → Units is_quote (34 ∷ after) x u → ⊥
no_quote s x u after p e nil split h =
    let found = units_from is_quote (34 ∷ after) x u refl refl h in
    let same : p ≡ (x, 34 ∷ after) = sym e ∙ ap (λ z. units is_quote z 0) split ∙ found in
    let end : [] ≡ 34 ∷ after = sym nil ∙ ap (λ (q : List ℕ × List ℕ). q.1) same in
    cc

quote_tells : (s x rest : List ℕ) → units is_quote s 0 ≡ (x, rest) → Run is_quote s (x, rest) → Tells (34 ∷ s) (after_quote x rest)
quote_tells s x [] e r = (s, refl, λ y u after split h. no_quote s y u after (x, []) e refl split h)
quote_tells s x (q ∷ rest) e r =
    let is : q ≡ 34 = let h = r.end in grind (arith, nat_tests) in
    quote_done s x rest r.text (ends rest) refl (r.whole ∙ ap (λ z. r.text ++ z ∷ rest) is) (subst (λ z. Units is_quote (z ∷ rest) x r.text) is r.are)

bare_tells : (b : ℕ) (s : List ℕ) (p : List ℕ × List ℕ) → is_white b ≡ false → b ≢ 123 → b ≢ 34 → (text : List ℕ) → b ∷ s ≡ text ++ p.1 → Units is_white p.1 p.0 text → ends p.1 ≡ true → Found (b ∷ s) p
bare_tells b s p dark n m [] whole are end =
    let here : ends (b ∷ s) ≡ true = ap ends whole ∙ end in
    absurd (true≢false (sym here ∙ dark))
bare_tells b s p dark n m (c ∷ t) whole are end =
    let same : c ≡ b = let e : b ∷ s ≡ c ∷ (t ++ p.1) = whole in cc in
    record {
      elem = c ∷ t;
      whole = whole;
      is_elem = bare c t refl (λ e. n (sym same ∙ e)) (λ e. m (sym same ∙ e)) are;
      end = end;
      shorter = omega (arith, ap length whole, length-append t p.1);
    }

-- the answer at a text that doesn't begin with white space
pub element_tells : (b : ℕ) (s : List ℕ) → is_white b ≡ false → Tells (b ∷ s) (element_at (b ∷ s))
element_tells b s dark =
    elim (cases_eq b 123) [
      | inl is ↦
          let here = subst (Tells (123 ∷ s)) (sym (brace_is s)) (brace_tells s (close_brace s none_open) refl) in
          subst (λ c. Tells (c ∷ s) (element_at (c ∷ s))) (sym is) here
      | inr n ↦ elim (cases_eq b 34) [
        | inl is ↦
            let p = units is_quote s 0 in
            let here = subst (Tells (34 ∷ s)) (sym (quote_is s)) (quote_tells s p.0 p.1 refl (units_sound is_quote s refl)) in
            subst (λ c. Tells (c ∷ s) (element_at (c ∷ s))) (sym is) here
        | inr m ↦
            let r = units_sound is_white (b ∷ s) refl in
            let here = bare_tells b s (units is_white (b ∷ s) 0) dark n m r.text r.whole r.are r.end in
            subst (Tells (b ∷ s)) (sym (bare_is b s n m)) here
      ]
    ]

-- what is an element is found
pub element_from : (x elem after : List ℕ) → Elem x elem after → ends after ≡ true → element_at (elem ++ after) ≡ Ok (x, after)
element_from x elem after (braced whole balanced) end =
    let split : elem ++ after ≡ 123 ∷ (x ++ 125 ∷ after) = ap (λ z. z ++ after) whole ∙ ap (λ z. 123 ∷ z) (append_assoc x (125 ∷ []) after) in
    let close : after_brace (close_brace (x ++ 125 ∷ after) none_open) ≡ after_brace (Some (x, after)) = ap after_brace (balanced_close x after balanced) in
    ap element_at split ∙ brace_is (x ++ 125 ∷ after) ∙ close ∙ rw end refl
element_from x elem after (quoted t whole are) end =
    let split : elem ++ after ≡ 34 ∷ (t ++ 34 ∷ after) = ap (λ z. z ++ after) whole ∙ ap (λ z. 34 ∷ z) (append_assoc t (34 ∷ []) after) in
    let found = units_from is_quote (34 ∷ after) x t refl refl are in
    ap element_at split ∙ quote_is (t ++ 34 ∷ after) ∙ ap (λ (p : List ℕ × List ℕ). after_quote p.0 p.1) found ∙ rw end refl
element_from x elem after (bare b t whole n m are) end =
    let split : elem ++ after ≡ b ∷ (t ++ after) = ap (λ z. z ++ after) whole in
    ap element_at split ∙ bare_is b (t ++ after) n m ∙ ap Ok (units_from is_white after x (b ∷ t) refl end are)

never_closed : (t : List ℕ) (r : Option (List ℕ × List ℕ)) → close_brace t none_open ≡ r → ((x after : List ℕ) → t ≡ x ++ 125 ∷ after → IsBalanced x → ⊥) → after_brace r ≡ Err UnmatchedBrace
never_closed t None e never = refl
never_closed t (Some p) e never = let h = close_sound t none_open p e in absurd (never p.0 p.1 h.whole h.counted)

never_quoted : (t x rest : List ℕ) → Run is_quote t (x, rest) → ((y u after : List ℕ) → t ≡ u ++ 34 ∷ after → Units is_quote (34 ∷ after) y u → ⊥) → after_quote x rest ≡ Err UnmatchedQuote
never_quoted t x [] r never = refl
never_quoted t x (q ∷ rest) r never =
    let is : q ≡ 34 = let h = r.end in grind (arith, nat_tests) in
    absurd (never x r.text rest (r.whole ∙ ap (λ z. r.text ++ z ∷ rest) is) (subst (λ z. Units is_quote (z ∷ rest) x r.text) is r.are))

-- what breaks is told so
pub element_breaks : (f : ListFault) (s : List ℕ) → Breaks f s → element_at s ≡ Err f
element_breaks UnmatchedBrace s h = ap element_at h.1 ∙ brace_is h.0 ∙ never_closed h.0 (close_brace h.0 none_open) refl h.2
element_breaks UnmatchedQuote s h = ap element_at h.1 ∙ quote_is h.0 ∙ never_quoted h.0 (units is_quote h.0 0).0 (units is_quote h.0 0).1 (units_sound is_quote h.0 refl) h.2
element_breaks (AfterBrace y) s h =
    let split = h.2 in
    let close : after_brace (close_brace (h.0 ++ 125 ∷ h.1) none_open) ≡ after_brace (Some (h.0, h.1)) = ap after_brace (balanced_close h.0 h.1 h.3) in
    ap element_at split ∙ brace_is (h.0 ++ 125 ∷ h.1) ∙ close ∙ rw h.4 (ap (λ z. Err (AfterBrace z)) (sym h.5))
element_breaks (AfterQuote y) s h =
    let found = units_from is_quote (34 ∷ h.2) h.0 h.1 refl refl h.4 in
    ap element_at h.3 ∙ quote_is (h.1 ++ 34 ∷ h.2) ∙ ap (λ (p : List ℕ × List ℕ). after_quote p.0 p.1) found ∙ rw h.5 (ap (λ z. Err (AfterQuote z)) (sym h.6))
