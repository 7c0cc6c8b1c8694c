-- Units in a row, up to a byte that stops.
use Rattle.std.proofs.Common.{◌≡◌, ◌≢◌, ◌==◌, ℕ, zero, suc, ◌≤◌, Bool, true, false, List, [], ◌∷◌, ◌++◌, length, take, drop, refl, sym, ◌∙◌, ap, subst, inl, inr, arith, append_assoc, take-append-drop, length-take-le, length-drop, drop_at, one-add, ne_eqb}
use Rattle.std.specs.List.{prefix_len}
use Rattle.std.proofs.lemmas.Bool.{cases_Bool, cases_eq, and_parts, not-true, eqb-false}
use Rattle.tcl_text.specs.Backslash.{escape, escape_rest}
use Rattle.tcl_text.specs.Lists.{stops, units, with_meaning, Units, none, byte, sequence}
use Rattle.tcl_text.specs.Reading.{is_plain}
use Rattle.tcl_text.proofs.Escapes.{escape-taken}

pub units_skip : (stop : ℕ → Bool) (s : List ℕ) (k : ℕ) → units stop s k ≡ units stop (drop k s) 0
unfolding units
units_skip stop [] zero = refl
units_skip stop [] (suc k) = refl
units_skip stop (b ∷ s) zero = refl
units_skip stop (b ∷ s) (suc k) = units_skip stop s k

pub units_stopped : (stop : ℕ → Bool) (s : List ℕ) → stops stop s ≡ true → units stop s 0 ≡ ([], s)
unfolding units
units_stopped stop [] h = refl
units_stopped stop (b ∷ s) h = rw h refl

pub units_byte : (stop : ℕ → Bool) (b : ℕ) (s : List ℕ) → b ≢ 92 → stop b ≡ false → units stop (b ∷ s) 0 ≡ with_meaning (b ∷ []) (units stop s 0)
unfolding units
units_byte stop b s n h =
    let e : (b == 92) ≡ false = ne_eqb b 92 n in
    rw h (rw e refl)

pub units_sequence : (stop : ℕ → Bool) (s : List ℕ) → stop 92 ≡ false → units stop (92 ∷ s) 0 ≡ with_meaning (escape s).meaning (units stop (escape_rest s) 0)
unfolding units
units_sequence stop s h = rw h (ap (with_meaning (escape s).meaning) (units_skip stop s (escape s).taken))

-- a front of bytes that mean themselves
pub units_plain : (stop : ℕ → Bool) (s : List ℕ) → units stop s 0 ≡ with_meaning (take (prefix_len (is_plain stop) s) s) (units stop (drop (prefix_len (is_plain stop) s) s) 0)
units_plain stop [] = refl
units_plain stop (b ∷ s) =
    elim (cases_Bool (is_plain stop b)) [
      | inl holds ↦
          let parts = and_parts _ _ holds in
          let other = eqb-false b 92 (not-true _ parts.0) in
          let n : ℕ = prefix_len (is_plain stop) s in
          rw (holds, one-add) (units_byte stop b s other (not-true _ parts.1) ∙ ap (with_meaning (b ∷ [])) (units_plain stop s))
      | inr fails ↦ rw fails refl
    ]

-- what the relation says is what the function gives
pub units_from : (stop : ℕ → Bool) (after x u : List ℕ) → stop 92 ≡ false → stops stop after ≡ true → Units stop after x u → units stop (u ++ after) 0 ≡ (x, after)
units_from stop after x u inside end none = units_stopped stop after end
units_from stop after x u inside end (byte b y s n h r) =
    units_byte stop b (s ++ after) n h ∙ ap (with_meaning (b ∷ [])) (units_from stop after y s inside end r)
units_from stop after x u inside end (sequence own y s m t split taken means r) =
    let whole : t ++ after ≡ own ++ (s ++ after) = ap (λ z. z ++ after) split ∙ append_assoc own s after in
    let left : escape_rest (t ++ after) ≡ s ++ after = ap (λ k. drop k (t ++ after)) taken ∙ ap (drop (length own)) whole ∙ drop_at own (s ++ after) (length own) refl in
    units_sequence stop (t ++ after) inside ∙ ap (λ z. with_meaning (escape (t ++ after)).meaning (units stop z 0)) left
    ∙ ap (with_meaning (escape (t ++ after)).meaning) (units_from stop after y s inside end r) ∙ ap (λ z. (z, after)) (sym means)

-- the units that a function's answer stands for
pub record Run (stop : ℕ → Bool) (s : List ℕ) (p : List ℕ × List ℕ) : Type 0 where
  pub text : List ℕ
  pub whole : s ≡ text ++ p.1
  pub are : Units stop p.1 p.0 text
  pub end : stops stop p.1 ≡ true

run_byte : (stop : ℕ → Bool) (b : ℕ) (s : List ℕ) (p : List ℕ × List ℕ) → b ≢ 92 → stop b ≡ false → Run stop s p → Run stop (b ∷ s) (with_meaning (b ∷ []) p)
run_byte stop b s p n h r = record { text = b ∷ r.text; whole = ap (λ z. b ∷ z) r.whole; are = byte b p.0 r.text n h r.are; end = r.end }

run_sequence : (stop : ℕ → Bool) (s : List ℕ) (p : List ℕ × List ℕ) → Run stop (escape_rest s) p → Run stop (92 ∷ s) (with_meaning (escape s).meaning p)
run_sequence stop s p r =
    let own : List ℕ = take (escape s).taken s in
    let whole : s ≡ own ++ (r.text ++ p.1) = sym (take-append-drop (escape s).taken s) ∙ ap (λ z. own ++ z) r.whole in
    let split : (own ++ r.text) ++ p.1 ≡ s = append_assoc own r.text p.1 ∙ sym whole in
    let len : (escape s).taken ≡ length own = sym (length-take-le (escape s).taken s (escape-taken s)) in
    record {
      text = 92 ∷ (own ++ r.text);
      whole = ap (λ z. 92 ∷ z) (sym split);
      are = sequence own p.0 r.text _ (own ++ r.text) refl (ap (λ z. (escape z).taken) split ∙ len) (ap (λ z. (escape z).meaning ++ p.0) (sym split)) r.are;
      end = r.end;
    }

run_within : (stop : ℕ → Bool) → stop 92 ≡ false → (n : ℕ) (s : List ℕ) → length s ≤ n → Run stop s (units stop s 0)
run_within stop inside n [] l = subst (Run stop []) (sym (units_stopped stop [] refl)) (record { text = []; whole = refl; are = none; end = refl })
run_within stop inside zero (b ∷ s) l = absurd (omega arith)
run_within stop inside (suc n) (b ∷ s) l =
    elim (cases_Bool (stop b)) [
      | inl holds ↦ subst (Run stop (b ∷ s)) (sym (units_stopped stop (b ∷ s) holds)) (record { text = []; whole = refl; are = none; end = holds })
      | inr fails ↦ elim (cases_eq b 92) [
        | inl slash ↦
            let r = run_within stop inside n (escape_rest s) (omega (arith, length-drop (escape s).taken s)) in
            let here = subst (Run stop (92 ∷ s)) (sym (units_sequence stop s inside)) (run_sequence stop s (units stop (escape_rest s) 0) r) in
            subst (λ c. Run stop (c ∷ s) (units stop (c ∷ s) 0)) (sym slash) here
        | inr other ↦
            let r = run_within stop inside n s (omega arith) in
            subst (Run stop (b ∷ s)) (sym (units_byte stop b s other fails)) (run_byte stop b s (units stop s 0) other fails r)
      ]
    ]

pub units_sound : (stop : ℕ → Bool) (s : List ℕ) → stop 92 ≡ false → Run stop s (units stop s 0)
units_sound stop s inside = run_within stop inside (length s) s (omega arith)
