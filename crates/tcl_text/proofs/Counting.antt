-- Braces that are counted, and the brace that closes.
use Rattle.std.proofs.Common.{◌≡◌, ℕ, zero, suc, ◌+◌, ◌≤◌, Bool, true, false, List, [], ◌∷◌, ◌++◌, length, take, refl, sym, ◌∙◌, ap, subst, arith, Option, Some, None}
use Rattle.std.proofs.Common.{◌<◌, get_or, drop, take-append-drop}
use Rattle.std.proofs.lemmas.List.{take_more, drop_more}
use Rattle.std.specs.Option.{option_and_then}
use Rattle.std.proofs.lemmas.Bool.Decides.{nat_tests}
use Rattle.tcl_text.specs.declared.list.Braces.{Braces}
use Rattle.tcl_text.specs.Lists.{braces, none_open, count, count_all, with_byte, next_brace, close_brace}

pub and_then_some : (o : Option Braces) → option_and_then (λ n. Some n) o ≡ o
and_then_some None = refl
and_then_some (Some n) = refl

pub count_all_more : (s : List ℕ) (c : ℕ) (b : Braces) → count_all (s ++ c ∷ []) b ≡ option_and_then (λ n. count n c) (count_all s b)
unfolding count_all
count_all_more [] c b = and_then_some (count b c)
count_all_more (d ∷ s) c b =
    let go = λ (o : Option Braces). elim o as (λ p. option_and_then (count_all (s ++ c ∷ [])) p ≡ option_and_then (λ n. count n c) (option_and_then (count_all s) p)) [ None ↦ refl | Some n ↦ count_all_more s c n ] in
    go (count b d)

pub counted_next : (s : List ℕ) (c : ℕ) (b st : Braces) (o : Option Braces) → count_all s b ≡ Some st → count st c ≡ o → count_all (s ++ c ∷ []) b ≡ o
counted_next s c b st o h e = count_all_more s c b ∙ ap (option_and_then (λ n. count n c)) h ∙ e

count-depth_by : (d : ℕ) (t : Bool) (n : Braces) (c : ℕ) → count (braces d t) c ≡ Some n → n.depth ≤ d + 1
count-depth_by zero true n c h = let e : n ≡ braces zero false = cc in subst (λ (m : Braces). m.depth ≤ 1) (sym e) (omega arith)
count-depth_by (suc d) true n c h = let e : n ≡ braces (suc d) false = cc in subst (λ (m : Braces). m.depth ≤ suc d + 1) (sym e) (omega arith)
count-depth_by zero false n c h = grind (arith, nat_tests)
count-depth_by (suc d) false n c h = grind (arith, nat_tests)

pub count-depth : (b n : Braces) (c : ℕ) → count b c ≡ Some n → n.depth ≤ b.depth + 1
count-depth b n c h = count-depth_by b.depth b.skips n c h

none_by : (d : ℕ) (t : Bool) (c : ℕ) → count (braces d t) c ≡ None → (braces d t ≡ none_open) × (c ≡ 125)
none_by zero true c h = absurd cc
none_by (suc d) true c h = absurd cc
none_by zero false c h = (refl, grind (arith, nat_tests))
none_by (suc d) false c h = absurd (grind (arith, nat_tests))

-- only a close brace can't be counted, and only where none is open
pub count_none : (b : Braces) (c : ℕ) → count b c ≡ None → (b ≡ none_open) × (c ≡ 125)
count_none b c h = none_by b.depth b.skips c h

found_by : (go : Braces → Option Braces) (close : Braces → Option (List ℕ × List ℕ)) (d : ℕ) (s x t : List ℕ) (st : Braces) (o : Option Braces) →
    ((n : Braces) → go n ≡ Some st → close n ≡ Some (x, t)) → option_and_then go o ≡ Some st → next_brace o s d close ≡ Some (d ∷ x, t)
found_by go close d s x t st None ih h = absurd cc
found_by go close d s x t st (Some n) ih h = ap (with_byte d) (ih n h)

-- the brace that can't be counted closes
pub close_found : (x t : List ℕ) (c : ℕ) (b st : Braces) → count_all x b ≡ Some st → count st c ≡ None → close_brace (x ++ c ∷ t) b ≡ Some (x, t)
unfolding count_all close_brace
close_found [] t c b st h e =
    let same : b ≡ st = cc in
    let at : count b c ≡ None = ap (λ y. count y c) same ∙ e in
    ap (λ o. next_brace o t c (close_brace t)) at
close_found (d ∷ x) t c b st h e = found_by (count_all x) (close_brace (x ++ c ∷ t)) d (x ++ c ∷ t) x t st (count b d) (λ n k. close_found x t c n st k e) h

none_found : (go : Braces → Option Braces) (close : Braces → Option (List ℕ × List ℕ)) (d : ℕ) (s : List ℕ) (st : Braces) (o : Option Braces) →
    ((n : Braces) → go n ≡ Some st → close n ≡ None) → option_and_then go o ≡ Some st → next_brace o s d close ≡ None
none_found go close d s st None ih h = absurd cc
none_found go close d s st (Some n) ih h = ap (with_byte d) (ih n h)

pub close_none : (s : List ℕ) (b st : Braces) → count_all s b ≡ Some st → close_brace s b ≡ None
unfolding count_all close_brace
close_none [] b st h = refl
close_none (d ∷ s) b st h = none_found (count_all s) (close_brace s) d s st (count b d) (λ n k. close_none s n st k) h

-- the text before a brace that closes, and behind it
pub record Closed (s : List ℕ) (b : Braces) (p : List ℕ × List ℕ) : Type 0 where
  pub whole : s ≡ p.0 ++ 125 ∷ p.1
  pub counted : count_all p.0 b ≡ Some none_open

parts_of : (d : ℕ) (r : Option (List ℕ × List ℕ)) (p : List ℕ × List ℕ) → with_byte d r ≡ Some p → (q : List ℕ × List ℕ) × (r ≡ Some q) × (p ≡ (d ∷ q.0, q.1))
parts_of d None p h = absurd cc
parts_of d (Some q) p h = let e : (d ∷ q.0, q.1) ≡ p = cc in (q, refl, sym e)

closed_by : (s : List ℕ) (d : ℕ) (b : Braces) (p : List ℕ × List ℕ) (o : Option Braces) → count b d ≡ o →
    ((n : Braces) (q : List ℕ × List ℕ) → close_brace s n ≡ Some q → Closed s n q) → next_brace o s d (close_brace s) ≡ Some p → Closed (d ∷ s) b p
unfolding count_all
closed_by s d b p None e ih h =
    let is = count_none b d e in
    let same : ([], s) ≡ p = cc in
    let start : Closed (d ∷ s) b ([], s) = record { whole = ap (λ x. x ∷ s) is.1; counted = ap Some is.0 } in
    subst (Closed (d ∷ s) b) same start
closed_by s d b p (Some n) e ih h =
    let q = parts_of d (close_brace s n) p h in
    let k = ih n q.0 q.1 in
    let here : Closed (d ∷ s) b (d ∷ q.0.0, q.0.1) = record { whole = ap (λ x. d ∷ x) k.whole; counted = ap (option_and_then (count_all q.0.0)) e ∙ k.counted } in
    subst (Closed (d ∷ s) b) (sym q.2) here

pub close_sound : (s : List ℕ) (b : Braces) (p : List ℕ × List ℕ) → close_brace s b ≡ Some p → Closed s b p
unfolding close_brace
close_sound [] b p h = absurd cc
close_sound (d ∷ s) b p h = closed_by s d b p (count b d) refl (λ n q k. close_sound s n q k) h

pub count_all_nil : (b : Braces) → count_all [] b ≡ Some b
unfolding count_all
count_all_nil b = refl

-- the same by the index that has been reached
pub counted_at : (s : List ℕ) (i : ℕ) (st n : Braces) → i < length s → count_all (take i s) none_open ≡ Some st → count st (get_or s i 0) ≡ Some n → count_all (take (i + 1) s) none_open ≡ Some n
counted_at s i st n l h e = ap (λ t. count_all t none_open) (take_more s i 0 l) ∙ counted_next (take i s) (get_or s i 0) none_open st (Some n) h e

pub found_at : (s : List ℕ) (i : ℕ) (st : Braces) → i < length s → count_all (take i s) none_open ≡ Some st → count st (get_or s i 0) ≡ None → close_brace s none_open ≡ Some (take i s, drop (i + 1) s)
found_at s i st l h e =
    let split : s ≡ take i s ++ (get_or s i 0 ∷ drop (i + 1) s) = sym (take-append-drop i s) ∙ ap (λ t. take i s ++ t) (drop_more s i 0 l) in
    ap (λ t. close_brace t none_open) split ∙ close_found (take i s) (drop (i + 1) s) (get_or s i 0) none_open st h e
