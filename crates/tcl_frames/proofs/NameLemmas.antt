-- How names read.
use Rattle.std.proofs.Common.{◌≡◌, ◌≢◌, ℕ, ◌+◌, ◌<◌, ◌≤◌, zero, suc, drop-cons, add-one, Bool, true, false, cond, eqb, ◌||◌, ◌&&◌, [], ◌∷◌, ◌++◌, length, get_or, drop, Option, Some, None, is_some, not, ◌⊎◌, inl, inr, refl, sym, ◌∙◌, ap, arith}
use Rattle.std.proofs.lemmas.Bool.Decides.{nat_tests}
use Rattle.std.specs.Borrow.{Bor}
use Rattle.std.specs.Option.{option_map, option_copied, MatchOption}
use Rattle.tcl_frames.specs.VariableArrays.{element_name}
use Rattle.tcl_frames.specs.Written.{seen_pair}
use Rattle.tcl_frames.specs.Names.{Text, behind, closed, behind_first, opened, opened_in, element_of, name_of, name_or_element, of_level, is_plain, is_simple, has_colons, colons_after, after_colon, after_colon_in, after_colons}

-- a text that ends in a close parenthesis
pub closed_at : (s : Text) → closed (s ++ 41 ∷ []) ≡ Some s
unfolding closed
closed_at [] = refl
closed_at (b ∷ []) = refl
closed_at (b ∷ c ∷ rest) = ap (behind b) (closed_at (c ∷ rest))

one_closed : (b : ℕ) (t : Bool) (o : Option Text) → eqb b 41 ≡ t → ((front : Text) → b ∷ [] ≢ front ++ 41 ∷ []) → cond t o None ≡ None
one_closed b true o e h = absurd (h [] (let same : b ≡ 41 = grind (arith, nat_tests) in ap (λ v. v ∷ []) same))
one_closed b false o e h = refl

pub closed_none : (x : Text) → ((front : Text) → x ≢ front ++ 41 ∷ []) → closed x ≡ None
unfolding closed
closed_none [] h = refl
closed_none (b ∷ []) h = one_closed b (eqb b 41) (Some []) refl h
closed_none (b ∷ c ∷ rest) h = ap (behind b) (closed_none (c ∷ rest) (λ front e. h (b ∷ front) (ap (λ v. b ∷ v) e)))

opened_step : (b : ℕ) (t : Bool) (rest : Text) (o : Option (Text × Text)) → eqb b 40 ≡ t → b ≢ 40 → cond t (Some ([], rest)) o ≡ o
opened_step b true rest o e h = absurd (h (grind (arith, nat_tests)))
opened_step b false rest o e h = refl

-- a text with its first open parenthesis
pub opened_at : (a k : Text) → ((i : ℕ) → i < length a → get_or a i 0 ≢ 40) → opened (a ++ 40 ∷ k) ≡ Some (a, k)
unfolding opened
opened_at [] k h = refl
opened_at (b ∷ rest) k h =
    opened_step b (eqb b 40) (rest ++ 40 ∷ k) (behind_first b (opened (rest ++ 40 ∷ k))) refl (h 0 (omega arith))
    ∙ ap (behind_first b) (opened_at rest k (λ i l. h (suc i) (omega arith)))

pub opened_none : (x : Text) → ((i : ℕ) → i < length x → get_or x i 0 ≢ 40) → opened x ≡ None
unfolding opened
opened_none [] h = refl
opened_none (b ∷ rest) h =
    opened_step b (eqb b 40) rest (behind_first b (opened rest)) refl (h 0 (omega arith))
    ∙ ap (behind_first b) (opened_none rest (λ i l. h (suc i) (omega arith)))

pub element_none : (x : Text) → closed x ≡ None → element_of x ≡ None
unfolding element_of
element_none x e = ap opened_in e

pub element_some : (x s : Text) → closed x ≡ Some s → element_of x ≡ opened s
unfolding element_of
element_some x s e = ap opened_in e

pub after_colon_at : (rest : Text) → after_colon (58 ∷ rest) ≡ Some rest
unfolding after_colon
after_colon_at rest = refl

no_colon : (b : ℕ) (t : Bool) (rest : Text) → eqb b 58 ≡ t → ((r : Text) → b ∷ rest ≢ 58 ∷ r) → cond t (Some rest) None ≡ None
no_colon b true rest e h = absurd (h rest (let same : b ≡ 58 = grind (arith, nat_tests) in ap (λ v. v ∷ rest) same))
no_colon b false rest e h = refl

pub after_colon_none : (x : Text) → ((r : Text) → x ≢ 58 ∷ r) → after_colon x ≡ None
unfolding after_colon
after_colon_none [] h = refl
after_colon_none (b ∷ rest) h = no_colon b (eqb b 58) rest refl h

pub after_colons_none : (x : Text) → after_colon x ≡ None → after_colons x ≡ None
unfolding after_colons
after_colons_none x e = ap after_colon_in e

pub after_colons_some : (x rest : Text) → after_colon x ≡ Some rest → after_colons x ≡ after_colon rest
unfolding after_colons
after_colons_some x rest e = ap after_colon_in e

-- one byte more
pub colons_step : (before : Bool) (b : ℕ) (rest : Text) → colons_after before (b ∷ rest) ≡ ((before && eqb b 58) || colons_after (eqb b 58) rest)
unfolding colons_after
colons_step before b rest = refl

pub colons_end : (before : Bool) → colons_after before [] ≡ false
unfolding colons_after
colons_end before = refl

pub colons_more : (before : Bool) (s : Text) (i : ℕ) → i < length s → colons_after before (drop i s) ≡ ((before && eqb (get_or s i 0) 58) || colons_after (eqb (get_or s i 0) 58) (drop (i + 1) s))
colons_more before s i l = ap (colons_after before) (drop-cons s i 0 l) ∙ colons_step before (get_or s i 0) (drop (suc i) s) ∙ ap (λ n. (before && eqb (get_or s i 0) 58) || colons_after (eqb (get_or s i 0) 58) (drop n s)) (sym (add-one i))

colons_both : (p q r : Bool) → p ≡ true → q ≡ true → ((p && q) || r) ≡ true
colons_both true true r e f = refl
colons_both true false r e f = absurd (cc)
colons_both false q r e f = absurd (cc)

colons_not : (p q r : Bool) → (p ≡ true → q ≡ true → ⊥) → ((p && q) || r) ≡ r
colons_not true true r h = absurd (h refl refl)
colons_not true false r h = refl
colons_not false q r h = refl

pub colons_here : (before : Bool) (s : Text) (i : ℕ) → i < length s → before ≡ true → eqb (get_or s i 0) 58 ≡ true → colons_after before (drop i s) ≡ true
colons_here before s i l e f = colons_more before s i l ∙ colons_both before (eqb (get_or s i 0) 58) _ e f

pub colons_later : (before : Bool) (s : Text) (i : ℕ) → i < length s → (before ≡ true → eqb (get_or s i 0) 58 ≡ true → ⊥) → colons_after before (drop i s) ≡ colons_after (eqb (get_or s i 0) 58) (drop (i + 1) s)
colons_later before s i l h = colons_more before s i l ∙ colons_not before (eqb (get_or s i 0) 58) _ h

pub colons_over : (before : Bool) (s : Text) (i : ℕ) → length s ≤ i → colons_after before (drop i s) ≡ false
colons_over before s i l = ap (colons_after before) (drop_past s i l) ∙ colons_end before
  where
    drop_past : (s : Text) (i : ℕ) → length s ≤ i → drop i s ≡ []
    drop_past [] zero l = refl
    drop_past [] (suc i) l = refl
    drop_past (b ∷ rest) zero l = absurd (omega arith)
    drop_past (b ∷ rest) (suc i) l = drop_past rest i (omega arith)

-- what a split at the first open parenthesis gives
pub opened_split : (r : Option (Bor Text × Bor Text)) (x : Text)
    → MatchOption r ((i : ℕ) → i < length x → get_or x i 0 ≢ 40) (λ p. (x ≡ p.0.now ++ 40 ∷ p.1.now) × ((i : ℕ) → i < length p.0.now → get_or p.0.now i 0 ≢ 40))
    → option_map seen_pair r ≡ opened x
opened_split None x h = sym (opened_none x h)
opened_split (Some p) x h = sym (ap opened h.0 ∙ opened_at p.0.now p.1.now h.1)

pub after_colon_strip : (r : Option (Bor Text)) (x : Text) → MatchOption r ((rest : Text) → x ≢ 58 ∷ rest) (λ p. x ≡ 58 ∷ p.now) → option_copied r ≡ after_colon x
after_colon_strip None x h = sym (after_colon_none x h)
after_colon_strip (Some p) x h = sym (ap after_colon h ∙ after_colon_at p.now)

-- how the code reads a name
pub name_of_element : (x : Text) (r : Option (Bor Text × Bor Text)) (p : Bor Text × Bor Text) → option_map seen_pair r ≡ element_of x → r ≡ Some p → name_of x ≡ of_level (after_colons p.0.now) p.0.now (Some p.1.now)
unfolding name_of
name_of_element x r p e is = ap (λ o. name_or_element o x) (sym e ∙ ap (option_map seen_pair) is)

pub name_of_whole : (x : Text) (r : Option (Bor Text × Bor Text)) → option_map seen_pair r ≡ element_of x → r ≡ None → name_of x ≡ of_level (after_colons x) x None
unfolding name_of
name_of_whole x r e is = ap (λ o. name_or_element o x) (sym e ∙ ap (option_map seen_pair) is)

same_some : (r : Option (Bor Text × Bor Text)) (o : Option (Text × Text)) → option_map seen_pair r ≡ o → is_some o ≡ is_some r
same_some r o e = ap is_some (sym e) ∙ lem r
  where
    lem : (r : Option (Bor Text × Bor Text)) → is_some (option_map seen_pair r) ≡ is_some r
    lem None = refl
    lem (Some p) = refl

pub plain_is : (x : Text) (r : Option (Bor Text × Bor Text)) → option_map seen_pair r ≡ element_of x → is_plain x ≡ (not (is_some r) && not (has_colons x))
unfolding is_plain
plain_is x r e = ap (λ b. not b && not (has_colons x)) (same_some r (element_of x) e)

eqb-same : (d c : ℕ) → eqb d c ≡ true → d ≡ c
eqb-same d c h = grind (arith, nat_tests)

pub not_both : (before : Bool) (b d : ℕ) → d ≡ b → (before ≡ true × (b ≡ 58 → ⊥)) ⊎ (before ≡ false) → before ≡ true → eqb d 58 ≡ true → ⊥
not_both before b d same (inl h) p q = h.1 (sym same ∙ eqb-same d 58 q)
not_both before b d same (inr h) p q = cc

pub plain_none : (x : Text) (r : Option (Bor Text × Bor Text)) (none colons : Bool) → option_map seen_pair r ≡ element_of x → is_some r ≡ not none → none ≡ true → colons ≡ has_colons x → not colons ≡ is_plain x
plain_none x r none colons e n t h = ap not h ∙ ap (λ b. not b && not (has_colons x)) (sym (n ∙ ap not t)) ∙ sym (plain_is x r e)

pub plain_some : (x : Text) (r : Option (Bor Text × Bor Text)) (none : Bool) → option_map seen_pair r ≡ element_of x → is_some r ≡ not none → none ≡ false → none ≡ is_plain x
plain_some x r none e n t = t ∙ ap (λ b. not b && not (has_colons x)) (sym (n ∙ ap not t)) ∙ sym (plain_is x r e)

-- ## Names that hold neither a colon nor a close parenthesis

no_first : (p q r : Bool) → (not (p || q) && r) ≡ true → p ≡ false
no_first true q r h = absurd (cc)
no_first false q r h = refl

no_second : (p q r : Bool) → (not (p || q) && r) ≡ true → q ≡ false
no_second true q r h = absurd (cc)
no_second false true r h = absurd (cc)
no_second false false r h = refl

rest_too : (p q r : Bool) → (not (p || q) && r) ≡ true → r ≡ true
rest_too true q r h = absurd (cc)
rest_too false true r h = absurd (cc)
rest_too false false r h = h

simple_rest : (b : ℕ) (rest : Text) → is_simple (b ∷ rest) ≡ true → is_simple rest ≡ true
unfolding is_simple
simple_rest b rest h = rest_too (eqb b 58) (eqb b 41) (is_simple rest) h

simple_colon : (b : ℕ) (rest : Text) → is_simple (b ∷ rest) ≡ true → eqb b 58 ≡ false
unfolding is_simple
simple_colon b rest h = no_first (eqb b 58) (eqb b 41) (is_simple rest) h

simple_close : (b : ℕ) (rest : Text) → is_simple (b ∷ rest) ≡ true → eqb b 41 ≡ false
unfolding is_simple
simple_close b rest h = no_second (eqb b 58) (eqb b 41) (is_simple rest) h

simple_closed : (x : Text) → is_simple x ≡ true → closed x ≡ None
unfolding closed
simple_closed [] h = refl
simple_closed (b ∷ []) h = ap (λ t. cond t (Some []) None) (simple_close b [] h)
simple_closed (b ∷ c ∷ rest) h = ap (behind b) (simple_closed (c ∷ rest) (simple_rest b (c ∷ rest) h))

simple_colons : (before : Bool) (x : Text) → is_simple x ≡ true → colons_after before x ≡ false
simple_colons before [] h = colons_end before
simple_colons before (b ∷ rest) h =
    let none = simple_colon b rest h in
    colons_step before b rest ∙ colons_not before (eqb b 58) _ (λ p q. absurd (cc)) ∙ simple_colons (eqb b 58) rest (simple_rest b rest h)

simple_leading : (x : Text) → is_simple x ≡ true → after_colon x ≡ None
unfolding after_colon
simple_leading [] h = refl
simple_leading (b ∷ rest) h = ap (λ t. cond t (Some rest) None) (simple_colon b rest h)

simple_element : (x : Text) → is_simple x ≡ true → element_of x ≡ None
unfolding element_of
simple_element x h = ap opened_in (simple_closed x h)

-- such a name is read as it stands
pub simple_name : (x : Text) → is_simple x ≡ true → name_of x ≡ Some (record { is_global = false; base = x; key = None })
unfolding name_of
simple_name x h =
    ap (λ o. name_or_element o x) (simple_element x h)
    ∙ ap (λ o. of_level o x None) (after_colons_none x (simple_leading x h))
    ∙ ap (λ t. cond t None (Some (record { is_global = false; base = x; key = None }))) (simple_colons false x h)

simple_step : (b : ℕ) (rest : Text) → is_simple (b ∷ rest) ≡ (not (eqb b 58 || eqb b 41) && is_simple rest)
unfolding is_simple
simple_step b rest = refl

simple_more : (s : Text) (i : ℕ) → i < length s → is_simple (drop i s) ≡ (not (eqb (get_or s i 0) 58 || eqb (get_or s i 0) 41) && is_simple (drop (i + 1) s))
simple_more s i l =
    ap is_simple (drop-cons s i 0 l) ∙ simple_step (get_or s i 0) (drop (suc i) s)
    ∙ ap (λ n. not (eqb (get_or s i 0) 58 || eqb (get_or s i 0) 41) && is_simple (drop n s)) (sym (add-one i))

stopped : (p q r : Bool) → (p ≡ true) ⊎ (q ≡ true) → (not (p || q) && r) ≡ false
stopped true q r h = refl
stopped false true r h = refl
stopped false false r (inl h) = absurd (cc)
stopped false false r (inr h) = absurd (cc)

gone : (p q r : Bool) → p ≡ false → q ≡ false → (not (p || q) && r) ≡ r
gone true q r h k = absurd (cc)
gone false true r h k = absurd (cc)
gone false false r h k = refl

pub simple_stops : (s : Text) (i : ℕ) → i < length s → (get_or s i 0 ≡ 58) ⊎ (get_or s i 0 ≡ 41) → is_simple (drop i s) ≡ false
simple_stops s i l (inl h) = simple_more s i l ∙ stopped (eqb (get_or s i 0) 58) (eqb (get_or s i 0) 41) _ (inl (ap (λ b. eqb b 58) h))
simple_stops s i l (inr h) = simple_more s i l ∙ stopped (eqb (get_or s i 0) 58) (eqb (get_or s i 0) 41) _ (inr (ap (λ b. eqb b 41) h))

apart : (a b : ℕ) → a ≢ b → eqb a b ≡ false
apart a b h = grind (arith, nat_tests)

pub simple_goes : (s : Text) (i : ℕ) → i < length s → get_or s i 0 ≢ 58 → get_or s i 0 ≢ 41 → is_simple (drop i s) ≡ is_simple (drop (i + 1) s)
simple_goes s i l h k = simple_more s i l ∙ gone (eqb (get_or s i 0) 58) (eqb (get_or s i 0) 41) _ (apart (get_or s i 0) 58 h) (apart (get_or s i 0) 41 k)

simple_end : is_simple [] ≡ true
unfolding is_simple
simple_end = refl

pub simple_over : (s : Text) (i : ℕ) → length s ≤ i → is_simple (drop i s) ≡ true
simple_over s i l = ap is_simple (past s i l) ∙ simple_end
  where
    past : (s : Text) (i : ℕ) → length s ≤ i → drop i s ≡ []
    past [] zero l = refl
    past [] (suc i) l = refl
    past (b ∷ rest) zero l = absurd (omega arith)
    past (b ∷ rest) (suc i) l = past rest i (omega arith)

begins_with : (a k : Text) → (a ++ (40 ∷ [])) ++ k ≡ a ++ (40 ∷ k)
begins_with [] k = refl
begins_with (b ∷ a) k = ap (λ r. b ∷ r) (begins_with a k)

-- the name of an element of an array whose own name holds neither colons nor parentheses
pub element_named : (a k : Text) → is_simple a ≡ true → ((i : ℕ) → i < length a → get_or a i 0 ≢ 40) → name_of (element_name a k) ≡ Some (record { is_global = false; base = a; key = Some k })
unfolding name_of
element_named a k simple unopened =
    let x : Text = element_name a k in
    let s : Text = (a ++ (40 ∷ [])) ++ k in
    ap (λ o. name_or_element o x) (element_some x s (closed_at s) ∙ ap opened (begins_with a k) ∙ opened_at a k unopened)
    ∙ ap (λ o. of_level o a (Some k)) (after_colons_none a (simple_leading a simple))
    ∙ ap (λ t. cond t None (Some (record { is_global = false; base = a; key = Some k }))) (simple_colons false a simple)
