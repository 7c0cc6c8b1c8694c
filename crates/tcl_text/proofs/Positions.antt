-- The forms of index texts.
use Rattle.std.proofs.Common.{◌≡◌, ℕ, suc, ◌+◌, ◌<◌, Bool, true, false, cond, List, [], ◌∷◌, ◌++◌, length, take, drop, get_or, refl, sym, ◌∙◌, ap, subst, arith, ℤ, pos, ◌⊎◌, inl, inr, append-nil, add-one}
use Rattle.std.specs.Prelude.{◌==◌, codes, Option, Some, None, option_map, ◌+ℤ◌, ◌-ℤ◌, if◌then◌else◌}
use Rattle.std.specs.Option.{option_or}
use Rattle.std.specs.Str.{bytes_eq}
use Rattle.std.specs.Char.{digit_value}
use Rattle.std.specs.Cmp.Lexicographic.{bytes_decides}
use Rattle.std.proofs.lemmas.Bool.Decides.{nat_tests}
use Rattle.tcl_text.specs.declared.integer.Integers.{Integers}
use Rattle.tcl_text.specs.Lists.{is_white, IsWhite}
use Rattle.tcl_text.specs.Numbers.{trim_start, trim_end, unsigned, signed, integer_of, fits_64}
use Rattle.tcl_text.specs.Indexes.{only_inside, base_of, offset_of, is_operator, after_first, last_operator, combine, sum_around, index_of}
use Rattle.tcl_text.specs.NumberForms.{IsSigned, IsInteger, IsIndex, number, word, sum, difference, IndexesByForm}
use Rattle.tcl_text.proofs.Digits.{and_parts}
use Rattle.tcl_text.proofs.Forming.{AllDark, unsigned_dark, end_parts, start_white, integers_by_form}

-- ---- texts without an operator

white_quiet : (c : ℕ) → is_white c ≡ true → is_operator c ≡ false
white_quiet c h = grind (arith, nat_tests)

dark_quiet : (c : ℕ) → digit_value c < 36 → is_operator c ≡ false
dark_quiet c h = grind (arith, nat_tests)

quiet_first : (b : Bool) (o : Option ℕ) → b ≡ false → o ≡ None → after_first b o ≡ None
quiet_first b o p q = ap (λ t. after_first t o) p ∙ ap (after_first false) q

quiet_white : (cs : List ℕ) → IsWhite cs → last_operator cs ≡ None
quiet_white [] h = refl
quiet_white (c ∷ cs) h = let both = and_parts _ _ h in quiet_first _ _ (white_quiet c both.0) (quiet_white cs both.1)

quiet_dark : (cs after : List ℕ) → AllDark cs → IsWhite after → last_operator (cs ++ after) ≡ None
quiet_dark [] after d h = quiet_white after h
quiet_dark (c ∷ cs) after d h = quiet_first _ _ (dark_quiet c d.0) (quiet_dark cs after d.1 h)

quiet_before : (before cs : List ℕ) → IsWhite before → last_operator cs ≡ None → last_operator (before ++ cs) ≡ None
quiet_before [] cs h q = q
quiet_before (b ∷ before) cs h q = let both = and_parts _ _ h in quiet_first _ _ (white_quiet b both.0) (quiet_before before cs both.1 q)

-- ---- the last operator

pub last_at : (front : List ℕ) (op : ℕ) (back : List ℕ) → is_operator op ≡ true → last_operator back ≡ None → last_operator (front ++ op ∷ back) ≡ Some (length front)
last_at [] op back h q = ap (λ t. after_first t (last_operator back)) h ∙ ap (after_first true) q
last_at (c ∷ front) op back h q = ap (after_first (is_operator c)) (last_at front op back h q) ∙ ap Some (omega arith)

pub record Split (text : List ℕ) (k : ℕ) : Type 0 where
  pub front : List ℕ
  pub op : ℕ
  pub back : List ℕ
  pub parts : text ≡ front ++ op ∷ back
  pub place : length front ≡ k
  pub is_op : is_operator op ≡ true

split_more : (c : ℕ) (cs : List ℕ) (t : Bool) (o : Option ℕ) (k : ℕ) → is_operator c ≡ t → ((j : ℕ) → o ≡ Some j → Split cs j) → after_first t o ≡ Some k → Split (c ∷ cs) k
split_more c cs t (Some j) k e f h =
    let s = f j refl in
    let same : j + 1 ≡ k = cc in
    record { front = c ∷ s.front; op = s.op; back = s.back; parts = ap (λ l. c ∷ l) s.parts; place = omega (arith, s.place, same); is_op = s.is_op }
split_more c cs true None k e f h = record { front = []; op = c; back = cs; parts = refl; place = cc; is_op = e }
split_more c cs false None k e f h = absurd (cc)

pub split : (text : List ℕ) (k : ℕ) → last_operator text ≡ Some k → Split text k
split [] k h = absurd (cc)
split (c ∷ cs) k h = split_more c cs (is_operator c) (last_operator cs) k refl (λ j e. split cs j e) h

take_front : (front xs : List ℕ) → take (length front) (front ++ xs) ≡ front
take_front [] xs = refl
take_front (c ∷ front) xs = ap (λ l. c ∷ l) (take_front front xs)

drop_front : (front : List ℕ) (op : ℕ) (back : List ℕ) → drop (suc (length front)) (front ++ op ∷ back) ≡ back
drop_front [] op back = refl
drop_front (c ∷ front) op back = drop_front front op back

at_front : (front : List ℕ) (op : ℕ) (back : List ℕ) → get_or (front ++ op ∷ back) (length front) 0 ≡ op
at_front [] op back = refl
at_front (c ∷ front) op back = at_front front op back

sum_split : (style : Integers) (end : ℤ) (front : List ℕ) (op : ℕ) (back : List ℕ) → sum_around style end (front ++ op ∷ back) (Some (length front)) ≡ combine op (base_of style end front) (offset_of style back)
sum_split style end front op back =
    ap (λ o. combine o (base_of style end (take (length front) (front ++ op ∷ back))) (offset_of style (drop (length front + 1) (front ++ op ∷ back)))) (at_front front op back)
    ∙ ap (λ l. combine op (base_of style end l) (offset_of style (drop (length front + 1) (front ++ op ∷ back)))) (take_front front (op ∷ back))
    ∙ ap (λ l. combine op (base_of style end front) (offset_of style l)) (ap (λ n. drop n (front ++ op ∷ back)) (add-one (length front)) ∙ drop_front front op back)

-- ---- what the parts are

same : (m n : ℤ) → ◌≡◌ {A = Option ℤ} (Some m) (Some n) → m ≡ n
same m n h = cc

inside_parts : (o : Option ℤ) (n : ℤ) → only_inside o ≡ Some n → (o ≡ Some n) × (fits_64 n ≡ true)
inside_parts None n h = absurd (cc)
inside_parts (Some v) n h = pick (fits_64 v) refl h
  where
    pick : (t : Bool) → fits_64 v ≡ t → ◌≡◌ {A = Option ℤ} (cond t (Some v) None) (Some n) → (Some v ≡ Some n) × (fits_64 n ≡ true)
    pick true e h = (h, ap fits_64 (sym (same v n h)) ∙ e)
    pick false e h = absurd (cc)

combined : (op : ℕ) (a b : Option ℤ) (n : ℤ) → combine op a b ≡ Some n → (base offset : ℤ) × (a ≡ Some base) × (b ≡ Some offset) × (n ≡ (if op == 43 then base +ℤ offset else base -ℤ offset))
combined op None b n h = absurd (cc)
combined op (Some a) None n h = absurd (cc)
combined op (Some a) (Some b) n h = (a, b, refl, refl, cc)

which : (op : ℕ) → is_operator op ≡ true → (op ≡ 43) ⊎ (op ≡ 45)
which op h = grind (arith, nat_tests)

of_sum : (style : Integers) (end : ℤ) (text : List ℕ) (n : ℤ) (k : Option ℕ) → last_operator text ≡ k → sum_around style end text k ≡ Some n → IsIndex style end text n
of_sum style end text n None e h = absurd (cc)
of_sum style end text n (Some k) e h =
    let s = split text k e in
    let whole = sym (sum_split style end s.front s.op s.back) ∙ ap (λ j. sum_around style end (s.front ++ s.op ∷ s.back) (Some j)) s.place ∙ ap (λ t. sum_around style end t (Some k)) (sym s.parts) ∙ h in
    let c = combined s.op (base_of style end s.front) (offset_of style s.back) n whole in
    pick s.front s.op s.back s.parts c.0 c.1 c.2 c.3 c.4 (which s.op s.is_op)
  where
    pick : (front : List ℕ) (op : ℕ) (back : List ℕ) → text ≡ front ++ op ∷ back → (base offset : ℤ) → base_of style end front ≡ Some base → offset_of style back ≡ Some offset → n ≡ (if op == 43 then base +ℤ offset else base -ℤ offset) → (op ≡ 43) ⊎ (op ≡ 45) → IsIndex style end text n
    pick front op back t base offset f b e (inl h) = sum front back base offset (t ∙ ap (λ o. front ++ o ∷ back) h) f b (e ∙ ap (λ o. if o == 43 then base +ℤ offset else base -ℤ offset) h)
    pick front op back t base offset f b e (inr h) = difference front back base offset (t ∙ ap (λ o. front ++ o ∷ back) h) f b (e ∙ ap (λ o. if o == 43 then base +ℤ offset else base -ℤ offset) h)

of_rest : (style : Integers) (end : ℤ) (text : List ℕ) (n : ℤ) (t : Bool) → bytes_eq text (codes "end") ≡ t → cond t (Some end) (sum_around style end text (last_operator text)) ≡ Some n → IsIndex style end text n
of_rest style end text n true e h = word ((bytes_decides text (codes "end")).0 e) (cc)
of_rest style end text n false e h = of_sum style end text n (last_operator text) refl h

of_index : (style : Integers) (end : ℤ) (text : List ℕ) (n : ℤ) (o : Option ℤ) → only_inside (integer_of style text) ≡ o → option_or o (if bytes_eq text (codes "end") then Some end else sum_around style end text (last_operator text)) ≡ Some n → IsIndex style end text n
of_index style end text n (Some v) e h =
    let i = inside_parts (integer_of style text) n (e ∙ h) in
    number i.0 i.1
of_index style end text n None e h = of_rest style end text n (bytes_eq text (codes "end")) refl h

-- ---- each form is read

offset_quiet : (style : Integers) (back : List ℕ) (offset : ℤ) → offset_of style back ≡ Some offset → last_operator back ≡ None
offset_quiet style back offset h = pick (unsigned style (trim_end back)) refl (inside_parts (option_map pos (unsigned style (trim_end back))) offset h).0
  where
    pick : (o : Option ℕ) → unsigned style (trim_end back) ≡ o → option_map pos o ≡ Some offset → last_operator back ≡ None
    pick None e h = absurd (cc)
    pick (Some m) e h = let s = end_parts back in ap last_operator s.2 ∙ quiet_dark (trim_end back) s.0 (unsigned_dark style (trim_end back) m e) s.1

white_base : (style : Integers) (end base : ℤ) (before : List ℕ) → IsWhite before → base_of style end before ≡ Some base → ⊥
white_base style end base before w h = pick (bytes_eq before (codes "end")) refl h
  where
    pick : (t : Bool) → bytes_eq before (codes "end") ≡ t → cond t (Some end) (only_inside (signed style (trim_start before))) ≡ Some base → ⊥
    pick true e h = let same = ap (λ l. last_operator l) ((bytes_decides before (codes "end")).0 e) in let no : false ≡ true = subst IsWhite ((bytes_decides before (codes "end")).0 e) w in cc
    pick false e h =
        let bare : trim_start before ≡ [] = ap trim_start (sym (append-nil before)) ∙ start_white before [] w in
        let none : only_inside (signed style (trim_start before)) ≡ None = ap (λ l. only_inside (signed style l)) bare in
        cc

some_same : (m n : ℕ) → ◌≡◌ {A = Option ℕ} (Some m) (Some n) → m ≡ n
some_same m n h = cc

no_integer : (style : Integers) (end base : ℤ) (front : List ℕ) (op : ℕ) (back : List ℕ) → base_of style end front ≡ Some base → last_operator (front ++ op ∷ back) ≡ Some (length front) → (n : ℤ) → IsInteger style (front ++ op ∷ back) n → ⊥
no_integer style end base front op back f l n i = pick i.sign i.parts i.signed
  where
    digits : last_operator (i.digits ++ i.after) ≡ None
    digits = quiet_dark i.digits i.after (unsigned_dark style i.digits i.size i.number) i.white_after

    at_sign : (c : ℕ) → is_operator c ≡ true → front ++ op ∷ back ≡ i.before ++ (c ∷ (i.digits ++ i.after)) → ⊥
    at_sign c h e =
        let places : length front ≡ length i.before = some_same _ _ (sym l ∙ ap last_operator e ∙ last_at i.before c (i.digits ++ i.after) h digits) in
        let same : front ≡ i.before = sym (take_front front (op ∷ back)) ∙ ap (λ k. take k (front ++ op ∷ back)) places ∙ ap (take (length i.before)) e ∙ take_front i.before (c ∷ (i.digits ++ i.after)) in
        white_base style end base i.before i.white_before (ap (base_of style end) (sym same) ∙ f)

    pick : (sign : List ℕ) → front ++ op ∷ back ≡ i.before ++ (sign ++ (i.digits ++ i.after)) → IsSigned sign i.size n → ⊥
    pick [] e s = let none = ap last_operator e ∙ quiet_before i.before (i.digits ++ i.after) i.white_before digits in cc
    pick (c ∷ []) e (inl s) = at_sign c (ap is_operator s.0) e
    pick (c ∷ []) e (inr s) = at_sign c (ap is_operator s.0) e
    pick (c ∷ d ∷ cs) e s = s

none_inside : (o : Option ℤ) → ((n : ℤ) → o ≡ Some n → ⊥) → only_inside o ≡ None
none_inside None f = refl
none_inside (Some n) f = absurd (f n refl)

read_sum : (style : Integers) (end base offset : ℤ) (front : List ℕ) (op : ℕ) (back : List ℕ) → is_operator op ≡ true → base_of style end front ≡ Some base → offset_of style back ≡ Some offset → index_of style end (front ++ op ∷ back) ≡ Some (if op == 43 then base +ℤ offset else base -ℤ offset)
read_sum style end base offset front op back h f b =
    let text = front ++ op ∷ back in
    let last = last_at front op back h (offset_quiet style back offset b) in
    let none = none_inside (integer_of style text) (λ n e. no_integer style end base front op back f last n ((integers_by_form style text n).0 e)) in
    ap (λ o. option_or o (if bytes_eq text (codes "end") then Some end else sum_around style end text (last_operator text))) none
    ∙ ap (λ t. cond t (Some end) (sum_around style end text (last_operator text))) (no_word (bytes_eq text (codes "end")) refl last)
    ∙ ap (sum_around style end text) last ∙ sum_split style end front op back
    ∙ ap (λ o. combine op o (offset_of style back)) f ∙ ap (combine op (Some base)) b
  where
    no_word : (t : Bool) → bytes_eq (front ++ op ∷ back) (codes "end") ≡ t → last_operator (front ++ op ∷ back) ≡ Some (length front) → bytes_eq (front ++ op ∷ back) (codes "end") ≡ false
    no_word true e l = let none = sym l ∙ ap last_operator ((bytes_decides (front ++ op ∷ back) (codes "end")).0 e) in absurd (cc)
    no_word false e l = e

fitting : (n : ℤ) → fits_64 n ≡ true → only_inside (Some n) ≡ Some n
fitting n h = ap (λ t. cond t (Some n) None) h

read_form : (style : Integers) (end : ℤ) (text : List ℕ) (n : ℤ) → IsIndex style end text n → index_of style end text ≡ Some n
read_form style end text n (number e h) = ap (λ o. option_or (only_inside o) (if bytes_eq text (codes "end") then Some end else sum_around style end text (last_operator text))) e ∙ ap (λ o. option_or o (if bytes_eq text (codes "end") then Some end else sum_around style end text (last_operator text))) (fitting n h)
read_form style end text n (word e h) = ap (index_of style end) e ∙ ap Some (sym h)
read_form style end text n (sum front back base offset e f b h) = ap (index_of style end) e ∙ read_sum style end base offset front 43 back refl f b ∙ ap Some (sym h)
read_form style end text n (difference front back base offset e f b h) = ap (index_of style end) e ∙ read_sum style end base offset front 45 back refl f b ∙ ap Some (sym h)

pub indexes_by_form : IndexesByForm
indexes_by_form style end text n = (of_index style end text n (only_inside (integer_of style text)) refl, read_form style end text n)
