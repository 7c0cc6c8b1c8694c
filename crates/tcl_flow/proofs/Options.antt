-- Reading options, a step at a time.
use Rattle.std.proofs.Common.{◌≡◌, ℕ, zero, suc, ℤ, ◌+◌, ◌≤◌, ◌<◌, List, [], ◌∷◌, ◌++◌, length, reverse, Option, Some, None, Result, Ok, Err, refl, sym, ◌∙◌, ap, subst, arith}
use Rattle.std.proofs.lemmas.List.{reverse-append, reverse-reverse}
use Rattle.tcl_text.specs.declared.integer.Integers.{Integers}
use Rattle.tcl_value.specs.Dicts.{Pairs, dict_of}
use Rattle.tcl_value.specs.declared.dict_fault.DictFault.{DictFault}
use Rattle.tcl_core.specs.Endings.{Options, Completion}
use Rattle.tcl_flow.specs.Returning.{Text, code_of, level_of, plain, raised, returned}
use Rattle.tcl_flow.specs.declared.returning.OptionsFault.{OptionsFault}
use Rattle.tcl_flow.specs.declared.reading.OptionName.{OptionName}
use Rattle.tcl_flow.specs.declared.reading.OptionName.TheVariants.{Code, Level, Errorcode, Nested, Other}
use Rattle.tcl_flow.specs.OptionReading.{option_name, options_in, result_in, Meaning, sets, stands_for, with_code, with_level, in_place, meaning, Reads, ended, set, opened, refused, weight, and_on, read_within, read_over, made_with, return_of, Makes, Gave, IsRefused, OneReading, SomeReading, ReadsSo, MakesSo}
use Rattle.tcl_flow.specs.declared.reading.OptionsError.{OptionsError}
use Rattle.tcl_flow.specs.declared.reading.OptionsError.TheVariants.{Memory, Fault}
use Rattle.tcl_flow.proofs.Shorter.{weight-append, weight-reverse, dict_weight}

-- what is left to read after an option of this meaning
abbrev After : Integers → Result Meaning OptionsFault → Pairs → Options → Result Options OptionsFault → Type 0
After style (Ok (sets p)) rest o r = Reads style rest p r
After style (Ok (stands_for es)) rest o r = Reads style (es ++ rest) o r
After style (Err f) rest o r = r ≡ Err f

built : (style : Integers) (k v : Text) (rest : Pairs) (o : Options) (r : Result Options OptionsFault) (m : Result Meaning OptionsFault) → meaning (option_name k) style v o ≡ m → After style m rest o r → Reads style ((k, v) ∷ rest) o r
built style k v rest o r (Ok (sets p)) e h = set k v rest o p r e h
built style k v rest o r (Ok (stands_for es)) e h = opened k v rest es o r e h
built style k v rest o r (Err f) e h = subst (Reads style ((k, v) ∷ rest) o) (sym h) (refused k v rest o f e)

abbrev Inverse : Integers → Pairs → Options → Result Options OptionsFault → Type 0
Inverse style [] o r = r ≡ Ok o
Inverse style (p ∷ rest) o r = After style (meaning (option_name p.0) style p.1 o) rest o r

inverse : (style : Integers) (ps : Pairs) (o : Options) (r : Result Options OptionsFault) → Reads style ps o r → Inverse style ps o r
inverse style _ _ _ (ended o) = refl
inverse style _ _ _ (set k v rest o p r e h) = subst (λ m. After style m rest o r) (sym e) h
inverse style _ _ _ (opened k v rest es o r e h) = subst (λ m. After style m rest o r) (sym e) h
inverse style _ _ _ (refused k v rest o f e) = subst (λ m. After style m rest o (Err f)) (sym e) refl

one_by : (style : Integers) (ps : Pairs) (o : Options) (r q : Result Options OptionsFault) → Reads style ps o r → Inverse style ps o q → r ≡ q
one_by style _ _ _ q (ended o) h = sym h
one_by style _ _ _ q (set k v rest o p r e more) h = one_by style rest p r q more (inverse style rest p q (subst (λ m. After style m rest o q) e h))
one_by style _ _ _ q (opened k v rest es o r e more) h = one_by style (es ++ rest) o r q more (inverse style (es ++ rest) o q (subst (λ m. After style m rest o q) e h))
one_by style _ _ _ q (refused k v rest o f e) h = sym (subst (λ m. After style m rest o q) e h)

pub one_reading : OneReading
one_reading style ps o r q h g = one_by style ps o r q h (inverse style ps o q g)

code_sets : (n : Option ℤ) (v : Text) (o : Options) (es : Pairs) → with_code n v o ≡ Ok (stands_for es) → ⊥
code_sets (Some n) v o es h = cc
code_sets None v o es h = cc

level_sets : (n : Option ℕ) (v : Text) (o : Options) (es : Pairs) → with_level n v o ≡ Ok (stands_for es) → ⊥
level_sets (Some n) v o es h = cc
level_sets None v o es h = cc

placed : (r : Result Pairs DictFault) (v : Text) (es : Pairs) → in_place r v ≡ Ok (stands_for es) → r ≡ Ok es
placed (Ok fs) v es h = cc
placed (Err f) v es h = absurd (cc)

entries_are : (name : OptionName) (style : Integers) (v : Text) (o : Options) (es : Pairs) → meaning name style v o ≡ Ok (stands_for es) → dict_of v ≡ Ok es
entries_are Code style v o es h = absurd (code_sets (code_of style v) v o es h)
entries_are Level style v o es h = absurd (level_sets (level_of style v) v o es h)
entries_are Errorcode style v o es h = absurd (cc)
entries_are Nested style v o es h = placed (dict_of v) v es h
entries_are Other style v o es h = absurd (cc)

-- what stands in an option's place is less to read
pub opened_weight : (style : Integers) (k v : Text) (o : Options) (es : Pairs) → meaning (option_name k) style v o ≡ Ok (stands_for es) → weight es ≤ length v
opened_weight style k v o es h = dict_weight v es (entries_are (option_name k) style v o es h)

-- an option is read, where what is left is
one_by_one : (style : Integers) (k v : Text) (rest : Pairs) (o : Options) (go : Pairs → Options → Result Options OptionsFault) (m : Result Meaning OptionsFault) → meaning (option_name k) style v o ≡ m
    → ((qs : Pairs) (p : Options) → weight qs ≤ length v + weight rest → Reads style qs p (go qs p)) → Reads style ((k, v) ∷ rest) o (and_on m rest o go)
one_by_one style k v rest o go (Ok (sets p)) e h = set k v rest o p (go rest p) e (h rest p (omega arith))
one_by_one style k v rest o go (Ok (stands_for es)) e h =
    opened k v rest es o (go (es ++ rest) o) e (h (es ++ rest) o (omega (arith, weight-append es rest, opened_weight style k v o es e)))
one_by_one style k v rest o go (Err f) e h = refused k v rest o f e

within : (n : ℕ) (style : Integers) (ps : Pairs) (o : Options) → weight ps ≤ n → Reads style ps o (read_within n style ps o)
within zero style [] o h = ended o
within zero style (p ∷ rest) o h = absurd (omega arith)
within (suc n) style [] o h = ended o
within (suc n) style (p ∷ rest) o h =
    one_by_one style p.0 p.1 rest o (read_within n style) (meaning (option_name p.0) style p.1 o) refl (λ qs q l. within n style qs q (omega arith))

over : (style : Integers) (ps : Pairs) (o : Options) → Reads style ps o (read_over style ps o)
over style ps o = within (weight ps) style ps o (omega arith)

pub some_reading : SomeReading
some_reading style ps o = (read_over style ps o, over style ps o)

pub reads_so : ReadsSo
reads_so style ps o r = (λ e. subst (Reads style ps o) e (over style ps o), λ h. one_reading style ps o (read_over style ps o) r (over style ps o) h)

made_by : (style : Integers) (l : List Text) (c : Completion) (r : Result Options OptionsFault) → Reads style (options_in l) plain r → made_with (result_in l) r ≡ Ok c → Makes style l c
made_by style l c (Ok o) h e = let is : c ≡ returned (raised o) (result_in l) = cc in (o, h, is)
made_by style l c (Err f) h e = absurd (cc)

made_of : (style : Integers) (l : List Text) (c : Completion) → Makes style l c → return_of style l ≡ Ok c
made_of style l c m = ap (made_with (result_in l)) (one_reading style (options_in l) plain (read_over style (options_in l) plain) (Ok m.0) (over style (options_in l) plain) m.1) ∙ sym (ap Ok m.2)

pub makes_so : MakesSo
makes_so style l c = (λ e. made_by style l c (read_over style (options_in l) plain) (over style (options_in l) plain) e, made_of style l c)

-- The options that are pending stand with the next last.
pub next_last : (rest : Pairs) (k v : Text) → reverse (rest ++ (k, v) ∷ []) ≡ (k, v) ∷ reverse rest
next_last rest k v = reverse-append rest ((k, v) ∷ [])

pub given_one : (style : Integers) (items rest now : Pairs) (k v : Text) (o p : Options) (r : Result Options OptionsFault) → items ≡ rest ++ (k, v) ∷ [] → Gave None p o (meaning (option_name k) style v o) → now ≡ rest → Reads style (reverse now) p r → Reads style (reverse items) o r
given_one style items rest now k v o p r e g n h =
    let same : Reads style (reverse rest) p r = subst (λ z. Reads style (reverse z) p r) n h in
    subst (λ ps. Reads style ps o r) (sym (ap reverse e ∙ next_last rest k v)) (set k v (reverse rest) o p r g same)

pub none_pending : (style : Integers) (items : Pairs) (o : Options) → length items ≡ 0 → Reads style (reverse items) o (Ok o)
none_pending style [] o e = ended o
none_pending style (p ∷ ps) o e = absurd (omega arith)

entries_first : (rest es : Pairs) → reverse (rest ++ reverse es) ≡ es ++ reverse rest
entries_first rest es = reverse-append rest (reverse es) ∙ ap (λ z. z ++ reverse rest) (reverse-reverse es)

pub opened_one : (style : Integers) (items rest now es : Pairs) (k v : Text) (o p : Options) (r : Result Options OptionsFault) → items ≡ rest ++ (k, v) ∷ [] → Gave (Some es) p o (meaning (option_name k) style v o) → now ≡ rest ++ reverse es → Reads style (reverse now) p r → Reads style (reverse items) o r
opened_one style items rest now es k v o p r e g n h =
    let same : Reads style (es ++ reverse rest) p r = subst (λ ps. Reads style ps p r) (ap reverse n ∙ entries_first rest es) h in
    let back : Reads style (es ++ reverse rest) o r = subst (λ z. Reads style (es ++ reverse rest) z r) g.1 same in
    subst (λ ps. Reads style ps o r) (sym (ap reverse e ∙ next_last rest k v)) (opened k v (reverse rest) es o r g.0 back)

pub refused_one : (style : Integers) (items rest : Pairs) (k v : Text) (o : Options) (f : OptionsFault) → items ≡ rest ++ (k, v) ∷ [] → meaning (option_name k) style v o ≡ Err f → Reads style (reverse items) o (Err f)
refused_one style items rest k v o f e g =
    subst (λ ps. Reads style ps o (Err f)) (sym (ap reverse e ∙ next_last rest k v)) (refused k v (reverse rest) o f g)

-- what is pending gets less
pub smaller_one : (items rest now : Pairs) (k v : Text) → items ≡ rest ++ (k, v) ∷ [] → now ≡ rest → weight now < weight items
smaller_one items rest now k v e n = omega (arith, ap weight e, ap weight n, weight-append rest ((k, v) ∷ []))

pub smaller_opened : (style : Integers) (items rest now es : Pairs) (k v : Text) (o p : Options) → items ≡ rest ++ (k, v) ∷ [] → Gave (Some es) p o (meaning (option_name k) style v o) → now ≡ rest ++ reverse es → weight now < weight items
smaller_opened style items rest now es k v o p e g n =
    let l = opened_weight style k v o es g.0 in
    omega (arith, ap weight e, weight-append rest ((k, v) ∷ []), ap weight n, weight-append rest (reverse es), weight-reverse es)

-- an error of one option is one of them all
pub refused_by : (style : Integers) (items rest : Pairs) (k v : Text) (o first : Options) (whole : Pairs) (e : OptionsError) → items ≡ rest ++ (k, v) ∷ []
    → ((r : Result Options OptionsFault) → Reads style (reverse items) o r → Reads style (reverse whole) first r)
    → IsRefused e (λ f. meaning (option_name k) style v o ≡ Err f) → IsRefused e (λ f. Reads style (reverse whole) first (Err f))
refused_by style items rest k v o first whole Memory h up m = tt
refused_by style items rest k v o first whole (Fault f) h up m = up (Err f) (refused_one style items rest k v o f h m)
