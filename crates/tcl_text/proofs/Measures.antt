-- Texts by what their length as elements of a list depends on.
use Rattle.std.proofs.Common.{◌≡◌, ℕ, ◌+◌, ◌<◌, ◌≤◌, ◌^◌, ◌==◌, Bool, true, false, not, ◌&&◌, ◌||◌, cond, List, [], ◌∷◌, ◌++◌, length, drop, get_or, refl, sym, ◌∙◌, ap, arith, Option, Some, None, count_by}
use Rattle.std.specs.Option.{option_and_then}
use Rattle.std.proofs.lemmas.List.{drop_more}
use Rattle.std.proofs.lemmas.List.Sums.{count_by-le-length}
use Rattle.std.proofs.lemmas.Bool.Decides.{nat_tests}
use Rattle.tcl_text.specs.declared.list.Braces.{Braces}
use Rattle.tcl_text.specs.declared.measured.Tally.{Tally}
use Rattle.tcl_text.specs.declared.list_writing.Form.{Form}
use Rattle.tcl_text.specs.declared.list_writing.Form.TheVariants.{Plain, Braced, Escaped}
use Rattle.tcl_text.specs.Lists.{none_open, count, count_all}
use Rattle.tcl_text.specs.Writing.{is_special, has_special, last_byte, joins_lines, all_closed, fits_braces, is_comment, form_of, hash_mark, written}
use Rattle.tcl_text.specs.Measuring.{counted, tallied, tally_with, tally_of, fits_by, form_by, depth_of, HasRoom}
use Rattle.tcl_text.proofs.Counting.{count-depth}
use Rattle.tcl_text.proofs.Forms.{or_false, or_assoc}
use Rattle.tcl_text.proofs.Pushes.{count_cons, plain_len, braced_len, marked_len}

pub tally_more : (t : Tally) (x y : List ℕ) → tally_with t (x ++ y) ≡ tally_with (tally_with t x) y
tally_more t [] y = refl
tally_more t (b ∷ x) y = tally_more (tallied t b) x y

pub tally_rest : (t : Tally) (x : List ℕ) (i : ℕ) → i < length x → tally_with (tallied t (get_or x i 0)) (drop (i + 1) x) ≡ tally_with t (drop i x)
tally_rest t x i h = ap (tally_with t) (sym (drop_more x i 0 h))

-- what one more byte makes of what bounds a tally
one_special : (b : ℕ) → cond (is_special b) 1 0 ≤ 1
one_special b =
    let go : (s : Bool) → cond s 1 0 ≤ 1 = λ s. elim s as (λ v. cond v 1 0 ≤ 1) [ true ↦ omega arith | false ↦ omega arith ] in
    go (is_special b)

depth_by : (b : Braces) (c : ℕ) (o : Option Braces) → count b c ≡ o → depth_of o ≤ b.depth + 1
depth_by b c None h = omega arith
depth_by b c (Some n) h = count-depth b n c h

one_deeper : (o : Option Braces) (c : ℕ) → depth_of (counted o c) ≤ depth_of o + 1
one_deeper None c = omega arith
one_deeper (Some b) c = depth_by b c (count b c) refl

pub tallied_bounds : (t : Tally) (b : ℕ) → ((tallied t b).special ≤ t.special + 1) × (depth_of (tallied t b).braces ≤ depth_of t.braces + 1)
tallied_bounds t b = (omega (arith, one_special b), one_deeper t.braces b)

-- a tally is made of what it has of the text
special_with : (t : Tally) (x : List ℕ) → (tally_with t x).special ≡ t.special + count_by is_special x
special_with t [] = omega arith
special_with t (b ∷ x) = omega (arith, special_with (tallied t b) x, count_cons b x)

counted_on : (x : List ℕ) (b : ℕ) (o : Option Braces) → option_and_then (count_all x) (counted o b) ≡ option_and_then (count_all (b ∷ x)) o
unfolding count_all
counted_on x b None = refl
counted_on x b (Some n) = refl

count_nothing : (o : Option Braces) → option_and_then (count_all []) o ≡ o
unfolding count_all
count_nothing None = refl
count_nothing (Some n) = refl

braces_with : (t : Tally) (x : List ℕ) → (tally_with t x).braces ≡ option_and_then (count_all x) t.braces
braces_with t [] = sym (count_nothing t.braces)
braces_with t (b ∷ x) = braces_with (tallied t b) x ∙ counted_on x b t.braces

last_with : (t : Tally) (x : List ℕ) → (tally_with t x).last ≡ last_byte t.last x
last_with t [] = refl
last_with t (b ∷ x) = last_with (tallied t b) x

joins_with : (t : Tally) (x : List ℕ) → (tally_with t x).joins ≡ (t.joins || joins_lines t.last x)
joins_with t [] = sym (or_false t.joins)
joins_with t (b ∷ x) = joins_with (tallied t b) x ∙ sym (or_assoc t.joins ((t.last == 92) && (b == 10)) (joins_lines b x))

depth_with : (t : Tally) (x : List ℕ) → depth_of (tally_with t x).braces ≤ depth_of t.braces + length x
depth_with t [] = omega arith
depth_with t (b ∷ x) = omega (arith, depth_with (tallied t b) x, one_deeper t.braces b)

abbrev pub nothing : Tally
nothing = record { special = 0; braces = Some none_open; last = 0; joins = false }

abbrev special_in : Tally → ℕ
special_in t = t.special

abbrev depth_in : Tally → ℕ
depth_in t = depth_of t.braces

pub special_is : (x : List ℕ) (t : Tally) → t ≡ tally_of x → t.special ≡ count_by is_special x
special_is x t e = omega (arith, ap special_in e, special_with nothing x)

-- the tally of a text has room for another
pub room_of : (x y : List ℕ) (t : Tally) → t ≡ tally_of x → length x < 2 ^ 63 → length y < 2 ^ 63 → HasRoom t (length y)
room_of x y t e h k = record {
  special = omega (arith, ap special_in e, special_with nothing x, count_by-le-length is_special x, h, k);
  depth = omega (arith, ap depth_in e, depth_with nothing x, h, k);
}

-- the form by the tally
special_there : (x : List ℕ) → has_special x ≡ not (count_by is_special x == 0)
special_there [] = refl
special_there (b ∷ x) =
    let ih = special_there x in
    let go : (s : Bool) (n : ℕ) (r : Bool) → r ≡ not (n == 0) → (s || r) ≡ not ((cond s 1 0 + n) == 0) =
    λ s. elim s as (λ v. (n : ℕ) (r : Bool) → r ≡ not (n == 0) → (v || r) ≡ not ((cond v 1 0 + n) == 0)) [ true ↦ λ n r e. grind (arith, nat_tests) | false ↦ λ n r e. grind (arith, nat_tests) ] in
    go (is_special b) (count_by is_special x) (has_special x) ih ∙ ap (λ n. not (n == 0)) (sym (count_cons b x))

fits_there : (x : List ℕ) → fits_by (tally_of x) ≡ fits_braces x
fits_there x =
    ap (λ o. (all_closed o && not ((tally_of x).last == 92)) && not (tally_of x).joins) (braces_with nothing x)
    ∙ ap (λ b. (all_closed (count_all x none_open) && not (b == 92)) && not (tally_of x).joins) (last_with nothing x)
    ∙ ap (λ j. (all_closed (count_all x none_open) && not (last_byte 0 x == 92)) && not j) (joins_with nothing x)

turned : {A : Type 0} (z k : Bool) (a b : A) → cond (not z || k) a b ≡ cond (z && not k) b a
turned true true a b = refl
turned true false a b = refl
turned false true a b = refl
turned false false a b = refl

not_empty : (b : ℕ) (s : List ℕ) → (length (b ∷ s) == 0) ≡ false
not_empty b s = grind (arith, nat_tests)

form_there : (first : Bool) (x : List ℕ) → form_of first x ≡ form_by (tally_of x) (length x) (is_comment first x)
form_there first [] = refl
form_there first (b ∷ s) =
    let x = b ∷ s in
    let k = is_comment first x in
    ap (λ h. cond (h || k) (cond (fits_braces x) Braced Escaped) Plain) (special_there x)
    ∙ ap (λ n. cond (not (n == 0) || k) (cond (fits_braces x) Braced Escaped) Plain) (sym (special_is x (tally_of x) refl))
    ∙ turned ((tally_of x).special == 0) k (cond (fits_braces x) Braced Escaped) Plain
    ∙ ap (λ f. cond (((tally_of x).special == 0) && not k) Plain (cond f Braced Escaped)) (sym (fits_there x))
    ∙ ap (λ e. cond e Braced (cond (((tally_of x).special == 0) && not k) Plain (cond (fits_by (tally_of x)) Braced Escaped))) (sym (not_empty b s))

pub form_is : (first : Bool) (x : List ℕ) (t : Tally) (len : ℕ) (comment : Bool) (f : Form) → t ≡ tally_of x → len ≡ length x → comment ≡ is_comment first x → f ≡ form_by t len comment → form_of first x ≡ f
form_is first x t len comment f e l k h =
    form_there first x ∙ ap (λ u. form_by u (length x) (is_comment first x)) (sym e) ∙ ap (λ n. form_by t n (is_comment first x)) (sym l) ∙ ap (λ b. form_by t len b) (sym k) ∙ sym h

hash_few : (comment : Bool) → length (hash_mark comment) ≤ 1
hash_few true = omega arith
hash_few false = omega arith

few_in : (first : Bool) (x : List ℕ) (f : Form) → form_of first x ≡ f → length x < 2 ^ 63 → length (written first x) < 2 ^ 64
few_in first x Plain e h = omega (arith, plain_len first x e, h)
few_in first x Braced e h = omega (arith, braced_len first x e, h)
few_in first x Escaped e h = omega (arith, marked_len first x (length (hash_mark (is_comment first x))) (count_by is_special x) e refl refl, hash_few (is_comment first x), count_by-le-length is_special x, h)

pub written_few : (first : Bool) (x : List ℕ) → length x < 2 ^ 63 → length (written first x) < 2 ^ 64
written_few first x h = few_in first x (form_of first x) refl h
