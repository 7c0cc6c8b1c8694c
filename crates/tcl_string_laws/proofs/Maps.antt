-- Mapped texts.
use Rattle.std.proofs.Common.{◌≡◌, ℕ, zero, suc, ◌<◌, ◌≤◌, inl, inr, Bool, true, false, cond, List, [], ◌∷◌, ◌++◌, length, take, drop, Option, Some, None, refl, sym, ◌∙◌, ap, subst, arith, length-append}
use Rattle.std.specs.Prelude.{MatchOption}
use Rattle.std.specs.Char.{encode_utf8, to_ascii_lowercase}
use Rattle.std.specs.Str.{chars}
use Rattle.std.proofs.lemmas.Bool.{false≢true}
use Rattle.std.proofs.lemmas.List.{length-map, length-drop, length-take-le, take-append-drop}
use Rattle.std.proofs.Math.Seq.{drop-append_seam}
use Rattle.tcl_characters.specs.Mapping.{folded, fits, fitting, mapped}
use Rattle.tcl_characters.proofs.LetterSteps.{length-letters}
use Rattle.tcl_characters.proofs.StandLemmas.{begins_split, begins_append}
use Rattle.tcl_characters.proofs.MapLemmas.{mapped_kept, mapped_put}
use Rattle.tcl_glob.specs.Patterns.{letters}
use Rattle.tcl_string_laws.specs.Mapping.{Fits, IsFirstFit, Maps, MapsOneWay, end, put, kept}

-- ---- a key

length-folded : (nocase : Bool) (cs : List ℕ) → length (folded nocase cs) ≡ length cs
length-folded true cs = length-map cs to_ascii_lowercase
length-folded false cs = refl

split_fit : (ks cs : List ℕ) → fits ks cs ≡ true → (0 < length ks) × (rest : List ℕ) × (cs ≡ ks ++ rest)
split_fit [] cs h = absurd (false≢true h)
split_fit (k ∷ ks) cs h = let s = begins_split (k ∷ ks) cs h in (omega arith, s.0, s.1)

joined_fit : (ks cs rest : List ℕ) → 0 < length ks → cs ≡ ks ++ rest → fits ks cs ≡ true
joined_fit [] cs rest some e = absurd (omega arith)
joined_fit (k ∷ ks) cs rest some e = ap (fits (k ∷ ks)) e ∙ begins_append (k ∷ ks) rest

some_of : (cs : List ℕ) → (cs ≡ [] → ⊥) → 0 < length cs
some_of [] h = absurd (h refl)
some_of (c ∷ cs) h = omega arith

from_test : (nocase : Bool) (key cs : List ℕ) → fits (letters nocase key) (folded nocase cs) ≡ true → Fits nocase key cs
from_test nocase key cs h =
    let s = split_fit (letters nocase key) (folded nocase cs) h in
    record { some = λ e. omega (arith, s.0, length-letters nocase key, ap length e); rest = s.1; whole = s.2 }

to_test : (nocase : Bool) (key cs : List ℕ) → Fits nocase key cs → fits (letters nocase key) (folded nocase cs) ≡ true
to_test nocase key cs f =
    let some = some_of (chars key) f.some in
    joined_fit (letters nocase key) (folded nocase cs) f.rest (omega (arith, length-letters nocase key)) f.whole

-- ---- a mapping

-- what is found is the first that fits
abbrev pub Says : Bool → List (List ℕ) → List ℕ → Option (ℕ × List ℕ) → Type 0
Says nocase mapping cs r = MatchOption r ((n : ℕ) (new : List ℕ) → IsFirstFit nocase mapping cs n new → ⊥) (λ p. IsFirstFit nocase mapping cs p.0 p.1)

by_test : (nocase : Bool) (key new : List ℕ) (mapping : List (List ℕ)) (cs : List ℕ) (t : Bool) (r : Option (ℕ × List ℕ)) → fits (letters nocase key) (folded nocase cs) ≡ t → Says nocase mapping cs r → Says nocase (key ∷ new ∷ mapping) cs (cond t (Some (length (chars key), new)) r)
by_test nocase key new mapping cs true r e h = inl (from_test nocase key cs e, refl, refl)
by_test nocase key new mapping cs false (Some p) e h = inr (λ f. false≢true (sym e ∙ to_test nocase key cs f), h)
by_test nocase key new mapping cs false None e h = λ n found first. either n found first
  where
    either : (n : ℕ) (found : List ℕ) → IsFirstFit nocase (key ∷ new ∷ mapping) cs n found → ⊥
    either n found (inl f) = false≢true (sym e ∙ to_test nocase key cs f.0)
    either n found (inr f) = h n found f.1

says : (nocase : Bool) (mapping : List (List ℕ)) (cs : List ℕ) → Says nocase mapping cs (fitting nocase mapping cs)
says nocase [] cs = λ n new h. h
says nocase (key ∷ []) cs = λ n new h. h
says nocase (key ∷ new ∷ mapping) cs = by_test nocase key new mapping cs (fits (letters nocase key) (folded nocase cs)) (fitting nocase mapping cs) refl (says nocase mapping cs)

determined : (nocase : Bool) (mapping : List (List ℕ)) (cs : List ℕ) (n : ℕ) (new : List ℕ) → IsFirstFit nocase mapping cs n new → fitting nocase mapping cs ≡ Some (n, new)
determined nocase [] cs n new h = absurd h
determined nocase (key ∷ []) cs n new h = absurd h
determined nocase (key ∷ stands ∷ mapping) cs n new (inl f) =
    ap (λ t. cond t (Some (length (chars key), stands)) (fitting nocase mapping cs)) (to_test nocase key cs f.0)
    ∙ ap (λ m. Some (m, stands)) (sym f.1) ∙ ap (λ s. Some (n, s)) (sym f.2)
determined nocase (key ∷ stands ∷ mapping) cs n new (inr f) =
    ap (λ t. cond t (Some (length (chars key), stands)) (fitting nocase mapping cs)) (unfit (fits (letters nocase key) (folded nocase cs)) refl) ∙ determined nocase mapping cs n new f.1
  where
    unfit : (t : Bool) → fits (letters nocase key) (folded nocase cs) ≡ t → t ≡ false
    unfit true e = absurd (f.0 (from_test nocase key cs e))
    unfit false e = refl

none_found : (nocase : Bool) (mapping : List (List ℕ)) (cs : List ℕ) → ((n : ℕ) (new : List ℕ) → IsFirstFit nocase mapping cs n new → ⊥) → fitting nocase mapping cs ≡ None
none_found nocase mapping cs none = by_found (fitting nocase mapping cs) (says nocase mapping cs)
  where
    by_found : (r : Option (ℕ × List ℕ)) → Says nocase mapping cs r → r ≡ None
    by_found None h = refl
    by_found (Some p) h = absurd (none p.0 p.1 h)

sizes : (nocase : Bool) (mapping : List (List ℕ)) (cs : List ℕ) (n : ℕ) (new : List ℕ) → IsFirstFit nocase mapping cs n new → (0 < n) × (n ≤ length cs)
sizes nocase [] cs n new h = absurd h
sizes nocase (key ∷ []) cs n new h = absurd h
sizes nocase (key ∷ stands ∷ mapping) cs n new (inl f) =
    let fit = f.0 in
    let some = some_of (chars key) fit.some in
    let same : n ≡ length (chars key) = f.1 in
    (omega arith, omega (arith, length-folded nocase cs, ap length fit.whole, length-append (letters nocase key) fit.rest, length-letters nocase key))
sizes nocase (key ∷ stands ∷ mapping) cs n new (inr f) = sizes nocase mapping cs n new f.1

-- ---- texts

maps_to : (nocase : Bool) (mapping : List (List ℕ)) (size : ℕ) (cs : List ℕ) → length cs ≤ size → Maps nocase mapping cs (mapped nocase mapping cs 0)
maps_to nocase mapping size [] h = end [] [] refl refl
maps_to nocase mapping zero (c ∷ cs) h = absurd (omega arith)
maps_to nocase mapping (suc size) (c ∷ cs) h = by_found (fitting nocase mapping (c ∷ cs)) refl (says nocase mapping (c ∷ cs)) (λ ds l. maps_to nocase mapping size ds l)
  where
    by_found : (r : Option (ℕ × List ℕ)) → fitting nocase mapping (c ∷ cs) ≡ r → Says nocase mapping (c ∷ cs) r → ((ds : List ℕ) → length ds ≤ size → Maps nocase mapping ds (mapped nocase mapping ds 0)) → Maps nocase mapping (c ∷ cs) (mapped nocase mapping (c ∷ cs) 0)
    by_found None e none more = kept (c ∷ cs) (mapped nocase mapping (c ∷ cs) 0) c cs (mapped nocase mapping cs 0) refl (mapped_kept nocase mapping (c ∷ cs) cs c refl e) none (more cs (omega arith))
    by_found (Some (zero, new)) e first more = absurd (omega (arith, (sizes nocase mapping (c ∷ cs) zero new first).0))
    by_found (Some (suc n, new)) e first more =
        let fit = sizes nocase mapping (c ∷ cs) (suc n) new first in
        let size_front : length (take (suc n) (c ∷ cs)) ≡ suc n = length-take-le (suc n) (c ∷ cs) fit.1 in
        put (c ∷ cs) (mapped nocase mapping (c ∷ cs) 0) (take (suc n) (c ∷ cs)) (drop (suc n) (c ∷ cs)) new (mapped nocase mapping (drop (suc n) (c ∷ cs)) 0)
        (sym (take-append-drop (suc n) (c ∷ cs)))
        (mapped_put nocase mapping (c ∷ cs) cs (drop (suc n) (c ∷ cs)) new c n refl e refl)
        (subst (λ m. IsFirstFit nocase mapping (c ∷ cs) m new) (sym size_front) first)
        (more (drop (suc n) (c ∷ cs)) (omega (arith, length-drop (suc n) (c ∷ cs))))

one_way : (nocase : Bool) (mapping : List (List ℕ)) (cs text : List ℕ) → Maps nocase mapping cs text → text ≡ mapped nocase mapping cs 0
one_way nocase mapping _ _ (end cs text e f) = f ∙ ap (λ l. mapped nocase mapping l 0) (sym e)
one_way nocase mapping _ _ (kept cs text c rest more e f none m) =
    f ∙ ap (λ t. encode_utf8 c ++ t) (one_way nocase mapping rest more m) ∙ sym (mapped_kept nocase mapping cs rest c e (none_found nocase mapping cs none))
one_way nocase mapping _ _ (put cs text front rest new more e f first m) =
    by_front front cs e first (f ∙ ap (λ t. new ++ t) (one_way nocase mapping rest more m))
  where
    by_front : (front cs : List ℕ) → cs ≡ front ++ rest → IsFirstFit nocase mapping cs (length front) new → text ≡ new ++ mapped nocase mapping rest 0 → text ≡ mapped nocase mapping cs 0
    by_front [] cs e first g = absurd (omega (arith, (sizes nocase mapping cs 0 new first).0))
    by_front (c ∷ front) cs e first g =
        g ∙ sym (mapped_put nocase mapping cs (front ++ rest) rest new c (length front) e (determined nocase mapping cs (length (c ∷ front)) new first) (sym (ap (drop (length (c ∷ front))) e ∙ drop-append_seam (c ∷ front) rest)))

pub mapped_texts : MapsOneWay
mapped_texts nocase mapping cs = (maps_to nocase mapping (length cs) cs (omega arith), one_way nocase mapping cs)
