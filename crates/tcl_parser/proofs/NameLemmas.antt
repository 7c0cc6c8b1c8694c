-- Names, and the mark `{*}`.
use Rattle.std.proofs.Common.{◌≡◌, ◌≢◌, ℕ, ◌∙◌, Bool, true, false, not, ◌==◌, List, [], ◌∷◌, drop, refl, ap, sym, arith}
use Rattle.std.proofs.lemmas.Bool.{ne_eqb}
use Rattle.std.proofs.lemmas.Bool.Decides.{nat_tests}
use Rattle.tcl_parser.specs.Characters.{is_name_character}
use Rattle.tcl_parser.specs.Texts.{EndsWith, begins_with, IsNotAscii}
use Rattle.tcl_parser.proofs.EndLemmas.{EndsWith-more, EndsWith-itself, EndsWith-cond}
use Rattle.tcl_parser.specs.Reading.{after_name, is_expanded, word_ends}

-- ## Names

pub name_head : (colons : Bool) (b : ℕ) (t : List ℕ) → is_name_character b ≡ true → after_name colons (b ∷ t) ≡ after_name false t
unfolding after_name
name_head colons b [] h = rw h refl
name_head colons b (c ∷ u) h = rw h refl

pub name_goes_on : (colons : Bool) (s t : List ℕ) (b : ℕ) → s ≡ b ∷ t → is_name_character b ≡ true → after_name colons s ≡ after_name false t
name_goes_on colons s t b e h = ap (after_name colons) e ∙ name_head colons b t h

pub colon_head : (t : List ℕ) → after_name true (58 ∷ t) ≡ after_name true t
unfolding after_name
colon_head [] = refl
colon_head (c ∷ u) = refl

pub colon_goes_on : (colons : Bool) (s t : List ℕ) (b : ℕ) → s ≡ b ∷ t → b ≡ 58 → colons ≡ true → after_name colons s ≡ after_name true t
colon_goes_on colons s t b e h c = ap (λ x. after_name x s) c ∙ ap (after_name true) (e ∙ ap (λ x. x ∷ t) h) ∙ colon_head t

pub two_colons : (u : List ℕ) → after_name false (58 ∷ 58 ∷ u) ≡ after_name true u
unfolding after_name
two_colons u = refl

pub colons_go_on : (colons : Bool) (s t u : List ℕ) (b : ℕ) → s ≡ b ∷ t → b ≡ 58 → colons ≡ false → t ≡ 58 ∷ u → after_name colons s ≡ after_name true u
colons_go_on colons s t u b e h c l = ap (λ x. after_name x s) c ∙ ap (after_name false) (e ∙ ap (λ x. x ∷ t) h ∙ ap (λ x. 58 ∷ x) l) ∙ two_colons u

pub name_stops_at : (colons : Bool) (b : ℕ) (t : List ℕ) → is_name_character b ≡ false → (b == 58) ≡ false → after_name colons (b ∷ t) ≡ b ∷ t
unfolding after_name
name_stops_at true b [] h n = rw (h, n) refl
name_stops_at false b [] h n = rw h refl
name_stops_at true b (c ∷ u) h n = rw (h, n) refl
name_stops_at false b (c ∷ u) h n = rw (h, n) refl

pub name_stops_plain : (colons : Bool) (s t : List ℕ) (b : ℕ) → s ≡ b ∷ t → is_name_character b ≡ false → b ≢ 58 → after_name colons s ≡ s
name_stops_plain colons s t b e h n = ap (after_name colons) e ∙ name_stops_at colons b t h (ne_eqb _ _ n) ∙ sym e

pub one_colon : (t : List ℕ) → begins_with 58 t ≡ false → after_name false (58 ∷ t) ≡ 58 ∷ t
unfolding after_name
one_colon [] n = refl
one_colon (c ∷ u) n = rw n refl

pub name_stops_colon : (colons : Bool) (s t : List ℕ) (b : ℕ) → s ≡ b ∷ t → b ≡ 58 → colons ≡ false → begins_with 58 t ≡ false → after_name colons s ≡ s
name_stops_colon colons s t b e h c n =
    let f : s ≡ 58 ∷ t = e ∙ ap (λ x. x ∷ t) h in
    ap (λ x. after_name x s) c ∙ ap (after_name false) f ∙ one_colon t n ∙ sym f

pub name_stops_end : (colons : Bool) (s : List ℕ) → IsNotAscii s → after_name colons s ≡ s
unfolding after_name
name_stops_end colons [] h = refl
name_stops_end colons (b ∷ t) h = name_stops_at colons b t (grind (arith, nat_tests)) (grind (arith, nat_tests))

-- a text ends with what follows the name that it begins with
pub EndsWith-after_name : (colons : Bool) (s : List ℕ) → EndsWith s (after_name colons s)
unfolding after_name
EndsWith-after_name colons [] = EndsWith-itself []
EndsWith-after_name colons (b ∷ []) = EndsWith-cond _ _ _ _ (EndsWith-more b [] [] (EndsWith-itself [])) (EndsWith-itself (b ∷ []))
EndsWith-after_name colons (b ∷ c ∷ s) =
    EndsWith-cond _ _ _ _ (EndsWith-more b (c ∷ s) _ (EndsWith-after_name false (c ∷ s)))
    (EndsWith-cond _ _ _ _ (EndsWith-more b (c ∷ s) _ (EndsWith-after_name true (c ∷ s)))
    (EndsWith-cond _ _ _ _ (EndsWith-more b (c ∷ s) _ (EndsWith-more c s _ (EndsWith-after_name true s)))
    (EndsWith-itself (b ∷ c ∷ s))))

-- ## The mark

pub mark_first : (inside : Bool) (s : List ℕ) → begins_with 123 s ≡ false → is_expanded inside s ≡ false
mark_first inside [] h = refl
mark_first inside (a ∷ []) h = refl
mark_first inside (a ∷ b ∷ []) h = refl
mark_first inside (a ∷ b ∷ c ∷ s) h = rw h refl

pub mark_second : (inside : Bool) (s t : List ℕ) → s ≡ 123 ∷ t → begins_with 42 t ≡ false → is_expanded inside s ≡ false
mark_second inside s [] e h = ap (is_expanded inside) e
mark_second inside s (b ∷ []) e h = ap (is_expanded inside) e
mark_second inside s (b ∷ c ∷ u) e h = ap (is_expanded inside) e ∙ rw h refl

pub mark_third : (inside : Bool) (s t u : List ℕ) → s ≡ 123 ∷ t → t ≡ 42 ∷ u → begins_with 125 u ≡ false → is_expanded inside s ≡ false
mark_third inside s t [] e f h = ap (is_expanded inside) (e ∙ ap (λ x. 123 ∷ x) f)
mark_third inside s t (c ∷ u) e f h = ap (is_expanded inside) (e ∙ ap (λ x. 123 ∷ x) f) ∙ rw h refl

mark_text : (s t u v : List ℕ) → s ≡ 123 ∷ t → t ≡ 42 ∷ u → u ≡ 125 ∷ v → s ≡ 123 ∷ 42 ∷ 125 ∷ v
mark_text s t u v e f g = e ∙ ap (λ x. 123 ∷ x) f ∙ ap (λ x. 123 ∷ 42 ∷ x) g

pub mark_is : (inside : Bool) (s t u v : List ℕ) → s ≡ 123 ∷ t → t ≡ 42 ∷ u → u ≡ 125 ∷ v → is_expanded inside s ≡ not (word_ends inside v)
mark_is inside s t u v e f g = ap (is_expanded inside) (mark_text s t u v e f g)

pub mark_rest : (s t u v : List ℕ) → s ≡ 123 ∷ t → t ≡ 42 ∷ u → u ≡ 125 ∷ v → v ≡ drop 3 s
mark_rest s t u v e f g = sym (ap (drop 3) (mark_text s t u v e f g))
