-- White space, separators and comments, character by character.
use Rattle.std.proofs.Common.{◌≡◌, ◌≢◌, ℕ, ◌<◌, ◌≤◌, ◌∙◌, true, false, nat_lt, ◌&&◌, ◌||◌, ◌==◌, List, [], ◌∷◌, length, refl, ap, sym, inl, inr, arith}
use Rattle.std.proofs.lemmas.Bool.{cases_lt, cases_Bool, lt-ltb, le-ltb, ne_eqb, or_parts}
use Rattle.std.proofs.lemmas.Bool.Decides.{nat_tests}
use Rattle.tcl_parser.specs.declared.scan.Run.TheVariants.{Comment}
use Rattle.tcl_parser.specs.Runs.{ends_run, after_run}
use Rattle.tcl_parser.proofs.RunLemmas.{after_run_goes_on, after_run_stops, after_run_head, after_run_end}
use Rattle.tcl_parser.specs.Characters.{is_white, is_separator}
use Rattle.tcl_parser.specs.Texts.{begins_with, IsNotAscii, after_ascii}
use Rattle.tcl_parser.specs.Reading.{after_white, after_gap}

-- ## White space

pub on_head : (b : ℕ) (t : List ℕ) → is_white b ≡ true → after_white (b ∷ t) ≡ after_white t
unfolding after_white
on_head b [] h = rw h refl
on_head b (c ∷ u) h = rw h refl

pub white_goes_on : (s t : List ℕ) (b : ℕ) → s ≡ b ∷ t → is_white b ≡ true → after_white s ≡ after_white t
white_goes_on s t b e h = ap after_white e ∙ on_head b t h

pub on_line : (u : List ℕ) → after_white (92 ∷ 10 ∷ u) ≡ after_white u
unfolding after_white
on_line u = refl

pub white_line : (s t u : List ℕ) (b : ℕ) → s ≡ b ∷ t → b ≡ 92 → t ≡ 10 ∷ u → after_white s ≡ after_white u
white_line s t u b e h l = ap after_white (e ∙ ap (λ x. x ∷ t) h ∙ ap (λ x. 92 ∷ x) l) ∙ on_line u

pub stops_at : (b : ℕ) (t : List ℕ) → is_white b ≡ false → ((b == 92) && begins_with 10 t) ≡ false → after_white (b ∷ t) ≡ b ∷ t
unfolding after_white
stops_at b [] h n = rw h refl
stops_at b (c ∷ u) h n = rw (h, n) refl

pub white_stops : (s t : List ℕ) (b : ℕ) → s ≡ b ∷ t → is_white b ≡ false → ((b == 92) && begins_with 10 t) ≡ false → after_white s ≡ s
white_stops s t b e h n = ap after_white e ∙ stops_at b t h n ∙ sym e

pub not_ascii_white : (b : ℕ) → 128 ≤ b → is_white b ≡ false
not_ascii_white b h = grind (arith, nat_tests)

pub white_stops_end : (s : List ℕ) → IsNotAscii s → after_white s ≡ s
unfolding after_white
white_stops_end [] h = refl
white_stops_end (b ∷ t) h = stops_at b t (not_ascii_white b h) (grind (arith, nat_tests))

pub white_stops_plain : (s t : List ℕ) (b : ℕ) → s ≡ b ∷ t → is_white b ≡ false → b ≢ 92 → after_white s ≡ s
white_stops_plain s t b e h n = white_stops s t b e h (grind (arith, nat_tests))

pub white_stops_lone : (s t : List ℕ) (b : ℕ) → s ≡ b ∷ t → b ≡ 92 → begins_with 10 t ≡ false → after_white s ≡ s
white_stops_lone s t b e h n = white_stops s t b e (ap is_white h) (ap (λ x. (x == 92) && begins_with 10 t) h ∙ n)

-- ## Comments

pub comment_plain : (b : ℕ) (t : List ℕ) → (b == 10) ≡ false → (b == 92) ≡ false → after_gap true (b ∷ t) ≡ after_gap true t
unfolding after_gap
comment_plain b [] n m = refl
comment_plain b (c ∷ u) n m = rw (n, m) refl

pub comment_newline : (t : List ℕ) → after_gap true (10 ∷ t) ≡ after_gap false t
unfolding after_gap
comment_newline [] = refl
comment_newline (c ∷ u) = refl

pub comment_pair : (c : ℕ) (u : List ℕ) → after_gap true (92 ∷ c ∷ u) ≡ after_gap true u
unfolding after_gap
comment_pair c u = refl

pub comment_lone : after_gap true (92 ∷ []) ≡ after_gap true []
unfolding after_gap
comment_lone = refl

pub comment_backslash : (t : List ℕ) → after_gap true (92 ∷ t) ≡ after_gap true (after_ascii t)
comment_backslash [] = comment_lone
comment_backslash (c ∷ u) =
    elim (cases_lt c 128) [
      | inl small ↦ let test : nat_lt c 128 ≡ true = lt-ltb _ _ small in rw test (comment_pair c u)
      | inr large ↦
          let test : nat_lt c 128 ≡ false = le-ltb _ _ large in
          rw test (comment_pair c u ∙ sym (comment_plain c u (grind (arith, nat_tests)) (grind (arith, nat_tests))))
    ]

pub comment_run : (s : List ℕ) → after_gap true s ≡ after_gap true (after_run Comment s)
comment_run [] = refl
comment_run (b ∷ s) =
    elim (cases_Bool (ends_run Comment b)) [
      | inl h ↦ ap (after_gap true) (sym (after_run_stops Comment b s h))
      | inr h ↦ let parts = or_parts (b == 10) (b == 92) h in comment_plain b s parts.0 parts.1 ∙ comment_run s ∙ ap (after_gap true) (sym (after_run_goes_on Comment b s h))
    ]

-- the steps of a loop over a comment
pub comment_step : (s stop after : List ℕ) (b : ℕ) → stop ≡ after_run Comment s → stop ≡ b ∷ after → b ≢ 10 → after_gap true s ≡ after_gap true (after_ascii after)
comment_step s stop after b run e n =
    let ends = after_run_head Comment s after b (sym run ∙ e) in
    let is : b ≡ 92 = grind (arith, nat_tests) in
    comment_run s ∙ ap (after_gap true) (sym run ∙ e ∙ ap (λ x. x ∷ after) is) ∙ comment_backslash after

pub comment_ends : (s stop after : List ℕ) (b : ℕ) → stop ≡ after_run Comment s → stop ≡ b ∷ after → b ≡ 10 → after_gap true s ≡ after_gap false after
comment_ends s stop after b run e is = comment_run s ∙ ap (after_gap true) (sym run ∙ e ∙ ap (λ x. x ∷ after) is) ∙ comment_newline after

pub both_empty : after_gap true [] ≡ after_gap false []
unfolding after_gap
both_empty = refl

pub comment_text_ends : (s stop : List ℕ) → stop ≡ after_run Comment s → IsNotAscii stop → after_gap true s ≡ after_gap false stop
comment_text_ends s stop run h =
    let none = after_run_end Comment s stop run h in
    comment_run s ∙ ap (after_gap true) (sym run ∙ none) ∙ both_empty ∙ ap (after_gap false) (sym none)

pub after_ascii_len : (s : List ℕ) → length (after_ascii s) ≤ length s
after_ascii_len [] = omega arith
after_ascii_len (b ∷ s) = grind (arith, nat_tests)

-- ## Before a command

pub gap_head : (b : ℕ) (t : List ℕ) → (is_white b || is_separator b) ≡ true → after_gap false (b ∷ t) ≡ after_gap false t
unfolding after_gap
gap_head b [] h = rw h refl
gap_head b (c ∷ u) h = rw h refl

pub gap_goes_on : (s t : List ℕ) (b : ℕ) → s ≡ b ∷ t → (is_white b || is_separator b) ≡ true → after_gap false s ≡ after_gap false t
gap_goes_on s t b e h = ap (after_gap false) e ∙ gap_head b t h

pub gap_hash : (t : List ℕ) → after_gap false (35 ∷ t) ≡ after_gap true t
unfolding after_gap
gap_hash [] = refl
gap_hash (c ∷ u) = refl

pub gap_comment : (s t : List ℕ) (b : ℕ) → s ≡ b ∷ t → b ≡ 35 → after_gap false s ≡ after_gap true t
gap_comment s t b e h = ap (after_gap false) (e ∙ ap (λ x. x ∷ t) h) ∙ gap_hash t

pub gap_newline : (u : List ℕ) → after_gap false (92 ∷ 10 ∷ u) ≡ after_gap false u
unfolding after_gap
gap_newline u = refl

pub gap_line : (s t u : List ℕ) (b : ℕ) → s ≡ b ∷ t → b ≡ 92 → t ≡ 10 ∷ u → after_gap false s ≡ after_gap false u
gap_line s t u b e h l = ap (after_gap false) (e ∙ ap (λ x. x ∷ t) h ∙ ap (λ x. 92 ∷ x) l) ∙ gap_newline u

pub gap_stops_at : (b : ℕ) (t : List ℕ) → (is_white b || is_separator b) ≡ false → (b == 35) ≡ false → ((b == 92) && begins_with 10 t) ≡ false → after_gap false (b ∷ t) ≡ b ∷ t
unfolding after_gap
gap_stops_at b [] h n l = rw (h, n) refl
gap_stops_at b (c ∷ u) h n l = rw (h, n, l) refl

pub gap_stops_end : (s : List ℕ) → IsNotAscii s → after_gap false s ≡ s
unfolding after_gap
gap_stops_end [] h = refl
gap_stops_end (b ∷ t) h = gap_stops_at b t (grind (arith, nat_tests)) (grind (arith, nat_tests)) (grind (arith, nat_tests))

pub gap_stops_plain : (s t : List ℕ) (b : ℕ) → s ≡ b ∷ t → (is_white b || is_separator b) ≡ false → b ≢ 35 → b ≢ 92 → after_gap false s ≡ s
gap_stops_plain s t b e h n m =
    let hash : (b == 35) ≡ false = ne_eqb _ _ n in
    let lone : ((b == 92) && begins_with 10 t) ≡ false = rw (ne_eqb _ _ m) refl in
    ap (after_gap false) e ∙ gap_stops_at b t h hash lone ∙ sym e

pub gap_stops_lone : (s t : List ℕ) (b : ℕ) → s ≡ b ∷ t → b ≡ 92 → begins_with 10 t ≡ false → after_gap false s ≡ s
gap_stops_lone s t b e h n =
    let f : s ≡ 92 ∷ t = e ∙ ap (λ x. x ∷ t) h in
    ap (after_gap false) f ∙ gap_stops_at 92 t refl refl n ∙ sym f

pub after_ascii_head : (s t : List ℕ) (b : ℕ) → s ≡ b ∷ t → b < 128 → t ≡ after_ascii s
after_ascii_head s t b e h =
    let test : nat_lt b 128 ≡ true = lt-ltb _ _ h in
    let tail : t ≡ after_ascii (b ∷ t) = rw test refl in
    tail ∙ ap after_ascii (sym e)
