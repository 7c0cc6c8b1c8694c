-- Words in braces, piece by piece.
use Rattle.std.proofs.Common.{◌≡◌, ◌≢◌, ℕ, zero, suc, ◌+◌, ◌-◌, ◌∙◌, true, false, nat_lt, ◌==◌, List, [], ◌∷◌, ◌++◌, length, drop, Result, Ok, Err, refl, ap, sym, inl, inr, arith, add-one}
use Rattle.std.specs.List.{prefix_len}
use Rattle.std.proofs.lemmas.Bool.{cases_Bool, cases_lt, lt-ltb, le-ltb}
use Rattle.std.proofs.lemmas.Bool.Decides.{nat_tests}
use Rattle.tcl_text.specs.Backslash.{escape, escape_rest, is_blank}
use Rattle.tcl_parser.specs.declared.fault.Fault.{Fault}
use Rattle.tcl_parser.specs.declared.fault.Fault.TheVariants.{CloseBrace}
use Rattle.tcl_parser.specs.declared.scan.Run.TheVariants.{Braces}
use Rattle.tcl_parser.specs.Texts.{EndsWith, begins_with, after_ascii}
use Rattle.tcl_parser.specs.Runs.{ends_run, run_of, after_run}
use Rattle.tcl_parser.specs.Reading.{put, in_braces, before}
use Rattle.tcl_parser.proofs.RunLemmas.{after_run_goes_on, after_run_stops, run_of_goes_on, run_of_stops, after_passes, after_stops}
use Rattle.tcl_parser.proofs.EndLemmas.{EndsWith-more, EndsWith-itself, before-front}

pub put-put : (b : ℕ) (bs : List ℕ) (r : Result (List ℕ × List ℕ) Fault) → put (b ∷ []) (put bs r) ≡ put (b ∷ bs) r
put-put b bs (Ok x) = refl
put-put b bs (Err f) = refl

pub put-nil : (r : Result (List ℕ × List ℕ) Fault) → put [] r ≡ r
put-nil (Ok x) = refl
put-nil (Err f) = refl

-- ## A character that stands for itself

plain_tests : (b : ℕ) → ends_run Braces b ≡ false → ((b == 123) ≡ false) × ((b == 125) ≡ false) × ((b == 92) ≡ false)
plain_tests b h = (grind (arith, nat_tests), grind (arith, nat_tests), grind (arith, nat_tests))

pub plain_step : (depth b : ℕ) (s : List ℕ) → (b == 123) ≡ false → (b == 125) ≡ false → (b == 92) ≡ false → in_braces false depth (b ∷ s) ≡ put (b ∷ []) (in_braces false depth s)
unfolding in_braces
plain_step depth b [] o c l = rw c refl
plain_step depth b (d ∷ s) o c l = rw (o, c, l) refl

pub plain_in_braces : (depth b : ℕ) (s : List ℕ) → ends_run Braces b ≡ false → in_braces false depth (b ∷ s) ≡ put (b ∷ []) (in_braces false depth s)
plain_in_braces depth b s h = let t = plain_tests b h in plain_step depth b s t.0 t.1 t.2

pub run_in_braces : (depth : ℕ) (s : List ℕ) → in_braces false depth s ≡ put (run_of Braces s) (in_braces false depth (after_run Braces s))
run_in_braces depth [] = sym (put-nil (in_braces false depth []))
run_in_braces depth (b ∷ s) =
    elim (cases_Bool (ends_run Braces b)) [
      | inl h ↦ sym (put-nil _) ∙ (λ i. put (sym (run_of_stops Braces b s h) i) (in_braces false depth (sym (after_run_stops Braces b s h) i)))
      | inr h ↦
          plain_in_braces depth b s h ∙ ap (put (b ∷ [])) (run_in_braces depth s) ∙ put-put b (run_of Braces s) _
          ∙ (λ i. put (sym (run_of_goes_on Braces b s h) i) (in_braces false depth (sym (after_run_goes_on Braces b s h) i)))
    ]

-- where no run comes
pub no_run : (s run stop : List ℕ) → run ≡ run_of Braces s → stop ≡ after_run Braces s → (length run == 0) ≡ true → stop ≡ s
no_run [] run stop r e h = e
no_run (b ∷ s) run stop r e h =
    elim (cases_Bool (ends_run Braces b)) [
      | inl ends ↦ e ∙ after_run_stops Braces b s ends
      | inr on ↦ let l : length run ≡ suc (length (run_of Braces s)) = ap length (r ∙ run_of_goes_on Braces b s on) in absurd (grind (arith, nat_tests))
    ]

-- ## Braces

pub close_whole : (s : List ℕ) → in_braces false 0 (125 ∷ s) ≡ Ok ([], s)
unfolding in_braces
close_whole [] = refl
close_whole (d ∷ s) = refl

pub brace_closes : (depth b : ℕ) (s rest : List ℕ) → s ≡ b ∷ rest → b ≡ 125 → depth ≡ 0 → in_braces false depth s ≡ Ok ([], rest)
brace_closes depth b s rest e h d = ap (λ n. in_braces false n s) d ∙ ap (in_braces false 0) (e ∙ ap (λ x. x ∷ rest) h) ∙ close_whole rest

pub close_inner : (depth : ℕ) (s : List ℕ) → in_braces false (suc depth) (125 ∷ s) ≡ put (125 ∷ []) (in_braces false (suc depth - 1) s)
unfolding in_braces
close_inner depth [] = let some : (suc depth == 0) ≡ false = grind (arith, nat_tests) in rw some refl
close_inner depth (d ∷ s) = let some : (suc depth == 0) ≡ false = grind (arith, nat_tests) in rw some refl

pub brace_closes_inner : (depth b : ℕ) (s rest : List ℕ) → s ≡ b ∷ rest → b ≡ 125 → depth ≢ 0 → in_braces false depth s ≡ put (125 ∷ []) (in_braces false (depth - 1) rest)
brace_closes_inner zero b s rest e h d = absurd (d refl)
brace_closes_inner (suc depth) b s rest e h d = ap (in_braces false (suc depth)) (e ∙ ap (λ x. x ∷ rest) h) ∙ close_inner depth rest

pub open_inner : (depth : ℕ) (s : List ℕ) → in_braces false depth (123 ∷ s) ≡ put (123 ∷ []) (in_braces false (suc depth) s)
unfolding in_braces
open_inner depth [] = refl
open_inner depth (d ∷ s) = refl

pub brace_opens : (depth b : ℕ) (s rest : List ℕ) → s ≡ b ∷ rest → b ≡ 123 → in_braces false depth s ≡ put (123 ∷ []) (in_braces false (depth + 1) rest)
brace_opens depth b s rest e h =
    ap (in_braces false depth) (e ∙ ap (λ x. x ∷ rest) h) ∙ open_inner depth rest ∙ ap (λ n. put (123 ∷ []) (in_braces false n rest)) (sym (add-one depth))

pub braces_end : (depth : ℕ) → in_braces false depth [] ≡ Err CloseBrace
unfolding in_braces
braces_end depth = refl

pub brace_missing : (depth : ℕ) (s : List ℕ) → s ≡ [] → in_braces false depth s ≡ Err CloseBrace
brace_missing depth s e = ap (in_braces false depth) e ∙ braces_end depth

-- ## Backslashes

joins : (depth b : ℕ) (s : List ℕ) → is_blank b ≡ true → in_braces true depth (b ∷ s) ≡ in_braces true depth s
unfolding in_braces
joins depth b [] h =
    let c : (b == 125) ≡ false = grind (arith, nat_tests) in rw c refl
joins depth b (d ∷ s) h = rw h refl

joined_ends : (depth b : ℕ) (s : List ℕ) → is_blank b ≡ false → in_braces true depth (b ∷ s) ≡ in_braces false depth (b ∷ s)
unfolding in_braces
joined_ends depth b [] h = refl
joined_ends depth b (d ∷ s) h = rw h refl

none_left : (depth : ℕ) → in_braces true depth [] ≡ in_braces false depth []
unfolding in_braces
none_left depth = refl

pub blanks_in_braces : (depth : ℕ) (s : List ℕ) → in_braces true depth s ≡ in_braces false depth (drop (prefix_len is_blank s) s)
blanks_in_braces depth [] = none_left depth
blanks_in_braces depth (b ∷ s) =
    elim (cases_Bool (is_blank b)) [
      | inl h ↦ joins depth b s h ∙ blanks_in_braces depth s ∙ ap (in_braces false depth) (sym (after_passes is_blank b s h))
      | inr h ↦ joined_ends depth b s h ∙ ap (in_braces false depth) (sym (after_stops is_blank b s h))
    ]

pub line_step : (depth : ℕ) (s : List ℕ) → in_braces false depth (92 ∷ 10 ∷ s) ≡ put (32 ∷ []) (in_braces true depth s)
unfolding in_braces
line_step depth s = refl

line_rest : (s : List ℕ) → escape_rest (10 ∷ s) ≡ drop (prefix_len is_blank s) s
unfolding escape
line_rest s = refl

pub line_in_braces : (depth : ℕ) (s t u after : List ℕ) → s ≡ 92 ∷ t → t ≡ 10 ∷ u → after ≡ escape_rest t → in_braces false depth s ≡ put (32 ∷ []) (in_braces false depth after)
line_in_braces depth s t u after e f r =
    ap (in_braces false depth) (e ∙ ap (λ x. 92 ∷ x) f) ∙ line_step depth u
    ∙ ap (put (32 ∷ [])) (blanks_in_braces depth u ∙ ap (in_braces false depth) (sym (line_rest u) ∙ ap escape_rest (sym f) ∙ sym r))

pub pair_step : (depth c : ℕ) (u : List ℕ) → (c == 10) ≡ false → in_braces false depth (92 ∷ c ∷ u) ≡ put (92 ∷ c ∷ []) (in_braces false depth u)
unfolding in_braces
pair_step depth c u h = rw h refl

pub lone_step : (depth : ℕ) → in_braces false depth (92 ∷ []) ≡ put (92 ∷ []) (in_braces false depth [])
unfolding in_braces
lone_step depth = refl

backslash_step : (depth : ℕ) (t : List ℕ) → begins_with 10 t ≡ false → in_braces false depth (92 ∷ t) ≡ put (before (92 ∷ t) (after_ascii t)) (in_braces false depth (after_ascii t))
backslash_step depth [] h = lone_step depth
backslash_step depth (c ∷ u) h =
    elim (cases_lt c 128) [
      | inl small ↦
          let test : nat_lt c 128 ≡ true = lt-ltb _ _ small in
          rw test (pair_step depth c u h ∙ ap (λ x. put x (in_braces false depth u)) (sym (before-front (92 ∷ c ∷ []) u)))
      | inr large ↦
          let test : nat_lt c 128 ≡ false = le-ltb _ _ large in
          rw test (pair_step depth c u h ∙ sym (put-put 92 (c ∷ []) (in_braces false depth u)) ∙ ap (put (92 ∷ [])) (sym (plain_in_braces depth c u (grind (arith, nat_tests)))) ∙ ap (λ x. put x (in_braces false depth (c ∷ u))) (sym (before-front (92 ∷ []) (c ∷ u))))
    ]

pub backslash_in_braces : (depth : ℕ) (s t after front : List ℕ) → s ≡ 92 ∷ t → begins_with 10 t ≡ false → after ≡ after_ascii t → front ≡ before s after → in_braces false depth s ≡ put front (in_braces false depth after)
backslash_in_braces depth s t after front e h a f =
    ap (in_braces false depth) e ∙ backslash_step depth t h
    ∙ (λ i. put (before (sym e i) (sym a i)) (in_braces false depth (sym a i))) ∙ ap (λ x. put x (in_braces false depth after)) (sym f)

after_ascii_ends : (t : List ℕ) → EndsWith t (after_ascii t)
after_ascii_ends [] = EndsWith-itself []
after_ascii_ends (c ∷ u) =
    elim (cases_lt c 128) [
      | inl small ↦ let test : nat_lt c 128 ≡ true = lt-ltb _ _ small in rw test (EndsWith-more c u u (EndsWith-itself u))
      | inr large ↦ let test : nat_lt c 128 ≡ false = le-ltb _ _ large in rw test (EndsWith-itself (c ∷ u))
    ]

pub EndsWith-after_backslash : (s t after : List ℕ) → s ≡ 92 ∷ t → after ≡ after_ascii t → EndsWith s after
EndsWith-after_backslash s t after e a =
    let h = after_ascii_ends t in record { front = 92 ∷ h.front; whole = e ∙ ap (λ x. 92 ∷ x) h.whole ∙ ap (λ r. 92 ∷ h.front ++ r) (sym a) }

pub run_reads : (depth : ℕ) (s run stop : List ℕ) → run ≡ run_of Braces s → stop ≡ after_run Braces s → in_braces false depth s ≡ put run (in_braces false depth stop)
run_reads depth s run stop r e = run_in_braces depth s ∙ (λ i. put (sym r i) (in_braces false depth (sym e i)))
