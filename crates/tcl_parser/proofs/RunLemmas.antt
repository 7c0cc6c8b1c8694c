-- The run that a text begins with.
use Rattle.std.proofs.Common.{◌≡◌, ℕ, ◌+◌, ◌<◌, ◌≤◌, Bool, true, false, not, List, [], ◌∷◌, length, get_or, take, drop, refl, subst, sym, ◌∙◌, inl, inr, arith, IsCharBoundary, ap, add_comm, add-one, length-drop}
use Rattle.std.specs.List.{prefix_len}
use Rattle.std.proofs.lemmas.List.Sums.{prefix_len-le-length}
use Rattle.std.proofs.lemmas.Bool.{cases_Bool, false≢true}
use Rattle.std.proofs.lemmas.Bool.Decides.{nat_tests}
use Rattle.std.proofs.lemmas.Str.{IsCharBoundary-before_ascii, IsCharBoundary-end}
use Rattle.tcl_text.proofs.Fronts.{prefix_len_grows, prefix_len_ends}
use Rattle.tcl_parser.specs.declared.scan.Run.{Run}
use Rattle.tcl_parser.specs.declared.scan.Run.TheVariants.{Comment, Braces, VariableName, Index, Quotes, Bare}
use Rattle.tcl_parser.specs.Runs.{ends_run, run_len, run_of, after_run}
use Rattle.tcl_parser.specs.Texts.{IsNotAscii, begins_with}

-- what ends a run is ASCII
pub ends_run_ascii : (run : Run) (b : ℕ) → ends_run run b ≡ true → b < 128
ends_run_ascii Comment b h = grind (arith, nat_tests)
ends_run_ascii Braces b h = grind (arith, nat_tests)
ends_run_ascii VariableName b h = grind (arith, nat_tests)
ends_run_ascii Index b h = grind (arith, nat_tests)
ends_run_ascii Quotes b h = grind (arith, nat_tests)
ends_run_ascii (Bare true) b h = grind (arith, nat_tests)
ends_run_ascii (Bare false) b h = grind (arith, nat_tests)

-- a text may be cut where a run ends
pub run_boundary : (run : Run) (s : List ℕ) (n : ℕ) → n < length s → ends_run run (get_or s n 0) ≡ true → IsCharBoundary s n
run_boundary run s n l e = IsCharBoundary-before_ascii s n l (ends_run_ascii run _ e)

-- a run goes on
pub run_grows : (run : Run) (s : List ℕ) (n : ℕ) → n ≤ run_len run s → n < length s → ends_run run (get_or s n 0) ≡ false → n + 1 ≤ run_len run s
run_grows run s n h l e = prefix_len_grows (λ b. not (ends_run run b)) s n h l (ap not e)

-- a run ends, at a byte that ends it or at the text's end
pub run_stops : (run : Run) (s : List ℕ) (n : ℕ) → n ≤ run_len run s → n < length s → ends_run run (get_or s n 0) ≡ true → run_len run s ≡ n
run_stops run s n h l e = prefix_len_ends (λ b. not (ends_run run b)) s n h (λ _. ap not e)

pub run_ends : (run : Run) (s : List ℕ) (n : ℕ) → n ≤ run_len run s → length s ≤ n → run_len run s ≡ n
run_ends run s n h l = prefix_len_ends (λ b. not (ends_run run b)) s n h (λ lt. absurd (omega arith))

pub run_end_boundary : (run : Run) (s : List ℕ) (n : ℕ) → n ≤ run_len run s → length s ≤ n → IsCharBoundary s n
run_end_boundary run s n h l =
    let e : length s ≡ n = omega (arith, prefix_len-le-length (λ b. not (ends_run run b)) s) in
    subst (IsCharBoundary s) e (IsCharBoundary-end s)

-- ## A run byte by byte

pub after_passes : (p : ℕ → Bool) (b : ℕ) (s : List ℕ) → p b ≡ true → drop (prefix_len p (b ∷ s)) (b ∷ s) ≡ drop (prefix_len p s) s
after_passes p b s h = rw (h, add_comm 1 (prefix_len p s), add-one) refl

pub after_stops : (p : ℕ → Bool) (b : ℕ) (s : List ℕ) → p b ≡ false → drop (prefix_len p (b ∷ s)) (b ∷ s) ≡ b ∷ s
after_stops p b s h = rw h refl

pub front_passes : (p : ℕ → Bool) (b : ℕ) (s : List ℕ) → p b ≡ true → take (prefix_len p (b ∷ s)) (b ∷ s) ≡ b ∷ take (prefix_len p s) s
front_passes p b s h = rw (h, add_comm 1 (prefix_len p s), add-one) refl

pub front_stops : (p : ℕ → Bool) (b : ℕ) (s : List ℕ) → p b ≡ false → take (prefix_len p (b ∷ s)) (b ∷ s) ≡ []
front_stops p b s h = rw h refl

pub after_run_goes_on : (run : Run) (b : ℕ) (s : List ℕ) → ends_run run b ≡ false → after_run run (b ∷ s) ≡ after_run run s
after_run_goes_on run b s h = after_passes (λ c. not (ends_run run c)) b s (ap not h)

pub after_run_stops : (run : Run) (b : ℕ) (s : List ℕ) → ends_run run b ≡ true → after_run run (b ∷ s) ≡ b ∷ s
after_run_stops run b s h = after_stops (λ c. not (ends_run run c)) b s (ap not h)

pub run_of_goes_on : (run : Run) (b : ℕ) (s : List ℕ) → ends_run run b ≡ false → run_of run (b ∷ s) ≡ b ∷ run_of run s
run_of_goes_on run b s h = front_passes (λ c. not (ends_run run c)) b s (ap not h)

pub run_of_stops : (run : Run) (b : ℕ) (s : List ℕ) → ends_run run b ≡ true → run_of run (b ∷ s) ≡ []
run_of_stops run b s h = front_stops (λ c. not (ends_run run c)) b s (ap not h)

-- what follows a run begins with a byte that ends it
pub after_run_head : (run : Run) (s t : List ℕ) (b : ℕ) → after_run run s ≡ b ∷ t → ends_run run b ≡ true
after_run_head run [] t b e = cc
after_run_head run (c ∷ s) t b e =
    elim (cases_Bool (ends_run run c)) [
      | inl h ↦ let same : c ∷ s ≡ b ∷ t = sym (after_run_stops run c s h) ∙ e in let first : c ≡ b = cc in subst (λ x. ends_run run x ≡ true) first h
      | inr h ↦ after_run_head run s t b (sym (after_run_goes_on run c s h) ∙ e)
    ]

pub after_run_end : (run : Run) (s t : List ℕ) → t ≡ after_run run s → IsNotAscii t → t ≡ []
after_run_end run s [] e h = refl
after_run_end run s (b ∷ t) e h = let small = ends_run_ascii run b (after_run_head run s t b (sym e)) in absurd (omega arith)

pub after_run_len : (run : Run) (s t : List ℕ) → t ≡ after_run run s → length t ≤ length s
after_run_len run s t e = omega (arith, ap length e, length-drop (run_len run s) s)

-- where no close brace comes, the text ends
pub no_close_brace : (s stop : List ℕ) → stop ≡ after_run VariableName s → begins_with 125 stop ≡ false → stop ≡ []
no_close_brace s [] e h = refl
no_close_brace s (b ∷ t) e h = absurd (false≢true (sym h ∙ after_run_head VariableName s t b (sym e)))
