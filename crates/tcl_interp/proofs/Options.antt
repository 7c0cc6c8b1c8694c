-- The options of `interp create`.
use Rattle.std.proofs.Common.{◌≡◌, ◌+◌, ◌<◌, ◌≤◌, ◌^◌, ℕ, zero, suc, Bool, true, false, List, ◌∷◌, length, refl, ◌∙◌, ap, arith}
use Rattle.std.specs.Prelude.{codes}
use Rattle.std.specs.Str.{bytes_eq}
use Rattle.std.proofs.lemmas.Fmt.{length-decimal-le}
use Rattle.tcl_core.specs.Paths.{Text}
use Rattle.tcl_language.specs.Instructions.{either, fails}
use Rattle.tcl_language.specs.Interpreters.{create_options, create_path, is_option, bad_option, least_free, numbered, free_name}
use Rattle.tcl_tree.specs.Own.{Own, CommandMap}
use Rattle.tcl_value.specs.Limits.{IsWithin}
use Rattle.tcl_calls.proofs.Looks.{is_word, is_no_word}

module _ (safe : Bool) (word : Text) (words : List Text) where
  is_path : (b : Bool) → is_option word ≡ b → b ≡ false → create_options safe (word ∷ words) ≡ create_path safe (word ∷ words)
  is_path b e f = ap (λ x. either x (either (bytes_eq word (codes "--")) (create_path safe words) (either (bytes_eq word (codes "-safe")) (create_options true words) (fails (bad_option word)))) (create_path safe (word ∷ words))) (e ∙ f)

  -- a path, and no option
  pub path_follows : is_option word ≡ false → create_options safe (word ∷ words) ≡ create_path safe (word ∷ words)
  path_follows e = is_path (is_option word) refl e

  option_is : is_option word ≡ true → create_options safe (word ∷ words) ≡ either (bytes_eq word (codes "--")) (create_path safe words) (either (bytes_eq word (codes "-safe")) (create_options true words) (fails (bad_option word)))
  option_is e = ap (λ x. either x (either (bytes_eq word (codes "--")) (create_path safe words) (either (bytes_eq word (codes "-safe")) (create_options true words) (fails (bad_option word)))) (create_path safe (word ∷ words))) e

  -- the end of the options
  pub options_end : is_option word ≡ true → word ≡ codes "--" → create_options safe (word ∷ words) ≡ create_path safe words
  options_end e f = option_is e ∙ ap (λ x. either x (create_path safe words) (either (bytes_eq word (codes "-safe")) (create_options true words) (fails (bad_option word)))) (is_word word (codes "--") f)

  other_option : is_option word ≡ true → (word ≡ codes "--" → Prim.⊥) → create_options safe (word ∷ words) ≡ either (bytes_eq word (codes "-safe")) (create_options true words) (fails (bad_option word))
  other_option e f = option_is e ∙ ap (λ x. either x (create_path safe words) (either (bytes_eq word (codes "-safe")) (create_options true words) (fails (bad_option word)))) (is_no_word word (codes "--") f)

  -- a safe child is asked for
  pub safe_follows : is_option word ≡ true → (word ≡ codes "--" → Prim.⊥) → word ≡ codes "-safe" → create_options safe (word ∷ words) ≡ create_options true words
  safe_follows e f g = other_option e f ∙ ap (λ x. either x (create_options true words) (fails (bad_option word))) (is_word word (codes "-safe") g)

  -- no option
  pub no_option : is_option word ≡ true → (word ≡ codes "--" → Prim.⊥) → (word ≡ codes "-safe" → Prim.⊥) → create_options safe (word ∷ words) ≡ fails (bad_option word)
  no_option e f g = other_option e f ∙ ap (λ x. either x (create_options true words) (fails (bad_option word))) (is_no_word word (codes "-safe") g)

-- ## How long the name of a child is that is given none

least_below : (turns n : ℕ) (commands : CommandMap) → least_free turns n commands ≤ n + turns
least_below zero n commands = omega arith
least_below (suc turns) n commands = by _ (least_below turns (suc n) commands)
  where
    by : (b : Bool) → least_free turns (suc n) commands ≤ suc n + turns → either b (least_free turns (suc n) commands) n ≤ n + suc turns
    by true h = omega arith
    by false h = omega arith

few_digits : (n : ℕ) → n < 2 ^ 64 → IsWithin (numbered n)
few_digits n h = omega (arith, length-decimal-le 20 n (omega arith) (omega arith) (omega arith))

pub free_name_within : (own : Own) → length own.commands < 2 ^ 63 → IsWithin (free_name own)
free_name_within own few = few_digits (least_free (length own.commands) 0 own.commands) (let most = least_below (length own.commands) 0 own.commands in omega arith)
